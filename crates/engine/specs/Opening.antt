-- What the code of open says of the words of a program's term.
use Rattle.std.specs.Prelude.{◌≡◌, ℕ, List, length, Ok, Err, Result, MatchResult}
use Rattle.std.specs.Borrow.{Bor}
use Rattle.faults.specs.declared.Fault.{Fault}
use Rattle.calculus.specs.Terms.{Term}
use Rattle.encoding.specs.Encoding.{encode, Fits}
use Rattle.calls.specs.Results.{on_room, open_from}
use Rattle.engine.specs.declared.states.State.{State}
use Rattle.engine.specs.Answers.{opened}

-- the words are those of the term, or the fault is the same
abbrev pub WordsOf : Result Term Fault → Result (Bor (List ℕ)) Fault → Type 0
WordsOf v r = MatchResult r (λ ws. (t : Term) × (v ≡ Ok t) × Fits t × (ws.now ≡ encode t)) (λ f. v ≡ Err f)

-- what is answered and left once a term is to be written, if it has room
abbrev pub Opens : List ℕ → List ℕ → Result State Fault → List ℕ → Type 0
Opens image term r image' =
    (t : Term) → Fits t → term ≡ encode t →
    let o = open_from image (on_room (length image) (Ok t)) in (r ≡ opened o.answer) × (image' ≡ o.image)
