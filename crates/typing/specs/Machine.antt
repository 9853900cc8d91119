-- The check over words, from left to right, with the unfinished judgements and the variables in scope as lists, the newest first.
use Rattle.std.specs.Prelude.{◌≡◌, ℕ, ◌+◌, ◌/◌, ◌%◌, ◌^◌, Bool, true, false, cond, not, ◌||◌, List, [], ◌∷◌, length, Some, None, Ok, Err, Option, Result, ◌==◌, nat_lt}
use Rattle.faults.specs.declared.Fault.{Fault}
use Rattle.faults.specs.declared.numbers.FaultNumber.TheVariants.{WorkShort}
use Rattle.quantities.specs.Meaning.{Meaning}
use Rattle.rules.specs.declared.model.Judged.{Judged}
use Rattle.rules.specs.declared.model.Variable.{Variable}
use Rattle.rules.specs.Rules.{Verdict, refused, rule}
use Rattle.encoding.specs.Scanning.{arity_of}
use Rattle.rules.specs.Table.{shape_at, argument_of}
use Rattle.typing.specs.declared.model.Scoped.{Scoped}
use Rattle.typing.specs.declared.model.Frame.{Frame}

abbrev pub scoped : ℕ → ℕ → Scoped
scoped x T = record { variable = record { name = x; row = T } }

-- the blank entry
abbrev pub nobody : Scoped
nobody = scoped 0 0

abbrev pub variables : List Scoped → List Variable
variables [] = []
variables (b ∷ Γ) = b.variable ∷ variables Γ

abbrev pub none : Judged
none = record { row = 0; yields = 0 }

-- a word at place i whose parts are all to come
abbrev pub fresh : ℕ → ℕ → Frame
fresh w i = record { word = w; place = i; done = 0; first = none; second = none; third = none; fourth = none }

-- one part more is judged
abbrev pub added : Frame → Judged → Frame
added f j = record {
  word = f.word;
  place = f.place;
  done = cond (nat_lt f.done 4) (f.done + 1) f.done;
  first = cond (f.done == 0) j f.first;
  second = cond (f.done == 1) j f.second;
  third = cond (f.done == 2) j f.third;
  fourth = cond (f.done == 3) j f.fourth;
}

-- whether all parts are judged
abbrev pub is_full : Frame → Bool
is_full f = f.done == arity_of f.word

-- the rule of a frame
abbrev pub rule_of : Meaning → List ℕ → List Scoped → Frame → Verdict
rule_of m rows Γ f = rule m rows (variables Γ) f.word f.place f.first f.second f.third f.fourth

-- whether a word binds a name: an abstraction or a coroutine
abbrev pub is_binder : ℕ → Bool
is_binder w = w / 2 ^ 27 == 2 || w / 2 ^ 27 == 3

-- the scope in a word's parts
abbrev pub entered : List ℕ → ℕ → List Scoped → List Scoped
entered rows w Γ = cond (is_binder w) (scoped (w % 2 ^ 12) (argument_of (shape_at rows (w / 2 ^ 12 % 2 ^ 9))) ∷ Γ) Γ

abbrev pub older : List Scoped → List Scoped
older [] = []
older (b ∷ Γ) = Γ

-- the scope after a word's parts
abbrev pub left : ℕ → List Scoped → List Scoped
left w Γ = cond (is_binder w) (older Γ) Γ

-- whether the scope in a word's parts has room for s variables
abbrev pub has_room : ℕ → ℕ → List Scoped → Bool
has_room s w Γ = not (is_binder w) || nat_lt (length Γ) s

-- whether a frame has another below it
abbrev pub several : List Frame → Bool
several [] = false
several (e ∷ []) = false
several (e ∷ f ∷ fs) = true

-- the newest frame goes, and its judgement is added to the one below it
abbrev pub delivered : Judged → List Frame → List Frame
delivered j [] = []
delivered j (e ∷ []) = []
delivered j (e ∷ f ∷ fs) = added f j ∷ fs

-- what comes of the newest frame: the answer, or other lists
pub data Turn : Type 0 where
  stop : Verdict → Turn
  go : List Frame → List Scoped → Turn

-- with a judgement, go on
abbrev pub pass : Verdict → (Judged → Turn) → Turn
pass (Ok j) k = k j
pass (Err x) k = stop (Err x)

-- the newest frame e, over the others: judged if its parts are, and its judgement added to the one below it, and so on
abbrev pub settle_on : Meaning → List ℕ → List Scoped → Frame → List Frame → Turn
settle_on m rows Γ e [] = cond (is_full e) (stop (rule_of m rows Γ e)) (go (e ∷ []) Γ)
settle_on m rows Γ e (f ∷ fs) =
    cond (is_full e) (pass (rule_of m rows Γ e) λ j. settle_on m rows (left e.word Γ) (added f j) fs) (go (e ∷ f ∷ fs) Γ)

abbrev pub settle : Meaning → List ℕ → List Scoped → List Frame → Turn
settle m rows Γ [] = go [] Γ
settle m rows Γ (e ∷ fs) = settle_on m rows Γ e fs

-- a turn stops with this answer, or goes on with these lists
abbrev pub Settles : Result (Option Judged) Fault → Turn → List Frame → List Scoped → Type 0
Settles (Ok None) t fs Γ = t ≡ go fs Γ
Settles (Ok (Some j)) t fs Γ = t ≡ stop (Ok j)
Settles (Err f) t fs Γ = t ≡ stop (Err f)

-- a list has no room
abbrev pub short : Verdict
short = refused WorkShort 0

abbrev pub resolve : Turn → (List Frame → List Scoped → Verdict) → Verdict
resolve (stop v) k = v
resolve (go fs Γ) k = k fs Γ

-- over the words from place i on, with room for s variables and n frames
abbrev pub run : Meaning → List ℕ → ℕ → ℕ → ℕ → List Frame → List Scoped → List ℕ → Verdict
run m rows s n i fs Γ [] = short
run m rows s n i fs Γ (w ∷ ws) =
    cond (has_room s w Γ)
    (cond (nat_lt (length fs) n)
    (resolve (settle m rows (entered rows w Γ) (fresh w i ∷ fs)) λ gs Δ. run m rows s n (i + 1) gs Δ ws)
    short)
    short
