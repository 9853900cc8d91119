-- What is proved of the calls, for every quantity set that keeps its law: each promise is one statement.
use Rattle.std.specs.Prelude.{ℕ, List, ◌≢◌}
use Rattle.quantities.specs.Meaning.{Meaning, Lawful}
use Rattle.calls.specs.States.{Status, going}
use Rattle.calls.specs.Runs.{RunsBySteps, TakesTheOffer, ShowsTheValue}
use Rattle.calls.specs.Soundness.{OpenSound, OpensExactly}

-- Every accepted open starts histories that are sound.
abbrev pub HistoriesSound : Type 0
HistoriesSound =
    (m : Meaning) → Lawful m → (program : List ℕ) (s n : ℕ) (image : List ℕ) (spare : ℕ) → OpenSound m program s n image spare

-- Open accepts exactly the admitted programs whose term has room, and refuses every other for its reason.
abbrev pub EveryOpenIsExact : Type 0
EveryOpenIsExact =
    (m : Meaning) → Lawful m → (program : List ℕ) (s n : ℕ) (image : List ℕ) (spare : ℕ) → OpensExactly m program s n image spare

-- A run is refused for its reason, or makes the steps of the step relation.
abbrev pub RunsAreSteps : Type 0
RunsAreSteps = (m : Meaning) → Lawful m → (n : ℕ) (image : List ℕ) (spare : ℕ) → RunsBySteps m n image spare

-- A take is refused for its reason, or makes the suspended term the image's term.
abbrev pub TakesTheOffers : Type 0
TakesTheOffers = (image : List ℕ) (spare : ℕ) → TakesTheOffer image spare

-- A show is refused for its reason, or hands out the value as the part of the image that holds it.
abbrev pub ShowsTheValues : Type 0
ShowsTheValues = (s : Status) → (s ≢ going) → (image : List ℕ) → ShowsTheValue s image
