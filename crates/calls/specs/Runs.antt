-- What run, take and show do, said of the step relation and of configurations.
use Rattle.std.specs.Prelude.{◌≡◌, ℕ, suc, ◌<◌, ◌≤◌, true, false, ◌⊎◌, List, length, Ok, Err}
use Rattle.faults.specs.declared.Fault.{Fault}
use Rattle.faults.specs.declared.numbers.FaultNumber.TheVariants.{NoRule, Labels, ImageFull}
use Rattle.quantities.specs.Meaning.{Meaning}
use Rattle.calculus.specs.Terms.{Term, suspension, Value}
use Rattle.calculus.specs.Parts.{size}
use Rattle.calculus.specs.Configurations.{Configuration, ◌∣◌}
use Rattle.calculus.specs.Places.{place}
use Rattle.calculus.specs.Steps.{Step, Still, Origin}
use Rattle.encoding.specs.Encoding.{encode, Stands}
use Rattle.image.specs.Images.{most_bindings, used, Image}
use Rattle.image.specs.Stepping.{rests}
use Rattle.calls.specs.States.{Status, going, offering, ended, status_of}
use Rattle.calls.specs.Results.{RunOutcome, run_outcome, CallOutcome, take_outcome, Part, show_answer}
use Rattle.calls.specs.Refusals.{NotEntered}

-- d is a successor of c
abbrev pub Successor : Meaning → Configuration → Configuration → Type 0
Successor Q c d = Step Q c.term c.bindings d.term d.bindings

-- so many steps lead from c to d
pub data Steps (Q : Meaning) (c : Configuration) : ℕ → Configuration → Type 0 where
  no_step : Steps Q c 0 c
  step_more : {k : ℕ} {d e : Configuration} → Steps Q c k d → Successor Q d e → Steps Q c (suc k) e

-- Why a step from d is refused in an image of so many words, by the fault f at the step's place: 18, there is no successor; 14, the
-- successor has over 4,095 bindings, so d has 4,095 and the step is that of a start or a snapshot; 15, it has not, and needs more words than
-- there are.
pub record StepRefused (Q : Meaning) (len : ℕ) (d : Configuration) (f : Fault) : Type 0 where
  pub at_place : f.place ≡ place d.term
  pub why :
      ((f.number ≡ NoRule) × Still Q d.term d.bindings) ⊎
      (((f.number ≡ Labels) ×
      ((e : Configuration) × Successor Q d e × (most_bindings < length e.bindings) × (length d.bindings ≡ most_bindings) ×
      ((r : ℕ) × Origin d.term d.bindings r))) ⊎
      ((f.number ≡ ImageFull) ×
      ((e : Configuration) × Successor Q d e × (length e.bindings ≤ most_bindings) × (len < used e))))

-- What a run of at most n steps from c comes to: as many steps as it answers lead to a last configuration, whose image is left. It is
-- accepted with that configuration's state where n steps are made or the term is a value or a suspension; it is refused where neither is
-- so and the next step is refused.
pub record RunLaw (Q : Meaning) (n : ℕ) (c : Configuration) (len : ℕ) (o : RunOutcome) : Type 0 where
  pub last : Configuration
  pub steps : Steps Q c o.made last
  pub at_most : o.made ≤ n
  pub as_long : length o.image ≡ len
  pub is_image : Image o.image last
  pub accepted :
      (s : Status) → o.answer ≡ Ok s → (s ≡ status_of last.term) × ((o.made ≡ n) ⊎ (rests last.term ≡ true))
  pub refused : (f : Fault) → o.answer ≡ Err f → (o.made < n) × (rests last.term ≡ false) × StepRefused Q len last f

-- A run is refused before its first step, with no step made and the image as found; or the image is that of a configuration whose state
-- is going, the spare is as long, and the run makes its steps.
abbrev pub RunsBySteps : Meaning → ℕ → List ℕ → ℕ → Type 0
RunsBySteps Q n image spare =
    ((f : Fault) × NotEntered going image spare f × (run_outcome Q n image spare ≡ record { made = 0; answer = Err f; image = image })) ⊎
    ((c : Configuration) × Image image c × (status_of c.term ≡ going) × (spare ≡ length image) ×
    RunLaw Q n c (length image) (run_outcome Q n image spare))

-- What a take of the offer of t with the pending value v comes to: t becomes the image's term, and all bindings stay.
pub record TakeLaw (c : Configuration) (t v : Term) (image : List ℕ) (o : CallOutcome) : Type 0 where
  pub offer : c.term ≡ suspension t v
  pub answered : o.answer ≡ Ok (status_of t)
  pub as_long : length o.image ≡ length image
  pub is_image : Image o.image (t ∣ c.bindings)

-- A take is refused, the image as found; or the image is that of a suspension, the spare is as long, and its offer is taken.
abbrev pub TakesTheOffer : List ℕ → ℕ → Type 0
TakesTheOffer image spare =
    ((f : Fault) × NotEntered offering image spare f × (take_outcome image spare ≡ record { answer = Err f; image = image })) ⊎
    ((c : Configuration) × (t : Term) × (v : Term) × Image image c × (spare ≡ length image) × TakeLaw c t v image (take_outcome image spare))

-- the part has the words of the value v, and they stand in the image at its place
pub record IsPart (image : List ℕ) (v : Term) (p : Part) : Type 0 where
  pub words_are : p.words ≡ encode v
  pub stands : Stands v image p.place

-- What is shown of an image: the pending value of a suspension, behind the suspension's word and its term; or the value that the term is,
-- at word 1.
pub data ShowLaw (image : List ℕ) (c : Configuration) (p : Part) : Status → Type 0 where
  of_offer : (t v : Term) → c.term ≡ suspension t v → p.place ≡ suc (suc (size t)) → IsPart image v p → ShowLaw image c p offering
  of_end : Value c.term → p.place ≡ 1 → IsPart image c.term p → ShowLaw image c p ended

-- A show is refused, or hands out the value as the part of the image that holds it.
abbrev pub ShowsTheValue : Status → List ℕ → Type 0
ShowsTheValue s image =
    ((f : Fault) × NotEntered s image (length image) f × (show_answer s image ≡ Err f)) ⊎
    ((c : Configuration) × (p : Part) × Image image c × (show_answer s image ≡ Ok p) × ShowLaw image c p s)
