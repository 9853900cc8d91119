-- Soundness: what holds at every point of every history of calls.
use Rattle.std.specs.Prelude.{◌≡◌, ℕ, ◌<◌, ◌≤◌, ◌⊎◌, ◌↔◌, List, [], length, Ok, Err, ◌≢◌}
use Rattle.faults.specs.declared.Fault.{Fault}
use Rattle.faults.specs.declared.numbers.FaultNumber.{FaultNumber}
use Rattle.faults.specs.declared.numbers.FaultNumber.TheVariants.{SpareLength, Labels, ImageFull}
use Rattle.faults.specs.Faults.{fault_of}
use Rattle.quantities.specs.Meaning.{Meaning}
use Rattle.calculus.specs.Rows.{Setting}
use Rattle.calculus.specs.Configurations.{Configuration, ◌∣◌}
use Rattle.calculus.specs.Places.{place}
use Rattle.calculus.specs.Steps.{Step}
use Rattle.calculus.specs.WellTyped.{WellTyped}
use Rattle.calculus.specs.Outcomes as Outcomes
use Rattle.calculus.specs.Resumptions.{ResumptionsOnPath}
use Rattle.calculus.specs.Histories.{Lasts}
use Rattle.rules.specs.Rules.{accepted}
use Rattle.admission.specs.Admission.{admit_answer}
use Rattle.admission.specs.Laws.{setting, Admitted}
use Rattle.image.specs.Images.{most_bindings, used, image_of, Image}
use Rattle.calls.specs.States.{Status, going, offering, status_of}
use Rattle.calls.specs.Results.{RunOutcome, run_outcome, take_outcome, show_answer, open_outcome}
use Rattle.calls.specs.Refusals.{MemoryFits, OpenRefused}
use Rattle.calls.specs.Histories.{Call, Point, point, Follows}

-- a run that made no step, was refused by a number at a place, and left the image as it was
abbrev pub refused_at : FaultNumber → ℕ → List ℕ → RunOutcome
refused_at f p image = record { made = 0; answer = Err (fault_of f p); image = image }

-- A single step, a run with n = 1 and a spare of the image's length, where p is the step's place and d is the successor: it writes the
-- successor and answers its state; or it is refused, by 14 exactly when the successor has over 4,095 bindings, else by 15 exactly when it
-- needs more words than the image has. These three cases are all there are.
pub record SingleStep (Q : Meaning) (image : List ℕ) (p : ℕ) (d : Configuration) : Type 0 where
  pub labels_used_up :
      most_bindings < length d.bindings → run_outcome Q 1 image (length image) ≡ refused_at Labels p image
  pub image_full :
      length d.bindings ≤ most_bindings → length image < used d → run_outcome Q 1 image (length image) ≡ refused_at ImageFull p image
  pub made :
      length d.bindings ≤ most_bindings → used d ≤ length image →
      run_outcome Q 1 image (length image) ≡ record { made = 1; answer = Ok (status_of d.term); image = image_of (length image) d }

-- Which refusals a call can meet at a point: a run 3, 14 and 15, a take 3, a show none. So 18 is never answered, and neither are 2, 16
-- and 17.
pub record RefusedOnlyBy (Q : Meaning) (image : List ℕ) (s : Status) : Type 0 where
  pub runs :
      s ≡ going → (n k : ℕ) (f : Fault) → (run_outcome Q n image k).answer ≡ Err f →
      (f.number ≡ SpareLength) ⊎ ((f.number ≡ Labels) ⊎ (f.number ≡ ImageFull))
  pub takes : s ≡ offering → (k : ℕ) (f : Fault) → (take_outcome image k).answer ≡ Err f → f.number ≡ SpareLength
  pub shows : (s ≢ going) → (f : Fault) → show_answer s image ≢ Err f

-- What holds at a point of a history, for a program of type T and yield type Y.
pub record SoundAt (S : Setting) (T Y : ℕ) (p : Point) : Type 0 where
  -- the image is that of a configuration, and the state is that of its term
  pub configuration : Configuration
  pub is_image : Image p.image configuration
  pub status_is : p.status ≡ status_of configuration.term
  -- the term has the admitted type and yield type, each binding has the row of an instance type, and each ready body has its types
  pub well_typed : WellTyped S configuration.term configuration.bindings T Y
  -- exactly one of these: the term is a value; it is a suspension whose pending value has the yield type, which is not ⊥; the configuration
  -- has exactly one successor
  pub outcome : Outcomes.Outcome S configuration.term configuration.bindings Y
  -- a single step then writes the successor or is refused
  pub single_step :
      (d : Configuration) → Step S.set configuration.term configuration.bindings d.term d.bindings →
      SingleStep S.set p.image (place configuration.term) d
  pub refused_only_by : RefusedOnlyBy S.set p.image p.status
  -- every resumption lies on the path to the next step, no two name one label, the binding of each is empty
  pub resumptions : ResumptionsOnPath configuration.term configuration.bindings

-- Between a point and a later one: each binding still stands under its label with its row, and each new one was added by a start, with
-- the start's row, or by a snapshot, with the row of what it copied.
abbrev pub BindingsLast : Meaning → Point → Point → Type 0
BindingsLast Q p q =
    (c d : Configuration) → Image p.image c → Image q.image d → Lasts Q c.term c.bindings d.term d.bindings

-- After every list of calls the point is sound, and bindings last from it on through every further list of calls.
abbrev pub SoundFrom : Setting → ℕ → ℕ → Point → Type 0
SoundFrom S T Y start =
    (calls : List Call) (p : Point) → Follows S.set start calls p →
    SoundAt S T Y p × ((more : List Call) (q : Point) → Follows S.set p more q → BindingsLast S.set p q)

-- What holds after an accepted open: the program is admitted with a type and a yield type, the image is that of its term with no bindings,
-- and every history from there on is sound.
pub record SoundAfterOpen (m : Meaning) (program : List ℕ) (s n : ℕ) (start : Point) : Type 0 where
  pub type : ℕ
  pub yields : ℕ
  pub answered : admit_answer m program s n ≡ accepted type yields
  pub admitted : Admitted m program type yields
  pub opened : Image start.image (admitted.term ∣ [])
  pub sound : SoundFrom (setting m admitted.table) type yields start

-- Every accepted open is sound.
abbrev pub OpenSound : Meaning → List ℕ → ℕ → ℕ → List ℕ → ℕ → Type 0
OpenSound m program s n image spare =
    (status : Status) → (open_outcome m program s n image spare).answer ≡ Ok status →
    SoundAfterOpen m program s n (point status (open_outcome m program s n image spare).image)

-- the program is admitted, its term has room in the image, and the state is the term's
abbrev pub AdmittedWithRoom : Meaning → List ℕ → ℕ → Status → Type 0
AdmittedWithRoom m program len status =
    (T : ℕ) × (Y : ℕ) × (a : Admitted m program T Y) × (used (a.term ∣ []) ≤ len) × (status ≡ status_of a.term)

-- Open accepts exactly the admitted programs whose term has room. Every other open is refused for a reason, and leaves the image as found.
pub record OpensExactly (m : Meaning) (program : List ℕ) (s n : ℕ) (image : List ℕ) (spare : ℕ) : Type 0 where
  pub accepts :
      (status : Status) →
      ((open_outcome m program s n image spare).answer ≡ Ok status) ↔
      (MemoryFits s n (length image) spare × AdmittedWithRoom m program (length image) status)
  pub refuses :
      (f : Fault) → (open_outcome m program s n image spare).answer ≡ Err f →
      OpenRefused m program s n (length image) spare f × ((open_outcome m program s n image spare).image ≡ image)
