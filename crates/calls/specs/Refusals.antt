-- Why calls are refused, said of images and programs. Each reason comes after those above it.
use Rattle.std.specs.Prelude.{◌≡◌, ℕ, ◌<◌, ◌≤◌, ◌⊎◌, List, [], length, Err, ◌≢◌}
use Rattle.faults.specs.declared.Fault.{Fault}
use Rattle.faults.specs.declared.numbers.FaultNumber.TheVariants.{WorkShort, ImageLength, SpareLength, ImageFull, NotImage, OtherState}
use Rattle.faults.specs.Faults.{fault_of}
use Rattle.quantities.specs.Meaning.{Meaning}
use Rattle.calculus.specs.Configurations.{Configuration, ◌∣◌}
use Rattle.programs.specs.Reading.{read_program}
use Rattle.admission.specs.Laws.{Admitted, Untypable}
use Rattle.image.specs.Images.{fewest_words, most_words, used, Image}
use Rattle.calls.specs.States.{Status, status_of}

-- an image has from 2 to 16,384 words
abbrev pub LengthAllowed : ℕ → Type 0
LengthAllowed n = (fewest_words ≤ n) × (n ≤ most_words)

-- Why a call in the state s, with an image and a spare of so many words, is refused before its first step. The place is 0.
pub data NotEntered (s : Status) (image : List ℕ) (spare : ℕ) : Fault → Type 0 where
  -- 2: the image's length is not allowed
  image_length : (LengthAllowed (length image) → ⊥) → NotEntered s image spare (fault_of ImageLength 0)
  -- 3: spare and image differ in length
  spare_length : LengthAllowed (length image) → (spare ≢ length image) → NotEntered s image spare (fault_of SpareLength 0)
  -- 16: the words are the image of no configuration
  not_image :
      LengthAllowed (length image) → spare ≡ length image → ((c : Configuration) → Image image c → ⊥) →
      NotEntered s image spare (fault_of NotImage 0)
  -- 17: the image's term is of another state
  other_state :
      (c : Configuration) → spare ≡ length image → Image image c → (status_of c.term ≢ s) →
      NotEntered s image spare (fault_of OtherState 0)

-- The work suffices, the image's length is allowed, and the spare is as long.
pub record MemoryFits (s n len spare : ℕ) : Type 0 where
  pub scopes : 256 ≤ s
  pub judgements : 256 ≤ n
  pub allowed : LengthAllowed len
  pub as_long : spare ≡ len

-- Why open is refused, with work lists of s and n entries.
pub data OpenRefused (m : Meaning) (program : List ℕ) (s n len spare : ℕ) : Fault → Type 0 where
  -- 1: a work list has under 256 entries
  work_short : (s < 256) ⊎ (n < 256) → OpenRefused m program s n len spare (fault_of WorkShort 0)
  -- 2 and 3: the lengths
  image_length : 256 ≤ s → 256 ≤ n → (LengthAllowed len → ⊥) → OpenRefused m program s n len spare (fault_of ImageLength 0)
  spare_length : 256 ≤ s → 256 ≤ n → LengthAllowed len → (spare ≢ len) → OpenRefused m program s n len spare (fault_of SpareLength 0)
  -- 4 to 9: the words are not a program; 10 to 13: its term has no type
  not_program :
      {f : Fault} → MemoryFits s n len spare → read_program m.bases program ≡ Err f → OpenRefused m program s n len spare f
  untypable : {f : Fault} → MemoryFits s n len spare → Untypable m program f → OpenRefused m program s n len spare f
  -- 15: the image of its term with no bindings needs more words than there are
  image_full :
      {T Y : ℕ} → MemoryFits s n len spare → (a : Admitted m program T Y) → len < used (a.term ∣ []) →
      OpenRefused m program s n len spare (fault_of ImageFull 0)
