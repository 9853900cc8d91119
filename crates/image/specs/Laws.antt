-- What holds of images.
use Rattle.std.specs.Prelude.{◌≡◌, ℕ, ◌↔◌, List, length, Some}
use Rattle.calculus.specs.Configurations.{Configuration}
use Rattle.image.specs.Images.{Encodable, FitsLength, Image}
use Rattle.image.specs.Reading.{reading}

-- an image stands for one configuration alone
abbrev pub OneConfiguration : Type 0
OneConfiguration = (words : List ℕ) (c d : Configuration) → Image words c → Image words d → c ≡ d

-- a configuration that can be encoded and fits a length has an image of that length, and only one
abbrev pub OneImage : Type 0
OneImage =
    (len : ℕ) (c : Configuration) → Encodable c → FitsLength len c →
    (words : List ℕ) × (length words ≡ len) × Image words c ×
    ((other : List ℕ) → length other ≡ len → Image other c → other ≡ words)

-- reading words gives a configuration exactly if they are its image
abbrev pub ReadingExact : Type 0
ReadingExact = (words : List ℕ) (c : Configuration) → (reading words ≡ Some c) ↔ Image words c
