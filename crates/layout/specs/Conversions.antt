-- What the conversions between words and numbers answer, exactly.
use Rattle.std.specs.Prelude.{◌≡◌, ℕ, ◌↔◌, Result, Ok, ok_or}
use Rattle.layout.specs.declared.Word.{Word}
use Rattle.layout.specs.declared.WideField.{WideField}
use Rattle.layout.specs.declared.NoWord.{NoWord}
use Rattle.layout.specs.Layout.{built, read_word, Reads}

-- from a word to its number
pub record Builds (x : Word) (result : Result ℕ WideField) : Type 0 where
  pub value : result ≡ ok_or (built x) (record { word = x })
  pub exact : (w : ℕ) → Reads w x ↔ (result ≡ Ok w)

-- from a number to the word that it stands for
pub record Decodes (w : ℕ) (result : Result Word NoWord) : Type 0 where
  pub value : result ≡ ok_or (read_word w) (record { number = w })
  pub exact : (x : Word) → Reads w x ↔ (result ≡ Ok x)
