-- The words of a table of types: one for each row.
use Rattle.std.specs.Prelude.{◌≡◌, ℕ, true, List, [], ◌∷◌}
use Rattle.calculus.specs.Rows.{Row, unit_type, bottom_type, base_type, function_type, coroutine_type, instance_type}
use Rattle.layout.specs.declared.Word.{Word}
use Rattle.layout.specs.declared.Word.TheVariants as W
use Rattle.layout.specs.Layout.{fields_of, fit, word_of}

-- the word of a row
abbrev pub row_word : Row → Word
row_word unit_type = W.UnitType
row_word bottom_type = W.BottomType
row_word (base_type k) = W.BaseType k
row_word (function_type a b) = W.FunctionType a b
row_word (coroutine_type a y b) = W.CoroutineType a y b
row_word (instance_type y b) = W.InstanceType y b

-- the words of the rows, in order
abbrev pub table_words : List Row → List ℕ
table_words [] = []
table_words (r ∷ rs) = word_of (row_word r) ∷ table_words rs

-- each field of a row fits its bits
abbrev pub RowFits : Row → Type 0
RowFits r = fit (fields_of (row_word r)) ≡ true
