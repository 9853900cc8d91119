-- What the number of a term's kind says of it.
use Rattle.std.proofs.Common.{◌≡◌, ◌≤◌, eqb, length, get_or, refl, ap, ◌∙◌, arith}
use Rattle.calculus.specs.Terms.{Term, unit, variable, abstraction, coroutine, application, yield, start, resume, snapshot, fix, atom, operation, instance, resumption, suspension, is_value, is_suspension}
use Rattle.calculus.specs.Parts.{parts}
use Rattle.calculus.specs.Places.{evaluated}
use Rattle.words.specs.Kinds.{number_of}
use Rattle.layout.specs.Layout.{kind_of, word_of}
use Rattle.encoding.specs.Encoding.{first_word, FirstFits}
use Rattle.encoding.proofs.FirstWord.{first_of}
use Rattle.image.specs.Reading.{kind_at, value_kind}
use Rattle.image.proofs.Rules.{value_kinds}
use Rattle.path.specs.Walking.{evaluated_counts, evaluated_of}

record Numbered (t : Term) : Type 0 where
  suspended : eqb (number_of (kind_of (first_word t))) 14 ≡ is_suspension t
  evaluates : get_or evaluated_counts (number_of (kind_of (first_word t))) 0 ≡ evaluated t

numbered : (t : Term) → Numbered t
numbered unit = record { suspended = refl; evaluates = refl }
numbered (variable n) = record { suspended = refl; evaluates = refl }
numbered (abstraction x r b) = record { suspended = refl; evaluates = refl }
numbered (coroutine x r b) = record { suspended = refl; evaluates = refl }
numbered (application f a) = record { suspended = refl; evaluates = refl }
numbered (yield t) = record { suspended = refl; evaluates = refl }
numbered (start i f a) = record { suspended = refl; evaluates = refl }
numbered (resume a b c d) = record { suspended = refl; evaluates = refl }
numbered (snapshot t) = record { suspended = refl; evaluates = refl }
numbered (fix t) = record { suspended = refl; evaluates = refl }
numbered (atom k p) = record { suspended = refl; evaluates = refl }
numbered (operation o a b) = record { suspended = refl; evaluates = refl }
numbered (instance l r) = record { suspended = refl; evaluates = refl }
numbered (resumption l a b c d) = record { suspended = refl; evaluates = refl }
numbered (suspension t v) = record { suspended = refl; evaluates = refl }

-- no more parts are evaluated than there are
pub enough_parts : (t : Term) → evaluated t ≤ length (parts t)
enough_parts unit = omega arith
enough_parts (variable n) = omega arith
enough_parts (abstraction x r b) = omega arith
enough_parts (coroutine x r b) = omega arith
enough_parts (application f a) = omega arith
enough_parts (yield t) = omega arith
enough_parts (start i f a) = omega arith
enough_parts (resume a b c d) = omega arith
enough_parts (snapshot t) = omega arith
enough_parts (fix t) = omega arith
enough_parts (atom k p) = omega arith
enough_parts (operation o a b) = omega arith
enough_parts (instance l r) = omega arith
enough_parts (resumption l a b c d) = omega arith
enough_parts (suspension t v) = omega arith

-- what is read from a term's first word
module _ (t : Term) (h : FirstFits t) where
  pub value_read : value_kind (kind_at (word_of (first_word t))) ≡ is_value t
  value_read = ap value_kind (first_of t h).kind ∙ value_kinds t

  pub suspension_read : eqb (kind_at (word_of (first_word t))) 14 ≡ is_suspension t
  suspension_read = ap (λ k. eqb k 14) (first_of t h).kind ∙ (numbered t).suspended

  pub evaluated_read : evaluated_of (word_of (first_word t)) ≡ evaluated t
  evaluated_read = ap (λ k. get_or evaluated_counts k 0) (first_of t h).kind ∙ (numbered t).evaluates
