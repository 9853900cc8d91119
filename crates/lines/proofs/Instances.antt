-- Instances, and the bindings of their labels.
use Rattle.std.proofs.Common.{◌≡◌, ℕ, ◌+◌, ◌-◌, ◌%◌, ◌<◌, List, ◌∷◌, ◌++◌, length, get_or, replicate, Some, None, refl, ap, ◌∙◌, arith}
use Rattle.calculus.specs.Lists.{at}
use Rattle.calculus.specs.Terms.{Term, instance}
use Rattle.calculus.specs.Configurations.{Binding, empty, ready, row_of, Bindings, Configuration}
use Rattle.calculus.specs.Views.{view}
use Rattle.calculus.specs.Redexes.{resumes, copies}
use Rattle.layout.specs.Layout.{word_of}
use Rattle.encoding.specs.Encoding.{encode}
use Rattle.encoding.proofs.Parts.{length_encode}
use Rattle.image.specs.Images.{binding_word, binding_words, used}
use Rattle.image.specs.Places.{Bound}
use Rattle.image.specs.Reading.{row_at}
use Rattle.image.proofs.Standing.{entry_some}
use Rattle.writing.proofs.Building.{next_word}
use Rattle.lines.proofs.Sorts.{kind_of_term, plain_not, Viewed, seen_abstraction, seen_coroutine, seen_instance, seen_atom, seen_suspension, seen_other}
use Rattle.lines.proofs.Fields.{readiness, binding_row, binding_readiness}
use Rattle.lines.proofs.Written.{Past}

-- a term of kind 12 is an instance
pub by_instance : (G : Term → Type 0) (f : Term) → Viewed f → kind_of_term f ≡ 12 → ((l r : ℕ) → G (instance l r)) → G f
by_instance G _ (seen_abstraction x r b) e z = absurd (omega arith)
by_instance G _ (seen_coroutine x r b) e z = absurd (omega arith)
by_instance G _ (seen_instance l r) e z = z l r
by_instance G _ (seen_atom k p) e z = absurd (omega arith)
by_instance G _ (seen_suspension t v) e z = absurd (omega arith)
by_instance G _ (seen_other t p) e z = plain_not p 12 refl e

pub not_resumed : (f : Term) → Viewed f → (b c d : Term) (μ : Bindings) → (kind_of_term f ≡ 12 → ⊥) → resumes (view f) b c d μ ≡ None
not_resumed _ (seen_abstraction x r t) b c d μ e = refl
not_resumed _ (seen_coroutine x r t) b c d μ e = refl
not_resumed _ (seen_instance l r) b c d μ e = absurd (e refl)
not_resumed _ (seen_atom k p) b c d μ e = refl
not_resumed _ (seen_suspension t v) b c d μ e = refl
not_resumed _ (seen_other t p) b c d μ e = ap (λ w. resumes w b c d μ) p.shows

pub not_copied : (f : Term) → Viewed f → (μ : Bindings) → (kind_of_term f ≡ 12 → ⊥) → copies (view f) μ ≡ None
not_copied _ (seen_abstraction x r t) μ e = refl
not_copied _ (seen_coroutine x r t) μ e = refl
not_copied _ (seen_instance l r) μ e = absurd (e refl)
not_copied _ (seen_atom k p) μ e = refl
not_copied _ (seen_suspension t v) μ e = refl
not_copied _ (seen_other t p) μ e = ap (λ w. copies w μ) p.shows

-- the first word of a binding's words
binding_first : (β : Binding) (rest : List ℕ) → (xs : List ℕ) × (binding_words β ++ rest ≡ word_of (binding_word β) ∷ xs)
binding_first (empty r) rest = (rest, refl)
binding_first (ready r t) rest = (encode t ++ rest, refl)

module _ (image : List ℕ) (c : Configuration) (l : ℕ) (β : Binding) (q : ℕ) (b : Bound image c l β q) where
  binding_here : get_or image q 0 ≡ word_of (binding_word β)
  binding_here = let h = binding_first β (b.later ++ replicate (length image - used c) 0) in (next_word image q _ h.0 (b.here ∙ h.1)).0

  pub row_here : row_at (get_or image q 0) ≡ row_of β
  row_here = ap row_at binding_here ∙ binding_row β b.right.0

  pub readiness_here : get_or image q 0 % 2 ≡ readiness β
  readiness_here = ap (λ w. w % 2) binding_here ∙ binding_readiness β

-- a label's binding is empty or ready, as its word says
module _
    (image : List ℕ) (c : Configuration) (l q : ℕ) (h : l < length c.bindings)
    (m : (β : Binding) → at c.bindings l ≡ Some β → Bound image c l β q) {G : Type 0} where
  pub when_empty : get_or image q 0 % 2 ≡ 0 → ((i : ℕ) → at c.bindings l ≡ Some (empty i) → Bound image c l (empty i) q → G) → G
  when_empty z k = let e = entry_some c.bindings l h in go e.0 e.1 (m e.0 e.1)
    where
      go : (β : Binding) → at c.bindings l ≡ Some β → Bound image c l β q → G
      go (empty i) e b = k i e b
      go (ready i t) e b = absurd (omega (arith, readiness_here image c l (ready i t) q b))

  pub when_ready : (get_or image q 0 % 2 ≡ 0 → ⊥) →
      ((i : ℕ) (t : Term) → at c.bindings l ≡ Some (ready i t) → Bound image c l (ready i t) q → G) → G
  when_ready z k = let e = entry_some c.bindings l h in go e.0 e.1 (m e.0 e.1)
    where
      go : (β : Binding) → at c.bindings l ≡ Some β → Bound image c l β q → G
      go (empty i) e b = absurd (z (readiness_here image c l (empty i) q b))
      go (ready i t) e b = k i t e b

-- where a binding ends
pub end_empty : (image : List ℕ) (c : Configuration) (l : ℕ) (β : Binding) (q : ℕ) → Bound image c l β q → get_or image q 0 % 2 ≡ 0 →
    q + 1 ≡ q + length (binding_words β)
end_empty image c l (empty i) q b z = refl
end_empty image c l (ready i t) q b z = absurd (omega (arith, readiness_here image c l (ready i t) q b))

pub end_ready : (image : List ℕ) (c : Configuration) (l : ℕ) (β : Binding) (q z : ℕ) → Bound image c l β q →
    (get_or image q 0 % 2 ≡ 0 → ⊥) → Past image (q + 1) z → z ≡ q + length (binding_words β)
end_ready image c l (empty i) q z b h p = absurd (h (readiness_here image c l (empty i) q b))
end_ready image c l (ready i t) q z b h p =
    let w = p t _ (record { fits = b.right.0.1; words = (next_word image q _ _ b.here).1 }) in
    omega (arith, w.ends, length_encode t)
