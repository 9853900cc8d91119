-- Parts of an image put together are the words of its successor: with the same bindings, with one more, and with another for a label.
use Rattle.std.proofs.Common.{◌≡◌, ℕ, ◌+◌, ◌-◌, List, [], ◌∷◌, ◌++◌, length, drop, replicate, Some, sym, ap, ◌∙◌, subst, append_assoc, append-nil, arith, length-append}
use Rattle.std.specs.List.{between}
use Rattle.calculus.specs.Lists.{at, put}
use Rattle.calculus.specs.Terms.{Term}
use Rattle.calculus.specs.Parts.{size}
use Rattle.calculus.specs.Configurations.{Binding, Bindings, Configuration, ◌∣◌}
use Rattle.encoding.specs.Encoding.{encode}
use Rattle.encoding.proofs.Parts.{length_encode}
use Rattle.image.specs.Images.{binding_words, bindings_words, words_of, used, Image}
use Rattle.image.specs.Places.{Bound}
use Rattle.writing.proofs.Building.{cut}
use Rattle.lines.specs.Lines.{Hole}

-- what stands behind the term in the hole
abbrev pub after : (image : List ℕ) (c : Configuration) (behind : List ℕ) → List ℕ
after image c behind = behind ++ (bindings_words c.bindings ++ replicate (length image - used c) 0)

-- the words of bindings with one more
pub bindings_more : (μ : Bindings) (β : Binding) → bindings_words (μ ++ β ∷ []) ≡ bindings_words μ ++ binding_words β
bindings_more [] β = append-nil (binding_words β)
bindings_more (α ∷ μ) β =
    ap (λ x. binding_words α ++ x) (bindings_more μ β) ∙ sym (append_assoc (binding_words α) (bindings_words μ) (binding_words β))

-- a label under another name
pub relabel : (image : List ℕ) (c : Configuration) (q y l : ℕ) → y ≡ l →
    ((c : Configuration) (β : Binding) → Image image c → at c.bindings y ≡ Some β → Bound image c y β q) → Image image c →
    (β : Binding) → at c.bindings l ≡ Some β → Bound image c l β q
relabel image c q y l e f m β g = subst (λ j. Bound image c j β q) e (f c β m (ap (at c.bindings) e ∙ g))

module _ (image : List ℕ) (c : Configuration) (p : ℕ) (u : Term) (K : Term → Term) (h : Hole image c p u K) where
  tail_is : (stop us : ℕ) → stop ≡ p + size u → us ≡ used c → drop stop image ≡ after image c h.behind →
      between stop us image ≡ h.behind ++ bindings_words c.bindings
  tail_is stop us e q d =
      (cut image (h.behind ++ bindings_words c.bindings) (replicate (length image - used c) 0) stop us
      (omega (arith, h.fill, length-append h.behind (bindings_words c.bindings)))
      (d ∙ sym (append_assoc h.behind (bindings_words c.bindings) _))).0

  -- only the term changes
  pub same_bindings : (stop us : ℕ) → stop ≡ p + size u → us ≡ used c → drop stop image ≡ after image c h.behind →
      (new : List ℕ) (u' : Term) → new ≡ encode u' →
      between 1 p image ++ (new ++ between stop us image) ≡ words_of (K u' ∣ c.bindings)
  same_bindings stop us e q d new u' n =
      (λ i. h.front i ++ (n i ++ tail_is stop us e q d i))
      ∙ sym (ap (λ l. l ++ bindings_words c.bindings) (h.words u') ∙ simp append_assoc)

  -- a binding more
  pub more_bindings : (stop us : ℕ) → stop ≡ p + size u → us ≡ used c → drop stop image ≡ after image c h.behind →
      (new nb : List ℕ) (u' : Term) (β : Binding) → new ≡ encode u' → nb ≡ binding_words β →
      between 1 p image ++ (new ++ (between stop us image ++ nb)) ≡ words_of (K u' ∣ (c.bindings ++ β ∷ []))
  more_bindings stop us e q d new nb u' β n b =
      let s = same_bindings stop us e q d new u' n in
      sym (ap (λ x. between 1 p image ++ x) (append_assoc new (between stop us image) nb))
      ∙ sym (append_assoc (between 1 p image) (new ++ between stop us image) nb)
      ∙ (λ i. s i ++ b i) ∙ append_assoc (encode (K u')) (bindings_words c.bindings) (binding_words β)
      ∙ ap (λ x. encode (K u') ++ x) (sym (bindings_more c.bindings β))

  -- another binding for a label
  pub other_binding : (l : ℕ) (β : Binding) (q : ℕ) → Bound image c l β q → (stop us q' : ℕ) → stop ≡ p + size u → us ≡ used c →
      q' ≡ q + length (binding_words β) → drop stop image ≡ after image c h.behind → (new nb : List ℕ) (u' : Term) (γ : Binding) →
      new ≡ encode u' → nb ≡ binding_words γ →
      between 1 p image ++ (new ++ (between stop q image ++ (nb ++ between q' us image))) ≡ words_of (K u' ∣ put c.bindings l γ)
  other_binding l β q b stop us q' e g k d new nb u' γ n m =
      let zs : List ℕ = replicate (length image - used c) 0 in
      let lt = length_encode c.term in
      let la = length-append (encode c.term) (bindings_words c.bindings) in
      let lw : length (bindings_words c.bindings) ≡ length b.ahead + (length (binding_words β) + length b.later) =
      ap length b.whole
      ∙ omega (arith, length-append b.ahead (binding_words β ++ b.later), length-append (binding_words β) b.later) in
      let x = (cut image (h.behind ++ b.ahead) (binding_words β ++ (b.later ++ zs)) stop q
      (omega (arith, e, b.place, h.fill, la, lt, length-append h.behind b.ahead))
      (d ∙ ap (λ y. h.behind ++ (y ++ zs)) b.whole ∙ simp append_assoc)).0 in
      let y = (cut image (binding_words β) (b.later ++ zs) q q' k b.here).1 in
      let z = (cut image b.later zs q' us (omega (arith, g, k, b.place, la, lt, lw)) y).0 in
      (λ i. h.front i ++ (n i ++ (x i ++ (m i ++ z i)))) ∙ sym ((λ i. h.words u' i ++ b.puts γ i) ∙ simp append_assoc)
