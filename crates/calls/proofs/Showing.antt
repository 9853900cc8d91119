-- Show hands out the value as the part of the image that holds it.
use Rattle.std.proofs.Common.{◌≡◌, ℕ, suc, ◌+◌, ◌-◌, true, List, ◌++◌, length, drop, replicate, sym, refl, ap, ◌∙◌, subst, inl, inr, append_assoc, arith}
use Rattle.std.proofs.lemmas.List.{drop-drop, drop_at}
use Rattle.calculus.specs.Terms.{Term, unit, variable, abstraction, coroutine, application, yield, start, resume, snapshot, fix, atom, operation, instance, resumption, suspension, is_value}
use Rattle.calculus.specs.Parts.{size}
use Rattle.calculus.specs.Configurations.{Configuration, ◌∣◌}
use Rattle.calculus.specs.Views.{view}
use Rattle.calculus.proofs.Tests.{never}
use Rattle.encoding.specs.Encoding.{encode, Stands}
use Rattle.encoding.proofs.Parts.{length_encode}
use Rattle.encoding.proofs.Places.{stands_from}
use Rattle.image.specs.Images.{bindings_words, used, Image}
use Rattle.image.proofs.Whole.{laid}
use Rattle.calls.specs.States.{Status, going, offering, ended, status_of}
use Rattle.calls.specs.Results.{shown_of, show_from}
use Rattle.calls.specs.Runs.{ShowLaw, of_offer, of_end, ShowsTheValue}
use Rattle.calls.proofs.Entered.{own_status}
use Rattle.calls.proofs.Points.{suspends}
use Rattle.calls.proofs.Entering.{enters_or_not, enters_alike}

-- a value shows itself
pub shows_itself : (t : Term) → is_value t ≡ true → shown_of (view t) t ≡ record { place = 1; words = encode t }
shows_itself unit e = refl
shows_itself (variable n) e = never e
shows_itself (abstraction x r b) e = refl
shows_itself (coroutine x r b) e = refl
shows_itself (application f a) e = never e
shows_itself (yield t) e = never e
shows_itself (start i f a) e = never e
shows_itself (resume a b c d) e = never e
shows_itself (snapshot t) e = never e
shows_itself (fix t) e = never e
shows_itself (atom k p) e = refl
shows_itself (operation o a b) e = never e
shows_itself (instance l r) e = refl
shows_itself (resumption l a b c d) e = never e
shows_itself (suspension t v) e = never e

-- the term of an image stands at word 1
pub term_stands : (image : List ℕ) (c : Configuration) → Image image c → Stands c.term image 1
term_stands image c m = stands_from c.term image 1 _ m.encodable.term_fits (laid image c m).rest

-- the pending value of a suspension stands behind the suspension's word and its term
pub pending_stands : (image : List ℕ) (c : Configuration) → Image image c → (t v : Term) → c.term ≡ suspension t v →
    Stands v image (suc (suc (size t)))
pending_stands image c m t v e = of_suspension (subst (λ u. Image image (u ∣ c.bindings)) e m)
  where
    of_suspension : Image image (suspension t v ∣ c.bindings) → Stands v image (suc (suc (size t)))
    of_suspension i =
        let rest = bindings_words c.bindings ++ replicate (length image - used (suspension t v ∣ c.bindings)) 0 in
        let d : drop 2 image ≡ encode t ++ (encode v ++ rest) =
        sym (drop-drop 1 1 image) ∙ ap (drop 1) (laid image (suspension t v ∣ c.bindings) i).rest ∙ append_assoc (encode t) (encode v) rest in
        let n : 2 + size t ≡ suc (suc (size t)) = omega arith in
        stands_from v image (suc (suc (size t))) rest i.encodable.term_fits.2
        (ap (λ k. drop k image) (sym n) ∙ sym (drop-drop (size t) 2 image) ∙ ap (drop (size t)) d
        ∙ drop_at (encode t) (encode v ++ rest) (size t) (length_encode t))

-- what is shown, by the state
by_state : (s : Status) → (s ≡ going → ⊥) → (image : List ℕ) (c : Configuration) → Image image c → status_of c.term ≡ s →
    ShowLaw image c (shown_of (view c.term) c.term) s
by_state going g image c m e = absurd (g refl)
by_state offering g image c m e =
    let k = suspends c.term (own_status c.term offering (sym e)) in
    let p : shown_of (view c.term) c.term ≡ record { place = suc (suc (size k.0)); words = encode k.1 } =
    ap (λ u. shown_of (view u) u) k.2 in
    of_offer k.0 k.1 k.2 (ap (λ x. x.place) p)
    (record {
      words_are = ap (λ x. x.words) p;
      stands = subst (λ n. Stands k.1 image n) (sym (ap (λ x. x.place) p)) (pending_stands image c m k.0 k.1 k.2);
    })
by_state ended g image c m e =
    let v = own_status c.term ended (sym e) in
    let p = shows_itself c.term v in
    of_end v (ap (λ x. x.place) p)
    (record {
      words_are = ap (λ x. x.words) p;
      stands = subst (λ n. Stands c.term image n) (sym (ap (λ x. x.place) p)) (term_stands image c m);
    })

pub shows_the_value : (s : Status) → (s ≡ going → ⊥) → (image : List ℕ) → ShowsTheValue s image
shows_the_value s g image =
    elim (enters_or_not s image (length image)) [
      | inl x ↦ inl (x.0, x.1, ap show_from (enters_alike s image ∙ x.2))
      | inr x ↦
          let c = x.0 in
          inr (
            c,
            shown_of (view c.term) c.term,
            x.1.is_image,
            ap show_from (enters_alike s image ∙ x.3),
            by_state s g image c x.1.is_image x.1.in_state,
          )
    ]
