-- A run of steps, step by step.
use Rattle.std.proofs.Common.{◌≡◌, ℕ, suc, ◌+◌, ◌-◌, ◌<◌, Bool, true, false, cond, ◌||◌, MatchResult, is_ok, eqb, List, length, get_or, Some, None, Ok, Err, Option, Result, sym, refl, ap, ◌∙◌, subst, add-zero, arith}
use Rattle.faults.specs.declared.Fault.{Fault}
use Rattle.quantities.specs.Meaning.{Meaning, Lawful as Law}
use Rattle.calculus.specs.Configurations.{Configuration}
use Rattle.encoding.proofs.Parts.{fits_parts}
use Rattle.encoding.proofs.Places.{first_stands}
use Rattle.image.specs.Images.{image_of, Image}
use Rattle.image.specs.Reading.{kind_at, value_kind}
use Rattle.image.specs.Stepping.{step_in, rests, Stop, stop_at, one_more, steps_in}
use Rattle.path.proofs.KindFacts.{value_read, suspension_read}
use Rattle.steps.specs.Stepped.{StepWritten, run_answer, RunWritten}
use Rattle.image.proofs.Keeping.{step_keeps_images}
use Rattle.steps.proofs.Stepping.{term_stands}

-- the same stop after so many steps more
abbrev pub advanced : ℕ → Stop → Stop
advanced k s = record { made = k + s.made; last = s.last; fault = s.fault }

one_before : (k : ℕ) (s : Stop) → advanced k (one_more s) ≡ advanced (k + 1) s
one_before k s = let e : k + suc s.made ≡ k + 1 + s.made = omega arith in λ i. record { made = e i; last = s.last; fault = s.fault }

-- the steps so far
pub record SoFar (Q : Meaning) (first : List ℕ) (n : ℕ) (c : Configuration) (k : ℕ) (image : List ℕ) : Type 0 where
  pub last : Configuration
  pub is : Image image last
  pub goes : steps_in Q (length first) n c ≡ advanced k (steps_in Q (length first) (n - k) last)

-- whether the term of an image is a value or a suspension, by its first word
pub rests_here : (image : List ℕ) (c : Configuration) → Image image c →
    (value_kind (kind_at (get_or image 1 0)) || eqb (kind_at (get_or image 1 0)) 14) ≡ rests c.term
rests_here image c m =
    let s = term_stands image c m in
    let f = (fits_parts c.term s.0).0 in
    let w = first_stands c.term image 1 s in
    (λ j. (ap (λ x. value_kind (kind_at x)) w ∙ value_read c.term f) j
    || (ap (λ x. eqb (kind_at x) 14) w ∙ suspension_read c.term f) j)

-- what the variant of a result says of it
pub was_ok : {E : Type 0} (r : Result (Unit {0}) E) → true ≡ is_ok r → r ≡ Ok tt
was_ok (Ok u) e = refl
was_ok (Err x) e = cc

pub was_err : {A E : Type 0} (r : Result A E) (P : A → Type 0) (Q : E → Type 0) → MatchResult r P Q → false ≡ is_ok r → (x : E) × (r ≡ Err x) × Q x
was_err (Ok a) P Q m e = absurd (let z : ◌≡◌ {A = Bool} true false = cc in cc)
was_err (Err x) P Q m e = (x, refl, m)

-- no step yet
pub none_yet : (Q : Meaning) (first : List ℕ) (n : ℕ) (c : Configuration) → Image first c → SoFar Q first n c 0 first
none_yet Q first n c m =
    let z : n ≡ n - 0 = omega arith in
    let s : Stop = steps_in Q (length first) n c in
    let e : s.made ≡ 0 + s.made = omega arith in
    record {
      last = c;
      is = m;
      goes = (λ i. record { made = e i; last = s.last; fault = s.fault }) ∙ ap (λ j. advanced 0 (steps_in Q (length first) j c)) z;
    }

module _
    (Q : Meaning) (first : List ℕ) (n : ℕ) (c : Configuration) (k : ℕ) (image : List ℕ) (long : length image ≡ length first)
    (f : SoFar Q first n c k image) where
  answered : (o : Option Fault) → steps_in Q (length first) n c ≡ advanced k (stop_at f.last o) →
      RunWritten (run_answer k o) first image (steps_in Q (length first) n c)
  answered o e = record {
    answer = sym (ap (λ s. run_answer s.made s.fault) e ∙ ap (λ j. run_answer j o) (add-zero k));
    is = f.is.is ∙ ap (λ l. image_of l f.last) long ∙ sym (ap (λ s. image_of (length first) s.last) e);
  }

  -- all steps are made
  pub all_made : n ≡ k → RunWritten (Ok n) first image (steps_in Q (length first) n c)
  all_made e =
      let z : n - k ≡ 0 = omega arith in
      subst (λ j. RunWritten (Ok j) first image (steps_in Q (length first) n c)) (sym e)
      (answered None (f.goes ∙ ap (λ j. advanced k (steps_in Q (length first) j f.last)) z))

  module _ (h : k < n) where
    next_goes : (b : Bool) (r : Result Configuration Fault) → rests f.last.term ≡ b → step_in Q (length first) f.last ≡ r →
        steps_in Q (length first) n c
        ≡ advanced k (cond b (stop_at f.last None)
        (elim r [ Err x ↦ stop_at f.last (Some x) | Ok d ↦ one_more (steps_in Q (length first) (n - (k + 1)) d) ]))
    next_goes b r eb er =
        let e : n - k ≡ suc (n - (k + 1)) = omega arith in
        f.goes ∙ ap (λ j. advanced k (steps_in Q (length first) j f.last)) e
        ∙ (λ i. advanced k (cond (eb i) (stop_at f.last None)
        (elim (er i) [ Err x ↦ stop_at f.last (Some x) | Ok d ↦ one_more (steps_in Q (length first) (n - (k + 1)) d) ])))

    -- the term is a value or a suspension
    pub at_rest : rests f.last.term ≡ true → RunWritten (Ok k) first image (steps_in Q (length first) n c)
    at_rest e = answered None (next_goes true (step_in Q (length first) f.last) e refl)

    module _ (moves : rests f.last.term ≡ false) (r : Result (Unit {0}) Fault) (image' : List ℕ) where
      here : StepWritten r image image' (step_in Q (length image) f.last) → StepWritten r image image' (step_in Q (length first) f.last)
      here w = subst (λ l. StepWritten r image image' (step_in Q l f.last)) long w

      -- the step is refused
      pub refused : (x : Fault) → r ≡ Err x → StepWritten r image image' (step_in Q (length image) f.last) →
          RunWritten (Err (record { fault = x; made = k })) first image' (steps_in Q (length first) n c)
      refused x e w = go (step_in Q (length first) f.last) refl (here w)
        where
          go : (s : Result Configuration Fault) → step_in Q (length first) f.last ≡ s → StepWritten r image image' s →
              RunWritten (Err (record { fault = x; made = k })) first image' (steps_in Q (length first) n c)
          go (Ok d) q u = let u0 = u.0 in let z : ◌≡◌ {A = ℕ} 0 1 = cc in absurd (omega arith)
          go (Err y) q u =
              let u0 = u.0 in
              let same : y ≡ x = cc in
              let a = answered (Some x) (next_goes false (Err x) moves (q ∙ ap Err same)) in
              subst (λ l. RunWritten (Err (record { fault = x; made = k })) first l (steps_in Q (length first) n c)) (sym u.1) a

      -- the step is made
      pub one_further : Law Q → r ≡ Ok tt → StepWritten r image image' (step_in Q (length image) f.last) → SoFar Q first n c (k + 1) image'
      one_further law e w = go (step_in Q (length image) f.last) refl w
        where
          go : (s : Result Configuration Fault) → step_in Q (length image) f.last ≡ s → StepWritten r image image' s → SoFar Q first n c (k + 1) image'
          go (Err y) q u = let u0 = u.0 in let z : ◌≡◌ {A = ℕ} 0 1 = cc in absurd (omega arith)
          go (Ok d) q u =
              let q' = ap (λ l. step_in Q l f.last) (sym long) ∙ q in
              record {
                last = d;
                is = subst (λ l. Image l d) (sym u.1) (step_keeps_images law f.is q);
                goes = next_goes false (Ok d) moves q' ∙ one_before k (steps_in Q (length first) (n - (k + 1)) d);
              }
