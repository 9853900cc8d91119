-- Steps and takes keep images.
use Rattle.std.proofs.Common.{◌≡◌, ℕ, zero, suc, ◌-◌, ◌≤◌, Bool, true, false, cond, ltb, List, length, replicate, Some, None, Ok, Err, Option, Result, sym, refl, ap, subst, arith, length-append}
use lib.ListN.{length-replicate}
use Rattle.std.proofs.lemmas.Bool.{ltb-false}
use Rattle.faults.specs.declared.Fault.{Fault}
use Rattle.quantities.specs.Meaning.{Meaning, Lawful as Law}
use Rattle.calculus.specs.Terms.{Term, suspension}
use Rattle.calculus.specs.Configurations.{Bindings, Configuration, ◌∣◌}
use Rattle.calculus.specs.Places.{place}
use Rattle.calculus.specs.Next.{next}
use Rattle.calculus.proofs.Agreement.{agrees}
use Rattle.calculus.proofs.Configured.{keeps_configured, take_configured}
use Rattle.encoding.specs.Encoding.{encode}
use Rattle.image.specs.Images.{most_bindings, bindings_words, words_of, used, image_of, Encodable, FitsLength, Image}
use Rattle.image.specs.Stepping.{if_it_fits, step_result, step_in, rests, Stop, stop_at, one_more, steps_in}
use Rattle.image.proofs.FitsKept.{fits_kept}

-- a configuration's words are as many as the length that they are made for
pub length_image : (len : ℕ) (c : Configuration) → used c ≤ len → length (image_of len c) ≡ len
length_image len c h =
    omega (arith, length-append (words_of c) (replicate {A = ℕ} (len - used c) 0), length-replicate {A = ℕ} (len - used c) 0)

-- an encodable configuration that fits a length has an image of that length
pub image_is : (len : ℕ) (c : Configuration) → Encodable c → FitsLength len c → Image (image_of len c) c
image_is len c l f =
    let n = length_image len c f.room in
    record {
      encodable = l;
      fits = let P : ℕ → Type 0 = λ k. FitsLength k c in subst P (sym n) f;
      is = ap (λ k. image_of k c) (sym n);
    }

-- what a step that is not refused comes to
pub record Made (Q : Meaning) (len : ℕ) (c d : Configuration) : Type 0 where
  pub successor : next Q c.term c.bindings ≡ Some d
  pub few : length d.bindings ≤ most_bindings
  pub room : used d ≤ len

module _ (Q : Meaning) (len : ℕ) (c d : Configuration) where
  by_tests : (p : ℕ) (e : Configuration) → next Q c.term c.bindings ≡ Some e → (a b : Bool) →
      ltb most_bindings (length e.bindings) ≡ a → ltb len (used e) ≡ b → if_it_fits len p e ≡ Ok d → Made Q len c d
  by_tests p e s true b ha hb h = let z : ◌≡◌ {A = ℕ} 0 1 = refused in absurd (omega arith)
    where
      refused : ◌≡◌ {A = ℕ} 0 1
      refused = let y = rw ha at h in cc
  by_tests p e s false true ha hb h = let z : ◌≡◌ {A = ℕ} 0 1 = refused in absurd (omega arith)
    where
      refused : ◌≡◌ {A = ℕ} 0 1
      refused = let y = rw (ha, hb) at h in cc
  by_tests p e s false false ha hb h =
      let y = rw (ha, hb) at h in
      let z : e ≡ d = cc in
      let m : Made Q len c e = record {
        successor = s;
        few = ltb-false most_bindings (length e.bindings) ha;
        room = ltb-false len (used e) hb;
      } in
      subst (Made Q len c) z m

  pub made : step_in Q len c ≡ Ok d → Made Q len c d
  made h = go (next Q c.term c.bindings) refl h
    where
      go : (o : Option Configuration) → next Q c.term c.bindings ≡ o → step_result len (place c.term) o ≡ Ok d → Made Q len c d
      go None s h = let z : ◌≡◌ {A = ℕ} 0 1 = cc in absurd (omega arith)
      go (Some e) s h = by_tests (place c.term) e s (ltb most_bindings (length e.bindings)) (ltb len (used e)) refl refl h

module _ {Q : Meaning} (law : Law Q) where
  -- the successor keeps the rules, if it has no more bindings than there are labels
  pub next_encodable : (c d : Configuration) → Encodable c → next Q c.term c.bindings ≡ Some d → length d.bindings ≤ most_bindings → Encodable d
  next_encodable c d l e few =
      let s = (agrees Q c.term c.bindings d.term d.bindings).1 e in
      let k = fits_kept law s few l.term_fits l.bindings_fit in
      record { configured = keeps_configured l.configured s; term_fits = k.term; bindings_fit = k.bindings }

  pub step_keeps : (len : ℕ) (c d : Configuration) → Encodable c → FitsLength len c → step_in Q len c ≡ Ok d → Encodable d × FitsLength len d
  step_keeps len c d l f e =
      let m = made Q len c d e in
      (next_encodable c d l m.successor m.few, record { low = f.low; high = f.high; few = m.few; room = m.room })

  -- one step
  pub step_keeps_images : {words : List ℕ} {c d : Configuration} → Image words c → step_in Q (length words) c ≡ Ok d →
      Image (image_of (length words) d) d
  step_keeps_images {words} {c} {d} i e =
      let k = step_keeps (length words) c d i.encodable i.fits e in image_is (length words) d k.0 k.1

  pub steps_keep : (len n : ℕ) (c : Configuration) → Encodable c → FitsLength len c →
      Encodable (steps_in Q len n c).last × FitsLength len (steps_in Q len n c).last
  steps_keep len zero c l f = (l, f)
  steps_keep len (suc n) c l f = go (λ d k. steps_keep len n d k.0 k.1) (rests c.term) (step_in Q len c) refl
    where
      go : ((d : Configuration) → Encodable d × FitsLength len d → Encodable (steps_in Q len n d).last × FitsLength len (steps_in Q len n d).last) →
          (b : Bool) (r : Result Configuration Fault) → step_in Q len c ≡ r →
          let s : Stop = cond b (stop_at c None) (elim r [ Err f ↦ stop_at c (Some f) | Ok d ↦ one_more (steps_in Q len n d) ]) in
          Encodable s.last × FitsLength len s.last
      go again true r e = (l, f)
      go again false (Err g) e = (l, f)
      go again false (Ok d) e = again d (step_keeps len c d l f e)

  -- a run of steps
  pub steps_keep_images : {words : List ℕ} {c : Configuration} (n : ℕ) → Image words c →
      Image (image_of (length words) (steps_in Q (length words) n c).last) (steps_in Q (length words) n c).last
  steps_keep_images {words} {c} n i =
      let k = steps_keep (length words) n c i.encodable i.fits in image_is (length words) (steps_in Q (length words) n c).last k.0 k.1

  -- as long as before
  pub steps_keep_length : {words : List ℕ} {c : Configuration} (n : ℕ) → Image words c →
      length (image_of (length words) (steps_in Q (length words) n c).last) ≡ length words
  steps_keep_length {words} {c} n i =
      length_image (length words) (steps_in Q (length words) n c).last (steps_keep (length words) n c i.encodable i.fits).1.room

-- a take keeps the rules
pub take_encodable : (t v : Term) (μ : Bindings) → Encodable (suspension t v ∣ μ) → Encodable (t ∣ μ)
take_encodable t v μ l = record {
  configured = take_configured l.configured;
  term_fits = l.term_fits.1;
  bindings_fit = l.bindings_fit;
}

-- a take needs no more words
pub take_shorter : (t v : Term) (μ : Bindings) → used (t ∣ μ) ≤ used (suspension t v ∣ μ)
take_shorter t v μ =
    omega (
      arith,
      length-append (encode t) (bindings_words μ),
      length-append (encode (suspension t v)) (bindings_words μ),
      length-append (encode t) (encode v),
    )

-- so a take keeps images
pub take_keeps_images : {words : List ℕ} {t v : Term} {μ : Bindings} → Image words (suspension t v ∣ μ) →
    Image (image_of (length words) (t ∣ μ)) (t ∣ μ)
take_keeps_images {words} {t} {v} {μ} i =
    let f = i.fits in
    image_is (length words) (t ∣ μ) (take_encodable t v μ i.encodable)
    (record { low = f.low; high = f.high; few = f.few; room = omega (arith, take_shorter t v μ, f.room) })
