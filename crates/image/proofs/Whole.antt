-- An image passes the tests, and words that pass them are an image.
use Rattle.std.proofs.Common.{◌≡◌, ℕ, zero, suc, ◌+◌, ◌-◌, ◌^◌, ◌<◌, ◌≤◌, true, ◌&&◌, eqb, leb, List, [], ◌∷◌, ◌++◌, length, get_or, drop, replicate, Some, None, Option, sym, refl, ap, ◌∙◌, subst, append_assoc, arith, length-append}
use Rattle.std.specs.List.{AllByRecursion}
use Rattle.std.proofs.lemmas.List.{drop_at}
use Rattle.std.proofs.lemmas.Bool.{and_from, and_parts, eq-eqb, eqb-true, le-leb, leb-true}
use Rattle.calculus.specs.Lists.{at}
use Rattle.calculus.specs.Terms.{Term}
use Rattle.calculus.specs.Parts.{size}
use Rattle.calculus.specs.Configurations.{empty, ready, Bindings, Configuration, ◌∣◌, Formed}
use Rattle.layout.specs.declared.Word.TheVariants as W
use Rattle.layout.specs.Layout.{word_of}
use Rattle.encoding.specs.Encoding.{encode}
use Rattle.encoding.proofs.Parts.{length_encode}
use Rattle.image.specs.Images.{bindings_words, words_of, used, head_of, BindingFits, fewest_words, most_words, Encodable, Image}
use Rattle.image.specs.Reading.{kind_at, used_at, bindings_at, reach, all_zero, ends_as_said, headed, is_image}
use Rattle.image.specs.Places.{BodyFormed, Right, RightBinding}
use Rattle.image.proofs.Rules.{reach_term}
use Rattle.image.proofs.Reached.{Reached, reached, reach_bindings}

-- the rules of a configuration, term by term and binding by binding
pub encodable_term : (c : Configuration) → Encodable c → Right (length c.bindings) c.term
encodable_term c l = (l.term_fits, l.configured.term_formed)

rightly :
    (n : ℕ) (μ : Bindings) → AllByRecursion BindingFits μ → ((l i : ℕ) (b : Term) → at μ l ≡ Some (ready i b) → Formed n b) →
    AllByRecursion (RightBinding n) μ
rightly n [] a f = tt
rightly n (empty r ∷ μ) a f = ((a.0, tt), rightly n μ a.1 (λ l. f (suc l)))
rightly n (ready r t ∷ μ) a f = ((a.0, f 0 r t refl), rightly n μ a.1 (λ l. f (suc l)))

pub encodable_bindings : (c : Configuration) → Encodable c → AllByRecursion (RightBinding (length c.bindings)) c.bindings
encodable_bindings c l = rightly (length c.bindings) c.bindings l.bindings_fit l.configured.bodies_formed

all_fit : (n : ℕ) (μ : Bindings) → AllByRecursion (RightBinding n) μ → AllByRecursion BindingFits μ
all_fit n [] a = tt
all_fit n (β ∷ μ) a = (a.0.0, all_fit n μ a.1)

body_formed :
    (n : ℕ) (μ : Bindings) → AllByRecursion (RightBinding n) μ → (l i : ℕ) (b : Term) → at μ l ≡ Some (ready i b) → Formed n b
body_formed n [] a l i b e = let z : ◌≡◌ {A = ℕ} 0 1 = cc in absurd (omega arith)
body_formed n (β ∷ μ) a zero i b e = let z : β ≡ ready i b = cc in subst (BodyFormed n) z a.0.1
body_formed n (β ∷ μ) a (suc l) i b e = body_formed n μ a.1 l i b e

pub encodable_from :
    (c : Configuration) → Right (length c.bindings) c.term → AllByRecursion (RightBinding (length c.bindings)) c.bindings → Encodable c
encodable_from c t a =
    record {
      configured = record { term_formed = t.1; bodies_formed = body_formed (length c.bindings) c.bindings a };
      term_fits = t.0;
      bindings_fit = all_fit (length c.bindings) c.bindings a;
    }

pub zeros : (k : ℕ) → all_zero (replicate k 0) ≡ true
zeros zero = refl
zeros (suc k) = zeros k

pub all_zeros : (ws : List ℕ) → all_zero ws ≡ true → ws ≡ replicate (length ws) 0
all_zeros [] e = refl
all_zeros (w ∷ ws) e =
    let p = and_parts (eqb w 0) (all_zero ws) e in
    let z = eqb-true w 0 p.0 in
    λ i. z i ∷ all_zeros ws p.1 i

-- the fields of a head are read from it
pub record Head (u n w : ℕ) : Type 0 where
  pub kind : kind_at w ≡ 23
  pub used : used_at w ≡ u
  pub bindings : bindings_at w ≡ n

pub head_fields : (u n : ℕ) → u < 2 ^ 15 → n < 2 ^ 12 → Head u n (word_of (W.ImageHead u n))
head_fields u n a b = record { kind = omega arith; used = omega arith; bindings = omega arith }

head_again : (u n w : ℕ) → Head u n w → u < 2 ^ 15 → n < 2 ^ 12 → w ≡ word_of (W.ImageHead u n)
head_again u n w h a b = omega (arith, h.kind, h.used, h.bindings)

-- what is known of the words of an image
pub record Laid (image : List ℕ) (c : Configuration) : Type 0 where
  pub first : get_or image 0 0 ≡ head_of c
  pub head : Head (used c) (length c.bindings) (get_or image 0 0)
  pub rest : drop 1 image ≡ encode c.term ++ (bindings_words c.bindings ++ replicate (length image - used c) 0)
  pub tail : drop (used c) image ≡ replicate (length image - used c) 0

pub laid : (image : List ℕ) (c : Configuration) → Image image c → Laid image c
laid image c m =
    let e = m.is in
    let f = m.fits in
    let u : used c < 2 ^ 15 = omega (arith, f.room, f.high) in
    let n : length c.bindings < 2 ^ 12 = omega (arith, f.few) in
    let z : get_or image 0 0 ≡ head_of c = ap (λ l. get_or l 0 0) e in
    record {
      first = z;
      head = subst (Head (used c) (length c.bindings)) (sym z) (head_fields (used c) (length c.bindings) u n);
      rest = ap (drop 1) e ∙ append_assoc (encode c.term) (bindings_words c.bindings) (replicate (length image - used c) 0);
      tail = ap (drop (used c)) e ∙ drop_at (words_of c) (replicate (length image - used c) 0) (length (words_of c)) refl;
    }

pub split_head : (ws : List ℕ) → 1 ≤ length ws → ws ≡ get_or ws 0 0 ∷ drop 1 ws
split_head [] h = absurd (omega arith)
split_head (w ∷ ws) h = refl

-- the tests of a head, at words that have one
pub headed_is :
    (ws : List ℕ) → 1 ≤ length ws →
    headed ws ≡ (let w = get_or ws 0 0 in eqb (kind_at w) 23 && ends_as_said w (reach (bindings_at w) 1 (bindings_at w) 1 (drop 1 ws)) ws)
headed_is [] h = absurd (omega arith)
headed_is (w ∷ ws) h = refl

-- the same by what was found behind the head
module _ (w : ℕ) (ws : List ℕ) (n : ℕ) (kind : eqb (kind_at w) 23 ≡ true) (many : n ≡ bindings_at w) where
  pub headed_by : (o : Option ℕ) → reach n 1 n 1 ws ≡ o → headed (w ∷ ws) ≡ ends_as_said w o (w ∷ ws)
  headed_by o e =
      (λ i. kind i && ends_as_said w (reach (sym many i) 1 (sym many i) 1 ws) (w ∷ ws)) ∙ ap (λ x. ends_as_said w x (w ∷ ws)) e

module _ (image : List ℕ) (c : Configuration) (m : Image image c) where
  -- the term and the bindings end where the head says
  pub image_reached : (n : ℕ) → n ≡ length c.bindings → reach n 1 n 1 (drop 1 image) ≡ Some (used c)
  image_reached n k =
      let l = laid image c m in
      let t = c.term in
      let μ = c.bindings in
      let s : 1 + size t + length (bindings_words μ) ≡ used c = omega (arith, length_encode t, length-append (encode t) (bindings_words μ)) in
      let zs = replicate (length image - used c) 0 in
      (λ i. reach (k i) 1 (k i) 1 (l.rest i))
      ∙ reach_term (length μ) (length μ) t (encodable_term c m.encodable) 0 1 (bindings_words μ ++ zs)
      ∙ reach_bindings (length μ) μ (encodable_bindings c m.encodable) (1 + size t) zs ∙ ap Some s

  image_ends : (o : Option ℕ) → o ≡ Some (used c) → ends_as_said (get_or image 0 0) o image ≡ true
  image_ends o e =
      let l = laid image c m in
      ap (λ x. ends_as_said (get_or image 0 0) x image) e
      ∙ and_from (eqb (used c) (used_at (get_or image 0 0))) (all_zero (drop (used c) image))
      (eq-eqb (used c) (used_at (get_or image 0 0)) (sym l.head.used))
      (ap all_zero l.tail ∙ zeros (length image - used c))

  pub image_is : is_image image ≡ true
  image_is =
      let l = laid image c m in
      let f = m.fits in
      let low = f.low in
      let w = get_or image 0 0 in
      and_from (leb fewest_words (length image)) _ (le-leb fewest_words (length image) f.low)
      (and_from (leb (length image) most_words) _ (le-leb (length image) most_words f.high)
      (headed_is image (omega arith)
      ∙ and_from (eqb (kind_at w) 23) _ (eq-eqb (kind_at w) 23 l.head.kind)
      (image_ends (reach (bindings_at w) 1 (bindings_at w) 1 (drop 1 image)) (image_reached (bindings_at w) l.head.bindings))))

-- what the end that a head states tells
record Ended (w : ℕ) (o : Option ℕ) (ws : List ℕ) : Type 0 where
  place : ℕ
  found : o ≡ Some place
  said : place ≡ used_at w
  zero : all_zero (drop place ws) ≡ true

ended : (w : ℕ) (o : Option ℕ) (ws : List ℕ) → ends_as_said w o ws ≡ true → Ended w o ws
ended w None ws h = let z : ◌≡◌ {A = ℕ} 0 1 = cc in absurd (omega arith)
ended w (Some e) ws h =
    let p = and_parts (eqb e (used_at w)) (all_zero (drop e ws)) h in
    record { place = e; found = refl; said = eqb-true e (used_at w) p.0; zero = p.1 }

-- a head and what stands behind it make an image
whole :
    (w : ℕ) (vs : List ℕ) (n e : ℕ) → fewest_words ≤ suc (length vs) → suc (length vs) ≤ most_words → kind_at w ≡ 23 → n ≡ bindings_at w →
    e ≡ used_at w → all_zero (drop e (w ∷ vs)) ≡ true → Reached n n 1 e vs → (c : Configuration) × Image (w ∷ vs) c
whole w vs n e low high k hn he hz r =
    let t = r.term in
    let μ = r.bindings in
    let c = t ∣ μ in
    let ws = encode t ++ bindings_words μ in
    let la = length-append (encode t) (bindings_words μ) in
    let us : e ≡ suc (length ws) = omega (arith, r.ends, length_encode t, la) in
    let same : vs ≡ ws ++ r.rest = r.same ∙ sym (append_assoc (encode t) (bindings_words μ) r.rest) in
    let gone : drop e (w ∷ vs) ≡ r.rest = (λ i. drop (us i) (w ∷ same i)) ∙ drop_at ws r.rest (length ws) refl in
    let zs : r.rest ≡ replicate (length r.rest) 0 = all_zeros r.rest (sym (ap all_zero gone) ∙ hz) in
    let len : length vs ≡ length ws + length r.rest = ap length same ∙ length-append ws r.rest in
    let left : length r.rest ≡ suc (length vs) - suc (length ws) = omega (arith, len) in
    let b = r.count in
    let zero_rest : r.rest ≡ replicate (suc (length vs) - suc (length ws)) 0 = zs ∙ ap (λ j. replicate j 0) left in
    let filled : vs ≡ ws ++ replicate (suc (length vs) - suc (length ws)) 0 = same ∙ (λ i. ws ++ zero_rest i) in
    let few : length μ < 2 ^ 12 = omega arith in
    let hd : w ≡ word_of (W.ImageHead (suc (length ws)) (length μ)) =
    head_again (suc (length ws)) (length μ) w
    (record { kind = k; used = sym he ∙ us; bindings = sym hn ∙ sym b }) (omega (arith, len)) few in (
      c,
      record {
        encodable =
            encodable_from c (subst (λ j. Right j t) (sym b) r.right) (subst (λ j. AllByRecursion (RightBinding j) μ) (sym b) r.bindings_right);
        fits = record { low = low; high = high; few = omega arith; room = omega (arith, len) };
        is = λ i. hd i ∷ filled i;
      },
    )

pub images_are : (ws : List ℕ) → is_image ws ≡ true → (c : Configuration) × Image ws c
images_are [] h = let z : ◌≡◌ {A = ℕ} 0 1 = cc in absurd (omega arith)
images_are (w ∷ vs) h =
    let n = bindings_at w in
    let p = and_parts (leb fewest_words (suc (length vs))) (leb (suc (length vs)) most_words && headed (w ∷ vs)) h in
    let q = and_parts (leb (suc (length vs)) most_words) (headed (w ∷ vs)) p.1 in
    let k = and_parts (eqb (kind_at w) 23) (ends_as_said w (reach n 1 n 1 vs) (w ∷ vs)) q.1 in
    let e = ended w (reach n 1 n 1 vs) (w ∷ vs) k.1 in
    whole w vs n e.place (leb-true fewest_words (suc (length vs)) p.0) (leb-true (suc (length vs)) most_words q.0)
    (eqb-true (kind_at w) 23 k.0) refl e.said e.zero (reached n n 1 e.place vs e.found)
