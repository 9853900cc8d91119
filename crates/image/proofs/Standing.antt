-- Where terms and bindings stand in an image.
use Rattle.std.proofs.Common.{◌≡◌, ℕ, zero, suc, ◌+◌, ◌-◌, ◌<◌, ◌≤◌, List, [], ◌∷◌, ◌++◌, length, take, drop, replicate, Some, sym, refl, ap, ◌∙◌, subst, append_assoc, arith, length-append}
use Rattle.std.specs.List.{between, AllByRecursion}
use Rattle.std.proofs.lemmas.List.{drop-drop, drop_at, take_at}
use Rattle.calculus.specs.Lists.{at, put}
use Rattle.calculus.specs.Terms.{Term}
use Rattle.calculus.specs.Parts.{parts, size}
use Rattle.calculus.specs.Configurations.{Binding, empty, ready, Bindings, Configuration}
use Rattle.encoding.specs.Encoding.{encode, encodes, Fits, Stands}
use Rattle.encoding.proofs.Parts.{fits_parts, length_encode}
use Rattle.encoding.proofs.FirstWord.{first_of}
use Rattle.encoding.proofs.Places.{stands_words, stands_from, stands_within}
use Rattle.image.specs.Images.{binding_words, bindings_words, used, Image}
use Rattle.image.specs.Places.{At, Passed, RightBinding, Bound}
use Rattle.image.specs.Seeking.{seek}
use Rattle.image.proofs.Counting.{passes}
use Rattle.image.proofs.Rules.{fits_down}
use Rattle.image.proofs.Reached.{empty_bit, ready_bit}
use Rattle.image.proofs.Whole.{encodable_bindings, laid}

-- words that begin with others, cut behind those
pub cut : (ws xs rest : List ℕ) (i e : ℕ) → e ≡ i + length xs → drop i ws ≡ xs ++ rest → (between i e ws ≡ xs) × (drop e ws ≡ rest)
cut ws xs rest i e q h =
    let k : e - i ≡ length xs = omega arith in (
      (λ j. take (k j) (h j)) ∙ take_at xs rest (length xs) refl,
      ap (λ j. drop j ws) q ∙ sym (drop-drop (length xs) i ws) ∙ ap (drop (length xs)) h ∙ drop_at xs rest (length xs) refl,
    )

-- a term at a place, with what is behind it named or not
pub at_stands : (t : Term) (rest : List ℕ) (i : ℕ) (ws : List ℕ) → At t rest i ws → Stands t ws i
at_stands t rest i ws a = stands_from t ws i rest a.fits a.words

pub stands_at : (t : Term) (i : ℕ) (ws : List ℕ) → Stands t ws i → At t (drop (size t) (drop i ws)) i ws
stands_at t i ws s = record { fits = s.0; words = stands_words t ws i s }

pub at_within : (t : Term) (rest : List ℕ) (i : ℕ) (ws : List ℕ) → At t rest i ws → i + size t ≤ length ws
at_within t rest i ws a = stands_within t ws i (at_stands t rest i ws a)

pub passed : (t : Term) (rest : List ℕ) (i e : ℕ) (ws : List ℕ) → At t rest i ws → e ≡ i + size t → Passed t rest i e ws
passed t rest i e ws a q =
    let c = cut ws (encode t) rest i e (omega (arith, length_encode t)) a.words in
    record { ends = q; words = c.0; behind = c.1 }

-- over a term, with bindings to come
pub seek_term : (b : ℕ) (t : Term) → Fits t → (n i : ℕ) (rest : List ℕ) → seek (suc n) b i (encode t ++ rest) ≡ seek n b (i + size t) rest
seek_term b t f n i rest =
    passes (λ m j l. seek m b j l) Fits fits_down
    (λ u g m j r. ap (λ k. seek (m + k) b (j + 1) (encodes (parts u) ++ r)) (first_of u (fits_parts u g).0).counts) t f n i rest

-- the binding β of the label l among bindings
pub record Entry (n : ℕ) (μ : Bindings) (l : ℕ) (β : Binding) : Type 0 where
  pub ahead : List ℕ
  pub later : List ℕ
  pub right : RightBinding n β
  pub whole : bindings_words μ ≡ ahead ++ (binding_words β ++ later)
  pub puts : (γ : Binding) → bindings_words (put μ l γ) ≡ ahead ++ (binding_words γ ++ later)
  pub sought : (i : ℕ) (rest : List ℕ) → seek 0 l i (bindings_words μ ++ rest) ≡ i + length ahead

-- over a binding
shift :
    (α : Binding) (n : ℕ) → RightBinding n α → (l i : ℕ) (ws : List ℕ) →
    seek 0 (suc l) i (binding_words α ++ ws) ≡ seek 0 l (i + length (binding_words α)) ws
shift (empty r) n h l i ws = ap (λ k. seek k l (i + 1) ws) (empty_bit r)
shift (ready r t) n h l i ws =
    let k : i + 1 + size t ≡ i + suc (length (encode t)) = omega (arith, length_encode t) in
    ap (λ k. seek k l (i + 1) (encode t ++ ws)) (ready_bit r t) ∙ seek_term l t h.0.1 0 (i + 1) ws ∙ ap (λ j. seek 0 l j ws) k

pub entry : (n : ℕ) (μ : Bindings) (l : ℕ) (β : Binding) → AllByRecursion (RightBinding n) μ → at μ l ≡ Some β → Entry n μ l β
entry n [] l β a e = let z : ◌≡◌ {A = ℕ} 0 1 = cc in absurd (omega arith)
entry n (α ∷ μ) zero β a e =
    let z : α ≡ β = cc in
    record {
      ahead = [];
      later = bindings_words μ;
      right = subst (RightBinding n) z a.0;
      whole = ap (λ x. binding_words x ++ bindings_words μ) z;
      puts = λ γ. refl;
      sought = λ i rest. omega arith;
    }
entry n (α ∷ μ) (suc l) β a e =
    let r = entry n μ l β a.1 e in
    let own = binding_words α in
    record {
      ahead = own ++ r.ahead;
      later = r.later;
      right = r.right;
      whole = ap (λ x. own ++ x) r.whole ∙ sym (append_assoc own r.ahead (binding_words β ++ r.later));
      puts = λ γ. ap (λ x. own ++ x) (r.puts γ) ∙ sym (append_assoc own r.ahead (binding_words γ ++ r.later));
      sought = λ i rest.
          ap (seek 0 (suc l) i) (append_assoc own (bindings_words μ) rest) ∙ shift α n a.0 l i (bindings_words μ ++ rest)
          ∙ r.sought (i + length own) rest ∙ omega (arith, length-append own r.ahead);
    }

pub entry_some : (μ : Bindings) (l : ℕ) → l < length μ → (β : Binding) × (at μ l ≡ Some β)
entry_some [] l h = absurd (omega arith)
entry_some (β ∷ μ) zero h = (β, refl)
entry_some (β ∷ μ) (suc l) h = entry_some μ l (omega arith)

pub bound :
    (image : List ℕ) (c : Configuration) (l : ℕ) (β : Binding) (q : ℕ) → Image image c → at c.bindings l ≡ Some β →
    q ≡ seek 1 l 1 (drop 1 image) → Bound image c l β q
bound image c l β q m e s =
    let n = length c.bindings in
    let t = c.term in
    let r = entry n c.bindings l β (encodable_bindings c m.encodable) e in
    let d = (laid image c m).rest in
    let k : 1 + size t + length r.ahead ≡ suc (size t + length r.ahead) = omega arith in
    let j : 1 + length (encode t ++ r.ahead) ≡ suc (size t + length r.ahead) =
    omega (arith, length_encode t, length-append (encode t) r.ahead) in
    let zs = replicate {A = ℕ} (length image - used c) 0 in
    let p : q ≡ suc (size t + length r.ahead) =
    s ∙ ap (seek 1 l 1) d ∙ seek_term l t m.encodable.term_fits 0 1 (bindings_words c.bindings ++ zs)
    ∙ r.sought (1 + size t) zs ∙ k in
    let w : drop 1 image ≡ (encode t ++ r.ahead) ++ (binding_words β ++ (r.later ++ zs)) =
    d ∙ ap (λ x. encode t ++ (x ++ zs)) r.whole ∙ simp append_assoc in
    record {
      ahead = r.ahead;
      later = r.later;
      right = r.right;
      place = p;
      whole = r.whole;
      puts = r.puts;
      here = (cut image (encode t ++ r.ahead) (binding_words β ++ (r.later ++ zs)) 1 q (p ∙ sym j) w).1;
    }
