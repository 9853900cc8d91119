-- Reading gives a configuration exactly if the words are its image; so an image has one configuration, and a configuration one image.
use Rattle.std.proofs.Common.{◌≡◌, ℕ, suc, ◌-◌, ◌%◌, ◌^◌, ◌<◌, false, cond, eqb, List, [], ◌∷◌, ◌++◌, length, get_or, drop, replicate, Some, None, refl, ap, ◌∙◌, subst, append_assoc, arith}
use Rattle.std.specs.List.{AllByRecursion}
use Rattle.std.proofs.lemmas.List.{drop_at}
use Rattle.std.proofs.lemmas.Option.{cond_some}
use Rattle.calculus.specs.Terms.{Term, unit}
use Rattle.calculus.specs.Parts.{size}
use Rattle.calculus.specs.Configurations.{empty, ready, Bindings, Configuration, ◌∣◌}
use Rattle.layout.specs.Layout.{word_of}
use Rattle.encoding.specs.Encoding.{encode, Fits}
use Rattle.encoding.proofs.Parts.{length_encode}
use Rattle.encoding.proofs.Reading.{terms_in_encode}
use Rattle.image.specs.Images.{binding_word, bindings_words, used, image_of, Image}
use Rattle.image.specs.Reading.{row_at, is_image, term_in, bindings_in, configuration_in, reading}
use Rattle.image.specs.Places.{RightBinding}
use Rattle.image.specs.Laws.{OneConfiguration, OneImage, ReadingExact}
use Rattle.image.proofs.Reached.{ready_row, empty_bit, ready_bit}
use Rattle.image.proofs.Keeping.{length_image, image_is as made_image}
use Rattle.image.proofs.Whole.{encodable_bindings, laid, split_head, image_is, images_are}

pub term_in_encode : (t : Term) → Fits t → (rest : List ℕ) → term_in (encode t ++ rest) ≡ t
term_in_encode t f rest = ap (λ ts. get_or ts 0 unit) (terms_in_encode t f rest)

pub behind_term : (t : Term) → Fits t → (rest : List ℕ) → drop (size (term_in (encode t ++ rest))) (encode t ++ rest) ≡ rest
behind_term t f rest =
    ap (λ u. drop (size u) (encode t ++ rest)) (term_in_encode t f rest) ∙ drop_at (encode t) rest (size t) (length_encode t)

empty_row : (r : ℕ) → r < 2 ^ 9 → row_at (word_of (binding_word (empty r))) ≡ r
empty_row r h = omega arith

row_of_ready : (r : ℕ) (t : Term) → r < 2 ^ 9 → row_at (word_of (binding_word (ready r t))) ≡ r
row_of_ready r t h = omega arith

-- a binding is read by its last bit
abbrev by_bit : ℕ → ℕ → ℕ → List ℕ → Bindings
by_bit m w n ws =
    cond (eqb m 1) (ready (row_at w) (term_in ws) ∷ bindings_in n (drop (size (term_in ws)) ws))
    (empty (row_at w) ∷ bindings_in n ws)

-- one binding is read, and then those behind it
read_empty :
    (w r n : ℕ) (ws : List ℕ) → w % 2 ≡ 0 → row_at w ≡ r → bindings_in (suc n) (w ∷ ws) ≡ empty r ∷ bindings_in n ws
read_empty w r n ws z k =
    ap (λ m. by_bit m w n ws) z
    ∙ ap (λ j. empty j ∷ bindings_in n ws) k

read_ready :
    (w r n : ℕ) (t : Term) (ws rest : List ℕ) → w % 2 ≡ 1 → row_at w ≡ r → Fits t → ws ≡ encode t ++ rest →
    bindings_in (suc n) (w ∷ ws) ≡ ready r t ∷ bindings_in n rest
read_ready w r n t ws rest z k f e =
    ap (λ m. by_bit m w n ws) z
    ∙ ap (λ l. ready (row_at w) (term_in l) ∷ bindings_in n (drop (size (term_in l)) l)) e
    ∙ (λ j. ready (k j) (term_in_encode t f rest j) ∷ bindings_in n (behind_term t f rest j))

pub bindings_in_words :
    (n : ℕ) (μ : Bindings) → AllByRecursion (RightBinding n) μ → (rest : List ℕ) → bindings_in (length μ) (bindings_words μ ++ rest) ≡ μ
bindings_in_words n [] a rest = refl
bindings_in_words n (empty r ∷ μ) a rest =
    read_empty (word_of (binding_word (empty r))) r (length μ) (bindings_words μ ++ rest)
    (empty_bit r) (empty_row r (ready_row r 0 a.0.0).0)
    ∙ ap (λ ν. empty r ∷ ν) (bindings_in_words n μ a.1 rest)
bindings_in_words n (ready r t ∷ μ) a rest =
    read_ready (word_of (binding_word (ready r t))) r (length μ) t ((encode t ++ bindings_words μ) ++ rest) (bindings_words μ ++ rest)
    (ready_bit r t) (row_of_ready r t (ready_row r 1 a.0.0.0).0) a.0.0.1 (append_assoc (encode t) (bindings_words μ) rest)
    ∙ ap (λ ν. ready r t ∷ ν) (bindings_in_words n μ a.1 rest)

-- the configuration in the words of an image
pub configuration_is : (ws : List ℕ) (c : Configuration) → Image ws c → configuration_in ws ≡ c
configuration_is ws c m =
    let l = laid ws c m in
    let t = c.term in
    let μ = c.bindings in
    let f = m.encodable.term_fits in
    let low = m.fits.low in
    let after = bindings_words μ ++ replicate (length ws - used c) 0 in
    ap configuration_in (split_head ws (omega arith))
    ∙ (λ i. term_in (l.rest i) ∣ bindings_in (l.head.bindings i) (drop (size (term_in (l.rest i))) (l.rest i)))
    ∙ (λ i. term_in_encode t f after i ∣ bindings_in (length μ) (behind_term t f after i))
    ∙ ap (λ ν. t ∣ ν) (bindings_in_words (length μ) μ (encodable_bindings c m.encodable) (replicate (length ws - used c) 0))

pub image_reads : (ws : List ℕ) (c : Configuration) → Image ws c → reading ws ≡ Some c
image_reads ws c m =
    ap (λ b. cond b (Some (configuration_in ws)) None) (image_is ws c m) ∙ ap Some (configuration_is ws c m)

pub not_image : (ws : List ℕ) → is_image ws ≡ false → reading ws ≡ None
not_image ws h = ap (λ b. cond b (Some (configuration_in ws)) None) h

pub one_configuration : OneConfiguration
one_configuration ws c d m n = let p = image_reads ws c m in let q = image_reads ws d n in cc

pub reads_image : (ws : List ℕ) (c : Configuration) → reading ws ≡ Some c → Image ws c
reads_image ws c h =
    let r = images_are ws (cond_some (is_image ws) (configuration_in ws) c h).0 in
    let p = image_reads ws r.0 r.1 in
    let e : r.0 ≡ c = cc in
    subst (Image ws) e r.1

pub reading_exact : ReadingExact
reading_exact ws c = (reads_image ws c, image_reads ws c)

pub one_image : OneImage
one_image len c l f =
    (image_of len c, length_image len c f.room, made_image len c l f, λ o k m. m.is ∙ ap (λ j. image_of j c) k)
