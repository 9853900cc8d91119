-- What a take writes.
use Rattle.std.proofs.Common.{◌≡◌, ℕ, ◌+◌, ◌-◌, ◌<◌, List, ◌++◌, length, replicate, ◌∙◌, subst, append_assoc, arith, length-append}
use Rattle.std.specs.List.{between}
use Rattle.calculus.specs.Terms.{Term, suspension}
use Rattle.calculus.specs.Configurations.{Bindings, Configuration, ◌∣◌}
use Rattle.encoding.specs.Encoding.{encode}
use Rattle.encoding.proofs.Parts.{length_encode}
use Rattle.image.specs.Images.{bindings_words, words_of, used, Image}
use Rattle.image.proofs.Whole.{laid}
use Rattle.writing.specs.Writing.{Built}
use Rattle.writing.proofs.Building.{cut, next_word}
use Rattle.lines.proofs.Written.{Past}

-- the configuration of an image with a suspension
pub suspended_image : (image : List ℕ) (c : Configuration) (t v : Term) → Image image c → c.term ≡ suspension t v →
    Image image (suspension t v ∣ c.bindings)
suspended_image image c t v m e =
    let same : c ≡ (suspension t v ∣ c.bindings) = λ i. record { term = e i; bindings = c.bindings } in subst (Image image) same m

-- the words of the suspended term, and those of the bindings
pub take_words : (image : List ℕ) (t v : Term) (μ : Bindings) (m stop us : ℕ) → Image image (suspension t v ∣ μ) →
    us ≡ used (suspension t v ∣ μ) → Past image 2 m → Past image m stop → between 2 m image ++ between stop us image ≡ words_of (t ∣ μ)
take_words image t v μ m stop us i q pm ps =
    let c : Configuration = suspension t v ∣ μ in
    let zs : List ℕ = replicate (length image - used c) 0 in
    let d = (next_word image 1 _ _ (laid image c i).rest).1 ∙ append_assoc (encode t) (encode v) (bindings_words μ ++ zs) in
    let x = pm t (encode v ++ (bindings_words μ ++ zs)) (record { fits = i.encodable.term_fits.1; words = d }) in
    let y = ps v (bindings_words μ ++ zs) (record { fits = i.encodable.term_fits.2; words = x.behind }) in
    let n : us ≡ stop + length (bindings_words μ) =
    omega (
      arith,
      q,
      x.ends,
      y.ends,
      length_encode t,
      length_encode v,
      length-append (encode (suspension t v)) (bindings_words μ),
      length-append (encode t) (encode v),
    ) in
    λ j. x.words j ++ (cut image (bindings_words μ) zs stop us n y.behind).0 j

-- they fit, for they are fewer than before
pub take_fits : (image spare written : List ℕ) (t v : Term) (μ : Bindings) (e : ℕ) → Image image (suspension t v ∣ μ) →
    length image ≡ length spare → Built spare 1 (words_of (t ∣ μ)) written e → length image < e → ⊥
take_fits image spare written t v μ e i same b h =
    omega (
      arith,
      b.full (omega arith),
      i.fits.room,
      length-append (encode t) (bindings_words μ),
      length-append (encode (suspension t v)) (bindings_words μ),
      length-append (encode t) (encode v),
    )
