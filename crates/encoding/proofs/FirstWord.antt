-- The first word of a term: its kind and how many parts follow are read from it, and so is the term, given its parts.
use Rattle.std.proofs.Common.{◌≡◌, ℕ, ◌+◌, ◌*◌, ◌/◌, ◌^◌, ◌<◌, Bool, true, ◌&&◌, ltb, List, ◌++◌, length, get_or, Some, refl, ap, ◌∙◌, arith}
use Rattle.std.proofs.lemmas.Bool.{and_parts, ltb-true}
use Rattle.calculus.specs.Terms.{Term, unit, variable, abstraction, coroutine, application, yield, start, resume, snapshot, fix, atom, operation, instance, resumption, suspension}
use Rattle.calculus.specs.Parts.{parts}
use Rattle.words.specs.Kinds.{number_of}
use Rattle.layout.specs.Layout.{kind_of, word_of, read_word}
use Rattle.layout.proofs.Exact.{read_exact}
use Rattle.encoding.specs.Encoding.{first_word, FirstFits}
use Rattle.encoding.specs.Scanning.{part_counts, arity_of, of_term, is_term_word}
use Rattle.encoding.specs.Decoding.{node}

-- what a term's first word says by its kind alone
record Kinded (t : Term) : Type 0 where
  among : ltb (number_of (kind_of (first_word t))) 15 ≡ true
  counts : get_or part_counts (number_of (kind_of (first_word t))) 0 ≡ length (parts t)
  back : (us : List Term) → node (first_word t) (parts t ++ us) ≡ t

kinded : (t : Term) → Kinded t
kinded unit = record { among = refl; counts = refl; back = λ us. refl }
kinded (variable n) = record { among = refl; counts = refl; back = λ us. refl }
kinded (abstraction x r b) = record { among = refl; counts = refl; back = λ us. refl }
kinded (coroutine x r b) = record { among = refl; counts = refl; back = λ us. refl }
kinded (application f a) = record { among = refl; counts = refl; back = λ us. refl }
kinded (yield t) = record { among = refl; counts = refl; back = λ us. refl }
kinded (start i f a) = record { among = refl; counts = refl; back = λ us. refl }
kinded (resume a b c d) = record { among = refl; counts = refl; back = λ us. refl }
kinded (snapshot t) = record { among = refl; counts = refl; back = λ us. refl }
kinded (fix t) = record { among = refl; counts = refl; back = λ us. refl }
kinded (atom k p) = record { among = refl; counts = refl; back = λ us. refl }
kinded (operation o a b) = record { among = refl; counts = refl; back = λ us. refl }
kinded (instance l r) = record { among = refl; counts = refl; back = λ us. refl }
kinded (resumption l a b c d) = record { among = refl; counts = refl; back = λ us. refl }
kinded (suspension t v) = record { among = refl; counts = refl; back = λ us. refl }

under : (n m : ℕ) (b : Bool) → (ltb n m && b) ≡ true → n < m
under n m b h = ltb-true n m (and_parts (ltb n m) b h).0

rest : (n m : ℕ) (b : Bool) → (ltb n m && b) ≡ true → b ≡ true
rest n m b h = (and_parts (ltb n m) b h).1

-- a name or a label and a row leave the kind above them
kind_above : (k n r w : ℕ) → n < 2 ^ 12 → r < 2 ^ 9 → w ≡ k * 2 ^ 27 + (n + r * 2 ^ 12) → w / 2 ^ 27 ≡ k
kind_above k n r w f g e = omega arith

pub first_kind : (t : Term) → FirstFits t → word_of (first_word t) / 2 ^ 27 ≡ number_of (kind_of (first_word t))
first_kind unit h = refl
first_kind (variable n) h = kind_above 1 n 0 _ (under n _ _ h) (omega arith) (omega arith)
first_kind (abstraction x r b) h = kind_above 2 x r _ (under x _ _ h) (under r _ _ (rest x _ _ h)) (omega arith)
first_kind (coroutine x r b) h = kind_above 3 x r _ (under x _ _ h) (under r _ _ (rest x _ _ h)) (omega arith)
first_kind (application f a) h = refl
first_kind (yield t) h = refl
first_kind (start i f a) h = kind_above 6 0 i _ (omega arith) (under i _ _ h) (omega arith)
first_kind (resume a b c d) h = refl
first_kind (snapshot t) h = refl
first_kind (fix t) h = refl
first_kind (atom k p) h = let f = under p _ _ h in let g = under k _ _ (rest p _ _ h) in omega arith
first_kind (operation o a b) h = let f = under o _ _ h in omega arith
first_kind (instance l r) h = kind_above 12 l r _ (under l _ _ h) (under r _ _ (rest l _ _ h)) (omega arith)
first_kind (resumption l a b c d) h = kind_above 13 l 0 _ (under l _ _ h) (omega arith) (omega arith)
first_kind (suspension t v) h = refl

-- what is known of a term's first word
pub record First (t : Term) : Type 0 where
  pub kind : word_of (first_word t) / 2 ^ 27 ≡ number_of (kind_of (first_word t))
  pub reads : read_word (word_of (first_word t)) ≡ Some (first_word t)
  pub accepted : is_term_word (word_of (first_word t)) ≡ true
  pub counts : arity_of (word_of (first_word t)) ≡ length (parts t)
  pub back : (us : List Term) → node (first_word t) (parts t ++ us) ≡ t

pub first_of : (t : Term) → FirstFits t → First t
first_of t h =
    let k = kinded t in
    let e = first_kind t h in
    let r = (read_exact (word_of (first_word t)) (first_word t)).0 (record { fits = h; is = refl }) in
    record {
      kind = e;
      reads = r;
      accepted = ap of_term r ∙ k.among;
      counts = ap (λ n. get_or part_counts n 0) e ∙ k.counts;
      back = k.back;
    }
