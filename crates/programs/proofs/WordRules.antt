-- The words of a term keep their rules exactly if the term is allowed with the table.
use Rattle.std.proofs.Common.{◌≡◌, ℕ, zero, suc, ◌+◌, ◌*◌, ◌/◌, ◌^◌, ◌<◌, Bool, true, false, ◌&&◌, eqb, ltb, List, [], ◌∷◌, ◌++◌, length, get_or, Some, None, Option, sym, refl, ap, ◌∙◌, subst, inl, inr, append_assoc, append-nil, arith}
use Rattle.std.specs.List.{AllByRecursion}
use Rattle.std.proofs.lemmas.Bool.{and_parts, and_left, ltb-true, lt-ltb, le-ltb, cases_lt}
use Rattle.std.proofs.ByRecursion.{All-append}
use Rattle.calculus.specs.Lists.{at}
use Rattle.calculus.specs.Terms.{Term, unit, variable, abstraction, coroutine, application, yield, start, resume, snapshot, fix, atom, operation, instance, resumption, suspension}
use Rattle.calculus.specs.Rows.{Row, unit_type, bottom_type, base_type, function_type, coroutine_type, instance_type}
use Rattle.calculus.specs.Parts.{parts}
use Rattle.words.specs.Kinds.{number_of}
use Rattle.layout.specs.Layout.{kind_of, word_of}
use Rattle.encoding.specs.Encoding.{first_word, encode, encodes, Fits}
use Rattle.encoding.proofs.Parts.{encode_is, by_parts, fits_parts}
use Rattle.encoding.proofs.FirstWord.{first_of}
use Rattle.programs.specs.Tables.{row_word, table_words, RowFits}
use Rattle.programs.specs.Programs.{IsFunction, IsCoroutine, IsInstance, Allowed}
use Rattle.programs.specs.Terms.{row_has_kind, may_be_in_term, read_may_be_in_term, word_rule}
use Rattle.programs.proofs.Impossible.{never}

under : (n m : ℕ) (b : Bool) → (ltb n m && b) ≡ true → n < m
under n m b h = ltb-true n m (and_parts (ltb n m) b h).0

rest : (n m : ℕ) (b : Bool) → (ltb n m && b) ≡ true → b ≡ true
rest n m b h = (and_parts (ltb n m) b h).1

-- the kind of a row's word stands above its fields
kind_above : (k a b d w : ℕ) → a < 2 ^ 9 → b < 2 ^ 9 → d < 2 ^ 9 → w ≡ k * 2 ^ 27 + (a + (b * 2 ^ 9 + d * 2 ^ 18)) → w / 2 ^ 27 ≡ k
kind_above k a b d w f g h e = omega arith

row_kind : (r : Row) → RowFits r → word_of (row_word r) / 2 ^ 27 ≡ number_of (kind_of (row_word r))
row_kind unit_type h = refl
row_kind bottom_type h = refl
row_kind (base_type k) h = let f = under k _ _ h in omega arith
row_kind (function_type a b) h = kind_above 19 a b 0 _ (under a _ _ h) (under b _ _ (rest a _ _ h)) (omega arith) (omega arith)
row_kind (coroutine_type a y b) h =
    kind_above 20 a y b _ (under a _ _ h) (under y _ _ (rest a _ _ h)) (under b _ _ (rest y _ _ (rest a _ _ h))) (omega arith)
row_kind (instance_type y b) h = kind_above 21 y b 0 _ (under y _ _ h) (under b _ _ (rest y _ _ h)) (omega arith) (omega arith)

abbrev of_kind : Option Row → ℕ → Bool
of_kind None k = false
of_kind (Some r) k = eqb (number_of (kind_of (row_word r))) k

one_less : (r n : ℕ) → ltb (suc r) (suc n) ≡ ltb r n
one_less r n =
    elim (cases_lt r n) [
      | inl l ↦ lt-ltb (suc r) (suc n) (omega arith) ∙ sym (lt-ltb r n l)
      | inr l ↦ le-ltb (suc r) (suc n) (omega arith) ∙ sym (le-ltb r n l)
    ]

-- the kind of a row's word tells what the row is
kind_at : (table : List Row) → AllByRecursion RowFits table → (r k : ℕ) → row_has_kind (table_words table) r k ≡ of_kind (at table r) k
kind_at [] f r k = and_left (ltb r 0) (eqb (0 / 2 ^ 27) k) (le-ltb r 0 (omega arith))
kind_at (ty ∷ tys) f zero k =
    ap (λ b. b && eqb (word_of (row_word ty) / 2 ^ 27) k) (lt-ltb 0 (suc (length (table_words tys))) (omega arith))
    ∙ ap (λ m. eqb m k) (row_kind ty f.0)
kind_at (ty ∷ tys) f (suc r) k =
    ap (λ b. b && eqb (get_or (table_words tys) r 0 / 2 ^ 27) k) (one_less r (length (table_words tys))) ∙ kind_at tys f.1 r k

function_kind : (o : Option Row) → of_kind o 19 ≡ true → (A : ℕ) × (B : ℕ) × (o ≡ Some (function_type A B))
function_kind None h = never h
function_kind (Some unit_type) h = never h
function_kind (Some bottom_type) h = never h
function_kind (Some (base_type k)) h = never h
function_kind (Some (function_type a b)) h = (a, b, refl)
function_kind (Some (coroutine_type a y b)) h = never h
function_kind (Some (instance_type y b)) h = never h

coroutine_kind : (o : Option Row) → of_kind o 20 ≡ true → (A : ℕ) × (Y : ℕ) × (B : ℕ) × (o ≡ Some (coroutine_type A Y B))
coroutine_kind None h = never h
coroutine_kind (Some unit_type) h = never h
coroutine_kind (Some bottom_type) h = never h
coroutine_kind (Some (base_type k)) h = never h
coroutine_kind (Some (function_type a b)) h = never h
coroutine_kind (Some (coroutine_type a y b)) h = (a, y, b, refl)
coroutine_kind (Some (instance_type y b)) h = never h

instance_kind : (o : Option Row) → of_kind o 21 ≡ true → (Y : ℕ) × (B : ℕ) × (o ≡ Some (instance_type Y B))
instance_kind None h = never h
instance_kind (Some unit_type) h = never h
instance_kind (Some bottom_type) h = never h
instance_kind (Some (base_type k)) h = never h
instance_kind (Some (function_type a b)) h = never h
instance_kind (Some (coroutine_type a y b)) h = never h
instance_kind (Some (instance_type y b)) h = (y, b, refl)

module _ (table : List Row) (fits : AllByRecursion RowFits table) where
  is_function : (r : ℕ) → row_has_kind (table_words table) r 19 ≡ true → IsFunction table r
  is_function r h = function_kind (at table r) (sym (kind_at table fits r 19) ∙ h)

  of_function : (r : ℕ) → IsFunction table r → row_has_kind (table_words table) r 19 ≡ true
  of_function r h = kind_at table fits r 19 ∙ ap (λ o. of_kind o 19) h.2

  is_coroutine : (r : ℕ) → row_has_kind (table_words table) r 20 ≡ true → IsCoroutine table r
  is_coroutine r h = coroutine_kind (at table r) (sym (kind_at table fits r 20) ∙ h)

  of_coroutine : (r : ℕ) → IsCoroutine table r → row_has_kind (table_words table) r 20 ≡ true
  of_coroutine r h = kind_at table fits r 20 ∙ ap (λ o. of_kind o 20) h.3

  is_instance : (r : ℕ) → row_has_kind (table_words table) r 21 ≡ true → IsInstance table r
  is_instance r h = instance_kind (at table r) (sym (kind_at table fits r 21) ∙ h)

  of_instance : (r : ℕ) → IsInstance table r → row_has_kind (table_words table) r 21 ≡ true
  of_instance r h = kind_at table fits r 21 ∙ ap (λ o. of_kind o 21) h.2

  -- a term is allowed exactly if its first word may be in a term and its parts are allowed
  parts_allowed : (t : Term) → may_be_in_term (table_words table) (first_word t) ≡ true → AllByRecursion (Allowed table) (parts t) → Allowed table t
  parts_allowed unit h a = tt
  parts_allowed (variable n) h a = tt
  parts_allowed (abstraction x r b) h a = (is_function r h, a.0)
  parts_allowed (coroutine x r b) h a = (is_coroutine r h, a.0)
  parts_allowed (application f u) h a = (a.0, a.1.0)
  parts_allowed (yield t) h a = a.0
  parts_allowed (start i f u) h a = (is_instance i h, a.0, a.1.0)
  parts_allowed (resume t u v w) h a = (a.0, a.1.0, a.1.1.0, a.1.1.1.0)
  parts_allowed (snapshot t) h a = a.0
  parts_allowed (fix t) h a = a.0
  parts_allowed (atom k p) h a = tt
  parts_allowed (operation o t u) h a = (a.0, a.1.0)
  parts_allowed (instance l r) h a = never h
  parts_allowed (resumption l t u v w) h a = never h
  parts_allowed (suspension t v) h a = never h

  allowed_parts : (t : Term) → Allowed table t → (may_be_in_term (table_words table) (first_word t) ≡ true) × AllByRecursion (Allowed table) (parts t)
  allowed_parts unit h = (refl, tt)
  allowed_parts (variable n) h = (refl, tt)
  allowed_parts (abstraction x r b) h = (of_function r h.0, (h.1, tt))
  allowed_parts (coroutine x r b) h = (of_coroutine r h.0, (h.1, tt))
  allowed_parts (application f a) h = (refl, (h.0, (h.1, tt)))
  allowed_parts (yield t) h = (refl, (h, tt))
  allowed_parts (start i f a) h = (of_instance i h.0, (h.1, (h.2, tt)))
  allowed_parts (resume a b c d) h = (refl, (h.0, (h.1, (h.2, (h.3, tt)))))
  allowed_parts (snapshot t) h = (refl, (h, tt))
  allowed_parts (fix t) h = (refl, (h, tt))
  allowed_parts (atom k p) h = (refl, tt)
  allowed_parts (operation o a b) h = (refl, (h.0, (h.1, tt)))
  allowed_parts (instance l r) h = absurd h
  allowed_parts (resumption l a b c d) h = absurd h
  allowed_parts (suspension t v) h = absurd h

  first_rule : (t : Term) → Fits t → word_rule (table_words table) (word_of (first_word t)) ≡ may_be_in_term (table_words table) (first_word t)
  first_rule t f = ap (read_may_be_in_term (table_words table)) (first_of t (fits_parts t f).0).reads

  abbrev Keeps : List ℕ → Type 0
  Keeps ws = AllByRecursion (λ w. word_rule (table_words table) w ≡ true) ws

  abbrev Both : Term → Type 0
  Both t = Fits t → (Allowed table t → Keeps (encode t)) × ((vs : List ℕ) → Keeps (encode t ++ vs) → Allowed table t × Keeps vs)

  both_all :
      (ts : List Term) → AllByRecursion Both ts → AllByRecursion Fits ts →
      (AllByRecursion (Allowed table) ts → Keeps (encodes ts)) × ((vs : List ℕ) → Keeps (encodes ts ++ vs) → AllByRecursion (Allowed table) ts × Keeps vs)
  both_all [] a f = (λ h. tt, λ vs k. (tt, k))
  both_all (t ∷ ts) a f =
      let b = a.0 f.0 in
      let c = both_all ts a.1 f.1 in (
        λ h. All-append (λ w. word_rule (table_words table) w ≡ true) (encode t) (encodes ts) (b.0 h.0) (c.0 h.1),
        λ vs k.
            let p = b.1 (encodes ts ++ vs) (subst Keeps (append_assoc (encode t) (encodes ts) vs) k) in
            let q = c.1 vs p.1 in ((p.0, q.0), q.1),
      )

  both_step : (t : Term) → AllByRecursion Both (parts t) → Both t
  both_step t a f =
      let c = both_all (parts t) a (fits_parts t f).1 in (
        λ h. let p = allowed_parts t h in subst Keeps (sym (encode_is t)) (first_rule t f ∙ p.0, c.0 p.1),
        λ vs k.
            let p : Keeps (word_of (first_word t) ∷ (encodes (parts t) ++ vs)) = subst (λ l. Keeps (l ++ vs)) (encode_is t) k in
            let q = c.1 vs p.1 in (parts_allowed t (sym (first_rule t f) ∙ p.0) q.0, q.1),
      )

  pub allowed_keeps : (t : Term) → Fits t → Allowed table t → AllByRecursion (λ w. word_rule (table_words table) w ≡ true) (encode t)
  allowed_keeps t f = (by_parts Both both_step t f).0

  pub keeps_allowed : (t : Term) → Fits t → AllByRecursion (λ w. word_rule (table_words table) w ≡ true) (encode t) → Allowed table t
  keeps_allowed t f k = ((by_parts Both both_step t f).1 [] (subst Keeps (sym (append-nil (encode t))) k)).0
