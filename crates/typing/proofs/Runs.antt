-- The check over the words of a term answers the verdict on the term.
use Rattle.std.proofs.Common.{◌≡◌, ℕ, ◌+◌, ◌/◌, ◌%◌, ◌^◌, ◌<◌, ◌≤◌, max, Bool, true, false, cond, not, ◌||◌, ltb, List, [], ◌∷◌, ◌++◌, length, drop, Ok, Err, sym, refl, ap, ◌∙◌, append_assoc, arith}
use Rattle.std.specs.List.{AllByRecursion}
use Rattle.std.proofs.lemmas.Bool.{lt-ltb, ne_eqb, eq-eqb}
use Rattle.quantities.specs.Meaning.{Meaning}
use Rattle.rules.specs.declared.model.Judged.{Judged}
use Rattle.rules.specs.Rules.{Verdict}
use Rattle.rules.specs.Table.{shape_at, argument_of}
use Rattle.calculus.specs.Terms.{Term}
use Rattle.calculus.specs.Parts.{parts, size, sizes}
use Rattle.encoding.specs.Encoding.{encode, encodes, Fits, Stands}
use Rattle.encoding.specs.Depths.{depth, deepest}
use Rattle.encoding.specs.Scanning.{arity_of}
use Rattle.encoding.proofs.Parts.{encode_is, size_is, by_parts, fits_parts}
use Rattle.encoding.proofs.FirstWord.{first_of}
use Rattle.encoding.proofs.Depths.{depth_is}
use Rattle.encoding.proofs.Scanning.{arity_le}
use Rattle.encoding.proofs.Places.{stands_words}
use Rattle.judging.specs.Verdicts.{verdict, after}
use Rattle.typing.specs.declared.model.Scoped.{Scoped}
use Rattle.typing.specs.declared.model.Frame.{Frame}
use Rattle.typing.specs.Machine.{variables, scoped, fresh, added, is_full, is_binder, rule_of, entered, older, left, has_room, settle_on, short, resolve, run}
use Rattle.typing.specs.Machine.Turn.{go}
use Rattle.typing.proofs.Firsts.{head, judges, verdict_is}

all_map : {X : Type 0} (P Q : X → Type 0) → ((x : X) → P x → Q x) → (xs : List X) → AllByRecursion P xs → AllByRecursion Q xs
all_map P Q f [] a = tt
all_map P Q f (x ∷ xs) a = (f x a.0, all_map P Q f xs a.1)

-- no term of a list is deeper than the deepest
within_deepest : (ts : List Term) → AllByRecursion (λ p. depth p ≤ deepest ts) ts
within_deepest [] = tt
within_deepest (t ∷ ts) =
    (omega arith, all_map (λ p. depth p ≤ deepest ts) (λ p. depth p ≤ max (depth t) (deepest ts)) (λ p q. omega arith) ts (within_deepest ts))

-- after a word the scope is what it was before
leaves : (rows : List ℕ) (w : ℕ) (Γ : List Scoped) → left w (entered rows w Γ) ≡ Γ
leaves rows w Γ = by (is_binder w) (scoped (w % 2 ^ 12) (argument_of (shape_at rows (w / 2 ^ 12 % 2 ^ 9))))
  where
    by : (b : Bool) (x : Scoped) → cond b (older (cond b (x ∷ Γ) Γ)) (cond b (x ∷ Γ) Γ) ≡ Γ
    by true x = refl
    by false x = refl

-- a word brings one variable at most into scope
enters : (rows : List ℕ) (w : ℕ) (Γ : List Scoped) → length (entered rows w Γ) ≤ length Γ + 1
enters rows w Γ = by (is_binder w) (scoped (w % 2 ^ 12) (argument_of (shape_at rows (w / 2 ^ 12 % 2 ^ 9))))
  where
    by : (b : Bool) (x : Scoped) → length (cond b (x ∷ Γ) Γ) ≤ length Γ + 1
    by true x = omega arith
    by false x = omega arith

one_more : (e : Frame) (j : Judged) → e.done < 4 → (added e j).done ≡ e.done + 1
one_more e j h = rw (lt-ltb e.done 4 h)

more : (v : Verdict) (f g : Judged → Verdict) → ((j : Judged) → f j ≡ g j) → after v f ≡ after v g
more (Ok j) f g h = h j
more (Err x) f g h = refl

module _ (m : Meaning) (rows : List ℕ) where
  -- what comes of a verdict on a term, among the frames fs, where the check then goes on by k
  abbrev passed : Verdict → List Scoped → List Frame → (List Frame → List Scoped → Verdict) → Verdict
  passed v Γ [] k = v
  passed v Γ (f ∷ fs) k = after v λ j. resolve (settle_on m rows Γ (added f j) fs) k

  -- a frame whose parts are judged, after which the scope is Γ
  closes :
      (Γ Δ : List Scoped) (e : Frame) (v : Verdict) (fs : List Frame) (k : List Frame → List Scoped → Verdict) → is_full e ≡ true →
      rule_of m rows Δ e ≡ v → left e.word Δ ≡ Γ → resolve (settle_on m rows Δ e fs) k ≡ passed v Γ fs k
  closes Γ Δ e v [] k h r l = rw (h, r)
  closes Γ Δ e (Ok j) (f ∷ fs) k h r l = rw (h, r, l)
  closes Γ Δ e (Err x) (f ∷ fs) k h r l = rw (h, r)

  -- a frame that waits for a part
  waits : (Γ : List Scoped) (e : Frame) (fs : List Frame) → is_full e ≡ false → settle_on m rows Γ e fs ≡ go (e ∷ fs) Γ
  waits Γ e [] h = rw h
  waits Γ e (f ∷ fs) h = rw h

  through :
      (Γ : List Scoped) (fs : List Frame) (k : List Frame → List Scoped → Verdict) (v : Verdict) (p q : Judged → Verdict) →
      ((j : Judged) → p j ≡ passed (q j) Γ fs k) → after v p ≡ passed (after v q) Γ fs k
  through Γ fs k (Ok j) p q h = h j
  through Γ [] k (Err x) p q h = refl
  through Γ (f ∷ fs) k (Err x) p q h = refl

  -- the parts of a frame, and then its rule
  judges_close :
      (Γ Δ : List Scoped) (fs : List Frame) (k : List Frame → List Scoped → Verdict) (ts : List Term) (i : ℕ) (e : Frame) →
      e.done + length ts ≡ arity_of e.word → arity_of e.word ≤ 4 → left e.word Δ ≡ Γ →
      judges m rows Δ i e ts (λ x. resolve (settle_on m rows Δ x fs) k)
      ≡ passed (judges m rows Δ i e ts (λ x. rule_of m rows Δ x)) Γ fs k
  judges_close Γ Δ fs k [] i e c most l = closes Γ Δ e (rule_of m rows Δ e) fs k (eq-eqb _ _ (omega arith)) refl l
  judges_close Γ Δ fs k (t ∷ ts) i e c most l =
      through Γ fs k (verdict m rows (variables Δ) i t) _ _
      (λ j.
      let d = one_more e j (omega arith) in judges_close Γ Δ fs k ts (i + size t) (added e j) (omega arith) most l)

  module _ (s n : ℕ) where
    -- with room for its depth, the words of a term come to its verdict
    abbrev Runs : Term → Type 0
    Runs t =
        Fits t → (i : ℕ) (fs : List Frame) (Γ : List Scoped) (rest : List ℕ) → length fs + depth t ≤ n → length Γ + depth t ≤ s →
        run m rows s n i fs Γ (encode t ++ rest)
        ≡ passed (verdict m rows (variables Γ) i t) Γ fs (λ gs Δ. run m rows s n (i + size t) gs Δ rest)

    -- the parts of a frame, which is full when they are judged
    runs_all :
        (ts : List Term) → AllByRecursion Runs ts → AllByRecursion Fits ts → (i : ℕ) (e : Frame) (fs : List Frame) (Γ : List Scoped) (rest : List ℕ) →
        AllByRecursion (λ t. length fs + 1 + depth t ≤ n) ts → AllByRecursion (λ t. length Γ + depth t ≤ s) ts → e.done + length ts ≡ arity_of e.word →
        arity_of e.word ≤ 4 →
        resolve (settle_on m rows Γ e fs) (λ gs Δ. run m rows s n i gs Δ (encodes ts ++ rest))
        ≡ judges m rows Γ i e ts (λ x. resolve (settle_on m rows Γ x fs) (λ gs Δ. run m rows s n (i + sizes ts) gs Δ rest))
    runs_all [] a f i e fs Γ rest hn hs count most =
        let z : i ≡ i + 0 = omega arith in ap (λ p. resolve (settle_on m rows Γ e fs) (λ gs Δ. run m rows s n p gs Δ rest)) z
    runs_all (t ∷ ts) a f i e fs Γ rest hn hs count most =
        let l : i + size t + sizes ts ≡ i + (size t + sizes ts) = omega arith in
        let p = hn.0 in
        ap (λ x. resolve x (λ gs Δ. run m rows s n i gs Δ ((encode t ++ encodes ts) ++ rest)))
        (waits Γ e fs (ne_eqb _ _ (λ z. omega arith)))
        ∙ ap (λ ws. run m rows s n i (e ∷ fs) Γ ws) (append_assoc (encode t) (encodes ts) rest)
        ∙ a.0 f.0 i (e ∷ fs) Γ (encodes ts ++ rest) (omega arith) hs.0
        ∙ more (verdict m rows (variables Γ) i t) _ _
        (λ j.
        let d = one_more e j (omega arith) in
        runs_all ts a.1 f.1 (i + size t) (added e j) fs Γ rest hn.1 hs.1 (omega arith) most
        ∙ ap (λ q. judges m rows Γ (i + size t) (added e j) ts (λ x. resolve (settle_on m rows Γ x fs) (λ gs Δ. run m rows s n q gs Δ rest))) l)

    room_for : (w : ℕ) (Γ : List Scoped) → length Γ < s → has_room s w Γ ≡ true
    room_for w Γ h = by (not (is_binder w))
      where
        by : (b : Bool) → (b || ltb (length Γ) s) ≡ true
        by true = refl
        by false = lt-ltb (length Γ) s h

    runs_step : (t : Term) → AllByRecursion Runs (parts t) → Runs t
    runs_step t a f i fs Γ rest hn hs =
        let b = fits_parts t f in
        let d = within_deepest (parts t) in
        let o = depth_is t in
        let g = enters rows (head t) Γ in
        let c : 0 + length (parts t) ≡ arity_of (head t) = omega (arith, (first_of t b.0).counts) in
        let k : List Frame → List Scoped → Verdict = λ gs Δ. run m rows s n (i + 1 + sizes (parts t)) gs Δ rest in
        let l : i + 1 + sizes (parts t) ≡ i + size t = omega (arith, size_is t) in
        let next : Verdict =
        resolve (settle_on m rows (entered rows (head t) Γ) (fresh (head t) i) fs) λ gs Δ. run m rows s n (i + 1) gs Δ (encodes (parts t) ++ rest) in
        ap (λ ws. run m rows s n i fs Γ (ws ++ rest)) (encode_is t)
        ∙ ap (λ x. cond x (cond (ltb (length fs) n) next short) short) (room_for (head t) Γ (omega arith))
        ∙ ap (λ x. cond x next short) (lt-ltb (length fs) n (omega arith))
        ∙ runs_all (parts t) a b.1 (i + 1) (fresh (head t) i) fs (entered rows (head t) Γ) rest
        (all_map _ _ (λ p q. omega arith) (parts t) d) (all_map _ _ (λ p q. omega arith) (parts t) d) c (arity_le (head t))
        ∙ judges_close Γ (entered rows (head t) Γ) fs k (parts t) (i + 1) (fresh (head t) i) c (arity_le (head t)) (leaves rows (head t) Γ)
        ∙ ap (λ v. passed v Γ fs k) (sym (verdict_is m rows t b.0 Γ i))
        ∙ ap (λ q. passed (verdict m rows (variables Γ) i t) Γ fs (λ gs Δ. run m rows s n q gs Δ rest)) l

    runs : (t : Term) → Runs t
    runs = by_parts Runs runs_step

    -- what the check answers on a term's words
    pub run_term :
        (t : Term) → Fits t → (i : ℕ) (rest : List ℕ) → depth t ≤ n → depth t ≤ s →
        run m rows s n i [] [] (encode t ++ rest) ≡ verdict m rows [] i t
    run_term t f i rest hn hs = runs t f i [] [] rest (omega arith) (omega arith)

    -- and on words in which the term stands
    pub run_standing :
        (t : Term) (ws : List ℕ) (i : ℕ) → Stands t ws i → depth t ≤ n → depth t ≤ s →
        run m rows s n i [] [] (drop i ws) ≡ verdict m rows [] i t
    run_standing t ws i h hn hs =
        ap (run m rows s n i [] []) (stands_words t ws i h) ∙ run_term t h.0 i (drop (size t) (drop i ws)) hn hs

    -- the same of what it answered, where the lists have 256 entries or more
    pub on_standing :
        (ws : List ℕ) (i : ℕ) (v : Verdict) → v ≡ run m rows s n i [] [] (drop i ws) → (t : Term) → Stands t ws i → depth t ≤ 256 → 256 ≤ s →
        256 ≤ n → v ≡ verdict m rows [] i t
    on_standing ws i v e t h d hs hn = e ∙ run_standing t ws i h (omega arith) (omega arith)
