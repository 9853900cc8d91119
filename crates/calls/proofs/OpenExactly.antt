-- Open accepts exactly the admitted programs whose term has room, and refuses every other for its reason.
use Rattle.std.proofs.Common.{◌≡◌, ℕ, ◌≤◌, Bool, true, false, cond, ◌||◌, eqb, ltb, leb, List, [], length, Ok, Err, Result, sym, refl, ap, ◌∙◌, subst, inl, inr}
use Rattle.std.proofs.lemmas.Bool.{ltb-true, ltb-false, le-ltb, le-leb, and_from, or_cases, or_parts, or_from, eqb-true, eqb-false, eq-eqb}
use Rattle.faults.specs.declared.Fault.{Fault}
use Rattle.faults.specs.declared.numbers.FaultNumber.TheVariants.{WorkShort, ImageLength, SpareLength, ImageFull}
use Rattle.faults.specs.Faults.{fault_of}
use Rattle.quantities.specs.Meaning.{Meaning, Lawful as Law}
use Rattle.calculus.specs.Terms.{Term}
use Rattle.calculus.specs.Configurations.{◌∣◌}
use Rattle.programs.specs.Tables.{table_words}
use Rattle.programs.specs.Reading.{Split, read_program}
use Rattle.programs.proofs.Programs as programs
use Rattle.encoding.specs.Encoding.{encode}
use Rattle.rules.specs.declared.model.Judged.{Judged}
use Rattle.admission.specs.Admission.{admit_answer}
use Rattle.admission.specs.Laws.{Admitted, Decides}
use Rattle.admission.proofs.Deciding.{decides}
use Rattle.image.specs.Images.{fewest_words, most_words, used}
use Rattle.calls.specs.States.{Status}
use Rattle.calls.specs.Entry.{allowed_length, on_length, on_spare}
use Rattle.calls.specs.Results.{term_read, term_if_admitted, on_room, admitted_term, open_term, open_from}
use Rattle.calls.specs.Refusals.{LengthAllowed, MemoryFits, OpenRefused, work_short, image_length, spare_length, not_program, untypable, image_full}
use Rattle.calls.specs.Soundness.{AdmittedWithRoom, OpensExactly}
use Rattle.calls.proofs.Entering.{length_tests, length_fails}
use Rattle.calls.proofs.Opening.{ok_err, own_term, term_of}

module _ (m : Meaning) (law : Law m) (program : List ℕ) (s n : ℕ) where
  -- the term of an admitted program
  admitted_is : 256 ≤ s → 256 ≤ n → (T Y : ℕ) (a : Admitted m program T Y) → admitted_term m program s n ≡ Ok a.term
  admitted_is hs hn T Y a =
      let e = ((decides m law program s n hs hn).accepts T Y).1 a in
      let q : Split = record { rows = table_words a.table; term = encode a.term } in
      let r : read_program m.bases program ≡ Ok q = (programs.accepted m.bases program q).1 (a.table, a.term, a.program, refl, refl) in
      ap (λ v. term_if_admitted v (term_read (read_program m.bases program))) e ∙ ap term_read r
      ∙ ap Ok (own_term a.term a.program.term_fits)

  module _ (len spare : ℕ) where
    -- where memory fits, it depends on the term alone
    fitting : MemoryFits s n len spare → open_term m program s n len spare ≡ on_room len (admitted_term m program s n)
    fitting f =
        let r = on_room len (admitted_term m program s n) in
        ap (λ b. cond b (Err (fault_of WorkShort 0)) (on_length len (on_spare spare len r)))
        (or_from (ltb s 256) (ltb n 256) (le-ltb s 256 f.scopes) (le-ltb n 256 f.judgements))
        ∙ ap (λ b. cond b (on_spare spare len r) (Err (fault_of ImageLength 0)))
        (and_from (leb fewest_words len) (leb len most_words) (le-leb fewest_words len f.allowed.0) (le-leb len most_words f.allowed.1))
        ∙ ap (λ b. cond b r (Err (fault_of SpareLength 0))) (eq-eqb spare len f.as_long)

    -- with room it is accepted
    with_room : MemoryFits s n len spare → (T Y : ℕ) (a : Admitted m program T Y) → used (a.term ∣ []) ≤ len →
        open_term m program s n len spare ≡ Ok a.term
    with_room f T Y a h =
        fitting f ∙ ap (on_room len) (admitted_is f.scopes f.judgements T Y a)
        ∙ ap (λ b. cond b (Err (fault_of ImageFull 0)) (Ok a.term)) (le-ltb len (used (a.term ∣ [])) h)

    -- why a program with memory that fits is refused
    refused_term : MemoryFits s n len spare → (f : Fault) → on_room len (admitted_term m program s n) ≡ Err f →
        OpenRefused m program s n len spare f
    refused_term k f h = by_verdict (admit_answer m program s n) refl h
      where
        D : Decides m program (admit_answer m program s n)
        D = decides m law program s n k.scopes k.judgements

        with_term : (T Y : ℕ) (a : Admitted m program T Y) → (b : Bool) → ltb len (used (a.term ∣ [])) ≡ b →
            cond b (Err (fault_of ImageFull 0)) (Ok a.term) ≡ Err f → OpenRefused m program s n len spare f
        with_term T Y a true e g =
            let i : fault_of ImageFull 0 ≡ f = cc in
            subst (λ x. OpenRefused m program s n len spare x) i (image_full k a (ltb-true len (used (a.term ∣ [])) e))
        with_term T Y a false e g = ok_err (sym g)

        by_verdict : (v : Result Judged Fault) → admit_answer m program s n ≡ v →
            on_room len (term_if_admitted v (term_read (read_program m.bases program))) ≡ Err f → OpenRefused m program s n len spare f
        by_verdict (Err g) e h =
            let i : g ≡ f = cc in
            elim (D.refuses f (e ∙ ap Err i)) [ inl x ↦ not_program k x | inr x ↦ untypable k x ]
        by_verdict (Ok j) e h =
            let a = (D.accepts j.row j.yields).0 e in
            let t : on_room len (Ok a.term) ≡ Err f =
            sym (ap (on_room len) (sym (ap (λ v. term_if_admitted v (term_read (read_program m.bases program))) e)
            ∙ admitted_is k.scopes k.judgements j.row j.yields a)) ∙ h in
            with_term j.row j.yields a (ltb len (used (a.term ∣ []))) refl t

    refused_open : (f : Fault) → open_term m program s n len spare ≡ Err f → OpenRefused m program s n len spare f
    refused_open f h = by_work (ltb s 256 || ltb n 256) refl h
      where
        same_fault : (g : Fault) → ◌≡◌ {A = Result Term Fault} (Err g) (Err f) → OpenRefused m program s n len spare g → OpenRefused m program s n len spare f
        same_fault g e o = let i : g ≡ f = cc in subst (λ x. OpenRefused m program s n len spare x) i o

        by_spare : 256 ≤ s → 256 ≤ n → LengthAllowed len → (b : Bool) → eqb spare len ≡ b →
            cond b (on_room len (admitted_term m program s n)) (Err (fault_of SpareLength 0)) ≡ Err f → OpenRefused m program s n len spare f
        by_spare hs hn a true e k =
            refused_term (record { scopes = hs; judgements = hn; allowed = a; as_long = eqb-true spare len e }) f k
        by_spare hs hn a false e k = same_fault (fault_of SpareLength 0) k (spare_length hs hn a (eqb-false spare len e))

        by_length : 256 ≤ s → 256 ≤ n → (b : Bool) → allowed_length len ≡ b →
            cond b (on_spare spare len (on_room len (admitted_term m program s n))) (Err (fault_of ImageLength 0)) ≡ Err f →
            OpenRefused m program s n len spare f
        by_length hs hn true e k = by_spare hs hn (length_tests len e) (eqb spare len) refl k
        by_length hs hn false e k = same_fault (fault_of ImageLength 0) k (image_length hs hn (length_fails len e))

        by_work : (b : Bool) → (ltb s 256 || ltb n 256) ≡ b →
            cond b (Err (fault_of WorkShort 0)) (on_length len (on_spare spare len (on_room len (admitted_term m program s n)))) ≡ Err f →
            OpenRefused m program s n len spare f
        by_work true e k =
            same_fault (fault_of WorkShort 0) k
            (work_short (elim (or_cases (ltb s 256) (ltb n 256) e) [ inl x ↦ inl (ltb-true s 256 x) | inr x ↦ inr (ltb-true n 256 x) ]))
        by_work false e k =
            let p = or_parts (ltb s 256) (ltb n 256) e in
            by_length (ltb-false s 256 p.0) (ltb-false n 256 p.1) (allowed_length len) refl k

  module _ (image : List ℕ) (spare : ℕ) where
    accepted_so : (r : Result Term Fault) → open_term m program s n (length image) spare ≡ r → (status : Status) →
        (open_from image r).answer ≡ Ok status → MemoryFits s n (length image) spare × AdmittedWithRoom m program (length image) status
    accepted_so (Err f) e status h = ok_err h
    accepted_so (Ok t) e status h = let k = term_of m law program s n image spare t e in (k.memory, k.with_room_for status cc)

    refused_so : (r : Result Term Fault) → open_term m program s n (length image) spare ≡ r → (f : Fault) → (open_from image r).answer ≡ Err f →
        OpenRefused m program s n (length image) spare f × ((open_from image r).image ≡ image)
    refused_so (Err g) e f h = let i : g ≡ f = cc in (refused_open (length image) spare f (e ∙ ap Err i), refl)
    refused_so (Ok t) e f h = ok_err (sym h)

    pub opens_exactly : OpensExactly m program s n image spare
    opens_exactly = record {
      accepts = λ status. (
        (λ h. accepted_so (open_term m program s n (length image) spare) refl status h),
        (λ k.
            let x = k.1 in
            ap (λ r. (open_from image r).answer) (with_room (length image) spare k.0 x.0 x.1 x.2 x.3) ∙ ap Ok (sym x.4)),
      );
      refuses = λ f h. refused_so (open_term m program s n (length image) spare) refl f h;
    }
