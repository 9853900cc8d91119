-- An accepted open admits a program, and every history from there on is sound.
use Rattle.std.proofs.Common.{◌≡◌, ℕ, ◌≤◌, Bool, true, false, cond, ◌||◌, eqb, ltb, leb, List, [], length, get_or, Ok, Err, Result, sym, refl, ap, ◌∙◌, subst, append-nil, arith}
use Rattle.std.proofs.lemmas.Bool.{ltb-false, leb-true, eqb-true, and_parts, or_parts}
use Rattle.faults.specs.declared.Fault.{Fault}
use Rattle.faults.specs.declared.numbers.FaultNumber.TheVariants.{WorkShort, ImageLength, SpareLength, ImageFull}
use Rattle.faults.specs.Faults.{fault_of}
use Rattle.quantities.specs.Meaning.{Meaning, Lawful as Law}
use Rattle.calculus.specs.Terms.{Term, unit}
use Rattle.calculus.specs.Configurations.{◌∣◌}
use Rattle.calculus.proofs.Configured.{program_configured}
use Rattle.encoding.specs.Encoding.{encode, Fits}
use Rattle.encoding.proofs.Reading.{terms_in_encode}
use Rattle.programs.specs.Reading.{Split, read_program}
use Rattle.programs.proofs.Programs as programs
use Rattle.rules.specs.declared.model.Judged.{Judged}
use Rattle.admission.specs.Admission.{admit_answer}
use Rattle.admission.specs.Laws.{setting, Admitted}
use Rattle.admission.proofs.Deciding.{is_program, decides}
use Rattle.image.specs.Images.{fewest_words, most_words, used, image_of, Encodable, FitsLength, Image}
use Rattle.image.specs.Reading.{term_in}
use Rattle.image.proofs.Keeping.{image_is}
use Rattle.calls.specs.States.{Status, status_of}
use Rattle.calls.specs.Entry.{allowed_length, on_length, on_spare}
use Rattle.calls.specs.Results.{term_read, term_if_admitted, on_work, on_room, admitted_term, open_term, open_from}
use Rattle.calls.specs.Histories.{point}
use Rattle.calls.specs.Refusals.{MemoryFits}
use Rattle.calls.specs.Soundness.{SoundAfterOpen, OpenSound, AdmittedWithRoom}
use Rattle.calls.proofs.Sound.{sound_from}

-- no answer accepts and refuses
pub ok_err : {A B : Type 0} {a : A} {f : Fault} → ◌≡◌ {A = Result A Fault} (Err f) (Ok a) → B
ok_err e = cc

-- what each condition says where it lets an answer through
on_work_ok : {A : Type 0} (s n : ℕ) (r : Result A Fault) (a : A) → on_work s n r ≡ Ok a → (256 ≤ s) × (256 ≤ n) × (r ≡ Ok a)
on_work_ok {A} s n r a h = by (ltb s 256 || ltb n 256) refl h
  where
    by : (b : Bool) → (ltb s 256 || ltb n 256) ≡ b → cond b (Err (fault_of WorkShort 0)) r ≡ Ok a → (256 ≤ s) × (256 ≤ n) × (r ≡ Ok a)
    by true e k = ok_err k
    by false e k = let q = or_parts (ltb s 256) (ltb n 256) e in (ltb-false s 256 q.0, ltb-false n 256 q.1, k)

on_length_ok : {A : Type 0} (n : ℕ) (r : Result A Fault) (a : A) → on_length n r ≡ Ok a →
    (fewest_words ≤ n) × (n ≤ most_words) × (r ≡ Ok a)
on_length_ok {A} n r a h = by (allowed_length n) refl h
  where
    by : (b : Bool) → allowed_length n ≡ b → cond b r (Err (fault_of ImageLength 0)) ≡ Ok a → (fewest_words ≤ n) × (n ≤ most_words) × (r ≡ Ok a)
    by false e k = ok_err k
    by true e k =
        let q = and_parts (leb fewest_words n) (leb n most_words) e in (leb-true fewest_words n q.0, leb-true n most_words q.1, k)

on_spare_ok : {A : Type 0} (k n : ℕ) (r : Result A Fault) (a : A) → on_spare k n r ≡ Ok a → (k ≡ n) × (r ≡ Ok a)
on_spare_ok {A} k n r a h = by (eqb k n) refl h
  where
    by : (b : Bool) → eqb k n ≡ b → cond b r (Err (fault_of SpareLength 0)) ≡ Ok a → (k ≡ n) × (r ≡ Ok a)
    by true q e = (eqb-true k n q, e)
    by false q e = ok_err e

on_room_ok : (len : ℕ) (r : Result Term Fault) (t : Term) → on_room len r ≡ Ok t → (r ≡ Ok t) × (used (t ∣ []) ≤ len)
on_room_ok len (Err f) t h = ok_err h
on_room_ok len (Ok u) t h = by (ltb len (used (u ∣ []))) refl h
  where
    by : (b : Bool) → ltb len (used (u ∣ [])) ≡ b → cond b (Err (fault_of ImageFull 0)) (Ok u) ≡ Ok t →
        (◌≡◌ {A = Result Term Fault} (Ok u) (Ok t)) × (used (t ∣ []) ≤ len)
    by true e k = ok_err k
    by false e k =
        let i : u ≡ t = cc in (k, subst (λ (v : Term). used (v ∣ []) ≤ len) i (ltb-false len (used (u ∣ [])) e))

-- an admitted program, with its type and yield type, and its term
record Judging (v : Result Judged Fault) (r : Result Split Fault) (t : Term) : Type 0 where
  judged : Judged
  accepts : v ≡ Ok judged
  parts : Split
  reads : r ≡ Ok parts
  term_is : term_in parts.term ≡ t

judging : (v : Result Judged Fault) (r : Result Split Fault) (t : Term) → term_if_admitted v (term_read r) ≡ Ok t → Judging v r t
judging (Err f) r t h = ok_err h
judging (Ok j) (Err f) t h = ok_err h
judging (Ok j) (Ok p) t h = record { judged = j; accepts = refl; parts = p; reads = refl; term_is = cc }

-- the term in front of its own words
pub own_term : (t : Term) → Fits t → term_in (encode t) ≡ t
own_term t f = ap term_in (sym (append-nil (encode t))) ∙ ap (λ ts. get_or ts 0 unit) (terms_in_encode t f [])

module _ (m : Meaning) (law : Law m) (program : List ℕ) (s n : ℕ) (image : List ℕ) (spare : ℕ) where
  -- what is known once open accepts with a term
  module _ (t : Term) (h : open_term m program s n (length image) spare ≡ Ok t) where
    abbrev roomy : Result Term Fault
    roomy = on_room (length image) (admitted_term m program s n)

    work : (256 ≤ s) × (256 ≤ n) × (on_length (length image) (on_spare spare (length image) roomy) ≡ Ok t)
    work = on_work_ok s n (on_length (length image) (on_spare spare (length image) roomy)) t h

    lengths : (fewest_words ≤ length image) × (length image ≤ most_words) × (on_spare spare (length image) roomy ≡ Ok t)
    lengths = on_length_ok (length image) (on_spare spare (length image) roomy) t work.2

    room : (admitted_term m program s n ≡ Ok t) × (used (t ∣ []) ≤ length image)
    room = on_room_ok (length image) (admitted_term m program s n) t (on_spare_ok spare (length image) roomy t lengths.2).1

    verdict : Judging (admit_answer m program s n) (read_program m.bases program) t
    verdict = judging (admit_answer m program s n) (read_program m.bases program) t room.0

    admitted : Admitted m program verdict.judged.row verdict.judged.yields
    admitted = ((decides m law program s n work.0 work.1).accepts verdict.judged.row verdict.judged.yields).0 verdict.accepts

    -- the term is the program's
    term_is : admitted.term ≡ t
    term_is =
        let a = (programs.accepted m.bases program verdict.parts).0 verdict.reads in
        let one = programs.one_program m.bases program admitted.table a.0 admitted.term a.1 admitted.program a.2 in
        one.1 ∙ sym (own_term a.1 a.2.term_fits) ∙ ap term_in (sym a.4) ∙ verdict.term_is

    starts_with : Image (image_of (length image) (t ∣ [])) (admitted.term ∣ [])
    starts_with =
        let P = admitted.program in
        let l : Encodable (admitted.term ∣ []) = record {
          configured = program_configured admitted.term (is_program admitted.table admitted.term P.allowed);
          term_fits = P.term_fits;
          bindings_fit = tt;
        } in
        let f : FitsLength (length image) (admitted.term ∣ []) = record {
          low = lengths.0;
          high = lengths.1;
          few = omega arith;
          room = subst (λ (v : Term). used (v ∣ []) ≤ length image) (sym term_is) room.1;
        } in
        subst (λ (v : Term). Image (image_of (length image) (v ∣ [])) (admitted.term ∣ [])) term_is
        (image_is (length image) (admitted.term ∣ []) l f)

    opens : SoundAfterOpen m program s n (point (status_of t) (image_of (length image) (t ∣ [])))
    opens = record {
      type = verdict.judged.row;
      yields = verdict.judged.yields;
      answered = verdict.accepts;
      admitted = admitted;
      opened = starts_with;
      sound =
          sound_from (setting m admitted.table) (record { table_formed = admitted.program.table_formed; set_lawful = law })
          admitted.term (is_program admitted.table admitted.term admitted.program.allowed)
          verdict.judged.row verdict.judged.yields admitted.least.typed
          (point (status_of t) (image_of (length image) (t ∣ [])))
          (record { is_image = starts_with; status_is = ap status_of (sym term_is) });
    }

    -- memory fits, and the admitted term has room
    pub record Accepts : Type 0 where
      pub memory : MemoryFits s n (length image) spare
      pub with_room_for : (status : Status) → status_of t ≡ status → AdmittedWithRoom m program (length image) status

    pub term_of : Accepts
    term_of = record {
      memory = record {
        scopes = work.0;
        judgements = work.1;
        allowed = (lengths.0, lengths.1);
        as_long = (on_spare_ok spare (length image) roomy t lengths.2).0;
      };
      with_room_for = λ status e. (
        verdict.judged.row,
        verdict.judged.yields,
        admitted,
        subst (λ (v : Term). used (v ∣ []) ≤ length image) (sym term_is) room.1,
        sym e ∙ ap status_of (sym term_is),
      );
    }

  -- by what the conditions come to
  by_answer : (r : Result Term Fault) → open_term m program s n (length image) spare ≡ r →
      (status : Status) → (open_from image r).answer ≡ Ok status → SoundAfterOpen m program s n (point status (open_from image r).image)
  by_answer (Err f) e status h = ok_err h
  by_answer (Ok t) e status h =
      let i : status_of t ≡ status = cc in
      subst (λ (x : Status). SoundAfterOpen m program s n (point x (image_of (length image) (t ∣ [])))) i (opens t e)

  pub open_sound : OpenSound m program s n image spare
  open_sound = by_answer (open_term m program s n (length image) spare) refl
