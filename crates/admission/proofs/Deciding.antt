-- What admit answers decides whether a program has a type.
use Rattle.std.proofs.Common.{◌≡◌, ℕ, suc, ◌≤◌, ◌⊎◌, List, [], ◌∷◌, ◌++◌, length, drop, Ok, Err, Result, sym, refl, ap, subst, ◌∙◌, inl, inr, append-nil, arith}
use Rattle.std.proofs.lemmas.List.{drop_at}
use Rattle.faults.specs.declared.Fault.{Fault}
use Rattle.quantities.specs.Meaning.{Meaning, Lawful}
use Rattle.calculus.specs.Terms.{Term, unit, variable, abstraction, coroutine, application, yield, start, resume, snapshot, fix, atom, operation, instance, resumption, suspension, Program}
use Rattle.calculus.specs.Rows.{Row, WellFormed}
use Rattle.encoding.specs.Encoding.{encode}
use Rattle.programs.specs.Tables.{table_words}
use Rattle.programs.specs.Programs.{Allowed, ProgramWords}
use Rattle.programs.specs.Reading.{Split, read_program}
use Rattle.programs.proofs.Programs as programs
use Rattle.rules.specs.Rules.{Verdict, accepted}
use Rattle.judging.specs.Verdicts.{verdict}
use Rattle.judging.proofs.Typings.{typings}
use Rattle.judging.proofs.Located.{located}
use Rattle.typing.specs.Machine.{run}
use Rattle.typing.proofs.Runs.{run_term}
use Rattle.admission.specs.Admission.{checked_parts, admit_answer}
use Rattle.admission.specs.Laws.{setting, Admitted, Untypable, Decides}
use Rattle.admission.proofs.Answered.{roomy}

-- what keeps the rules of programs is a program term
pub is_program : (table : List Row) (t : Term) → Allowed table t → Program t
is_program table unit a = tt
is_program table (variable n) a = tt
is_program table (abstraction x r b) a = is_program table b a.1
is_program table (coroutine x r b) a = is_program table b a.1
is_program table (application f b) a = (is_program table f a.0, is_program table b a.1)
is_program table (yield t) a = is_program table t a
is_program table (start i f b) a = (is_program table f a.1, is_program table b a.2)
is_program table (resume b c d e) a =
    (is_program table b a.0, is_program table c a.1, is_program table d a.2, is_program table e a.3)
is_program table (snapshot t) a = is_program table t a
is_program table (fix t) a = is_program table t a
is_program table (atom k p) a = tt
is_program table (operation o b c) a = (is_program table b a.0, is_program table c a.1)
is_program table (instance l r) a = a
is_program table (resumption l b c d e) a = a
is_program table (suspension b c) a = a

as_long : (table : List Row) → length (table_words table) ≡ length table
as_long [] = refl
as_long (r ∷ rs) = ap suc (as_long rs)

-- a program that was read: its table and term, and what the check says of them
module _ (m : Meaning) (L : Lawful m) (words : List ℕ) (s n : ℕ) (hs : 256 ≤ s) (hn : 256 ≤ n) where
  record Read (p : Split) : Type 0 where
    table : List Row
    term : Term
    program : ProgramWords m.bases words table term
    says : checked_parts m words s n (Ok p) ≡ verdict m (table_words table) [] (suc (length table)) term

  said :
      (p : Split) (table : List Row) (t : Term) → ProgramWords m.bases words table t → p.rows ≡ table_words table →
      checked_parts m words s n (Ok p) ≡ verdict m (table_words table) [] (suc (length table)) t
  said p table t P e =
      let l : length p.rows ≡ length table = ap length e ∙ as_long table in
      let rest : drop (suc (length table)) words ≡ encode t ++ [] =
      ap (drop (suc (length table))) P.words_are ∙ drop_at (table_words table) (encode t) (length table) (as_long table)
      ∙ sym (append-nil (encode t))
      in
      ap (λ k. run m p.rows s n (suc k) [] [] (drop (suc k) words)) l
      ∙ ap (λ r. run m r s n (suc (length table)) [] [] (drop (suc (length table)) words)) e
      ∙ ap (run m (table_words table) s n (suc (length table)) [] []) rest
      ∙ run_term m (table_words table) s n t P.term_fits (suc (length table)) [] (omega (arith, P.shallow)) (omega (arith, P.shallow))

  read : (p : Split) → read_program m.bases words ≡ Ok p → Read p
  read p e =
      let a = (programs.accepted m.bases words p).0 e in
      record { table = a.0; term = a.1; program = a.2; says = said p a.0 a.1 a.2 a.3 }

  formed : (table : List Row) (t : Term) → ProgramWords m.bases words table t → WellFormed (setting m table)
  formed table t P = record { table_formed = P.table_formed; set_lawful = L }

  -- the check of what was read, by what was read
  accepts_at :
      (r : Result Split Fault) → read_program m.bases words ≡ r → (T Y : ℕ) → checked_parts m words s n r ≡ accepted T Y →
      Admitted m words T Y
  accepts_at (Err f) e T Y h = let z : ◌≡◌ {A = ℕ} 0 1 = cc in absurd (omega arith)
  accepts_at (Ok p) e T Y h =
      let R = read p e in
      let P = R.program in
      record {
        table = R.table;
        term = R.term;
        program = P;
        least =
            ((typings (setting m R.table) (formed R.table R.term P) P.rows_fit (suc (length R.table)) R.term
            (is_program R.table R.term P.allowed)).0 T Y).0 (sym R.says ∙ h);
      }

  refuses_at :
      (r : Result Split Fault) → read_program m.bases words ≡ r → (f : Fault) → checked_parts m words s n r ≡ Err f →
      (read_program m.bases words ≡ Err f) ⊎ Untypable m words f
  refuses_at (Err g) e f h = let i : g ≡ f = cc in inl (e ∙ ap Err i)
  refuses_at (Ok p) e f h =
      let R = read p e in
      let P = R.program in
      inr
      (record {
        table = R.table;
        term = R.term;
        program = P;
        located =
            located (setting m R.table) (formed R.table R.term P) P.rows_fit (suc (length R.table)) R.term
            (is_program R.table R.term P.allowed) f (sym R.says ∙ h);
      })

  admitted_so : (T Y : ℕ) → Admitted m words T Y → admit_answer m words s n ≡ accepted T Y
  admitted_so T Y A =
      let table = A.table in
      let t = A.term in
      let P = A.program in
      let p : Split = record { rows = table_words table; term = encode t } in
      let e : read_program m.bases words ≡ Ok p = (programs.accepted m.bases words p).1 (table, t, P, refl, refl) in
      sym (roomy m words s n hs hn) ∙ ap (checked_parts m words s n) e ∙ said p table t P refl
      ∙ ((typings (setting m table) (formed table t P) P.rows_fit (suc (length table)) t (is_program table t P.allowed)).0 T Y).1 A.least

  pub decides : Decides m words (admit_answer m words s n)
  decides =
      record {
        accepts = λ T Y.
            ((λ h. accepts_at (read_program m.bases words) refl T Y (roomy m words s n hs hn ∙ h)), admitted_so T Y);
        refuses = λ f h. refuses_at (read_program m.bases words) refl f (roomy m words s n hs hn ∙ h);
      }

-- and so does an answer that is the same
pub decided :
    (m : Meaning) → Lawful m → (words : List ℕ) (s n : ℕ) (v : Verdict) → v ≡ admit_answer m words s n → 256 ≤ s → 256 ≤ n → Decides m words v
decided m L words s n v e hs hn = subst (λ (v : Verdict). Decides m words v) (sym e) (decides m L words s n hs hn)
