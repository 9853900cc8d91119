-- The words of an admitted program's term.
use Rattle.std.proofs.Common.{◌≡◌, ℕ, suc, ◌≤◌, List, [], ◌∷◌, length, Some, None, Ok, Option, sym, refl, ap, ◌∙◌}
use Rattle.faults.specs.declared.Fault.{Fault}
use Rattle.quantities.specs.Meaning.{Meaning, Lawful as Law}
use Rattle.calculus.specs.Terms.{Term}
use Rattle.encoding.specs.Encoding.{encode, Fits}
use Rattle.programs.specs.Tables.{table_words}
use Rattle.programs.specs.Rows.{rows_fault}
use Rattle.programs.specs.Terms.{term_fault}
use Rattle.programs.specs.Reading.{Split, split, unless, checked, read_program}
use Rattle.programs.proofs.Programs as programs
use Rattle.rules.specs.declared.model.Judged.{Judged}
use Rattle.admission.specs.Admission.{admit_answer}
use Rattle.admission.proofs.Deciding.{decides}
use Rattle.calls.specs.Results.{term_read, term_if_admitted, admitted_term}
use Rattle.calls.proofs.Opening.{own_term}

-- what was read was parted
pub parted : (K : ℕ) (words : List ℕ) (s p : Split) → read_program K words ≡ Ok s → split K words ≡ Ok p → p ≡ s
parted K words s p e h =
    by (rows_fault K 0 [] p.rows) (term_fault p.rows (suc (length p.rows)) (1 ∷ []) p.term) (sym (ap (checked K) h) ∙ e)
  where
    by : (a b : Option Fault) → unless a (unless b (Ok p)) ≡ Ok s → p ≡ s
    by None None k = cc
    by None (Some f) k = cc
    by (Some f) b k = cc

module _ (m : Meaning) (law : Law m) (program : List ℕ) (s n : ℕ) (hs : 256 ≤ s) (hn : 256 ≤ n) where
  pub words_admitted : (j : Judged) → admit_answer m program s n ≡ Ok j → (p : Split) → split m.bases program ≡ Ok p →
      (t : Term) × (admitted_term m program s n ≡ Ok t) × Fits t × (p.term ≡ encode t)
  words_admitted j e p h =
      let a = ((decides m law program s n hs hn).accepts j.row j.yields).0 e in
      let P = a.program in
      let q : Split = record { rows = table_words a.table; term = encode a.term } in
      let r : read_program m.bases program ≡ Ok q = (programs.accepted m.bases program q).1 (a.table, a.term, P, refl, refl) in (
        a.term,
        ap (λ v. term_if_admitted v (term_read (read_program m.bases program))) e ∙ ap term_read r ∙ ap Ok (own_term a.term P.term_fits),
        P.term_fits,
        ap (λ x. x.term) (parted m.bases program q p r h),
      )
