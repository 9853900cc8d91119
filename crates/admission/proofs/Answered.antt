-- What admit answers where the lists are long enough.
use Rattle.std.proofs.Common.{◌≡◌, ℕ, suc, ◌≤◌, cond, ltb, List, [], length, drop, Ok, Err, sym, ap, ◌∙◌}
use Rattle.std.proofs.lemmas.Bool.{le-ltb, or_from}
use Rattle.faults.specs.declared.numbers.FaultNumber.TheVariants.{WorkShort}
use Rattle.faults.specs.Faults.{fault_of}
use Rattle.quantities.specs.Meaning.{Meaning}
use Rattle.programs.specs.Reading.{Split, read_program}
use Rattle.typing.specs.Machine.{run}
use Rattle.admission.specs.Admission.{checked_parts, admit_answer}

-- with room in both lists it is what the check says of what was read
pub roomy :
    (m : Meaning) (words : List ℕ) (s n : ℕ) → 256 ≤ s → 256 ≤ n →
    checked_parts m words s n (read_program m.bases words) ≡ admit_answer m words s n
roomy m words s n hs hn =
    sym
    (ap (λ b. cond b (Err (fault_of WorkShort 0)) (checked_parts m words s n (read_program m.bases words)))
    (or_from (ltb s 256) (ltb n 256) (le-ltb s 256 hs) (le-ltb n 256 hn)))

-- of parts that were read
pub of_parts :
    (m : Meaning) (words : List ℕ) (s n : ℕ) (p : Split) → 256 ≤ s → 256 ≤ n → Ok p ≡ read_program m.bases words → (k a b : ℕ) →
    k ≡ suc (length p.rows) → a ≡ s → b ≡ n → run m p.rows a b k [] [] (drop k words) ≡ admit_answer m words s n
of_parts m words s n p hs hn r k a b e f g =
    ap (λ i. run m p.rows a b i [] [] (drop i words)) e
    ∙ ap (λ i. run m p.rows i b (suc (length p.rows)) [] [] (drop (suc (length p.rows)) words)) f
    ∙ ap (λ i. run m p.rows s i (suc (length p.rows)) [] [] (drop (suc (length p.rows)) words)) g
    ∙ ap (checked_parts m words s n) r ∙ roomy m words s n hs hn
