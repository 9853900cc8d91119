use Rattle.std.proofs.Common.{◌≡◌, suc, ◌+◌, [], ◌∷◌, length, drop}
use Rattle.stack.specs.Entries.{entries}
use Rattle.programs.specs.Terms.{term_fault}
use Rattle.form.proofs.term.check_term.Given as goal

abbrev pub invariant-loop-i : goal.invariant-loop-i
invariant-loop-i l =
    (length l.due.slots.now ≡ 257)
    × (l.due.slots.ghost_name ≡ l.initial.due.slots.ghost_name)
    × (term_fault l.rows (l.i + suc (length l.rows)) (entries l.due.slots.now l.due.len) (drop l.i l.term)
    ≡ term_fault l.rows (suc (length l.rows)) (1 ∷ []) l.term)
