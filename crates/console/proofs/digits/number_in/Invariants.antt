use Rattle.std.proofs.Common.{◌≡◌, ◌≤◌, drop}
use Rattle.console.specs.Digits.{number_from}
use Rattle.console.proofs.digits.number_in.Given as goal

abbrev pub invariant-loop-byte : goal.invariant-loop-byte
invariant-loop-byte l =
    (number_from l.base l.limit l.value (drop l.byte-index l.text) ≡ number_from l.base l.limit 0 l.text) × (l.value ≤ l.limit)
