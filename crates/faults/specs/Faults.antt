-- The fault of a number at a place.
use Rattle.std.specs.Prelude.{ℕ}
use Rattle.faults.specs.declared.Fault.{Fault}
use Rattle.faults.specs.declared.numbers.FaultNumber.{FaultNumber}

abbrev pub fault_of : FaultNumber → ℕ → Fault
fault_of n p = record { number = n; place = p }
