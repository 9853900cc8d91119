-- What the calls answer, as the code has it.
use Rattle.std.specs.Prelude.{ℕ, Ok, Err, Result}
use Rattle.faults.specs.declared.Fault.{Fault}
use Rattle.calls.specs.declared.states.Status.{Status}
use Rattle.calls.specs.Results.{Part}
use Rattle.engine.specs.declared.states.Going.{Going}
use Rattle.engine.specs.declared.states.Offering.{Offering}
use Rattle.engine.specs.declared.states.State.{State}
use Rattle.engine.specs.declared.answers.Ran.{Ran}
use Rattle.engine.specs.declared.answers.RunRefused.{RunRefused}
use Rattle.engine.specs.declared.answers.TakeRefused.{TakeRefused}
use Rattle.engine.specs.declared.answers.Shown.{Shown}
use Rattle.engine.specs.States.{state_of}

-- the state that open leaves, or the fault
abbrev pub opened : Result Status Fault → Result State Fault
opened (Ok s) = Ok (state_of s)
opened (Err f) = Err f

-- the steps made, with the next state, or with the fault and the state that was handed in
abbrev pub ran : Going → ℕ → Result Status Fault → Result Ran RunRefused
ran g made (Ok s) = Ok (record { made = made; state = state_of s })
ran g made (Err f) = Err (record { fault = f; made = made; state = g })

-- the next state, or the fault and the state that was handed in
abbrev pub taken : Offering → Result Status Fault → Result State TakeRefused
taken o (Ok s) = Ok (state_of s)
taken o (Err f) = Err (record { fault = f; state = o })

-- the part that is shown, or the fault
abbrev pub shown : Result Shown Fault → Result Part Fault
shown (Ok p) = Ok (record { place = p.place; words = p.words.now })
shown (Err f) = Err f
