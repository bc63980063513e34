-- What a node answers that loads a state.
use Rattle.std.specs.Prelude.{◌≡◌, Result, Ok, Err}
use Rattle.state_code.specs.declared.fault.CodeFault.{CodeFault}
use Rattle.state_code.specs.declared.fault.CodeFault.TheVariants.{At, NoMemory}
use Rattle.state_code.specs.Spelling.{Reading}
use Rattle.state_code.specs.Places.{Place, Passes, Refuses}

-- the state whose spelling stands at the place, exactly where one stands there; after a refusal nothing has changed
abbrev pub Loads : {S U : Type 0} → Reading S → Place → Place → S → S → Result U CodeFault → Type 0
Loads read old new before state (Ok u) = Passes read old new state
Loads read old new before state (Err (At offset)) = Refuses read old new offset × (state ≡ before)
Loads read old new before state (Err NoMemory) = (new ≡ old) × (state ≡ before)
