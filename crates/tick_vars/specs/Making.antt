-- What functions inside the crate give, beside the definitions.
use Rattle.std.specs.Prelude.{◌≡◌, ◌≢◌, List, Result, Ok, Err}
use Rattle.tick_vars.specs.declared.binder.Binder.{Binder}
use Rattle.tick_vars.specs.declared.fault.VarFault.{VarFault}
use Rattle.tick_vars.specs.declared.fault.VarFault.TheVariants.{NoMemory}
use Rattle.tick_vars.specs.declared.nodes.RawNode.{RawNode}
use Rattle.tick_vars.specs.Nodes.{node_trees}
use Rattle.tick_vars.specs.Names.{scope_of}
use Rattle.tick_vars.specs.Binding.{WithNodes, Progress}

-- The answer, as definitions see it, is what the definition gives, its value or its fault, unless memory ran out.
abbrev pub Gives : {A B : Type 0} → (A → B) → Result A VarFault → Result B VarFault → Type 0
Gives seen (Ok x) due = due ≡ Ok (seen x)
Gives seen (Err fault) due = fault ≢ NoMemory → due ≡ Err fault

-- a value, as definitions see it, beside the nodes behind it
abbrev pub made_with : {A B : Type 0} → (A → B) → List RawNode → A → WithNodes B
made_with seen nodes x = record { value = seen x; nodes = node_trees nodes }

-- what a binder has made
abbrev pub made_by : Binder → Progress
made_by binder =
    record { scope = scope_of binder.names; nodes = node_trees binder.nodes.items; dbrps = binder.dbrps.items }
