-- What the code holds of a script, as the reader of scripts holds it.
use Rattle.std.specs.Prelude.{◌≡◌, ◌⊎◌, ◌+◌, List, [], ◌∷◌, Result, Ok, Err}
use Rattle.tick_parser.specs.declared.fault.ParseFault.{ParseFault}
use Rattle.tick_parser.specs.declared.fault.ParseFault.TheVariants.{NoMemory}
use Rattle.tick_parser.specs.declared.script.Chain.{Chain}
use Rattle.tick_parser.specs.declared.script.Stmt.{Stmt}
use Rattle.tick_parser.specs.declared.state.Call.{Call}
use Rattle.tick_parser.specs.declared.state.Nesting.{Nesting}
use Rattle.tick_parser.specs.declared.state.Context.{Context}
use Rattle.tick_parser.specs.declared.state.Context.TheVariants.{Variable, Argument}
use Rattle.tick_parser.specs.declared.state.State.{State}
use Rattle.tick_parser.specs.declared.state.State.TheVariants.{Between, VarRead, NameRead, DbRead, DotRead, ValueNext, MinusRead, ValueRead, InLambda, ChainRead, LinkRead, CallRead, ParenRead}
use Rattle.tick_parser.specs.Trees.{joints_tree, script_tree, val_tree, vals_tree}
use Rattle.tick_parser.specs.Stack.{lambda_of, IsCountedLambda}
use Rattle.tick_parser.specs.Machine as machine

-- a chain of which more may come
abbrev pub chain_of : Chain → machine.Chain
chain_of chain = record { head = chain.head; links = joints_tree chain.links; at = chain.at }

-- a node or a property whose arguments come
abbrev pub call_of : Call → machine.Call
call_of call = record { node = call.node; name = call.name; at = call.at }

-- where a value stands
abbrev pub context_of : Context → machine.Context
context_of (Variable name at) = machine.Variable name at
context_of (Argument chain call args) = machine.Argument (chain_of chain) (call_of call) (vals_tree args)

-- the last on top
abbrev pub contexts_onto : List Context → List machine.Context → List machine.Context
contexts_onto [] onto = onto
contexts_onto (context ∷ contexts) onto = contexts_onto contexts (context_of context ∷ onto)

-- where the chain stands, the innermost first
abbrev pub contexts_of : Nesting → List machine.Context
contexts_of open_chain = contexts_onto open_chain.stack.items []

-- the code's count of open parentheses is right, behind a part of a chain
abbrev pub IsCounted : Nesting → Type 0
IsCounted open_chain = open_chain.count ≡ machine.opens (contexts_of open_chain)

-- and where a value stands in this context
abbrev pub IsCountedAt : Nesting → Context → Type 0
IsCountedAt open_chain context =
    open_chain.count ≡ machine.opens (contexts_of open_chain) + machine.opens_context (context_of context)

-- what the code holds, as a state of the reader of scripts
abbrev pub state_of : State → machine.State
state_of (Between done) = machine.Between (script_tree done.items)
state_of (VarRead done at) = machine.VarRead (script_tree done.items) at
state_of (NameRead done name at) = machine.NameRead (script_tree done.items) name at
state_of (DbRead done db at) = machine.DbRead (script_tree done.items) db at
state_of (DotRead done db at) = machine.DotRead (script_tree done.items) db at
state_of (ValueNext o context) = machine.ValueNext (script_tree o.done.items) (contexts_of o) (context_of context)
state_of (MinusRead o context at) = machine.MinusRead (script_tree o.done.items) (contexts_of o) (context_of context) at
state_of (ValueRead o context v) =
    machine.ValueRead (script_tree o.done.items) (contexts_of o) (context_of context) (val_tree v)
state_of (InLambda o context at lambda) =
    machine.InLambda (script_tree o.done.items) (contexts_of o) (context_of context) at (lambda_of lambda)
state_of (ChainRead o chain) = machine.ChainRead (script_tree o.done.items) (contexts_of o) (chain_of chain)
state_of (LinkRead o chain node) = machine.LinkRead (script_tree o.done.items) (contexts_of o) (chain_of chain) node
state_of (CallRead o chain call) =
    machine.CallRead (script_tree o.done.items) (contexts_of o) (chain_of chain) (call_of call)
state_of (ParenRead o chain call) =
    machine.ParenRead (script_tree o.done.items) (contexts_of o) (chain_of chain) (call_of call)

-- the code's count of open parentheses is right in this state
abbrev pub IsCountedState : State → Type 0
IsCountedState (ValueNext o context) = IsCountedAt o context
IsCountedState (MinusRead o context at) = IsCountedAt o context
IsCountedState (ValueRead o context v) = IsCountedAt o context
IsCountedState (InLambda o context at lambda) = IsCountedAt o context × IsCountedLambda lambda
IsCountedState (ChainRead o chain) = IsCounted o
IsCountedState (LinkRead o chain node) = IsCounted o
IsCountedState (CallRead o chain call) = IsCounted o
IsCountedState (ParenRead o chain call) = o.count ≡ machine.opens (contexts_of o) + 1
IsCountedState _ = Unit {0}

-- the code goes where the reader goes, or it has stopped with this fault
abbrev pub Moves : Result State ParseFault → machine.State → Type 0
Moves (Ok state) to = (state_of state ≡ to) × IsCountedState state
Moves (Err fault) to = (fault ≡ NoMemory) ⊎ (to ≡ machine.Stopped fault)

-- the script is the reader's, or it refuses with this fault
abbrev pub Finishes : Result (List Stmt) ParseFault → machine.Answer → Type 0
Finishes (Ok script) answer = answer ≡ machine.Got (script_tree script)
Finishes (Err fault) answer = (fault ≡ NoMemory) ⊎ (answer ≡ machine.Refuses fault)
