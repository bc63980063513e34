-- What beginning a load does to a cell.
use Rattle.std.specs.Prelude.{◌≡◌, ⊤, Bool, List, [], ◌∷◌, ◌++◌, slice_index_or, slice_set}
use Rattle.std.specs.List.{AllZip}
use Rattle.kap_base.specs.declared.items.Msg.{Msg}
use Rattle.merge_node.specs.Merge.{Lists}
use Rattle.edge_queue.specs.Moves.{HeadLoads, TailLoads}
use Rattle.flow_cells.specs.declared.parts.OutEdge.{OutEdge}
use Rattle.flow_cells.specs.declared.parts.InEdge.{InEdge}
use Rattle.flow_cells.specs.declared.parts.CellParts.{CellParts}
use Rattle.flow_cells.specs.Kept.{gathered}

-- an input whose load begins
pub record InLoads (a b : InEdge) : Type 0 where
  pub head : HeadLoads a.head b.head
  pub from : b.from ≡ a.from
  pub out : b.out ≡ a.out

-- an out whose load begins; more may wait there
pub record OutLoads (a b : OutEdge) : Type 0 where
  pub tail : TailLoads a.tail b.tail
  pub child : b.child ≡ a.child
  pub input : b.input ≡ a.input

-- nothing waits to be sent
abbrev pub NothingWaits : OutEdge → Type 0
NothingWaits o = o.unsent ≡ []

-- a load has points and barriers for streams alone
abbrev pub IsOwn : List InEdge → List Msg → Type 0
IsOwn [] source = ⊤
IsOwn (e ∷ ins) source = source ≡ []

-- the points and barriers of a load behind what the first parent has
abbrev pub with_source : List Msg → Lists → Lists
with_source source ls = slice_set ls 0 (slice_index_or ls 0 [] ++ source)

-- the load of a cell begins in the state in which it is; whether it is to keep the state at each barrier is said with
-- the load
pub record Begins {N : Type 0} (msgs : List Msg) (keeps : Bool) (c d : CellParts N) : Type 0 where
  pub source : d.source.value.items ≡ msgs
  pub node : d.base.value.node ≡ c.core.node
  pub passed : d.base.value.passed ≡ c.core.passed
  pub kept : d.base.value.keeps ≡ keeps
  pub ins : AllZip InLoads c.ins.items d.ins.items
  pub outs : AllZip OutLoads c.core.outs.items d.core.outs.items
  pub gathered : gathered d.core.gathered ≡ []
  pub spent : d.spent ≡ c.spent
