-- The outs of a cell: what waits there, and what sending does.
use Rattle.std.specs.Prelude.{◌≡◌, ◌⊎◌, Bool, List, [], ◌∷◌, ◌++◌, map, is_some, slice_get}
use Rattle.std.specs.List.{list_any}
use Rattle.kap_base.specs.declared.items.Item.{Item}
use Rattle.kap_base.specs.declared.items.Msg.{Msg}
use Rattle.kap_base.specs.declared.items.Msg.TheVariants as messages
use Rattle.edge_queue.specs.Edges.{free}
use Rattle.edge_queue.specs.Moves.{Puts, TailLooked}
use Rattle.flow_cells.specs.declared.parts.OutEdge.{OutEdge}

-- items as messages
abbrev pub item_msgs : List Item → List Msg
item_msgs items = map (λ x. messages.Item x) items

-- an out at which more messages wait
abbrev pub with_unsent : List Msg → OutEdge → OutEdge
with_unsent ms o = record o { unsent = o.unsent ++ ms }

-- a message waits at some out
abbrev pub has_unsent : List OutEdge → Bool
has_unsent outs = list_any (λ o. is_some (slice_get o.unsent 0)) outs

-- the first message that waited was put on the edge
pub record SendsOn (a b : OutEdge) : Type 0 where
  pub msg : Msg
  pub put : Puts msg a.tail b.tail
  pub unsent : a.unsent ≡ msg ∷ b.unsent
  pub child : b.child ≡ a.child
  pub input : b.input ≡ a.input

-- nothing was put: nothing waits, or the tail knows of no free place
pub record LooksOn (a b : OutEdge) : Type 0 where
  pub tail : TailLooked a.tail b.tail
  pub unsent : b.unsent ≡ a.unsent
  pub child : b.child ≡ a.child
  pub input : b.input ≡ a.input
  pub why : (a.unsent ≡ []) ⊎ (free b.tail ≡ 0)
