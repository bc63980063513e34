-- What a node gives over a merged list of items and barriers, from a state on.
use Rattle.std.specs.Prelude.{ℕ, Bool, true, false, List, [], ◌∷◌, ◌++◌, Option, Some, None}
use Rattle.kap_base.specs.declared.items.Effect.{Effect}
use Rattle.kap_base.specs.declared.items.Msg.{Msg}
use Rattle.kap_base.specs.declared.items.Msg.TheVariants as messages
use Rattle.kap_base.specs.declared.items.Stamp.{Stamp}
use Rattle.node_core.specs.Meaning.{Input, Move}
use Rattle.merge_node.specs.Merge.{Entry}
use Rattle.flow_cells.specs.Outs.{item_msgs}

-- the state, what was given out, with each barrier behind the items up to it, the effects, the last barrier with the
-- state there, and whether no item came since
pub record Run (S : Type 0) : Type 0 where
  pub state : S
  pub outs : List Msg
  pub effects : List Effect
  pub saved : S
  pub passed : Stamp
  pub clean : Bool

-- a load begins: the saved state is the state
abbrev pub begun : {S : Type 0} → S → Stamp → Run S
begun s passed = record { state = s; outs = []; effects = []; saved = s; passed = passed; clean = true }

module _ {S : Type 0} (step : S → Input → Move S) where
  -- an item is a step of the node, and goes on as what it gives; at a barrier the state is saved, and it goes on itself
  abbrev pub reacted : Run S → ℕ → Msg → Run S
  reacted r parent (messages.Item x) =
      let m = step r.state (parent, x) in
      record r {
        state = m.state;
        outs = r.outs ++ item_msgs m.given.items;
        effects = r.effects ++ m.given.effects;
        clean = false;
      }
  reacted r parent (messages.Barrier b) =
      record r { outs = r.outs ++ messages.Barrier b ∷ []; saved = r.state; passed = b; clean = true }

  -- the run goes on over a list of messages, one after the other
  abbrev pub run : Run S → List Entry → Run S
  run r [] = r
  run r (x ∷ xs) = run (reacted r x.0 x.1) xs

-- the items among messages, with their parents
abbrev pub inputs : List Entry → List Input
inputs [] = []
inputs ((k, messages.Item x) ∷ xs) = (k, x) ∷ inputs xs
inputs ((k, messages.Barrier b) ∷ xs) = inputs xs

-- what stands before the last barrier, if there is one
abbrev pub longer : ℕ → Msg → Option (List Entry) → Option (List Entry)
longer k m (Some l) = Some ((k, m) ∷ l)
longer k (messages.Item x) None = None
longer k (messages.Barrier b) None = Some []

-- what stands before the last barrier of a list, if it has one
abbrev pub before_last : List Entry → Option (List Entry)
before_last [] = None
before_last ((k, m) ∷ xs) = longer k m (before_last xs)
