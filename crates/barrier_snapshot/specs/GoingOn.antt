-- What a cell has done behind a barrier, as a node does it that goes on from the state there.
use Rattle.std.specs.Prelude.{◌≡◌, ◌++◌, List}
use Rattle.std.specs.List.{AllByRecursion as Each}
use Rattle.kap_base.specs.declared.items.Stamp.{Stamp}
use Rattle.node_core.specs.declared.node.Node.{Ghosts}
use Rattle.merge_node.specs.Merge.{Entry}
use Rattle.flow_cells.specs.declared.parts.CellParts.{CellParts}
use Rattle.flow_cells.specs.Kept.{IsGiven, gathered, run_of}
use Rattle.flow_cells.specs.Runs.{Run, begun, run}
use Rattle.barrier_snapshot.specs.Barriers.{WasAt}

module _ {N P S : Type 0} (g : Ghosts N P S) where
  -- the run of a cell's node from a state on, over a list, where its last barrier has a stamp
  abbrev pub run_on : CellParts N → S → Stamp → List Entry → Run S
  run_on c s passed list = run (g.step (g.spec c.base.value.node)) (begun s passed) list

  -- The cell stands where its node stands that goes on from the state at the barrier, over what was handled behind it:
  -- its state, its effects, and what it gave out, behind those up to the barrier.
  pub record HasGoneOn (upto passed : Stamp) (c : CellParts N) (s : S) (was : WasAt g upto c s) : Type 0 where
    pub state : g.state c.core.node ≡ (run_on c s passed was.after).state
    pub effects : gathered c.core.gathered ++ c.core.effects ≡ (run_of g c.base.value was.before).effects
        ++ (run_on c s passed was.after).effects
    pub given : Each
        (IsGiven ((run_of g c.base.value was.before).outs ++ (run_on c s passed was.after).outs)) c.core.outs.items
