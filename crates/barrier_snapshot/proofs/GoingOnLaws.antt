-- A cell has done behind a barrier what its node does from the state there on.
use Rattle.std.proofs.Common.{◌≡◌, List, ◌++◌, sym, ap, subst, ◌∙◌}
use Rattle.std.specs.List.{AllByRecursion as Each}
use Rattle.kap_base.specs.declared.items.Effect.{Effect}
use Rattle.kap_base.specs.declared.items.Msg.{Msg}
use Rattle.kap_base.specs.declared.items.Stamp.{Stamp}
use Rattle.node_core.specs.declared.node.Node.{Ghosts}
use Rattle.node_core.specs.Meaning.{Input, Move}
use Rattle.merge_node.specs.Merge.{Entry}
use Rattle.merge_node.proofs.BufferLaws.{merges-same}
use Rattle.flow_cells.specs.declared.parts.CellParts.{CellParts}
use Rattle.flow_cells.specs.HandledLaws.{run-append}
use Rattle.flow_cells.specs.Kept.{IsGiven, Keeps, run_of}
use Rattle.flow_cells.specs.Promises.{run_effects, run_state}
use Rattle.flow_cells.specs.Runs.{Run, begun, run}
use Rattle.flow_core.proofs.RunLaws.{run_said}
use Rattle.barrier_snapshot.specs.Barriers.{WasAt}
use Rattle.barrier_snapshot.specs.GoingOn.{HasGoneOn, run_on}

module _ {S : Type 0} (step : S → Input → Move S) where
  -- a run goes on as one that begins in its state
  pub state-on : (r : Run S) (passed : Stamp) (xs : List Entry) → (run step r xs).state ≡ (run step (begun r.state passed) xs).state
  state-on r passed xs = run_state step r xs ∙ sym (run_state step (begun r.state passed) xs)

  -- its effects are those before, and those of one that begins there
  pub effects-on : (r : Run S) (passed : Stamp) (xs : List Entry) → (run step r xs).effects ≡ r.effects ++ (run step (begun r.state passed) xs).effects
  effects-on r passed xs = run_effects step r xs ∙ ap (λ (es : List Effect). r.effects ++ es) (sym (run_effects step (begun r.state passed) xs))

  -- and so what it gives out
  pub outs-on : (r : Run S) (passed : Stamp) (xs : List Entry) → (run step r xs).outs ≡ r.outs ++ (run step (begun r.state passed) xs).outs
  outs-on r passed xs = run_said step r xs ∙ ap (λ (ms : List Msg). r.outs ++ ms) (sym (run_said step (begun r.state passed) xs))

module _ {N P S : Type 0} (g : Ghosts N P S) where
  pub gone_on : (upto passed : Stamp) (c : CellParts N) (s : S) → Keeps g c → (was : WasAt g upto c s) → HasGoneOn g upto passed c s was
  gone_on upto passed c s keeps was =
      let step = g.step (g.spec c.base.value.node) in
      let first = begun (g.state c.base.value.node) c.base.value.passed in
      let before = run_of g c.base.value was.before in
      let handled : keeps.handled ≡ was.before ++ was.after = merges-same keeps.merged keeps.stuck was.merged keeps.stuck in
      let split : run_of g c.base.value keeps.handled ≡ run step before was.after = ap (run_of g c.base.value) handled ∙ run-append step first was.before was.after in
      let here : (passed : Stamp) → run step (begun before.state passed) was.after ≡ run_on g c s passed was.after = λ p. ap (λ (t : S). run step (begun t p) was.after) (sym was.is) in
      record {
        state = keeps.at.state ∙ ap (λ (r : Run S). r.state) split ∙ state-on step before passed was.after ∙ ap (λ (r : Run S). r.state) (here passed);
        effects = keeps.at.effects ∙ ap (λ (r : Run S). r.effects) split ∙ effects-on step before passed was.after ∙ ap (λ (r : Run S). before.effects ++ r.effects) (here passed);
        given = subst (λ (ms : List Msg). Each (IsGiven ms) c.core.outs.items) (ap (λ (r : Run S). r.outs) split ∙ outs-on step before passed was.after ∙ ap (λ (r : Run S). before.outs ++ r.outs) (here passed)) keeps.at.outs;
      }
