use Rattle.flow_cells.specs.Promises.{run_state, run_effects, run_items, run_saved, run_barrier}
use Rattle.flow_cells.proofs.laws.runs_are_folds.Goals as goal

pub returns : goal.returns
returns g c = record {
  state = λ p r xs. run_state (g.N.Node.step p) r xs;
  effects = λ p r xs. run_effects (g.N.Node.step p) r xs;
  items = λ p r xs. run_items (g.N.Node.step p) r xs;
  saved = λ p r xs. run_saved (g.N.Node.step p) r xs;
  barriers = λ p r xs k b. run_barrier (g.N.Node.step p) r xs k b;
}
