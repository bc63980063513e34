-- What nodes do from states that inputs make.
use Rattle.std.proofs.Common.{◌≡◌, ℕ, List, [], ◌∷◌, ◌++◌, sym, ap, subst, ◌∙◌, arith}
use Rattle.kap_base.specs.declared.items.Stamp.{Stamp}
use Rattle.node_core.specs.declared.node.Node.{Ghosts}
use Rattle.node_core.specs.Cut.{IsStamped}
use Rattle.node_core.specs.Meaning.{Given, Input, Move, fold, given, given_after}
use Rattle.merge_node.specs.Merge.{AreOrdered, Entry, RisesFrom}
use Rattle.merge_node.proofs.RankLaws.{AllAbove}
use Rattle.flow_cells.specs.Promises.{run_effects, run_state}
use Rattle.flow_cells.specs.Runs.{begun, inputs, run}
use Rattle.task_run.specs.GivenLaws.{after_from, after_up_to}
use Rattle.task_run.specs.MoreLaws.{fold-append}
use Rattle.task_run.specs.Stamps.{StampsFrom, StampsUpTo, of_effect, of_input}
use Rattle.flow_life.specs.Streams.{Plan, run_from}
use Rattle.flow_core.proofs.RunLaws.{given_behind, run_said, said_rises}
use Rattle.barrier_snapshot.specs.Resuming.{IsReached}

above-zero : (es : List Entry) → AllAbove 0 es
above-zero [] = tt
above-zero (e ∷ es) = (omega arith, above-zero es)

module _ {N P S : Type 0} (g : Ghosts N P S) where
  -- a run from such a state ends in one
  pub reached_run : (p : P) (s : S) (passed : Stamp) (xs : List Entry) → IsReached g p s → IsReached g p (run (g.step p) (begun s passed) xs).state
  reached_run p s passed xs r = record {
    inputs = r.inputs ++ inputs xs;
    is = run_state (g.step p) (begun s passed) xs
        ∙ ap (λ (q : S). (fold (g.step p) q (inputs xs)).state) r.is
        ∙ ap (λ (m : Move S). m.state) (sym (fold-append (g.step p) (g.first p) r.inputs (inputs xs)));
  }

  module _ (folds : (p : P) (xs : List Input) → (fold (g.step p) (g.first p) xs).given ≡ given (g.answer p) xs)
      (stamped : (p : P) (before : List Input) (x : Input) → IsStamped (g.life p) (g.number p) x.1.stamp.0 (g.answer p before x)) where
    -- what is given out over a list in order is in order
    pub reached_rises : (p : P) (s : S) (passed : Stamp) (xs : List Entry) → IsReached g p s → AreOrdered xs → RisesFrom 0 (run (g.step p) (begun s passed) xs).outs
    reached_rises p s passed xs r ordered =
        subst (RisesFrom 0) (sym (run_said (g.step p) (begun s passed) xs))
        (said_rises (g.step p) (g.life p) (g.number p) (g.answer p) (stamped p) (g.first p) (folds p) 0 r.inputs s xs r.is (above-zero xs) ordered)

    effects-are : (p : P) (s : S) (passed : Stamp) (xs : List Entry) → (r : IsReached g p s) → (run (g.step p) (begun s passed) xs).effects ≡ (given_after (g.answer p) r.inputs (inputs xs)).effects
    effects-are p s passed xs r =
        run_effects (g.step p) (begun s passed) xs
        ∙ ap (λ (q : S). (fold (g.step p) q (inputs xs)).given.effects) r.is
        ∙ ap (λ (v : Given). v.effects) (given_behind (g.step p) (g.first p) (g.answer p) (folds p) r.inputs (inputs xs))

    -- effects have no higher stamp than the inputs
    pub reached_low : (p : P) (s : S) (passed : Stamp) (n : ℕ) (xs : List Entry) → IsReached g p s → StampsUpTo of_input n (inputs xs) → StampsUpTo of_effect n (run (g.step p) (begun s passed) xs).effects
    reached_low p s passed n xs r low =
        subst (StampsUpTo of_effect n) (sym (effects-are p s passed xs r)) (after_up_to (g.life p) (g.number p) (g.answer p) (stamped p) n r.inputs (inputs xs) low).effects

    -- and no lower one
    pub reached_high : (p : P) (s : S) (passed : Stamp) (n : ℕ) (xs : List Entry) → IsReached g p s → StampsFrom of_input n (inputs xs) → StampsFrom of_effect n (run (g.step p) (begun s passed) xs).effects
    reached_high p s passed n xs r high =
        subst (StampsFrom of_effect n) (sym (effects-are p s passed xs r)) (after_from (g.life p) (g.number p) (g.answer p) (stamped p) n r.inputs (inputs xs) high).effects

  -- ---- what is planned of a node

  -- a plan of a node in such a state
  pub record IsPlanReached (p : Plan S) : Type 0 where
    pub spec : P
    pub step : p.step ≡ g.step spec
    pub reached : IsReached g spec p.start

  -- the node goes on from where it was behind some entries
  pub plan_on : (p q : Plan S) (xs : List Entry) → IsPlanReached p → q.step ≡ p.step → q.start ≡ (run_from p xs).state → IsPlanReached q
  plan_on p q xs r step start = record {
    spec = r.spec;
    step = step ∙ r.step;
    reached = subst (IsReached g r.spec) (sym (start ∙ ap (λ (f : S → Input → Move S). (run f (begun p.start p.passed) xs).state) r.step)) (reached_run r.spec p.start p.passed xs r.reached);
  }

  module _ (folds : (p : P) (xs : List Input) → (fold (g.step p) (g.first p) xs).given ≡ given (g.answer p) xs)
      (stamped : (p : P) (before : List Input) (x : Input) → IsStamped (g.life p) (g.number p) x.1.stamp.0 (g.answer p before x)) where
    pub plan_rises : (p : Plan S) (xs : List Entry) → IsPlanReached p → AreOrdered xs → RisesFrom 0 (run_from p xs).outs
    plan_rises p xs r ordered =
        subst (λ (f : S → Input → Move S). RisesFrom 0 (run f (begun p.start p.passed) xs).outs) (sym r.step) (reached_rises folds stamped r.spec p.start p.passed xs r.reached ordered)

    pub plan_low : (p : Plan S) (n : ℕ) (xs : List Entry) → IsPlanReached p → StampsUpTo of_input n (inputs xs) → StampsUpTo of_effect n (run_from p xs).effects
    plan_low p n xs r low =
        subst (λ (f : S → Input → Move S). StampsUpTo of_effect n (run f (begun p.start p.passed) xs).effects) (sym r.step) (reached_low folds stamped r.spec p.start p.passed n xs r.reached low)

    pub plan_high : (p : Plan S) (n : ℕ) (xs : List Entry) → IsPlanReached p → StampsFrom of_input n (inputs xs) → StampsFrom of_effect n (run_from p xs).effects
    plan_high p n xs r high =
        subst (λ (f : S → Input → Move S). StampsFrom of_effect n (run f (begun p.start p.passed) xs).effects) (sym r.step) (reached_high folds stamped r.spec p.start p.passed n xs r.reached high)
