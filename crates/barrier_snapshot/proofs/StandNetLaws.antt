-- Where the lives of nets stand that are made, loaded, captured and restored.
use Rattle.std.proofs.Common.{◌≡◌, ℕ, ◌-◌, ◌<◌, ◌≤◌, List, [], ◌∷◌, ◌++◌, length, map, Some, sym, ap, subst, ◌∙◌}
use Rattle.std.specs.Prelude.{slice_get}
use Rattle.std.specs.List.{AllByRecursion as Each, AllZip}
use Rattle.kap_base.specs.Points.{PointValue}
use Rattle.kap_base.specs.declared.items.Msg.{Msg}
use Rattle.kap_base.specs.declared.items.Msg.TheVariants as messages
use Rattle.kap_base.specs.declared.items.Stamp.{Stamp}
use Rattle.node_core.specs.declared.node.Node.{Ghosts}
use Rattle.node_core.specs.Cut.{IsStamped}
use Rattle.node_core.specs.Meaning.{Input, fold, given}
use Rattle.state_code.specs.Spelling.{IsSpelling}
use Rattle.merge_node.specs.Merge.{IsClosedBy, barriers}
use Rattle.flow_cells.specs.declared.parts.CellParts.{CellParts}
use Rattle.flow_life.specs.Loads.{plan_now}
use Rattle.flow_life.specs.Nodes.{specs_of}
use Rattle.flow_life.proofs.PlaceLaws.{each-get, each-of, found-same}
use Rattle.flow_life.proofs.StreamLaws.{beside, get-map}
use Rattle.flow_life.specs.Streams.{plans_of}
use Rattle.flow_core.specs.Making.{AreLivesOf, IsLifeBehind}
use Rattle.flow_core.proofs.MessageLaws.{barriers-append, messages_barriers, messages_closed, messages_rise}
use Rattle.flow_core.specs.Messages.{AreMarksOf, load_messages, marked, stamped_up_to}
use Rattle.flow_core.specs.Nets.{IsLifeIn, IsResting, NetValue, NumberedLife}
use Rattle.task_run.specs.Plans.{PlanValue}
use Rattle.barrier_snapshot.specs.Barriers.{IsCaptureAt, WasAt, cells_in}
use Rattle.barrier_snapshot.specs.Loading.{IsSameLife}
use Rattle.barrier_snapshot.specs.Restoring.{Restores}
use Rattle.barrier_snapshot.specs.Resuming.{AreLoadedWith, HasReached, IsAlike, IsPlannedAgain, IsReached, StandsBehind}
use Rattle.barrier_snapshot.proofs.MessageCutLaws.{none-below}
use Rattle.barrier_snapshot.proofs.PlaceLaws.{Before, before_it, other_at, same_at, same_lengths, same_maps, zip_lengths, zip_of}
use Rattle.barrier_snapshot.proofs.ResumeLaws.{loaded_parents}
use Rattle.barrier_snapshot.proofs.ResumeNetLaws.{Again, all-again, many-again, planned-specs, specs-nodes, were-at}
use Rattle.barrier_snapshot.proofs.SavedLaws.{restored_were}
use Rattle.barrier_snapshot.proofs.StandLaws.{rested_clean, rested_passed, rested_reached, rested_state, run_reached}

module _ {N P S : Type 0} (g : Ghosts N P S) where
  -- ---- what is planned again

  -- a life of a plan is planned again by a plan of the same life
  pub begun_planned : (stamp : ℕ) (first plan : PlanValue N) (l : NumberedLife N) → IsLifeBehind g stamp first l → IsSameLife g.spec first plan → IsPlannedAgain g l plan
  begun_planned stamp first plan l is same = record {
    specs = same.specs ∙ ap (map g.spec) (sym is.nodes) ∙ sym (specs-nodes g l.life.cells);
    parents = same.parents ∙ sym is.parents;
  }

  -- and so lives of plans
  pub made_planned : (first plans : List (PlanValue N)) (lives : List (NumberedLife N)) → AreLivesOf g first lives → AllZip (IsSameLife g.spec) first plans → AllZip (IsPlannedAgain g) lives plans
  made_planned [] [] [] are same = tt
  made_planned [] [] (l ∷ lives) are same = absurd are
  made_planned [] (p ∷ plans) lives are same = absurd same
  made_planned (f ∷ first) [] lives are same = absurd same
  made_planned (f ∷ first) (p ∷ plans) [] are same = absurd are
  made_planned (f ∷ first) (p ∷ plans) (l ∷ lives) are same = (begun_planned 0 f p l are.0 same.0, made_planned first plans lives are.1 same.1)

  -- and stay so in a load
  pub loaded_planned : (msgs : List Msg) (plans : List (PlanValue N)) (before after : List (NumberedLife N)) → AllZip (IsPlannedAgain g) before plans → AreLoadedWith g msgs before after → AllZip (IsPlannedAgain g) after plans
  loaded_planned msgs plans before after planned go =
      let now = λ (l : NumberedLife N). map (plan_now g msgs) l.life.cells in
      let then = λ (l : NumberedLife N). plans_of g l.life.cells in
      let specs = λ (l : NumberedLife N). specs_of g l.life.cells in
      zip_of (IsPlannedAgain g) after plans (same_lengths then now after before go.plans ∙ zip_lengths (IsPlannedAgain g) before plans planned)
      (λ i l p at at'.
      let b = other_at then now after before go.plans i l at in
      let o = beside (IsPlannedAgain g) before plans i b.x b.at planned in
      let h : IsPlannedAgain g b.x p = subst (IsPlannedAgain g b.x) (found-same (slice_get plans i) o.other p o.at at') o.fact in
      record {
        specs = h.specs ∙ sym (same_at specs specs after before go.specs i l b.x at b.at);
        parents = h.parents ∙ sym (loaded_parents g msgs b.x.life.cells l.life.cells (sym b.is));
      })

  module _ (folds : (p : P) (xs : List Input) → (fold (g.step p) (g.first p) xs).given ≡ given (g.answer p) xs)
      (stamped : (p : P) (before : List Input) (x : Input) → IsStamped (g.life p) (g.number p) x.1.stamp.0 (g.answer p before x)) where
    -- ---- at rest behind a load

    -- lives at rest behind a load stand behind its last barrier
    pub rested_stand : (stamp : ℕ) (points : List PointValue) (last : Stamp) (marks : List Stamp) (before after : List (NumberedLife N)) → length points ≤ last.0 → Each (StandsBehind g stamp) before
        → AreLoadedWith g (load_messages points last marks) before after → Each IsResting after → Each (StandsBehind g last.0) after
    rested_stand stamp points last marks before after fits stands go quiet =
        let msgs = load_messages points last marks in
        let front = marked (stamped_up_to last points) marks in
        let now = λ (l : NumberedLife N). map (plan_now g msgs) l.life.cells in
        let then = λ (l : NumberedLife N). plans_of g l.life.cells in
        let specs = λ (l : NumberedLife N). specs_of g l.life.cells in
        let closed : IsClosedBy (barriers front ++ last ∷ []) msgs = record { barriers = barriers-append front (messages.Barrier last ∷ []); closed = messages_closed points last marks } in
        let rises = messages_rise points last marks fits in
        each-of (StandsBehind g last.0) after (λ i l at.
        let b = other_at then now after before go.plans i l at in
        let stand = each-get (StandsBehind g stamp) before i b.x b.at stands in
        let same = same_at specs specs after before go.specs i l b.x at b.at in
        let life = each-get (IsLifeIn g) after i l at go.lives in
        let still = each-get IsResting after i l at quiet in
        record {
          reached = rested_reached g folds stamped msgs (barriers front) last closed rises b.x.life.cells l.life.cells stand.reached same (sym b.is) life still;
          passed = rested_passed g folds stamped msgs (barriers front) last closed rises b.x.life.cells l.life.cells stand.reached same (sym b.is) life still;
          clean = rested_clean g folds stamped msgs (barriers front) last closed rises b.x.life.cells l.life.cells stand.reached same (sym b.is) life still;
        })

    -- ---- what is restored

    module _ (spelled : (p : P) → IsSpelling (g.fits p) (g.spell p) (g.read p)) (upto : Stamp) (plans : List (PlanValue N)) (there : Stamp) (bytes : List ℕ) (stopped : List (NumberedLife N)) (restored : NetValue N)
        (capture : IsCaptureAt g upto (cells_in stopped) bytes) (planned : AllZip (IsPlannedAgain g) stopped plans) (restores : Restores g plans there bytes restored) where
      again : AllZip (Again g) stopped restored.lives
      again = all-again g there.0 stopped plans restores.loaded restored.lives planned restores.are.same restores.lives

      were : AllZip (λ l m. AllZip (WasAt g upto) l.life.cells (map (λ c. g.state c.core.node) m.life.cells)) stopped restored.lives
      were = were-at g (WasAt g upto) stopped restored.lives (many-again g stopped restored.lives again) (restored_were g spelled upto (cells_in stopped) bytes plans there restored (planned-specs g stopped plans planned) capture restores)

      -- a life that was restored, beside the one that was stopped
      record Beside (l m : NumberedLife N) : Type 0 where
        same : Again g l m
        was : (j : ℕ) (c d : CellParts N) → slice_get l.life.cells j ≡ Some c → slice_get m.life.cells j ≡ Some d → WasAt g upto c (g.state d.core.node)

      beside-it : (i : ℕ) (l m : NumberedLife N) → slice_get stopped i ≡ Some l → slice_get restored.lives i ≡ Some m → Beside l m
      beside-it i l m at at' =
          let a = beside (Again g) stopped restored.lives i l at again in
          let w = beside (λ x y. AllZip (WasAt g upto) x.life.cells (map (λ c. g.state c.core.node) y.life.cells)) stopped restored.lives i l at were in
          let zip : AllZip (WasAt g upto) l.life.cells (map (λ c. g.state c.core.node) m.life.cells) =
          subst (λ (o : NumberedLife N). AllZip (WasAt g upto) l.life.cells (map (λ c. g.state c.core.node) o.life.cells)) (found-same (slice_get restored.lives i) w.other m w.at at') w.fact in
          record {
            same = subst (Again g l) (found-same (slice_get restored.lives i) a.other m a.at at') a.fact;
            was = λ j c d here there.
                let states = map (λ x. g.state x.core.node) m.life.cells in
                let o = beside (WasAt g upto) l.life.cells states j c here zip in
                subst (WasAt g upto c) (found-same (slice_get states j) o.other (g.state d.core.node) o.at (get-map (λ x. g.state x.core.node) m.life.cells j d there)) o.fact;
          }

      counts : length stopped ≡ length restored.lives
      counts = zip_lengths (Again g) stopped restored.lives again

      -- lives that are restored of a net whose nodes are in states that inputs make stand behind the barrier at which it is restored
      pub restored_stand : (stamp : ℕ) (msgs : List Msg) (before : List (NumberedLife N)) → Each (StandsBehind g stamp) before → AreLoadedWith g msgs before stopped → Each (StandsBehind g there.0) restored.lives
      restored_stand stamp msgs before stands go =
          let now = λ (l : NumberedLife N). map (plan_now g msgs) l.life.cells in
          let then = λ (l : NumberedLife N). plans_of g l.life.cells in
          let specs = λ (l : NumberedLife N). specs_of g l.life.cells in
          each-of (StandsBehind g there.0) restored.lives (λ i m at.
          let l = left-of i m at in
          let s = l.other in
          let h = beside-it i s m l.at at in
          let b = other_at then now stopped before go.plans i s l.at in
          let stand = each-get (StandsBehind g stamp) before i b.x b.at stands in
          let made = before_it (IsLifeBehind g there.0) restores.loaded restored.lives i m at restores.lives in
          record {
            reached = each-of (HasReached g) m.life.cells (λ j d here.
                let c = other_at (λ x. g.spec x.core.node) (λ x. g.spec x.core.node) m.life.cells s.life.cells h.same.specs j d here in
                let was = h.was j c.x d c.at here in
                let r : IsReached g (g.spec c.x.core.node) (g.state d.core.node) =
                subst (IsReached g (g.spec c.x.core.node)) (sym was.is)
                (run_reached g msgs b.x.life.cells s.life.cells stand.reached (same_at specs specs stopped before go.specs i s b.x l.at b.at) (sym b.is) j c.x was.before c.at) in
                subst (λ (p : P). IsReached g p (g.state d.core.node)) c.is r);
            passed = made.fact.passed;
            clean = made.fact.clean;
          })
        where
          left-of : (i : ℕ) (m : NumberedLife N) → slice_get restored.lives i ≡ Some m → Before (Again g) stopped i m
          left-of i m at = before_it (Again g) stopped restored.lives i m at again

      -- where the net was at rest behind its last barrier, they are alike
      pub captured_alike : (stamp : ℕ) (points : List PointValue) (marks : List Stamp) (before : List (NumberedLife N)) → stamp < upto.0 → length points ≤ upto.0 → AreMarksOf points upto marks
          → Each (StandsBehind g stamp) before → AreLoadedWith g (load_messages points upto marks) before stopped → Each IsResting stopped → AllZip (IsAlike g) stopped restored.lives
      captured_alike stamp points marks before above fits marked_is stands go quiet =
          let msgs = load_messages points upto marks in
          let now = λ (l : NumberedLife N). map (plan_now g msgs) l.life.cells in
          let then = λ (l : NumberedLife N). plans_of g l.life.cells in
          let specs = λ (l : NumberedLife N). specs_of g l.life.cells in
          let closed : IsClosedBy (marks ++ upto ∷ []) msgs = record { barriers = messages_barriers points upto marks fits marked_is; closed = messages_closed points upto marks } in
          let rises = messages_rise points upto marks fits in
          zip_of (IsAlike g) stopped restored.lives counts (λ i l m at at'.
          let h = beside-it i l m at at' in
          let b = other_at then now stopped before go.plans i l at in
          let stand = each-get (StandsBehind g stamp) before i b.x b.at stands in
          let life = each-get (IsLifeIn g) stopped i l at go.lives in
          let still = each-get IsResting stopped i l at quiet in
          record {
            specs = h.same.specs;
            parents = h.same.parents;
            states = same_maps (λ c. g.state c.core.node) (λ c. g.state c.core.node) m.life.cells l.life.cells
                (same_lengths (λ c. g.spec c.core.node) (λ c. g.spec c.core.node) m.life.cells l.life.cells h.same.specs)
                (λ j d c there here.
                rested_state g folds stamped msgs marks upto closed rises b.x.life.cells l.life.cells stand.reached (same_at specs specs stopped before go.specs i l b.x at b.at) (sym b.is) life still
                (none-below (upto.0 - length points) marks upto marked_is) stamp above stand.passed j c (g.state d.core.node) here (h.was j c d here there));
          })
