-- A net that was restored from a capture of another one does what that one did behind the barrier.
use Rattle.std.proofs.Common.{◌≡◌, ℕ, suc, ◌+◌, ◌<◌, ◌≤◌, List, [], ◌∷◌, ◌++◌, length, ltb, map, refl, sym, ap, subst, ◌∙◌, arith}
use Rattle.std.specs.Prelude.{slice_get}
use Rattle.std.specs.List.{AllByRecursion as Each, AllZip}
use Rattle.std.proofs.lemmas.List.{map-append}
use Rattle.std.proofs.lemmas.List.Elements.{filter-append}
use Rattle.kap_base.specs.Points.{PointValue}
use Rattle.kap_base.specs.declared.items.Effect.{Effect}
use Rattle.kap_base.specs.declared.items.Stamp.{Stamp}
use Rattle.node_core.specs.declared.node.Node.{Ghosts}
use Rattle.node_core.specs.Cut.{IsStamped}
use Rattle.node_core.specs.Meaning.{Input, fold, given}
use Rattle.state_code.specs.Spelling.{IsSpelling}
use Rattle.flow_cells.specs.declared.parts.CellParts.{CellParts}
use Rattle.flow_life.specs.Loads.{plan_now}
use Rattle.flow_life.specs.Making.{nodes_of}
use Rattle.flow_life.specs.Nodes.{specs_of}
use Rattle.flow_life.proofs.PlaceLaws.{each-get, found-same}
use Rattle.flow_life.proofs.StreamLaws.{beside}
use Rattle.flow_life.specs.Streams.{plans_of}
use Rattle.flow_life.specs.Wired.{parents_of}
use Rattle.flow_core.specs.LifeLoads.{effects_since}
use Rattle.flow_core.specs.Making.{AreLivesBehind, IsLifeBehind}
use Rattle.flow_core.specs.Messages.{AreMarksOf, load_messages}
use Rattle.flow_core.specs.Nets.{IsLifeIn, IsResting, NetValue, NumberedLife}
use Rattle.flow_core.specs.Done.{effects_in, together}
use Rattle.task_run.specs.Plans.{PlanValue}
use Rattle.barrier_snapshot.specs.Barriers.{IsCaptureAt, WasAt, cells_in}
use Rattle.barrier_snapshot.specs.Captures.{in_lives}
use Rattle.barrier_snapshot.specs.Loading.{IsSameLife}
use Rattle.barrier_snapshot.specs.Restoring.{Restores}
use Rattle.barrier_snapshot.specs.Resuming.{AreLoadedWith, DidTheRest, DidTheRestOf, IsPlannedAgain, StandsBehind, effects_behind}
use Rattle.barrier_snapshot.proofs.MergeCutLaws.{IsCut}
use Rattle.barrier_snapshot.proofs.MessageCutLaws.{LoadCut, load_cut}
use Rattle.barrier_snapshot.proofs.PlaceLaws.{map_twice, other_at, same_at, same_lengths, zip_lengths, zip_of, zip_split}
use Rattle.barrier_snapshot.proofs.ResumeLaws.{cells_did_the_rest, loaded_parents}
use Rattle.barrier_snapshot.proofs.SavedLaws.{restored_were}

-- ---- effects, one list behind the other

behind-together : (upto : Stamp) (lists : List (List Effect)) → together (map (effects_behind upto) lists) ≡ effects_behind upto (together lists)
behind-together upto [] = refl
behind-together upto (es ∷ lists) =
    ap (λ (l : List Effect). effects_behind upto es ++ l) (behind-together upto lists)
    ∙ sym (filter-append (λ e. ltb upto.0 e.stamp.0) es (together lists))

module _ {N P S : Type 0} (g : Ghosts N P S) where
  effects-behind : (upto : Stamp) (whole rest : List (NumberedLife N)) → AllZip (DidTheRest g upto) whole rest → effects_in rest ≡ effects_behind upto (effects_in whole)
  effects-behind upto [] [] z = refl
  effects-behind upto [] (m ∷ rest) z = absurd z
  effects-behind upto (l ∷ whole) [] z = absurd z
  effects-behind upto (l ∷ whole) (m ∷ rest) z =
      ap (λ (es : List Effect). es ++ effects_in rest) (ap together z.0.effects ∙ behind-together upto (effects_since l.life.cells))
      ∙ ap (λ (es : List Effect). effects_behind upto (together (effects_since l.life.cells)) ++ es) (effects-behind upto whole rest z.1)
      ∙ sym (filter-append (λ e. ltb upto.0 e.stamp.0) (together (effects_since l.life.cells)) (effects_in whole))

  -- ---- the cells of lives

  -- as many cells in each life
  abbrev pub AsMany : NumberedLife N → NumberedLife N → Type 0
  AsMany l m = length l.life.cells ≡ length m.life.cells

  -- what relates all cells of lives to states relates those of each life
  pub were-at : (R : CellParts N → S → Type 0) (lives others : List (NumberedLife N)) → AllZip AsMany lives others → AllZip R (cells_in lives) (map (λ c. g.state c.core.node) (cells_in others))
      → AllZip (λ l m. AllZip R l.life.cells (map (λ c. g.state c.core.node) m.life.cells)) lives others
  were-at R [] [] many z = tt
  were-at R [] (m ∷ others) many z = absurd many
  were-at R (l ∷ lives) [] many z = absurd many
  were-at R (l ∷ lives) (m ∷ others) many z =
      let state = λ (c : CellParts N). g.state c.core.node in
      let first : length l.life.cells ≡ length (map state m.life.cells) = many.0 ∙ sym (count-map m.life.cells) in
      let parts = zip_split R l.life.cells (cells_in lives) (map state m.life.cells) (map state (cells_in others)) first
      (subst (λ (ss : List S). AllZip R (l.life.cells ++ cells_in lives) ss) (map-append state m.life.cells (cells_in others)) z) in
      (parts.0, were-at R lives others many.1 parts.1)
    where
      count-map : (cells : List (CellParts N)) → length (map (λ c. g.state c.core.node) cells) ≡ length cells
      count-map [] = refl
      count-map (c ∷ cells) = ap suc (count-map cells)

  pub planned-specs : (lives : List (NumberedLife N)) (plans : List (PlanValue N)) → AllZip (IsPlannedAgain g) lives plans → in_lives g.spec plans ≡ map (λ c. g.spec c.core.node) (cells_in lives)
  planned-specs [] [] z = refl
  planned-specs [] (p ∷ plans) z = absurd z
  planned-specs (l ∷ lives) [] z = absurd z
  planned-specs (l ∷ lives) (p ∷ plans) z =
      ap (λ (ps : List P). ps ++ in_lives g.spec plans) z.0.specs
      ∙ ap (λ (ps : List P). specs_of g l.life.cells ++ ps) (planned-specs lives plans z.1)
      ∙ sym (map-append (λ (c : CellParts N). g.spec c.core.node) l.life.cells (cells_in lives))

  pub specs-nodes : (cells : List (CellParts N)) → specs_of g cells ≡ map g.spec (nodes_of cells)
  specs-nodes cells = sym (map_twice g.spec (λ c. c.core.node) cells)

  -- ---- a life that was made again

  -- its nodes are those of the life that was stopped, with the same parents
  pub record Again (l m : NumberedLife N) : Type 0 where
    pub specs : specs_of g m.life.cells ≡ specs_of g l.life.cells
    pub parents : parents_of m.life.cells ≡ parents_of l.life.cells

  again : (stamp : ℕ) (l : NumberedLife N) (plan loaded : PlanValue N) (m : NumberedLife N) → IsPlannedAgain g l plan → IsSameLife g.spec plan loaded → IsLifeBehind g stamp loaded m → Again l m
  again stamp l plan loaded m planned same made = record {
    specs = specs-nodes m.life.cells ∙ ap (map g.spec) made.nodes ∙ same.specs ∙ planned.specs;
    parents = made.parents ∙ same.parents ∙ planned.parents;
  }

  -- and so of each of them
  pub all-again : (stamp : ℕ) (lives : List (NumberedLife N)) (plans loaded : List (PlanValue N)) (others : List (NumberedLife N)) → AllZip (IsPlannedAgain g) lives plans → AllZip (IsSameLife g.spec) plans loaded → AreLivesBehind g stamp loaded others → AllZip Again lives others
  all-again stamp lives plans loaded others planned same made =
      zip_of Again lives others
      (zip_lengths (IsPlannedAgain g) lives plans planned ∙ zip_lengths (IsSameLife g.spec) plans loaded same ∙ zip_lengths (IsLifeBehind g stamp) loaded others made)
      (λ i l m at at'.
      let p = beside (IsPlannedAgain g) lives plans i l at planned in
      let q = beside (IsSameLife g.spec) plans loaded i p.other p.at same in
      let o = beside (IsLifeBehind g stamp) loaded others i q.other q.at made in
      again stamp l p.other q.other m p.fact q.fact (subst (IsLifeBehind g stamp q.other) (found-same (slice_get others i) o.other m o.at at') o.fact))

  pub many-again : (lives others : List (NumberedLife N)) → AllZip Again lives others → AllZip AsMany lives others
  many-again [] [] z = tt
  many-again [] (m ∷ others) z = absurd z
  many-again (l ∷ lives) [] z = absurd z
  many-again (l ∷ lives) (m ∷ others) z =
      (sym (same_lengths (λ c. g.spec c.core.node) (λ c. g.spec c.core.node) m.life.cells l.life.cells z.0.specs), many-again lives others z.1)

  -- ---- nets

  module _ (folds : (p : P) (xs : List Input) → (fold (g.step p) (g.first p) xs).given ≡ given (g.answer p) xs)
      (stamped : (p : P) (before : List Input) (x : Input) → IsStamped (g.life p) (g.number p) x.1.stamp.0 (g.answer p before x))
      (spelled : (p : P) → IsSpelling (g.fits p) (g.spell p) (g.read p)) where
    pub did_the_rest : (stamp : ℕ) (points behind : List PointValue) (upto last : Stamp) (marks later : List Stamp) (plans : List (PlanValue N)) (there : Stamp) (bytes : List ℕ)
        (before stopped rested : List (NumberedLife N)) (restored : NetValue N) (resumed : List (NumberedLife N))
        → stamp + length (points ++ behind) ≤ last.0 → upto.0 + length behind ≡ last.0 → AreMarksOf (points ++ behind) last (marks ++ upto ∷ later)
        → Each (StandsBehind g stamp) before
        → AreLoadedWith g (load_messages (points ++ behind) last (marks ++ upto ∷ later)) before stopped
        → AreLoadedWith g (load_messages (points ++ behind) last (marks ++ upto ∷ later)) before rested → Each IsResting rested
        → IsCaptureAt g upto (cells_in stopped) bytes → AllZip (IsPlannedAgain g) stopped plans → Restores g plans there bytes restored
        → AreLoadedWith g (load_messages behind last later) restored.lives resumed → Each IsResting resumed
        → DidTheRestOf g upto rested resumed
    did_the_rest stamp points behind upto last marks later plans there bytes before stopped rested restored resumed fits end marked stands stop rest quiet capture planned restores go quiet' =
        let msgs = load_messages (points ++ behind) last (marks ++ upto ∷ later) in
        let back = load_messages behind last later in
        let bs = marks ++ upto ∷ [] in
        let cs = later ++ last ∷ [] in
        let c : LoadCut points behind upto last marks later = load_cut points behind upto last marks later (omega (arith, fits)) end marked in
        let source : IsCut bs cs msgs back = record { front = load_messages points upto marks; is = c.is; closed = c.front; rest = c.rest; rises = c.rises } in
        let over = c.above in
        let above : stamp < upto.0 = omega (arith, fits, over) in
        let all = all-again there.0 stopped plans restores.loaded restored.lives planned restores.are.same restores.lives in
        let were = were-at (WasAt g upto) stopped restored.lives (many-again stopped restored.lives all) (restored_were g spelled upto (cells_in stopped) bytes plans there restored (planned-specs stopped plans planned) capture restores) in
        let count : length rested ≡ length resumed =
        same_lengths (λ l. plans_of g l.life.cells) (λ l. map (plan_now g msgs) l.life.cells) rested before rest.plans
        ∙ sym (same_lengths (λ l. plans_of g l.life.cells) (λ l. map (plan_now g msgs) l.life.cells) stopped before stop.plans)
        ∙ zip_lengths (Again) stopped restored.lives all
        ∙ sym (same_lengths (λ l. plans_of g l.life.cells) (λ l. map (plan_now g back) l.life.cells) resumed restored.lives go.plans) in
        let lives : AllZip (DidTheRest g upto) rested resumed = zip_of (DidTheRest g upto) rested resumed count (λ i l m at at'.
        let b = other_at (λ x. plans_of g x.life.cells) (λ x. map (plan_now g msgs) x.life.cells) rested before rest.plans i l at in
        let s = other_at (λ x. map (plan_now g msgs) x.life.cells) (λ x. plans_of g x.life.cells) before stopped (sym stop.plans) i b.x b.at in
        let r = other_at (λ x. plans_of g x.life.cells) (λ x. map (plan_now g back) x.life.cells) resumed restored.lives go.plans i m at' in
        let a = beside Again stopped restored.lives i s.x s.at all in
        let w = beside (λ x y. AllZip (WasAt g upto) x.life.cells (map (λ d. g.state d.core.node) y.life.cells)) stopped restored.lives i s.x s.at were in
        let x = b.x.life.cells in
        let y = s.x.life.cells in
        let z = r.x.life.cells in
        let same_a : a.other ≡ r.x = found-same (slice_get restored.lives i) a.other r.x a.at r.at in
        let same_w : w.other ≡ r.x = found-same (slice_get restored.lives i) w.other r.x w.at r.at in
        let here : Again s.x r.x = subst (Again s.x) same_a a.fact in
        let was : AllZip (WasAt g upto) y (map (λ d. g.state d.core.node) z) = subst (λ (o : NumberedLife N). AllZip (WasAt g upto) y (map (λ d. g.state d.core.node) o.life.cells)) same_w w.fact in
        let stand = each-get (StandsBehind g stamp) before i b.x b.at stands in
        let specs : specs_of g z ≡ specs_of g x = here.specs ∙ same_at (λ o. specs_of g o.life.cells) (λ o. specs_of g o.life.cells) stopped before stop.specs i s.x b.x s.at b.at in
        let parents : parents_of z ≡ parents_of x = here.parents ∙ loaded_parents g msgs x y s.is in
        let life = each-get (IsLifeIn g) rested i l at rest.lives in
        let life_s = each-get (IsLifeIn g) stopped i s.x s.at stop.lives in
        let life_m = each-get (IsLifeIn g) resumed i m at' go.lives in
        let still = each-get IsResting rested i l at quiet in
        let still_m = each-get IsResting resumed i m at' quiet' in
        let did = cells_did_the_rest g folds stamped upto marks cs msgs back source c.none_before c.none_behind stamp above x y l.life.cells z m.life.cells stand.reached stand.passed s.is life_s (sym b.is) life still
        specs parents was (sym r.is) life_m still_m in
        record {
          alike = record {
            specs = same_at (λ o. specs_of g o.life.cells) (λ o. specs_of g o.life.cells) resumed restored.lives go.specs i m r.x at' r.at ∙ specs
                ∙ sym (same_at (λ o. specs_of g o.life.cells) (λ o. specs_of g o.life.cells) rested before rest.specs i l b.x at b.at);
            parents = did.parents;
            states = did.states;
          };
          effects = did.effects;
          edges = did.edges;
        }) in
        record { lives = lives; effects = effects-behind upto rested resumed lives }
