-- At a load each node of a graph gives, barriers aside, what it gives for more points.
use Rattle.std.proofs.Common.{◌≡◌, ℕ, suc, ◌≤◌, ◌<◌, List, [], ◌∷◌, ◌++◌, map, length, drop, refl, sym, ap, subst, ◌∙◌, append_assoc, length-append, arith}
use Rattle.std.specs.List.{AllByRecursion as Each, AllZip}
use Rattle.std.proofs.lemmas.List.{map-append}
use Rattle.kap_base.specs.declared.items.Effect.{Effect}
use Rattle.kap_base.specs.declared.items.Msg.{Msg}
use Rattle.kap_base.specs.declared.items.Stamp.{Stamp}
use Rattle.node_core.specs.Meaning.{Answer, Given, Input, Move, fold, given}
use Rattle.node_core.specs.Cut.{IsStamped}
use Rattle.task_run.specs.Merging.{merged}
use Rattle.task_run.specs.Graphs.{Placed, gives_behind, lists_of, node_gives, outs_of}
use Rattle.task_run.specs.Active.{Active, AreAt, placed}
use Rattle.task_run.specs.MoreLaws.{Part, olds, whole, wholes}
use Rattle.flow_core.specs.Loads.{Does, EndsIn, IsPlanOf}
use Rattle.flow_core.proofs.PortLaws.{head_same}
use Rattle.flow_core.proofs.SpanLaws.{Carries, carries-more, part, part-whole, run-is}
use Rattle.flow_life.specs.Graphs.{IsGraphFrom}
use Rattle.flow_life.specs.Streams.{IsStream, Plan}

module _ (n m : ℕ) (bs : List Stamp) (src : Part) (source : List Msg) (from : Carries n m bs src source)
    {P S : Type 0} (answer : P → Answer) (life number : P → ℕ) (stamped : (p : P) (before : List Input) (x : Input) → IsStamped (life p) (number p) x.1.stamp.0 (answer p before x))
    (first : P → S) (step : P → S → Input → Move S) (folds : (p : P) (xs : List Input) → (fold (step p) (first p) xs).given ≡ given (answer p) xs) (le : n ≤ m) where
  -- What a load made of nodes behind earlier ones: parts of what they gave and give, streams that carry these, effects, and states.
  pub record GraphRan (ts : List Part) (acts : List (Active P S)) (later : List (List Msg)) (effects : List (List Effect)) (after : List (Active P S)) : Type 0 where
    pub parts : List Part
    pub old : gives_behind answer n src.old.items (olds ts) (map placed acts) ≡ olds parts
    pub new : gives_behind answer m (whole src).items (wholes ts) (map placed acts) ≡ wholes parts
    pub carries : AllZip (Carries n m bs) parts later
    pub does : effects ≡ map (λ t. t.more.effects) parts
    pub at : AreAt answer first step m (whole src).items (wholes ts) after

  -- the state that new points make of a node
  abbrev state-of : List Part → Placed P → S
  state-of ts d = (fold (step d.spec) (first d.spec) (merged m (lists_of (whole src).items (outs_of (wholes ts)) d.parents))).state

  pub graph_ran : (k : ℕ) (ts : List Part) (ss : List (List Msg)) (acts : List (Active P S)) (plans : List (Plan S)) (later : List (List Msg)) (effects : List (List Effect)) (after : List (Active P S))
      → k ≡ length ts → AllZip (Carries n m bs) ts ss → IsGraphFrom k plans
      → AreAt answer first step n src.old.items (olds ts) acts
      → AllZip (IsPlanOf step source) acts plans
      → AllZip (IsStream (ss ++ later)) plans later
      → AllZip (Does (ss ++ later)) plans effects
      → AllZip (EndsIn (ss ++ later)) plans after
      → map placed after ≡ map placed acts
      → GraphRan ts acts later effects after
  graph_ran k ts ss [] [] [] [] [] len z graph at of streams does ends same = record { parts = []; old = refl; new = refl; carries = tt; does = refl; at = tt }
  graph_ran k ts ss [] [] [] [] (b ∷ after) len z graph at of streams does ends same = absurd ends
  graph_ran k ts ss [] [] [] (e ∷ effects) after len z graph at of streams does ends same = absurd does
  graph_ran k ts ss [] [] (s ∷ later) effects after len z graph at of streams does ends same = absurd streams
  graph_ran k ts ss [] (p ∷ plans) later effects after len z graph at of streams does ends same = absurd of
  graph_ran k ts ss (a ∷ acts) [] later effects after len z graph at of streams does ends same = absurd of
  graph_ran k ts ss (a ∷ acts) (p ∷ plans) [] effects after len z graph at of streams does ends same = absurd streams
  graph_ran k ts ss (a ∷ acts) (p ∷ plans) (s ∷ later) [] after len z graph at of streams does ends same = absurd does
  graph_ran k ts ss (a ∷ acts) (p ∷ plans) (s ∷ later) (e ∷ effects) [] len z graph at of streams does ends same = absurd ends
  graph_ran k ts ss (a ∷ acts) (p ∷ plans) (s ∷ later) (e ∷ effects) (b ∷ after) len z graph at of streams does ends same =
      let t : Part = part n m bs src source from ts ss z answer life number stamped first step folds le (placed a) in
      let below = subst (λ (j : ℕ). Each (λ (q : ℕ). q < j) p.parents) len graph.0 in
      let ran = run-is n m bs src source from ts ss z answer life number stamped first step folds le (s ∷ later) a p s streams.0 of.0 below at.0 in
      let whole_is : whole t ≡ node_gives answer m (whole src).items (wholes ts) (placed a) = part-whole n m bs src source from ts ss z answer life number stamped first step folds le (placed a) in
      let news : wholes (ts ++ t ∷ []) ≡ wholes ts ++ node_gives answer m (whole src).items (wholes ts) (placed a) ∷ [] =
      map-append whole ts (t ∷ []) ∙ ap (λ (g : Given). wholes ts ++ g ∷ []) whole_is in
      let old : olds (ts ++ t ∷ []) ≡ olds ts ++ t.old ∷ [] = map-append (λ (u : Part). u.old) ts (t ∷ []) in
      let joined : (ss ++ s ∷ []) ++ later ≡ ss ++ s ∷ later = append_assoc ss (s ∷ []) later in
      let node : placed b ≡ placed a = head_same (placed b) (placed a) (map placed after) (map placed acts) same in
      let others : map placed after ≡ map placed acts = ap (drop 1) same in
      let rest = graph_ran (suc k) (ts ++ t ∷ []) (ss ++ s ∷ []) acts plans later effects after
      (ap suc len ∙ omega (arith, length-append ts (t ∷ [])))
      (carries-more n m bs ts ss t s z ran.carries)
      graph.1
      (subst (λ (gs : List Given). AreAt answer first step n src.old.items gs acts) (sym old) at.1)
      of.1
      (subst (λ (l : List (List Msg)). AllZip (IsStream l) plans later) (sym joined) streams.1)
      (subst (λ (l : List (List Msg)). AllZip (Does l) plans effects) (sym joined) does.1)
      (subst (λ (l : List (List Msg)). AllZip (EndsIn l) plans after) (sym joined) ends.1)
      others in
      let state : b.state ≡ state-of ts (placed b) = ends.0 s streams.0 ∙ ran.state ∙ ap (state-of ts) (sym node) in
      let given_b : wholes (ts ++ t ∷ []) ≡ wholes ts ++ node_gives answer m (whole src).items (wholes ts) (placed b) ∷ [] =
      news ∙ ap (λ (d : Placed P). wholes ts ++ node_gives answer m (whole src).items (wholes ts) d ∷ []) (sym node) in
      record {
        parts = t ∷ rest.parts;
        old = ap (λ (gs : List Given). t.old ∷ gs) (ap (λ (gs : List Given). gives_behind answer n src.old.items gs (map placed acts)) (sym old) ∙ rest.old);
        new = ap (λ (g : Given). g ∷ gives_behind answer m (whole src).items (wholes ts ++ g ∷ []) (map placed acts)) (sym whole_is)
            ∙ ap (λ (gs : List Given). whole t ∷ gs) (ap (λ (gs : List Given). gives_behind answer m (whole src).items gs (map placed acts)) (sym (map-append whole ts (t ∷ []))) ∙ rest.new);
        carries = (ran.carries, rest.carries);
        does = ap (λ (x : List Effect). x ∷ effects) (does.0 s streams.0 ∙ ran.effects) ∙ ap (λ (l : List (List Effect)). t.more.effects ∷ l) rest.does;
        at = (state, subst (λ (gs : List Given). AreAt answer first step m (whole src).items gs after) given_b rest.at);
      }
