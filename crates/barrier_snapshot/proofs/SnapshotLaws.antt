-- What is restored from a snapshot, and what is captured at rest: lives that are where their points have brought them.
use Rattle.std.proofs.Common.{◌≡◌, ℕ, suc, ◌+◌, ◌-◌, ◌≤◌, ◌<◌, List, [], ◌∷◌, ◌++◌, Some, drop, length, map, zip, refl, sym, ap, subst, ◌∙◌, arith}
use Rattle.std.specs.Prelude.{slice_get}
use Rattle.std.specs.List.{AllByRecursion as Each, AllZip}
use Rattle.std.proofs.lemmas.List.{map-append}
use Rattle.kap_base.specs.Points.{PointValue}
use Rattle.kap_base.specs.declared.items.Stamp.{Stamp}
use Rattle.state_code.specs.Spelling.{IsSpelling}
use Rattle.node_core.specs.declared.node.Node.{Ghosts}
use Rattle.node_core.specs.Cut.{IsStamped}
use Rattle.node_core.specs.Meaning.{Input, fold, given}
use Rattle.merge_node.proofs.BufferLaws.{merges-same}
use Rattle.merge_node.specs.Buffers.{done}
use Rattle.merge_node.specs.Merge.{Entry, IsClosedBy}
use Rattle.flow_cells.specs.Kept.{Keeps, run_of}
use Rattle.flow_cells.specs.Made.{HasNothing}
use Rattle.flow_cells.specs.declared.parts.CellParts.{CellParts}
use Rattle.flow_life.specs.Loads.{plan_now}
use Rattle.flow_life.specs.Making.{nodes_of}
use Rattle.flow_life.specs.Nodes.{specs_of}
use Rattle.flow_life.proofs.PlaceLaws.{each-get, each-of}
use Rattle.flow_life.proofs.StartLaws.{begun_at, nothing-next}
use Rattle.flow_life.specs.Streams.{plans_of}
use Rattle.task_run.specs.Active.{Active, placed}
use Rattle.task_run.specs.Courses.{Course, IsWhere, end_of}
use Rattle.task_run.specs.Graphs.{Placed}
use Rattle.task_run.specs.EffectOrder.{NodesNumbered}
use Rattle.task_run.specs.Plans.{AreNodesFrom, IsPlan, PlanValue, graph_of}
use Rattle.flow_core.specs.LifeLoads.{acts_of}
use Rattle.flow_core.specs.Making.{AreLivesBehind, IsLifeBehind}
use Rattle.flow_core.proofs.MessageLaws.{messages_barriers, messages_closed, messages_rise}
use Rattle.flow_core.specs.Messages.{AreMarksOf, load_messages}
use Rattle.flow_core.specs.Nets.{IsLifeIn, IsResting, NetValue, NumberedLife, numbers_of}
use Rattle.flow_core.proofs.PortLaws.{head_same}
use Rattle.net_epochs.specs.Epochs.{AreNumberedBy, IsOnCourse, NumbersRise, StandsAt, nodes_in}
use Rattle.flow_core.proofs.LifeLaws.{graph_behind}
use Rattle.net_epochs.proofs.StandLaws.{life_numbered}
use Rattle.barrier_snapshot.specs.Barriers.{IsCaptureAt, WasAt, cells_in}
use Rattle.barrier_snapshot.specs.Captures.{IsCapture, in_lives}
use Rattle.barrier_snapshot.specs.Loading.{IsSameLife}
use Rattle.barrier_snapshot.specs.Restoring.{Restores}
use Rattle.barrier_snapshot.specs.Resuming.{AreLoadedWith, RestsBehind, StandsBehind, began_there, came_there}
use Rattle.barrier_snapshot.specs.Snapshots.{IsSnapshot, specs_all, states_all}
use Rattle.barrier_snapshot.proofs.LifeLaws.{same_plan}
use Rattle.barrier_snapshot.proofs.MessageCutLaws.{none-below}
use Rattle.barrier_snapshot.proofs.PlaceLaws.{other_at, same_at}
use Rattle.barrier_snapshot.proofs.ReadLaws.{one_capture}
use Rattle.barrier_snapshot.proofs.StandLaws.{rested_state}

-- ---- lists

split-first : {A : Type 0} (xs us ys vs : List A) → length xs ≡ length us → xs ++ ys ≡ us ++ vs → xs ≡ us
split-first [] [] ys vs n e = refl
split-first [] (u ∷ us) ys vs n e = absurd (omega (arith, n))
split-first (x ∷ xs) [] ys vs n e = absurd (omega (arith, n))
split-first (x ∷ xs) (u ∷ us) ys vs n e =
    let first : x ≡ u = head_same x u (xs ++ ys) (us ++ vs) e in
    let rest : xs ++ ys ≡ us ++ vs = ap (drop 1) e in
    ap (λ z. z ∷ xs) first ∙ ap (λ l. u ∷ l) (split-first xs us ys vs (omega (arith, n)) rest)

split-rest : {A : Type 0} (xs us ys vs : List A) → length xs ≡ length us → xs ++ ys ≡ us ++ vs → ys ≡ vs
split-rest [] [] ys vs n e = e
split-rest [] (u ∷ us) ys vs n e = absurd (omega (arith, n))
split-rest (x ∷ xs) [] ys vs n e = absurd (omega (arith, n))
split-rest (x ∷ xs) (u ∷ us) ys vs n e = split-rest xs us ys vs (omega (arith, n)) (ap (drop 1) e)

length-map : {A B : Type 0} (f : A → B) (xs : List A) → length (map f xs) ≡ length xs
length-map f [] = refl
length-map f (x ∷ xs) = ap suc (length-map f xs)

none-more : {A : Type 0} (x : A) (xs : List A) → x ∷ xs ≡ [] → ⊥
none-more x xs e = absurd cc

module _ {P S : Type 0} where
  acts-same : (xs ys : List (Active P S)) → map placed xs ≡ map placed ys → map (λ a. a.state) xs ≡ map (λ a. a.state) ys → xs ≡ ys
  acts-same [] [] p s = refl
  acts-same [] (y ∷ ys) p s = absurd (none-more (placed y) (map placed ys) (sym p))
  acts-same (x ∷ xs) [] p s = absurd (none-more (placed x) (map placed xs) p)
  acts-same (x ∷ xs) (y ∷ ys) p s =
      let one : placed x ≡ placed y = head_same (placed x) (placed y) (map placed xs) (map placed ys) p in
      let state : x.state ≡ y.state = head_same x.state y.state (map (λ a. a.state) xs) (map (λ a. a.state) ys) s in
      ap (λ (d : Placed P). record { spec = d.spec; state = x.state; parents = d.parents } ∷ xs) one
      ∙ ap (λ (t : S). record { spec = y.spec; state = t; parents = y.parents } ∷ xs) state
      ∙ ap (λ (l : List (Active P S)). y ∷ l) (acts-same xs ys (ap (drop 1) p) (ap (drop 1) s))

  specs-placed : (xs : List (Active P S)) → map (λ a. a.spec) xs ≡ map (λ d. d.spec) (map placed xs)
  specs-placed [] = refl
  specs-placed (x ∷ xs) = ap (λ (l : List P). x.spec ∷ l) (specs-placed xs)

module _ {N P S : Type 0} (g : Ghosts N P S) where
  -- ---- lives that are restored

  states-cells : (cells : List (CellParts N)) → map (λ a. a.state) (acts_of g cells) ≡ map g.state (nodes_of cells)
  states-cells [] = refl
  states-cells (c ∷ cells) = ap (λ (l : List S). g.state c.core.node ∷ l) (states-cells cells)

  abbrev graph-of : List N → List (List ℕ) → List (Placed P)
  graph-of ns ps = map (λ p. record { spec = g.spec p.0; parents = p.1 }) (zip ns ps)

  graph-same : (ns ms : List N) (ps : List (List ℕ)) → map g.spec ms ≡ map g.spec ns → graph-of ms ps ≡ graph-of ns ps
  graph-same [] [] ps e = refl
  graph-same [] (m ∷ ms) ps e = absurd (none-more (g.spec m) (map g.spec ms) e)
  graph-same (n ∷ ns) [] ps e = absurd (none-more (g.spec n) (map g.spec ns) (sym e))
  graph-same (n ∷ ns) (m ∷ ms) [] e = refl
  graph-same (n ∷ ns) (m ∷ ms) (p ∷ ps) e =
      ap (λ (q : P). record { spec = q; parents = p } ∷ graph-of ms ps) (head_same (g.spec m) (g.spec n) (map g.spec ms) (map g.spec ns) e)
      ∙ ap (λ (ds : List (Placed P)). record { spec = g.spec n; parents = p } ∷ ds) (graph-same ns ms ps (ap (drop 1) e))

  graph-loaded : (plan other : PlanValue N) → IsSameLife g.spec plan other → graph_of g.spec other ≡ graph_of g.spec plan
  graph-loaded plan other same = ap (graph-of other.nodes) same.parents ∙ graph-same plan.nodes other.nodes plan.parents same.specs

  specs-cells : (cells : List (CellParts N)) → map (λ a. a.spec) (acts_of g cells) ≡ map g.spec (nodes_of cells)
  specs-cells [] = refl
  specs-cells (c ∷ cells) = ap (λ (l : List P). g.spec c.core.node ∷ l) (specs-cells cells)

  -- a life of a plan that was loaded has the nodes of a course
  placed-are : (stamp : ℕ) (p o : PlanValue N) (l : NumberedLife N) (c : Course P) (ax : List (Active P S)) → IsSameLife g.spec p o → IsLifeBehind g stamp o l → graph_of g.spec p ≡ c.nodes → IsWhere g.answer g.first g.step c ax → map placed (acts_of g l.life.cells) ≡ map placed ax
  placed-are stamp p o l c ax same is graph wh = graph_behind g stamp o l is ∙ graph-loaded p o same ∙ graph ∙ sym wh.nodes

  specs-at : (stamp : ℕ) (plans loaded : List (PlanValue N)) (lives : List (NumberedLife N)) (courses : List (Course P)) (acts : List (List (Active P S))) → AllZip (IsSameLife g.spec) plans loaded → AreLivesBehind g stamp loaded lives → map (graph_of g.spec) plans ≡ nodes_in courses
      → AllZip (IsWhere g.answer g.first g.step) courses acts → specs_all acts ≡ in_lives g.spec plans
  specs-at stamp [] [] [] [] [] same are gs wh = refl
  specs-at stamp [] [] [] [] (a ∷ acts) same are gs wh = absurd wh
  specs-at stamp [] [] [] (c ∷ courses) acts same are gs wh = absurd (none-more c.nodes (nodes_in courses) (sym gs))
  specs-at stamp [] [] (l ∷ lives) courses acts same are gs wh = absurd are
  specs-at stamp [] (o ∷ loaded) lives courses acts same are gs wh = absurd same
  specs-at stamp (p ∷ plans) [] lives courses acts same are gs wh = absurd same
  specs-at stamp (p ∷ plans) (o ∷ loaded) [] courses acts same are gs wh = absurd are
  specs-at stamp (p ∷ plans) (o ∷ loaded) (l ∷ lives) [] acts same are gs wh = absurd (none-more (graph_of g.spec p) (map (graph_of g.spec) plans) gs)
  specs-at stamp (p ∷ plans) (o ∷ loaded) (l ∷ lives) (c ∷ courses) [] same are gs wh = absurd wh
  specs-at stamp (p ∷ plans) (o ∷ loaded) (l ∷ lives) (c ∷ courses) (ax ∷ acts) same are gs wh =
      let cells = l.life.cells in
      let placed_is = placed-are stamp p o l c ax same.0 are.0 (head_same (graph_of g.spec p) c.nodes (map (graph_of g.spec) plans) (nodes_in courses) gs) wh.0 in
      let one : map (λ a. a.spec) ax ≡ map g.spec p.nodes =
      specs-placed ax ∙ ap (map (λ (d : Placed P). d.spec)) (sym placed_is) ∙ sym (specs-placed (acts_of g cells)) ∙ specs-cells cells ∙ ap (map g.spec) are.0.nodes ∙ same.0.specs in
      rw (one, specs-at stamp plans loaded lives courses acts same.1 are.1 (ap (drop 1) gs) wh.1) refl

  lives-at : (stamp : ℕ) (plans loaded : List (PlanValue N)) (lives : List (NumberedLife N)) (courses : List (Course P)) (acts : List (List (Active P S))) → AllZip (IsSameLife g.spec) plans loaded → AreLivesBehind g stamp loaded lives → map (graph_of g.spec) plans ≡ nodes_in courses
      → AllZip (IsWhere g.answer g.first g.step) courses acts → in_lives g.state loaded ≡ states_all acts → AllZip (IsOnCourse g) courses lives
  lives-at stamp [] [] [] [] [] same are gs wh e = tt
  lives-at stamp [] [] [] [] (a ∷ acts) same are gs wh e = absurd wh
  lives-at stamp [] [] [] (c ∷ courses) acts same are gs wh e = absurd (none-more c.nodes (nodes_in courses) (sym gs))
  lives-at stamp [] [] (l ∷ lives) courses acts same are gs wh e = absurd are
  lives-at stamp [] (o ∷ loaded) lives courses acts same are gs wh e = absurd same
  lives-at stamp (p ∷ plans) [] lives courses acts same are gs wh e = absurd same
  lives-at stamp (p ∷ plans) (o ∷ loaded) [] courses acts same are gs wh e = absurd are
  lives-at stamp (p ∷ plans) (o ∷ loaded) (l ∷ lives) [] acts same are gs wh e = absurd (none-more (graph_of g.spec p) (map (graph_of g.spec) plans) gs)
  lives-at stamp (p ∷ plans) (o ∷ loaded) (l ∷ lives) (c ∷ courses) [] same are gs wh e = absurd wh
  lives-at stamp (p ∷ plans) (o ∷ loaded) (l ∷ lives) (c ∷ courses) (ax ∷ acts) same are gs wh e =
      let cells = l.life.cells in
      let placed_is = placed-are stamp p o l c ax same.0 are.0 (head_same (graph_of g.spec p) c.nodes (map (graph_of g.spec) plans) (nodes_in courses) gs) wh.0 in
      let states_are : map (λ a. a.state) (acts_of g cells) ≡ map g.state o.nodes = states-cells cells ∙ ap (map g.state) are.0.nodes in
      let long : length (map g.state o.nodes) ≡ length (map (λ a. a.state) ax) =
      ap (λ (ss : List S). length ss) (sym states_are) ∙ length-map (λ a. a.state) (acts_of g cells) ∙ sym (length-map placed (acts_of g cells)) ∙ ap (λ (ds : List (Placed P)). length ds) placed_is ∙ length-map placed ax ∙ sym (length-map (λ a. a.state) ax) in
      let states : map g.state o.nodes ≡ map (λ a. a.state) ax = split-first (map g.state o.nodes) (map (λ a. a.state) ax) (in_lives g.state loaded) (states_all acts) long e in
      let others : in_lives g.state loaded ≡ states_all acts = split-rest (map g.state o.nodes) (map (λ a. a.state) ax) (in_lives g.state loaded) (states_all acts) long e in
      let acts_are : acts_of g cells ≡ ax = acts-same (acts_of g cells) ax placed_is (states_are ∙ states) in
      (subst (IsWhere g.answer g.first g.step c) (sym acts_are) wh.0, lives-at stamp plans loaded lives courses acts same.1 are.1 (ap (drop 1) gs) wh.1 others)

  pub lives_are_restored : (spelled : (p : P) → IsSpelling (g.fits p) (g.spell p) (g.read p)) (plans : List (PlanValue N)) (there : Stamp) (bytes : List ℕ) (net : NetValue N) (courses : List (Course P)) → Restores g plans there bytes net
      → map (graph_of g.spec) plans ≡ nodes_in courses → IsSnapshot g courses bytes → AllZip (IsOnCourse g) courses net.lives
  lives_are_restored spelled plans there bytes net courses r gs snap =
      let specs = specs-at there.0 plans r.loaded net.lives courses snap.acts r.are.same r.lives gs snap.are in
      let same : in_lives g.state r.loaded ≡ states_all snap.acts = one_capture spelled (in_lives g.spec plans) (in_lives g.state r.loaded) (states_all snap.acts) bytes r.are.states
      (subst (λ (ps : List P). IsCapture g.fits g.spell ps (states_all snap.acts) bytes) specs snap.capture) in
      lives-at there.0 plans r.loaded net.lives courses snap.acts r.are.same r.lives gs snap.are same

  plan-loaded : (p o : PlanValue N) → IsSameLife g.spec p o → IsPlan g.spec g.ports g.life g.number p → IsPlan g.spec g.ports g.life g.number o
  plan-loaded p o same planned =
      let q : IsPlan g.spec g.ports g.life g.number (record { life = p.life; nodes = o.nodes; parents = p.parents }) =
      same_plan g.spec g.ports g.life g.number p.life p.nodes o.nodes p.parents same.specs (record { some_node = planned.some_node; nodes = planned.nodes }) in
      record {
        some_node = q.some_node;
        nodes = subst (λ (ps : List (List ℕ)). AreNodesFrom g.spec g.ports g.life g.number o.life 0 o.nodes ps) (sym same.parents)
            (subst (λ (which : ℕ). AreNodesFrom g.spec g.ports g.life g.number which 0 o.nodes p.parents) (sym same.life) q.nodes);
      }

  numbered-at : (stamp : ℕ) (plans loaded : List (PlanValue N)) (lives : List (NumberedLife N)) (courses : List (Course P)) → AllZip (IsSameLife g.spec) plans loaded → AreLivesBehind g stamp loaded lives → map (graph_of g.spec) plans ≡ nodes_in courses
      → Each (IsPlan g.spec g.ports g.life g.number) plans → AreNumberedBy g (numbers_of lives) courses
  numbered-at stamp [] [] [] [] same are gs planned = tt
  numbered-at stamp [] [] [] (c ∷ courses) same are gs planned = absurd (none-more c.nodes (nodes_in courses) (sym gs))
  numbered-at stamp [] [] (l ∷ lives) courses same are gs planned = absurd are
  numbered-at stamp [] (o ∷ loaded) lives courses same are gs planned = absurd same
  numbered-at stamp (p ∷ plans) [] lives courses same are gs planned = absurd same
  numbered-at stamp (p ∷ plans) (o ∷ loaded) [] courses same are gs planned = absurd are
  numbered-at stamp (p ∷ plans) (o ∷ loaded) (l ∷ lives) [] same are gs planned = absurd (none-more (graph_of g.spec p) (map (graph_of g.spec) plans) gs)
  numbered-at stamp (p ∷ plans) (o ∷ loaded) (l ∷ lives) (c ∷ courses) same are gs planned =
      let own : NodesNumbered g.life g.number l.number 0 (graph_of g.spec o) = life_numbered g stamp o l are.0 (plan-loaded p o same.0 planned.0) in
      let nodes : graph_of g.spec p ≡ c.nodes = head_same (graph_of g.spec p) c.nodes (map (graph_of g.spec) plans) (nodes_in courses) gs in
      let here : NodesNumbered g.life g.number l.number 0 c.nodes = subst (NodesNumbered g.life g.number l.number 0) (graph-loaded p o same.0 ∙ nodes) own in
      (here, numbered-at stamp plans loaded lives courses same.1 are.1 (ap (drop 1) gs) planned.1)

  numbers-at : (stamp : ℕ) (plans loaded : List (PlanValue N)) (lives : List (NumberedLife N)) → AllZip (IsSameLife g.spec) plans loaded → AreLivesBehind g stamp loaded lives → numbers_of lives ≡ map (λ plan. plan.life) plans
  numbers-at stamp [] [] [] same are = refl
  numbers-at stamp [] [] (l ∷ lives) same are = absurd are
  numbers-at stamp [] (o ∷ loaded) lives same are = absurd same
  numbers-at stamp (p ∷ plans) [] lives same are = absurd same
  numbers-at stamp (p ∷ plans) (o ∷ loaded) [] same are = absurd are
  numbers-at stamp (p ∷ plans) (o ∷ loaded) (l ∷ lives) same are =
      ap (λ (n : ℕ). n ∷ numbers_of lives) (are.0.number ∙ same.0.life) ∙ ap (λ (ns : List ℕ). p.life ∷ ns) (numbers-at stamp plans loaded lives same.1 are.1)

  -- a net that is restored from a snapshot of lives that have seen the points up to its barrier stands behind these
  pub net_restored : (spelled : (p : P) → IsSpelling (g.fits p) (g.spell p) (g.read p)) (plans : List (PlanValue N)) (there : Stamp) (bytes : List ℕ) (net : NetValue N) (courses : List (Course P)) → Restores g plans there bytes net
      → map (graph_of g.spec) plans ≡ nodes_in courses → IsSnapshot g courses bytes → Each (λ c. end_of c ≡ there.0) courses → Each (IsPlan g.spec g.ports g.life g.number) plans → NumbersRise 0 (map (λ plan. plan.life) plans) → StandsAt g there.0 courses net
  net_restored spelled plans there bytes net courses r gs snap ends planned rise =
      let last : net.last.0 ≡ there.0 = ap (λ (t : Stamp). t.0) r.last in
      record {
        unspent = r.unspent;
        rest = r.rest;
        none = r.gathered;
        last = omega (arith, last);
        ends = ends;
        lives = lives_are_restored spelled plans there bytes net courses r gs snap;
        numbered = numbered-at there.0 plans r.loaded net.lives courses r.are.same r.lives gs planned;
        rise = subst (NumbersRise 0) (sym (numbers-at there.0 plans r.loaded net.lives r.are.same r.lives)) rise;
      }

  -- ---- lives that are captured

  abbrev state-of : CellParts N → S
  state-of c = g.state c.core.node

  -- what was captured of the cells of lives is in order what they are in, where each was so
  states-both : (R : CellParts N → S → Type 0) (cells others : List (CellParts N)) (states : List S) → AllZip R (cells ++ others) states
      → ((j : ℕ) (c : CellParts N) (s : S) → slice_get cells j ≡ Some c → R c s → s ≡ state-of c)
      → ((rest : List S) → AllZip R others rest → rest ≡ map state-of others) → states ≡ map state-of (cells ++ others)
  states-both R [] others states z at rest = rest states z
  states-both R (c ∷ cells) others [] z at rest = absurd z
  states-both R (c ∷ cells) others (s ∷ states) z at rest =
      ap (λ (x : S). x ∷ states) (at 0 c s refl z.0) ∙ ap (λ (ss : List S). state-of c ∷ ss) (states-both R cells others states z.1 (λ j. at (suc j)) rest)

  -- the states that a relation tells of the cells of a life are those in which they are
  abbrev TellsStates : (CellParts N → S → Type 0) → NumberedLife N → Type 0
  TellsStates R l = (j : ℕ) (c : CellParts N) (s : S) → slice_get l.life.cells j ≡ Some c → R c s → s ≡ state-of c

  states-were : (R : CellParts N → S → Type 0) (lives : List (NumberedLife N)) (states : List S) → AllZip R (cells_in lives) states → Each (TellsStates R) lives → states ≡ map state-of (cells_in lives)
  states-were R [] [] z at = refl
  states-were R [] (s ∷ states) z at = absurd z
  states-were R (l ∷ lives) states z at = states-both R l.life.cells (cells_in lives) states z at.0 (λ rest w. states-were R lives rest w at.1)

  acts-states : (cells : List (CellParts N)) → map (λ a. a.state) (acts_of g cells) ≡ map state-of cells
  acts-states [] = refl
  acts-states (c ∷ cells) = ap (λ (ss : List S). state-of c ∷ ss) (acts-states cells)

  acts-specs : (cells : List (CellParts N)) → map (λ a. a.spec) (acts_of g cells) ≡ map (λ c. g.spec c.core.node) cells
  acts-specs [] = refl
  acts-specs (c ∷ cells) = ap (λ (ps : List P). g.spec c.core.node ∷ ps) (acts-specs cells)

  abbrev acts-in : List (NumberedLife N) → List (List (Active P S))
  acts-in lives = map (λ l. acts_of g l.life.cells) lives

  all-states : (lives : List (NumberedLife N)) → states_all (acts-in lives) ≡ map state-of (cells_in lives)
  all-states [] = refl
  all-states (l ∷ lives) =
      ap (λ (ss : List S). ss ++ states_all (acts-in lives)) (acts-states l.life.cells)
      ∙ ap (λ (ss : List S). map state-of l.life.cells ++ ss) (all-states lives)
      ∙ sym (map-append state-of l.life.cells (cells_in lives))

  all-specs : (lives : List (NumberedLife N)) → specs_all (acts-in lives) ≡ map (λ c. g.spec c.core.node) (cells_in lives)
  all-specs [] = refl
  all-specs (l ∷ lives) =
      ap (λ (ps : List P). ps ++ specs_all (acts-in lives)) (acts-specs l.life.cells)
      ∙ ap (λ (ps : List P). map (λ c. g.spec c.core.node) l.life.cells ++ ps) (all-specs lives)
      ∙ sym (map-append (λ c. g.spec c.core.node) l.life.cells (cells_in lives))

  acts-where : (courses : List (Course P)) (lives : List (NumberedLife N)) → AllZip (IsOnCourse g) courses lives → AllZip (IsWhere g.answer g.first g.step) courses (acts-in lives)
  acts-where [] [] z = tt
  acts-where [] (l ∷ lives) z = absurd z
  acts-where (c ∷ courses) [] z = absurd z
  acts-where (c ∷ courses) (l ∷ lives) z = (z.0, acts-where courses lives z.1)

  none-first : {A : Type 0} (xs ys : List A) → xs ++ ys ≡ [] → xs ≡ []
  none-first [] ys e = refl
  none-first (x ∷ xs) ys e = absurd cc

  -- a cell on which nothing was received since it began is in the state in which it was at its barrier
  began_state : (c : CellParts N) (s : S) → Keeps g c → HasNothing c → (upto : Stamp) → WasAt g upto c s → s ≡ g.state c.core.node
  began_state c s keeps nothing upto was =
      let none : [] ≡ was.before ++ was.after = merges-same {ns = was.before ++ was.after} done (nothing-next c.ins.items c.source.value.items nothing) was.merged keeps.stuck in
      was.is ∙ ap (λ (l : List Entry). (run_of g c.base.value l).state) (none-first was.before was.after (sym none)) ∙ sym (begun_at g c keeps nothing).state

  module _ (folds : (p : P) (xs : List Input) → (fold (g.step p) (g.first p) xs).given ≡ given (g.answer p) xs)
      (stamped : (p : P) (before : List Input) (x : Input) → IsStamped (g.life p) (g.number p) x.1.stamp.0 (g.answer p before x)) where
    -- the states of a life at rest behind a barrier are those that are captured there
    tells-of : (upto : Stamp) (l : NumberedLife N) → RestsBehind g upto l → TellsStates (WasAt g upto) l
    tells-of upto l (began_there plan is life) = λ j c s at was.
        began_state c s (each-get (Keeps g) l.life.cells j c at life.ready.keeps) (each-get HasNothing l.life.cells j c at is.nothing) upto was
    tells-of upto l (came_there stamp points marks before above fits marked stands go quiet) = λ j c s at was.
        let msgs = load_messages points upto marks in
        let closed : IsClosedBy (marks ++ upto ∷ []) msgs = record { barriers = messages_barriers points upto marks fits marked; closed = messages_closed points upto marks } in
        rested_state g folds stamped msgs marks upto closed (messages_rise points upto marks fits) before.life.cells l.life.cells stands.reached go.specs go.plans go.life quiet
        (none-below (upto.0 - length points) marks upto marked) stamp above stands.passed j c s at was

    pub lives_are_captured : (upto : Stamp) (courses : List (Course P)) (bytes : List ℕ) (lives : List (NumberedLife N)) → Each (RestsBehind g upto) lives
        → AllZip (IsOnCourse g) courses lives → IsCaptureAt g upto (cells_in lives) bytes → IsSnapshot g courses bytes
    lives_are_captured upto courses bytes lives rest on capture =
        let tells = each-of (TellsStates (WasAt g upto)) lives (λ i l at. tells-of upto l (each-get (RestsBehind g upto) lives i l at rest)) in
        let states : capture.states ≡ states_all (acts-in lives) = states-were (WasAt g upto) lives capture.states capture.were tells ∙ sym (all-states lives) in
        record {
          acts = acts-in lives;
          are = acts-where courses lives on;
          capture = subst (λ (ps : List P). IsCapture g.fits g.spell ps (states_all (acts-in lives)) bytes) (sym (all-specs lives))
              (subst (λ (ss : List S). IsCapture g.fits g.spell (map (λ c. g.spec c.core.node) (cells_in lives)) ss bytes) states capture.capture);
        }

  -- lives that were loaded up to a barrier, and are at rest, are at rest behind it
  pub lives_came : (stamp : ℕ) (points : List PointValue) (upto : Stamp) (marks : List Stamp) (before after : List (NumberedLife N)) → stamp < upto.0 → length points ≤ upto.0 → AreMarksOf points upto marks
      → Each (StandsBehind g stamp) before → AreLoadedWith g (load_messages points upto marks) before after → Each IsResting after → Each (RestsBehind g upto) after
  lives_came stamp points upto marks before after above fits marked stands go quiet =
      let msgs = load_messages points upto marks in
      let now = λ (l : NumberedLife N). map (plan_now g msgs) l.life.cells in
      let then = λ (l : NumberedLife N). plans_of g l.life.cells in
      let specs = λ (l : NumberedLife N). specs_of g l.life.cells in
      each-of (RestsBehind g upto) after (λ i l at.
      let b = other_at then now after before go.plans i l at in
      came_there stamp points marks b.x above fits marked (each-get (StandsBehind g stamp) before i b.x b.at stands)
      (record { plans = sym b.is; specs = same_at specs specs after before go.specs i l b.x at b.at; life = each-get (IsLifeIn g) after i l at go.lives })
      (each-get IsResting after i l at quiet))
