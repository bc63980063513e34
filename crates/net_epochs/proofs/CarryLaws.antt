-- Lives that all began at the first point: what their edges have carried behind an epoch, and what their nodes dropped.
use Rattle.std.proofs.Common.{◌≡◌, ℕ, ◌+◌, List, [], ◌∷◌, ◌++◌, map, length, drop, get_or, refl, sym, ap, subst, ◌∙◌, arith}
use Rattle.std.specs.List.{AllByRecursion as Each, AllZip}
use Rattle.std.proofs.lemmas.List.{map-append}
use Rattle.kap_base.specs.Points.{PointValue}
use Rattle.kap_base.specs.declared.items.Item.{Item}
use Rattle.kap_base.specs.declared.items.Msg.{Msg}
use Rattle.kap_base.specs.declared.items.Msg.TheVariants as messages
use Rattle.kap_base.specs.declared.items.Stamp.{Stamp}
use Rattle.node_core.specs.declared.node.Node.{Ghosts}
use Rattle.node_core.specs.Meaning.{Given, Input, fold, given}
use Rattle.node_core.specs.Cut.{IsStamped}
use Rattle.merge_node.specs.Merge.{items}
use Rattle.flow_cells.specs.Outs.{item_msgs}
use Rattle.flow_cells.specs.declared.parts.CellParts.{CellParts}
use Rattle.flow_life.specs.Loads.{plan_now}
use Rattle.flow_life.specs.Streams.{Plan, plans_of}
use Rattle.task_run.specs.Active.{AreAt, IsAt}
use Rattle.task_run.specs.Courses.{Course, IsWhere, course_gives, end_of, from_first, grown}
use Rattle.task_run.specs.Graphs.{Placed, gives_behind, graph_gives, stamped_from}
use Rattle.task_run.specs.Lives.{dropped_of}
use Rattle.task_run.specs.MoreLaws.{mores, olds, out_at}
use Rattle.task_run.specs.PointLaws.{dropped_at}
use Rattle.flow_core.specs.Carried.{LifeHasCarried}
use Rattle.flow_core.specs.Drops.{drops_in, drops_of}
use Rattle.flow_core.specs.LifeLoads.{acts_of}
use Rattle.flow_core.specs.Messages.{AreMarksOf, load_messages}
use Rattle.flow_core.specs.Nets.{IsLifeIn, IsResting, NumberedLife, plans_from, plans_in, specs_in}
use Rattle.flow_core.proofs.OutLaws.{out-whole}
use Rattle.flow_core.proofs.ReceivedLaws.{HasReceived, received_at, received_now}
use Rattle.net_epochs.specs.Epochs.{IsOnCourse}
use Rattle.net_epochs.proofs.LifeLaws.{LifeWent, life_went}
use Rattle.net_epochs.proofs.NetLaws.{first-plans, first-specs, none-more}

-- the course of a life that has seen all points so far
abbrev whole_course : {P : Type 0} → List PointValue → List (Placed P) → Course P
whole_course points nodes = record { nodes = nodes; base = 0; points = points }

-- they are all up to the last stamp
pub first_ends : {P : Type 0} (points : List PointValue) (lives : List (List (Placed P))) → Each (λ c. end_of c ≡ length points) (from_first points lives)
first_ends points [] = tt
first_ends points (nodes ∷ lives) = let same : 0 + length points ≡ length points = omega arith in (same, first_ends points lives)

-- more points make them courses of more points
pub first_grown : {P : Type 0} (points new : List PointValue) (lives : List (List (Placed P))) → map (grown new) (from_first points lives) ≡ from_first (points ++ new) lives
first_grown points new [] = refl
first_grown {P} points new (nodes ∷ lives) = ap (λ (cs : List (Course P)). whole_course (points ++ new) nodes ∷ cs) (first_grown points new lives)

module _ {N P S : Type 0} (g : Ghosts N P S) (stamped : (p : P) (before : List Input) (x : Input) → IsStamped (g.life p) (g.number p) x.1.stamp.0 (g.answer p before x)) (folds : (p : P) (xs : List Input) → (fold (g.step p) (g.first p) xs).given ≡ given (g.answer p) xs) where
  whole-gives : (points : List PointValue) (nodes : List (Placed P)) → course_gives g.answer (whole_course points nodes) ≡ graph_gives g.answer points nodes
  whole-gives points nodes = let same : 0 + length points ≡ length points = omega arith in ap (λ (n : ℕ). gives_behind g.answer n (stamped_from 1 points) [] nodes) same

  -- ---- edges

  life-carried : (points new : List PointValue) (source : List Msg) (nodes : List (Placed P)) (l l' : NumberedLife N) → LifeWent g stamped folds new (whole_course points nodes) l'.life.cells
      → plans_of g l'.life.cells ≡ map (plan_now g source) l.life.cells → LifeHasCarried g points nodes l → LifeHasCarried g (points ++ new) nodes l'
  life-carried points new source nodes l l' w plans h =
      let outs : ℕ → List Msg = λ i. item_msgs (out_at (graph_gives g.answer points nodes) i) in
      let all : Each (HasReceived outs) (plans_of g l'.life.cells) = subst (λ (ps : List (Plan S)). Each (HasReceived outs) ps) (sym plans) (received_now g outs source l.life.cells h.edges) in
      record {
        nodes_are = w.where_is.nodes;
        edges = λ j k e at.
            received_at g outs l'.life.cells w.streams all w.carries w.streams_are j k e at
            ∙ ap (λ (gs : List Given). item_msgs (out_at gs e.from) ++ items (get_or w.streams e.from [])) (sym (whole-gives points nodes) ∙ w.old)
            ∙ ap (λ (l : List Msg). item_msgs (out_at (olds w.parts) e.from) ++ l) (w.gave e.from)
            ∙ sym (map-append (λ (x : Item). messages.Item x) (out_at (olds w.parts) e.from) (out_at (mores w.parts) e.from))
            ∙ ap item_msgs (sym (out-whole w.parts e.from))
            ∙ ap (λ (gs : List Given). item_msgs (out_at gs e.from)) (sym w.now ∙ whole-gives (points ++ new) nodes);
      }

  -- edges that had carried what their parents give out for the points before have carried, behind an epoch, what these give
  -- out for all points
  pub lives_carried : (points new : List PointValue) (upto : Stamp) (marks : List Stamp) (lives : List (List (Placed P))) (before after : List (NumberedLife N))
      → upto.0 ≡ length points + length new → AreMarksOf new upto marks → AllZip (IsOnCourse g) (from_first points lives) before → AllZip (LifeHasCarried g points) lives before
      → plans_in g after ≡ plans_from g (load_messages new upto marks) before → specs_in g after ≡ specs_in g before
      → Each (IsLifeIn g) after → Each IsResting after → AllZip (LifeHasCarried g (points ++ new)) lives after
  lives_carried points new upto marks [] [] [] last are z h plans specs kept rest = tt
  lives_carried points new upto marks [] [] (l' ∷ after) last are z h plans specs kept rest = absurd (none-more (plans_of g l'.life.cells) (plans_in g after) plans)
  lives_carried points new upto marks [] (l ∷ before) after last are z h plans specs kept rest = absurd h
  lives_carried points new upto marks (nodes ∷ lives) [] after last are z h plans specs kept rest = absurd h
  lives_carried points new upto marks (nodes ∷ lives) (l ∷ before) [] last are z h plans specs kept rest = absurd (none-more (map (plan_now g (load_messages new upto marks)) l.life.cells) (plans_from g (load_messages new upto marks) before) (sym plans))
  lives_carried points new upto marks (nodes ∷ lives) (l ∷ before) (l' ∷ after) last are z h plans specs kept rest =
      let source = load_messages new upto marks in
      let own : upto.0 ≡ 0 + length points + length new = omega (arith, last) in
      let first : plans_of g l'.life.cells ≡ map (plan_now g source) l.life.cells = first-plans g stamped folds source before after l l' plans in
      let w = life_went g stamped folds (whole_course points nodes) new upto marks l.life.cells l'.life.cells z.0 own are first (first-specs g stamped folds before after l l' specs) kept.0 rest.0 in (
        life-carried points new source nodes l l' w first h.0,
        lives_carried points new upto marks lives before after last are z.1 h.1 (ap (drop 1) plans) (ap (drop 1) specs) kept.1 rest.1,
      )

  -- ---- drops

  drops-acts : (cells : List (CellParts N)) → drops_of g cells ≡ map (λ a. g.drops a.state) (acts_of g cells)
  drops-acts [] = refl
  drops-acts (c ∷ cells) = ap (λ (ns : List ℕ). g.drops (g.state c.core.node) ∷ ns) (drops-acts cells)

  module _ (counts : (p : P) (xs : List Input) → g.drops (fold (g.step p) (g.first p) xs).state ≡ (given (g.answer p) xs).drops) where
    life-dropped : (points : List PointValue) (nodes : List (Placed P)) (cells : List (CellParts N)) → IsWhere g.answer g.first g.step (whole_course points nodes) (acts_of g cells)
        → drops_of g cells ≡ map (λ (x : Given). x.drops) (graph_gives g.answer points nodes)
    life-dropped points nodes cells is =
        let same : 0 + length points ≡ length points = omega arith in
        let at : IsAt g.answer g.first g.step points (acts_of g cells) = subst (λ (n : ℕ). AreAt g.answer g.first g.step n (stamped_from 1 points) [] (acts_of g cells)) same is.at in
        drops-acts cells
        ∙ dropped_at g.answer g.life g.number stamped g.first g.step folds g.drops counts points (acts_of g cells) at
        ∙ ap (λ (ds : List (Placed P)). map (λ (x : Given). x.drops) (graph_gives g.answer points ds)) is.nodes

    -- nodes have dropped what they drop of all points
    pub lives_dropped : (points : List PointValue) (lives : List (List (Placed P))) (numbered : List (NumberedLife N)) → AllZip (IsOnCourse g) (from_first points lives) numbered → drops_in g numbered ≡ dropped_of g.answer lives points
    lives_dropped points [] [] z = refl
    lives_dropped points [] (l ∷ numbered) z = absurd z
    lives_dropped points (nodes ∷ lives) [] z = absurd z
    lives_dropped points (nodes ∷ lives) (l ∷ numbered) z =
        ap (λ (ns : List ℕ). ns ∷ drops_in g numbered) (life-dropped points nodes l.life.cells z.0)
        ∙ ap (λ (ls : List (List ℕ)). map (λ (x : Given). x.drops) (graph_gives g.answer points nodes) ∷ ls) (lives_dropped points lives numbered z.1)
