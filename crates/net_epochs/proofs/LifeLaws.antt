-- A life that was loaded with more points and is at rest is where these bring it.
use Rattle.std.proofs.Common.{◌≡◌, ℕ, suc, ◌+◌, ◌-◌, ◌≤◌, List, [], ◌∷◌, ◌++◌, Some, map, length, get_or, refl, sym, ap, subst, ◌∙◌, length-append, arith}
use Rattle.std.specs.Prelude.{slice_get}
use Rattle.std.specs.List.{AllZip}
use Rattle.kap_base.specs.Points.{PointValue}
use Rattle.kap_base.specs.declared.items.Item.{Item}
use Rattle.kap_base.specs.declared.items.Msg.{Msg}
use Rattle.kap_base.specs.declared.items.Stamp.{Stamp}
use Rattle.node_core.specs.declared.node.Node.{Ghosts}
use Rattle.node_core.specs.Meaning.{Input, fold, given}
use Rattle.node_core.specs.Cut.{IsStamped}
use Rattle.task_run.specs.Active.{AreAt, placed}
use Rattle.task_run.specs.Graphs.{Placed, gives_behind, stamped_from}
use Rattle.task_run.specs.MoreLaws.{Part, mores, olds, out_at, whole, wholes}
use Rattle.task_run.specs.PointLaws.{from-up_to}
use Rattle.task_run.specs.Stamps.{IsStream as HasStamps, of_item}
use Rattle.merge_node.specs.Merge.{items}
use Rattle.flow_cells.specs.Outs.{item_msgs}
use Rattle.flow_cells.specs.declared.parts.CellParts.{CellParts}
use Rattle.flow_life.specs.GraphLaws.{graph_streams, life_graph}
use Rattle.flow_life.specs.Graphs.{HasStreams}
use Rattle.flow_life.specs.Lives.{IsLife}
use Rattle.flow_life.specs.Loads.{plan_now}
use Rattle.flow_life.specs.Nodes.{specs_of}
use Rattle.flow_life.proofs.RestLaws.{carries_streams}
use Rattle.flow_life.specs.Steps.{AreQuiet}
use Rattle.flow_life.specs.Streams.{AreStreams, CarriesStreams, Plan, plan_of, plans_of}
use Rattle.flow_core.proofs.GraphLaws.{graph_ran}
use Rattle.flow_core.proofs.LifeLaws.{nodes_loaded, planned}
use Rattle.flow_core.specs.LifeLoads.{acts_of, effects_since}
use Rattle.flow_core.proofs.OutLaws.{from-append, from-low, from-rises, items-carried}
use Rattle.flow_core.specs.Loads.{Does, EndsIn, IsPlanOf}
use Rattle.flow_core.proofs.MessageLaws.{messages_barriers, messages_closed, messages_items, messages_rise}
use Rattle.flow_core.specs.Messages.{AreMarksOf, load_messages, stamped_up_to}
use Rattle.flow_core.proofs.SpanLaws.{Carries}
use Rattle.task_run.specs.Courses.{Course, IsWhere, course_gives, end_of, grown, items_of}

-- what holds at each place holds of two lists, place by place
zipped : {A B C : Type 0} (R : A → B → Type 0) (f : C → A) (h : C → B) (xs : List C) → ((j : ℕ) (c : C) → slice_get xs j ≡ Some c → R (f c) (h c)) → AllZip R (map f xs) (map h xs)
zipped R f h [] at = tt
zipped R f h (x ∷ xs) at = (at 0 x refl, zipped R f h xs (λ j c e. at (suc j) c e))

module _ {N P S : Type 0} (g : Ghosts N P S) (stamped : (p : P) (before : List Input) (x : Input) → IsStamped (g.life p) (g.number p) x.1.stamp.0 (g.answer p before x)) (folds : (p : P) (xs : List Input) → (fold (g.step p) (g.first p) xs).given ≡ given (g.answer p) xs) where
  -- What an epoch made of a life: what each node gave before and gives more, what its cells have done since, which streams
  -- its edges carried, and where it is.
  pub record LifeWent (new : List PointValue) (c : Course P) (after : List (CellParts N)) : Type 0 where
    pub parts : List Part
    pub old : course_gives g.answer c ≡ olds parts
    pub now : course_gives g.answer (grown new c) ≡ wholes parts
    pub did : effects_since after ≡ map (λ (t : Part). t.more.effects) parts
    pub streams : List (List Msg)
    pub streams_are : AreStreams (plans_of g after) streams
    pub carries : CarriesStreams g after
    pub gave : (i : ℕ) → items (get_or streams i []) ≡ item_msgs (out_at (mores parts) i)
    pub where_is : IsWhere g.answer g.first g.step (grown new c) (acts_of g after)

  pub life_went : (c : Course P) (new : List PointValue) (upto : Stamp) (marks : List Stamp) (before after : List (CellParts N))
      → IsWhere g.answer g.first g.step c (acts_of g before) → upto.0 ≡ end_of c + length new → AreMarksOf new upto marks
      → plans_of g after ≡ map (plan_now g (load_messages new upto marks)) before → specs_of g after ≡ specs_of g before
      → IsLife g after → AreQuiet after → LifeWent new c after
  life_went c new upto marks before after is last are plans specs life quiet =
      let acts = acts_of g before in
      let n = end_of c in
      let m = end_of (grown new c) in
      let long : length (c.points ++ new) ≡ length c.points + length new = length-append c.points new in
      let low : n ≤ m = omega (arith, long) in
      let fits : length new ≤ upto.0 = omega (arith, last) in
      let first_is : upto.0 - length new + 1 ≡ c.base + 1 + length c.points = omega (arith, last) in
      let high : upto.0 - length new + 1 + length new ≤ m + 1 = omega (arith, long, last) in
      let source = load_messages new upto marks in
      let bs = marks ++ upto ∷ [] in
      let olds_are : List Item = items_of c in
      let news_are : List Item = stamped_up_to upto new in
      let src : Part = record { old = record { items = olds_are; effects = []; drops = 0 }; more = record { items = news_are; effects = []; drops = 0 } } in
      let more_stamps : HasStamps of_item m news_are = record {
        from_one = from-low 1 (upto.0 - length new + 1) new (omega (arith, first_is));
        up_to = from-up_to (upto.0 - length new + 1) new m high;
        rising = from-rises (upto.0 - length new + 1) new;
      } in
      let from : Carries n m bs src source = record {
        span = record {
          low = record { from_one = from-low 1 (c.base + 1) c.points (omega arith); up_to = from-up_to (c.base + 1) c.points n (omega arith); rising = from-rises (c.base + 1) c.points };
          high = more_stamps;
          above = from-low (suc n) (upto.0 - length new + 1) new (omega (arith, first_is));
        };
        into = record {
          has = record { items = messages_items new upto marks; stream = more_stamps };
          barriers = messages_barriers new upto marks fits are;
          rises = messages_rise new upto marks fits;
          closed = messages_closed new upto marks;
        };
      } in
      let all : (whole src).items ≡ items_of (grown new c) = sym (from-append (c.base + 1) c.points new ∙ ap (λ (k : ℕ). olds_are ++ stamped_from k new) (sym first_is)) in
      let s : HasStreams (plans_of g after) = graph_streams (plans_of g after) (life_graph g after life) in
      let carries : CarriesStreams g after = carries_streams g after life.ready quiet in
      let same : map placed (acts_of g after) ≡ map placed acts = nodes_loaded g source before after specs plans in
      let of : AllZip (IsPlanOf g.step source) acts (plans_of g after) = subst (λ (ps : List (Plan S)). AllZip (IsPlanOf g.step source) acts ps) (sym plans) (planned g source before) in
      let does : AllZip (Does s.streams) (plans_of g after) (effects_since after) = zipped (Does s.streams) (plan_of g) _ after (λ j d at stream whole_is. (carries.stands s.streams s.are j d at stream whole_is).effects) in
      let ends : AllZip (EndsIn s.streams) (plans_of g after) (acts_of g after) = zipped (EndsIn s.streams) (plan_of g) _ after (λ j d at stream whole_is. (carries.stands s.streams s.are j d at stream whole_is).state) in
      let ran = graph_ran n m bs src source from g.answer g.life g.number stamped g.first g.step folds low 0 [] [] acts (plans_of g after) s.streams (effects_since after) (acts_of g after) refl tt (life_graph g after life) is.at of s.are does ends same in
      record {
        parts = ran.parts;
        old = ap (λ (ds : List (Placed P)). gives_behind g.answer n olds_are [] ds) (sym is.nodes) ∙ ran.old;
        now = ap (λ (l : List Item). gives_behind g.answer m l [] c.nodes) (sym all) ∙ ap (λ (ds : List (Placed P)). gives_behind g.answer m (whole src).items [] ds) (sym is.nodes) ∙ ran.new;
        did = ran.does;
        streams = s.streams;
        streams_are = s.are;
        carries = carries;
        gave = λ i. items-carried n m bs ran.parts s.streams i ran.carries;
        where_is = record {
          nodes = same ∙ is.nodes;
          at = subst (λ (l : List Item). AreAt g.answer g.first g.step m l [] (acts_of g after)) all ran.at;
        };
      }
