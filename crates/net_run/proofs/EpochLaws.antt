-- One epoch behind others, of lives that all began at the first point.
use Rattle.std.proofs.Common.{◌≡◌, ℕ, ◌+◌, List, [], ◌∷◌, ◌++◌, IsPermutation, false, inl, length, map, refl, sym, ap, subst, ◌∙◌, arith, length-append}
use Rattle.std.specs.List.{AllByRecursion as Each, AllZip}
use Rattle.kap_base.specs.Points.{PointValue}
use Rattle.kap_base.specs.declared.items.Effect.{Effect}
use Rattle.kap_base.specs.declared.items.Stamp.{Stamp}
use Rattle.node_core.specs.declared.node.Node.{Ghosts}
use Rattle.node_core.specs.Cut.{IsStamped}
use Rattle.node_core.specs.Meaning.{Answer, Input, fold, given}
use Rattle.task_run.proofs.CourseLaws.{effects_from_first, effects_more}
use Rattle.task_run.specs.Courses.{Course, Goes, course_effects, end_of, from_first, grown, later_effects}
use Rattle.task_run.specs.Graphs.{Placed}
use Rattle.task_run.specs.Lives.{effects_of}
use Rattle.flow_core.specs.Carried.{LifeHasCarried}
use Rattle.flow_core.specs.Done.{effects_in}
use Rattle.flow_core.specs.Gathering.{LivesRise, NumbersEffects}
use Rattle.flow_core.specs.Messages.{load_messages}
use Rattle.flow_core.specs.Nets.{IsLifeIn, IsResting, NetValue, plans_from, plans_in, specs_in}
use Rattle.flow_core.specs.Sorting.{AreSorted}
use Rattle.net_epochs.specs.Epochs.{IsOnCourse, nodes_in}
use Rattle.net_epochs.proofs.CarryLaws.{first_ends, first_grown, lives_carried}
use Rattle.net_epochs.proofs.NetLaws.{NetWent, grown_nodes, net_went}
use Rattle.net_epochs.proofs.RiseLaws.{later_sorted}
use Rattle.net_run.specs.Epochs.{Stands}

-- each has seen the points of the epoch too
all-go : {P : Type 0} (n : ℕ) (new : List PointValue) (courses : List (Course P)) → Each (λ c. end_of c ≡ n) courses → AllZip (Goes n new) courses (map (grown new) courses)
all-go n new [] ends = tt
all-go n new (c ∷ courses) ends = (inl (ends.0, refl), all-go n new courses ends.1)

pub first_nodes : {P : Type 0} (points : List PointValue) (nodes : List (List (Placed P))) → nodes_in (from_first points nodes) ≡ nodes
first_nodes points [] = refl
first_nodes {P} points (ns ∷ nodes) = ap (λ (all : List (List (Placed P))). ns ∷ all) (first_nodes points nodes)

-- what lives do for all points is what they do for those before, and then what they do with the stamps of the new ones
pub effects_later : {P : Type 0} (answer : P → Answer) (life number : P → ℕ) (stamped : (p : P) (before : List Input) (x : Input) → IsStamped (life p) (number p) x.1.stamp.0 (answer p before x))
    (before new : List PointValue) (nodes : List (List (Placed P))) → effects_of answer nodes (before ++ new) ≡ effects_of answer nodes before ++ later_effects answer (length before) (length new) (from_first (before ++ new) nodes)
effects_later {P} answer life number stamped before new nodes =
    let lives : List (Course P) = from_first before nodes in
    sym (effects_from_first answer nodes (before ++ new))
    ∙ ap (λ (m : ℕ). course_effects answer m (from_first (before ++ new) nodes)) (length-append before new)
    ∙ ap (course_effects answer (length before + length new)) (sym (first_grown before new nodes))
    ∙ effects_more answer life number stamped (length before) new lives (map (grown new) lives) (all-go (length before) new lives (first_ends before nodes))
    ∙ ap (λ (es : List Effect). es ++ later_effects answer (length before) (length new) (map (grown new) lives)) (effects_from_first answer nodes before)
    ∙ ap (λ (cs : List (Course P)). effects_of answer nodes before ++ later_effects answer (length before) (length new) cs) (first_grown before new nodes)

module _ {N P S : Type 0} (g : Ghosts N P S) (stamped : (p : P) (before : List Input) (x : Input) → IsStamped (g.life p) (g.number p) x.1.stamp.0 (g.answer p before x)) (folds : (p : P) (xs : List Input) → (fold (g.step p) (g.first p) xs).given ≡ given (g.answer p) xs)
    (nodes : List (List (Placed P))) (before new : List PointValue) (upto : Stamp) (net rested : NetValue N) (s : Stands g nodes before net) (last : upto.0 ≡ net.last.0 + length new)
    (plans : plans_in g rested.lives ≡ plans_from g (load_messages new upto []) net.lives) (specs : specs_in g rested.lives ≡ specs_in g net.lives)
    (kept : Each (IsLifeIn g) rested.lives) (rest : Each IsResting rested.lives) where
  own : upto.0 ≡ length before + length new
  own = let was : net.last.0 ≡ length before = s.last in omega (arith, was, last)

  went : NetWent g stamped folds (length before) new (from_first before nodes) rested.lives
  went = net_went g stamped folds (length before) new upto [] (from_first before nodes) net.lives rested.lives own tt (first_ends before nodes) s.lives plans specs kept rest

  -- behind it a net of the same lives stands
  pub stands_on : (net' : NetValue N) → net'.lives ≡ rested.lives → net'.last ≡ upto → net'.gathered ≡ [] → net'.spent ≡ false → Stands g nodes (before ++ new) net'
  stands_on net' same at none unspent =
      let carried = lives_carried g stamped folds before new upto [] nodes net.lives rested.lives own tt s.lives s.carried.lives_are plans specs kept rest in
      record {
        last = ap (λ (t : Stamp). t.0) at ∙ own ∙ sym (length-append before new);
        none = none;
        lives = subst (λ ls. AllZip (IsOnCourse g) (from_first (before ++ new) nodes) ls) (sym same)
            (subst (λ (cs : List (Course P)). AllZip (IsOnCourse g) cs rested.lives) (first_grown before new nodes) went.stands);
        carried = record {
          unspent = unspent;
          rest = subst (Each IsResting) (sym same) rest;
          lives_are = subst (AllZip (LifeHasCarried g (before ++ new)) nodes) (sym same) carried;
        };
        rise = s.rise;
      }

  -- and what its cells have done, in the order of effects, is what the effects of all points have behind those before
  pub effects_on : ((p : P) → NumbersEffects (g.answer p)) → (result : List Effect) → IsPermutation (effects_in rested.lives) result → AreSorted result
      → effects_of g.answer nodes (before ++ new) ≡ effects_of g.answer nodes before ++ result
  effects_on numbers result all sorted =
      let rise : LivesRise g.life g.number 1 (nodes_in (map (grown new) (from_first before nodes))) = subst (LivesRise g.life g.number 1) (sym (grown_nodes new (from_first before nodes) ∙ first_nodes before nodes)) s.rise in
      let due : result ≡ later_effects g.answer (length before) (length new) (map (grown new) (from_first before nodes)) = later_sorted g.answer g.life g.number stamped numbers (length before) (length new) 1 (map (grown new) (from_first before nodes)) (effects_in rested.lives) result rise went.did all sorted in
      effects_later g.answer g.life g.number stamped before new nodes
      ∙ ap (λ (cs : List (Course P)). effects_of g.answer nodes before ++ later_effects g.answer (length before) (length new) cs) (sym (first_grown before new nodes))
      ∙ ap (λ (es : List Effect). effects_of g.answer nodes before ++ es) (sym due)
