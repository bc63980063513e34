-- Lives of a net that were loaded with more points and are at rest are where these bring them.
use Rattle.std.proofs.Common.{◌≡◌, ℕ, zero, suc, ◌+◌, ◌≤◌, List, [], ◌∷◌, ◌++◌, map, length, drop, IsPermutation, refl, sym, ap, subst, ◌∙◌, length-append, arith}
use Rattle.std.specs.List.{AllByRecursion as Each, AllZip}
use Rattle.std.proofs.lemmas.List.Sorted.{IsPermutation-append, IsPermutation-refl, IsPermutation-trans}
use Rattle.kap_base.specs.Points.{PointValue}
use Rattle.kap_base.specs.declared.items.Effect.{Effect}
use Rattle.kap_base.specs.declared.items.Msg.{Msg}
use Rattle.kap_base.specs.declared.items.Stamp.{Stamp}
use Rattle.node_core.specs.declared.node.Node.{Ghosts}
use Rattle.node_core.specs.Meaning.{Given, Input, fold, given}
use Rattle.node_core.specs.Cut.{IsStamped}
use Rattle.task_run.specs.Graphs.{Placed}
use Rattle.task_run.specs.Lives.{effects_with, node_effects_with}
use Rattle.task_run.specs.MoreLaws.{Part, olds, whole, wholes}
use Rattle.task_run.specs.Stamps.{IsStream, of_effect}
use Rattle.flow_cells.specs.declared.parts.CellParts.{CellParts}
use Rattle.flow_life.specs.Loads.{plan_now}
use Rattle.flow_life.specs.Nodes.{specs_of}
use Rattle.flow_life.specs.Streams.{plans_of}
use Rattle.flow_core.proofs.DoneLaws.{paired}
use Rattle.flow_core.specs.LifeLoads.{effects_since}
use Rattle.flow_core.specs.Messages.{AreMarksOf, load_messages}
use Rattle.flow_core.specs.Nets.{IsLifeIn, IsResting, NumberedLife, plans_from, plans_in, specs_in}
use Rattle.flow_core.proofs.PortLaws.{head_same}
use Rattle.flow_core.specs.Done.{effects_in, together}
use Rattle.task_run.specs.Courses.{Course, course_effects_with, course_gives, end_of, grown, items_of, later_effects, laters}
use Rattle.task_run.proofs.LaterLaws.{each_kept, each_with, gives_streams, high-same, later_is, later_of}
use Rattle.net_epochs.specs.Epochs.{IsOnCourse, nodes_in}
use Rattle.net_epochs.proofs.LifeLaws.{LifeWent, life_went}

-- more points leave the nodes
pub grown_nodes : {P : Type 0} (new : List PointValue) (courses : List (Course P)) → nodes_in (map (grown new) courses) ≡ nodes_in courses
grown_nodes new [] = refl
grown_nodes {P} new (c ∷ courses) = ap (λ (ns : List (List (Placed P))). c.nodes ∷ ns) (grown_nodes new courses)

pub none-more : {A : Type 0} (x : A) (xs : List A) → x ∷ xs ≡ [] → ⊥
none-more x xs e = absurd cc

-- ---- stamp by stamp

laters-none : (n k : ℕ) → laters n k (λ s. []) ≡ []
laters-none n zero = refl
laters-none n (suc k) = rw (laters-none n k) refl

laters-both : (n k : ℕ) (f h : ℕ → List Effect) → IsPermutation (laters n k f ++ laters n k h) (laters n k (λ s. f s ++ h s))
laters-both n zero f h = IsPermutation-refl []
laters-both n (suc k) f h =
    let s = suc (n + k) in
    IsPermutation-trans _ _ _ (paired (laters n k f) (f s) (laters n k h) (h s))
    (IsPermutation-append _ _ _ _ (laters-both n k f h) (IsPermutation-refl (f s ++ h s)))

same-tail : {A : Type 0} (x y : List A) (xs ys : List (List A)) → x ∷ xs ≡ y ∷ ys → xs ≡ ys
same-tail x y xs ys e = ap (λ (l : List (List _)). drop 1 l) e

-- ---- the nodes of a life

-- each gave and gives what is told by stamps
record IsTold (n k : ℕ) (t : Part) : Type 0 where
  more_is : t.more.effects ≡ later_of n k (whole t).effects

told-one : (n k : ℕ) (t : Part) → IsStream of_effect n t.old.effects → IsStream of_effect (n + k) (whole t).effects → ((s : ℕ) → s ≤ n → effects_with s (whole t).effects ≡ effects_with s t.old.effects) → IsTold n k t
told-one n k t low all same = record {
  more_is = later_is n k t.old.effects t.more.effects low all same ∙ sym (high-same n k t.old.effects t.more.effects low.up_to);
}

told-all : (n k : ℕ) (ts : List Part) → Each (λ (g : Given). IsStream of_effect n g.effects) (olds ts) → Each (λ (g : Given). IsStream of_effect (n + k) g.effects) (wholes ts)
    → ((s : ℕ) → s ≤ n → each_with s (wholes ts) ≡ each_with s (olds ts)) → Each (IsTold n k) ts
told-all n k [] low all same = tt
told-all n k (t ∷ ts) low all same = (
  told-one n k t low.0 all.0 (λ s le. head_same (effects_with s (whole t).effects) (effects_with s t.old.effects) (each_with s (wholes ts)) (each_with s (olds ts)) (same s le)),
  told-all n k ts low.1 all.1 (λ s le. same-tail (effects_with s (whole t).effects) (effects_with s t.old.effects) (each_with s (wholes ts)) (each_with s (olds ts)) (same s le)),
)

told-together : (n k : ℕ) (ts : List Part) → Each (IsTold n k) ts → IsPermutation (together (map (λ (t : Part). t.more.effects) ts)) (laters n k (λ s. node_effects_with s (wholes ts)))
told-together n k [] h = subst (λ (l : List Effect). IsPermutation [] l) (sym (laters-none n k)) (IsPermutation-refl [])
told-together n k (t ∷ ts) h =
    IsPermutation-trans _ _ _
    (IsPermutation-append t.more.effects (later_of n k (whole t).effects) (together (map (λ (u : Part). u.more.effects) ts)) (laters n k (λ s. node_effects_with s (wholes ts)))
    (subst (λ (l : List Effect). IsPermutation t.more.effects l) h.0.more_is (IsPermutation-refl t.more.effects))
    (told-together n k ts h.1))
    (laters-both n k (λ s. effects_with s (whole t).effects) (λ s. node_effects_with s (wholes ts)))

module _ {N P S : Type 0} (g : Ghosts N P S) (stamped : (p : P) (before : List Input) (x : Input) → IsStamped (g.life p) (g.number p) x.1.stamp.0 (g.answer p before x)) (folds : (p : P) (xs : List Input) → (fold (g.step p) (g.first p) xs).given ≡ given (g.answer p) xs) where
  life-did : (n : ℕ) (new : List PointValue) (c : Course P) (after : List (CellParts N)) → end_of c ≡ n → LifeWent g stamped folds new c after
      → IsPermutation (together (effects_since after)) (laters n (length new) (λ s. node_effects_with s (course_gives g.answer (grown new c))))
  life-did n new c after e w =
      let k = length new in
      let long : length (c.points ++ new) ≡ length c.points + k = length-append c.points new in
      let ends : end_of (grown new c) ≡ n + k = omega (arith, long, e) in
      let low : Each (λ (x : Given). IsStream of_effect n x.effects) (olds w.parts) =
      subst (λ (gs : List Given). Each (λ (x : Given). IsStream of_effect n x.effects) gs) w.old
      (subst (λ (m : ℕ). Each (λ (x : Given). IsStream of_effect m x.effects) (course_gives g.answer c)) e (gives_streams g.answer g.life g.number stamped (end_of c) (items_of c) [] c.nodes)) in
      let all : Each (λ (x : Given). IsStream of_effect (n + k) x.effects) (wholes w.parts) =
      subst (λ (gs : List Given). Each (λ (x : Given). IsStream of_effect (n + k) x.effects) gs) w.now
      (subst (λ (m : ℕ). Each (λ (x : Given). IsStream of_effect m x.effects) (course_gives g.answer (grown new c))) ends (gives_streams g.answer g.life g.number stamped (end_of (grown new c)) (items_of (grown new c)) [] c.nodes)) in
      let same : (s : ℕ) → s ≤ n → each_with s (wholes w.parts) ≡ each_with s (olds w.parts) =
      λ s le. ap (each_with s) (sym w.now) ∙ each_kept g.answer g.life g.number stamped c.base c.nodes s c.points new (subst (λ (m : ℕ). s ≤ m) (sym e) le) ∙ ap (each_with s) w.old in
      let told = told-together n k w.parts (told-all n k w.parts low all same) in
      subst (λ (es : List (List Effect)). IsPermutation (together es) (laters n k (λ s. node_effects_with s (course_gives g.answer (grown new c))))) (sym w.did)
      (subst (λ (gs : List Given). IsPermutation (together (map (λ (t : Part). t.more.effects) w.parts)) (laters n k (λ s. node_effects_with s gs))) (sym w.now) told)

  pub first-plans : (source : List Msg) (lives lives' : List (NumberedLife N)) (l l' : NumberedLife N) → plans_in g (l' ∷ lives') ≡ plans_from g source (l ∷ lives) → plans_of g l'.life.cells ≡ map (plan_now g source) l.life.cells
  first-plans source lives lives' l l' e = head_same (plans_of g l'.life.cells) (map (plan_now g source) l.life.cells) (plans_in g lives') (plans_from g source lives) e

  pub first-specs : (lives lives' : List (NumberedLife N)) (l l' : NumberedLife N) → specs_in g (l' ∷ lives') ≡ specs_in g (l ∷ lives) → specs_of g l'.life.cells ≡ specs_of g l.life.cells
  first-specs lives lives' l l' e = head_same (specs_of g l'.life.cells) (specs_of g l.life.cells) (specs_in g lives') (specs_in g lives) e

  -- what an epoch made of lives
  pub record NetWent (n : ℕ) (new : List PointValue) (courses : List (Course P)) (after : List (NumberedLife N)) : Type 0 where
    pub stands : AllZip (IsOnCourse g) (map (grown new) courses) after
    pub did : IsPermutation (effects_in after) (later_effects g.answer n (length new) (map (grown new) courses))

  pub net_went : (n : ℕ) (new : List PointValue) (upto : Stamp) (marks : List Stamp) (courses : List (Course P)) (before after : List (NumberedLife N))
      → upto.0 ≡ n + length new → AreMarksOf new upto marks → Each (λ c. end_of c ≡ n) courses → AllZip (IsOnCourse g) courses before
      → plans_in g after ≡ plans_from g (load_messages new upto marks) before → specs_in g after ≡ specs_in g before
      → Each (IsLifeIn g) after → Each IsResting after → NetWent n new courses after
  net_went n new upto marks [] [] [] last are ends z plans specs kept rest = record { stands = tt; did = subst (λ (l : List Effect). IsPermutation [] l) (sym (laters-none n (length new))) (IsPermutation-refl []) }
  net_went n new upto marks [] [] (l' ∷ after) last are ends z plans specs kept rest = absurd (none-more (plans_of g l'.life.cells) (plans_in g after) plans)
  net_went n new upto marks [] (l ∷ before) after last are ends z plans specs kept rest = absurd z
  net_went n new upto marks (c ∷ courses) [] after last are ends z plans specs kept rest = absurd z
  net_went n new upto marks (c ∷ courses) (l ∷ before) [] last are ends z plans specs kept rest = absurd (none-more (map (plan_now g (load_messages new upto marks)) l.life.cells) (plans_from g (load_messages new upto marks) before) (sym plans))
  net_went n new upto marks (c ∷ courses) (l ∷ before) (l' ∷ after) last are ends z plans specs kept rest =
      let k = length new in
      let e : end_of c ≡ n = ends.0 in
      let own : upto.0 ≡ end_of c + length new = omega (arith, last, e) in
      let w = life_went g stamped folds c new upto marks l.life.cells l'.life.cells z.0 own are (first-plans (load_messages new upto marks) before after l l' plans) (first-specs before after l l' specs) kept.0 rest.0 in
      let others = net_went n new upto marks courses before after last are ends.1 z.1 (ap (drop 1) plans) (ap (drop 1) specs) kept.1 rest.1 in
      record {
        stands = (w.where_is, others.stands);
        did = IsPermutation-trans _ _ _
            (IsPermutation-append (together (effects_since l'.life.cells)) (laters n k (λ s. node_effects_with s (course_gives g.answer (grown new c)))) (effects_in after) (later_effects g.answer n k (map (grown new) courses))
            (life-did n new c l'.life.cells e w) others.did)
            (laters-both n k (λ s. node_effects_with s (course_gives g.answer (grown new c))) (λ s. course_effects_with g.answer s (map (grown new) courses)));
      }
