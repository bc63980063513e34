-- Nets that are made, lives that begin and end in them, and epochs: where they stand.
use Rattle.std.proofs.Common.{◌≡◌, ℕ, zero, suc, ◌+◌, ◌≤◌, ◌<◌, List, [], ◌∷◌, ◌++◌, Some, false, length, map, zip, refl, sym, ap, subst, ◌∙◌, length-append, arith}
use Rattle.std.specs.Prelude.{slice_get}
use Rattle.std.specs.List.{AllByRecursion as Each, AllZip, remove}
use Rattle.std.proofs.lemmas.List.{map-append}
use Rattle.kap_base.specs.Points.{PointValue}
use Rattle.kap_base.specs.declared.items.Stamp.{Stamp}
use Rattle.node_core.specs.declared.node.Node.{Ghosts}
use Rattle.node_core.specs.Meaning.{Answer, Given, Input, Move, fold}
use Rattle.flow_life.proofs.PlaceLaws.{found-same}
use Rattle.task_run.specs.Active.{Active, AreAt, AreFirst, placed}
use Rattle.task_run.proofs.CourseLaws.{AllEmpty, gives-nothing, lists-empty, merged-empty, outs-more}
use Rattle.task_run.specs.Courses.{Course, begun, end_of, from_first, grown}
use Rattle.task_run.specs.EffectOrder.{NodesNumbered}
use Rattle.task_run.specs.Graphs.{lists_of, node_gives, outs_of}
use Rattle.task_run.specs.Plans.{AreFirstNodes, AreFirstStates, AreNodesFrom, IsPlan, PlanValue, graph_of}
use Rattle.flow_core.proofs.EndLaws.{each_remove}
use Rattle.flow_core.specs.Gathering.{LivesRise}
use Rattle.flow_core.specs.LifeLoads.{acts_of}
use Rattle.flow_core.specs.Making.{AreLivesOf, Begins, Ends, IsLifeBehind}
use Rattle.flow_core.specs.Nets.{IsResting, NetValue, NumberedLife, numbers_of}
use Rattle.flow_core.proofs.LifeLaws.{first-acts, graph_behind}
use Rattle.net_epochs.specs.Epochs.{AreNumberedBy, IsNumbered, IsOnCourse, NumbersRise, StandsAt, nodes_in}

-- ---- lists

each-both : {A : Type 0} (P : A → Type 0) (xs ys : List A) → Each P xs → Each P ys → Each P (xs ++ ys)
each-both P [] ys a b = b
each-both P (x ∷ xs) ys a b = (a.0, each-both P xs ys a.1 b)

zip-both : {A B : Type 0} (R : A → B → Type 0) (xs us : List A) (ys vs : List B) → AllZip R xs ys → AllZip R us vs → AllZip R (xs ++ us) (ys ++ vs)
zip-both R [] us [] vs a b = b
zip-both R [] us (y ∷ ys) vs a b = absurd a
zip-both R (x ∷ xs) us [] vs a b = absurd a
zip-both R (x ∷ xs) us (y ∷ ys) vs a b = (a.0, zip-both R xs us ys vs a.1 b)

zip-remove : {A B : Type 0} (R : A → B → Type 0) (xs : List A) (ys : List B) (i : ℕ) → AllZip R xs ys → AllZip R (remove xs i) (remove ys i)
zip-remove R [] [] zero z = tt
zip-remove R [] [] (suc i) z = tt
zip-remove R [] (y ∷ ys) i z = absurd z
zip-remove R (x ∷ xs) [] i z = absurd z
zip-remove R (x ∷ xs) (y ∷ ys) zero z = z.1
zip-remove R (x ∷ xs) (y ∷ ys) (suc i) z = (z.0, zip-remove R xs ys i z.1)

pub map-remove : {A B : Type 0} (f : A → B) (xs : List A) (i : ℕ) → map f (remove xs i) ≡ remove (map f xs) i
map-remove f [] zero = refl
map-remove f [] (suc i) = refl
map-remove f (x ∷ xs) zero = refl
map-remove f (x ∷ xs) (suc i) = ap (λ l. f x ∷ l) (map-remove f xs i)

-- ---- numbers that rise

rise-from : (low high : ℕ) (numbers : List ℕ) → low ≤ high → NumbersRise high numbers → NumbersRise low numbers
rise-from low high [] le h = tt
rise-from low high (n ∷ numbers) le h = let first : high ≤ n = h.0 in (omega arith, h.1)

rise-more : (low n : ℕ) (numbers : List ℕ) → low ≤ n → NumbersRise low numbers → Each (λ m. m < n) numbers → NumbersRise low (numbers ++ n ∷ [])
rise-more low n [] le h below = (le, tt)
rise-more low n (m ∷ numbers) le h below = let less : m < n = below.0 in (h.0, rise-more (m + 1) n numbers (omega arith) h.1 below.1)

rise-less : (low : ℕ) (numbers : List ℕ) (i : ℕ) → NumbersRise low numbers → NumbersRise low (remove numbers i)
rise-less low [] zero h = tt
rise-less low [] (suc i) h = tt
rise-less low (n ∷ numbers) zero h = let first : low ≤ n = h.0 in rise-from low (n + 1) numbers (omega arith) h.1
rise-less low (n ∷ numbers) (suc i) h = (h.0, rise-less (n + 1) numbers i h.1)

rise-at : (low : ℕ) (numbers : List ℕ) (i n : ℕ) → NumbersRise low numbers → slice_get numbers i ≡ Some n → low ≤ n
rise-at low [] i n h at = absurd cc
rise-at low (m ∷ numbers) zero n h at = let same : m ≡ n = found-same (Some m) m n refl at in let first : low ≤ m = h.0 in omega arith
rise-at low (m ∷ numbers) (suc i) n h at = let first : low ≤ m = h.0 in let later : m + 1 ≤ n = rise-at (m + 1) numbers i n h.1 at in omega arith

-- a number stands at one place
pub one_place : (low : ℕ) (numbers : List ℕ) (i j n : ℕ) → NumbersRise low numbers → slice_get numbers i ≡ Some n → slice_get numbers j ≡ Some n → i ≡ j
one_place low [] i j n h at at' = absurd cc
one_place low (m ∷ numbers) zero zero n h at at' = refl
one_place low (m ∷ numbers) zero (suc j) n h at at' =
    let same : m ≡ n = found-same (Some m) m n refl at in
    let later : m + 1 ≤ n = rise-at (m + 1) numbers j n h.1 at' in
    absurd (omega arith)
one_place low (m ∷ numbers) (suc i) zero n h at at' =
    let same : m ≡ n = found-same (Some m) m n refl at' in
    let later : m + 1 ≤ n = rise-at (m + 1) numbers i n h.1 at in
    absurd (omega arith)
one_place low (m ∷ numbers) (suc i) (suc j) n h at at' = ap suc (one_place (m + 1) numbers i j n h.1 at at')

-- ---- nodes that are planned

module _ {N P : Type 0} (spec : N → P) (ports life number : P → ℕ) where
  nodes-numbered : (which at : ℕ) (nodes : List N) (parents : List (List ℕ)) → AreNodesFrom spec ports life number which at nodes parents
      → NodesNumbered life number which at (map (λ p. record { spec = spec p.0; parents = p.1 }) (zip nodes parents))
  nodes-numbered which at [] parents are = tt
  nodes-numbered which at (n ∷ nodes) [] are = tt
  nodes-numbered which at (n ∷ nodes) (ps ∷ parents) are = ((are.0.life_is, are.0.number_is), nodes-numbered which (at + 1) nodes parents are.1)

module _ {P S : Type 0} (answer : P → Answer) (first : P → S) (step : P → S → Input → Move S) where
  begins-at : (n : ℕ) (earlier : List Given) (acts : List (Active P S)) → AllEmpty (outs_of earlier) → AreFirst first acts → AreAt answer first step n [] earlier acts
  begins-at n earlier [] empty h = tt
  begins-at n earlier (a ∷ acts) empty h =
      let g = node_gives answer n [] earlier (placed a) in
      let none = gives-nothing answer n earlier (placed a) empty in (
        h.0 ∙ ap (λ (xs : List Input). (fold (step a.spec) (first a.spec) xs).state) (sym (merged-empty n (lists_of [] (outs_of earlier) a.parents) (lists-empty (outs_of earlier) a.parents empty))),
        begins-at n (earlier ++ g ∷ []) acts (outs-more earlier g empty (ap (λ (x : Given). x.items) none)) h.1,
      )

module _ {N P S : Type 0} (g : Ghosts N P S) where
  -- a life of a plan in first states has seen no points
  pub life_begins : (stamp n : ℕ) (plan : PlanValue N) (l : NumberedLife N) → IsLifeBehind g stamp plan l → AreFirstNodes g.spec g.state g.first plan.nodes → IsOnCourse g (begun n (graph_of g.spec plan)) l
  life_begins stamp n plan l is begins = record {
    nodes = graph_behind g stamp plan l is;
    at = begins-at g.answer g.first g.step (n + 0) [] (acts_of g l.life.cells) tt (first-acts g l.life.cells (subst (λ (ns : List N). AreFirstNodes g.spec g.state g.first ns) (sym is.nodes) begins));
  }

  -- its nodes are those of the life with its number
  pub life_numbered : (stamp : ℕ) (plan : PlanValue N) (l : NumberedLife N) → IsLifeBehind g stamp plan l → IsPlan g.spec g.ports g.life g.number plan
      → NodesNumbered g.life g.number l.number 0 (graph_of g.spec plan)
  life_numbered stamp plan l is plans =
      subst (λ (which : ℕ). NodesNumbered g.life g.number which 0 (graph_of g.spec plan)) (sym is.number)
      (nodes-numbered g.spec g.ports g.life g.number plan.life 0 plan.nodes plan.parents plans.nodes)

  -- ---- a net that is made

  abbrev made : List (PlanValue N) → List (Course P)
  made plans = map (λ plan. begun 0 (graph_of g.spec plan)) plans

  made-ends : (plans : List (PlanValue N)) → Each (λ c. end_of c ≡ 0) (made plans)
  made-ends [] = tt
  made-ends (p ∷ plans) = (omega arith, made-ends plans)

  made-lives : (plans : List (PlanValue N)) (lives : List (NumberedLife N)) → AreLivesOf g plans lives → AreFirstStates g.spec g.state g.first plans → AllZip (IsOnCourse g) (made plans) lives
  made-lives [] [] are first = tt
  made-lives [] (l ∷ lives) are first = absurd are
  made-lives (p ∷ plans) [] are first = absurd are
  made-lives (p ∷ plans) (l ∷ lives) are first = (life_begins 0 0 p l are.0 first.0, made-lives plans lives are.1 first.1)

  -- the same, as lives that have all seen no points
  pub lives_first : (plans : List (PlanValue N)) (lives : List (NumberedLife N)) → AreLivesOf g plans lives → AreFirstStates g.spec g.state g.first plans → AllZip (IsOnCourse g) (from_first [] (map (graph_of g.spec) plans)) lives
  lives_first [] [] are first = tt
  lives_first [] (l ∷ lives) are first = absurd are
  lives_first (p ∷ plans) [] are first = absurd are
  lives_first (p ∷ plans) (l ∷ lives) are first = (life_begins 0 0 p l are.0 first.0, lives_first plans lives are.1 first.1)

  made-numbered : (plans : List (PlanValue N)) (lives : List (NumberedLife N)) → AreLivesOf g plans lives → Each (IsPlan g.spec g.ports g.life g.number) plans → AreNumberedBy g (numbers_of lives) (made plans)
  made-numbered [] [] are planned = tt
  made-numbered [] (l ∷ lives) are planned = absurd are
  made-numbered (p ∷ plans) [] are planned = absurd are
  made-numbered (p ∷ plans) (l ∷ lives) are planned = (life_numbered 0 p l are.0 planned.0, made-numbered plans lives are.1 planned.1)

  made-numbers : (plans : List (PlanValue N)) (lives : List (NumberedLife N)) → AreLivesOf g plans lives → numbers_of lives ≡ map (λ plan. plan.life) plans
  made-numbers [] [] are = refl
  made-numbers [] (l ∷ lives) are = absurd are
  made-numbers (p ∷ plans) [] are = absurd are
  made-numbers (p ∷ plans) (l ∷ lives) are =
      ap (λ (n : ℕ). n ∷ numbers_of lives) are.0.number ∙ ap (λ (ns : List ℕ). p.life ∷ ns) (made-numbers plans lives are.1)

  pub net_made : (plans : List (PlanValue N)) (net : NetValue N) → AreLivesOf g plans net.lives → AreFirstStates g.spec g.state g.first plans → Each (IsPlan g.spec g.ports g.life g.number) plans
      → NumbersRise 0 (map (λ plan. plan.life) plans) → Each IsResting net.lives → net.gathered ≡ [] → net.last.0 ≡ 0 → net.spent ≡ false
      → StandsAt g 0 (map (λ plan. begun 0 (graph_of g.spec plan)) plans) net
  net_made plans net are first planned rise rest none last unspent = record {
    unspent = unspent;
    rest = rest;
    none = none;
    last = omega (arith, last);
    ends = made-ends plans;
    lives = made-lives plans net.lives are first;
    numbered = made-numbered plans net.lives are planned;
    rise = subst (NumbersRise 0) (sym (made-numbers plans net.lives are)) rise;
  }

  -- ---- a life that begins, and one that ends

  pub net_begun : (n : ℕ) (plan : PlanValue N) (courses : List (Course P)) (before after : NetValue N) → StandsAt g n courses before → Begins g before.last.0 plan before.lives after.lives
      → AreFirstNodes g.spec g.state g.first plan.nodes → IsPlan g.spec g.ports g.life g.number plan → Each (λ number. number < plan.life) (numbers_of before.lives)
      → Each IsResting after.lives → after.gathered ≡ before.gathered → after.last ≡ before.last → after.spent ≡ false
      → StandsAt g n (courses ++ begun n (graph_of g.spec plan) ∷ []) after
  net_begun n plan courses before after s b first planned below rest gathered last unspent =
      let course = begun n (graph_of g.spec plan) in
      let numbers : numbers_of after.lives ≡ numbers_of before.lives ++ b.life.number ∷ [] = ap numbers_of b.is ∙ map-append (λ (l : NumberedLife N). l.number) before.lives (b.life ∷ []) in
      let number : b.life.number ≡ plan.life = b.made.number in
      let same : after.last.0 ≡ before.last.0 = ap (λ (t : Stamp). t.0) last in
      let low : before.last.0 ≤ n = s.last in
      record {
        unspent = unspent;
        rest = rest;
        none = gathered ∙ s.none;
        last = omega (arith, same, low);
        ends = each-both (λ c. end_of c ≡ n) courses (course ∷ []) s.ends (omega arith, tt);
        lives = subst (λ (ls : List (NumberedLife N)). AllZip (IsOnCourse g) (courses ++ course ∷ []) ls) (sym b.is)
            (zip-both (IsOnCourse g) courses (course ∷ []) before.lives (b.life ∷ []) s.lives (life_begins before.last.0 n plan b.life b.made first, tt));
        numbered = subst (λ (ns : List ℕ). AreNumberedBy g ns (courses ++ course ∷ [])) (sym numbers)
            (zip-both (IsNumbered g) (numbers_of before.lives) (b.life.number ∷ []) courses (course ∷ []) s.numbered (life_numbered before.last.0 plan b.life b.made planned, tt));
        rise = subst (NumbersRise 0) (sym numbers)
            (subst (λ (m : ℕ). NumbersRise 0 (numbers_of before.lives ++ m ∷ [])) (sym number) (rise-more 0 plan.life (numbers_of before.lives) (omega arith) s.rise below));
      }

  pub net_ended : (n number : ℕ) (courses : List (Course P)) (before after : NetValue N) → StandsAt g n courses before → (e : Ends number before.lives after.lives)
      → Each IsResting after.lives → after.gathered ≡ [] → after.last ≡ before.last → after.spent ≡ false → StandsAt g n (remove courses e.place) after
  net_ended n number courses before after s e rest none last unspent =
      let numbers : numbers_of after.lives ≡ remove (numbers_of before.lives) e.place = ap numbers_of e.is ∙ map-remove (λ (l : NumberedLife N). l.number) before.lives e.place in
      let same : after.last.0 ≡ before.last.0 = ap (λ (t : Stamp). t.0) last in
      let low : before.last.0 ≤ n = s.last in
      record {
        unspent = unspent;
        rest = rest;
        none = none;
        last = omega (arith, same, low);
        ends = each_remove (λ c. end_of c ≡ n) courses e.place s.ends;
        lives = subst (λ (ls : List (NumberedLife N)). AllZip (IsOnCourse g) (remove courses e.place) ls) (sym e.is) (zip-remove (IsOnCourse g) courses before.lives e.place s.lives);
        numbered = subst (λ (ns : List ℕ). AreNumberedBy g ns (remove courses e.place)) (sym numbers)
            (zip-remove (IsNumbered g) (numbers_of before.lives) courses e.place s.numbered);
        rise = subst (NumbersRise 0) (sym numbers) (rise-less 0 (numbers_of before.lives) e.place s.rise);
      }

  -- ---- an epoch

  grown-ends : (n : ℕ) (new : List PointValue) (courses : List (Course P)) → Each (λ c. end_of c ≡ n) courses → Each (λ c. end_of c ≡ n + length new) (map (grown new) courses)
  grown-ends n new [] ends = tt
  grown-ends n new (c ∷ courses) ends =
      let is : end_of c ≡ n = ends.0 in
      let long : length (c.points ++ new) ≡ length c.points + length new = length-append c.points new in
      (omega (arith, is, long), grown-ends n new courses ends.1)

  grown-numbered : (new : List PointValue) (numbers : List ℕ) (courses : List (Course P)) → AreNumberedBy g numbers courses → AreNumberedBy g numbers (map (grown new) courses)
  grown-numbered new [] [] are = tt
  grown-numbered new [] (c ∷ courses) are = absurd are
  grown-numbered new (n ∷ numbers) [] are = absurd are
  grown-numbered new (n ∷ numbers) (c ∷ courses) are = (are.0, grown-numbered new numbers courses are.1)

  pub net_ran : (n : ℕ) (new : List PointValue) (courses : List (Course P)) (before after : NetValue N) → StandsAt g n courses before → Each IsResting after.lives → after.gathered ≡ []
      → numbers_of after.lives ≡ numbers_of before.lives → after.last.0 ≡ n + length new → after.spent ≡ false → AllZip (IsOnCourse g) (map (grown new) courses) after.lives
      → StandsAt g (n + length new) (map (grown new) courses) after
  net_ran n new courses before after s rest none numbers last unspent lives = record {
    unspent = unspent;
    rest = rest;
    none = none;
    last = omega (arith, last);
    ends = grown-ends n new courses s.ends;
    lives = lives;
    numbered = subst (λ (ns : List ℕ). AreNumberedBy g ns (map (grown new) courses)) (sym numbers) (grown-numbered new (numbers_of before.lives) courses s.numbered);
    rise = subst (NumbersRise 0) (sym numbers) s.rise;
  }

  -- the numbers of the nodes rise with those of the lives
  pub courses_rise : (low : ℕ) (numbers : List ℕ) (courses : List (Course P)) → NumbersRise low numbers → AreNumberedBy g numbers courses → LivesRise g.life g.number low (nodes_in courses)
  courses_rise low [] [] rise are = tt
  courses_rise low [] (c ∷ courses) rise are = absurd are
  courses_rise low (n ∷ numbers) [] rise are = absurd are
  courses_rise low (n ∷ numbers) (c ∷ courses) rise are = (n, rise.0, are.0, courses_rise (n + 1) numbers courses rise.1 are.1)
