-- The effects of lives go on.
use Rattle.std.proofs.Common.{◌≡◌, ℕ, zero, suc, ◌+◌, ◌≤◌, List, [], ◌∷◌, ◌++◌, map, length, refl, sym, ap, subst, ◌∙◌, append-nil, append_assoc, get_or, inl, inr, arith}
use Rattle.std.specs.Prelude.{⊤, flat_map}
use Rattle.std.specs.List.{AllZip}
use Rattle.std.proofs.lemmas.List.Concat.{flat_map-append}
use Rattle.kap_base.specs.Points.{PointValue}
use Rattle.kap_base.specs.declared.items.Effect.{Effect}
use Rattle.kap_base.specs.declared.items.Item.{Item}
use Rattle.node_core.specs.Meaning.{Answer, Given, Input, given, nothing}
use Rattle.node_core.specs.Cut.{IsStamped}
use Rattle.task_run.specs.Graphs.{Placed, gives_behind, graph_gives, lists_of, node_gives, outs_of, stamped_from}
use Rattle.task_run.specs.Lives.{effects_of, effects_with, life_effects_with, node_effects_with}
use Rattle.task_run.specs.Merging.{at_ports, inputs_with, items_with, merged, stamps}
use Rattle.task_run.specs.MoreLaws.{AreParts, Part, Source, effects-old, gives-new, gives-old, olds, parts_behind, parts_behind-are, wholes}
use Rattle.task_run.specs.PointLaws.{from-more, from-up_to, length-more, stamped_point}
use Rattle.task_run.specs.Courses.{Course, Goes, begun, course_effects, course_effects_with, course_gives, from_first, later_effects}

-- ---- one point more

-- the points of a life, and one more
pub source_behind : (b : ℕ) (ps : List PointValue) (p : PointValue) → Source (b + length ps)
source_behind b ps p = record {
  old = stamped_from (b + 1) ps;
  more = stamped_point (suc (b + length ps)) p ∷ [];
  new = stamped_from (b + 1) (ps ++ p ∷ []);
  grows = record {
    is = from-more (b + 1) ps p (suc (b + length ps)) (omega arith);
    before = from-up_to (b + 1) ps (b + length ps) (omega arith);
    behind = (refl, tt);
  };
}

module _ {P : Type 0} (answer : P → Answer) (life number : P → ℕ) (stamped : (p : P) (before : List Input) (x : Input) → IsStamped (life p) (number p) x.1.stamp.0 (answer p before x)) where
  abbrev pub parts-of : ℕ → List PointValue → PointValue → List (Placed P) → List Part
  parts-of b ps p nodes = parts_behind answer life number stamped (b + length ps) (source_behind b ps p) [] nodes

  pub old-is : (b : ℕ) (ps : List PointValue) (p : PointValue) (nodes : List (Placed P)) → gives_behind answer (b + length ps) (stamped_from (b + 1) ps) [] nodes ≡ olds (parts-of b ps p nodes)
  unfolding source_behind
  old-is b ps p nodes = gives-old answer life number stamped (b + length ps) (source_behind b ps p) [] nodes

  pub new-is : (b : ℕ) (ps : List PointValue) (p : PointValue) (nodes : List (Placed P)) → gives_behind answer (b + length (ps ++ p ∷ [])) (stamped_from (b + 1) (ps ++ p ∷ [])) [] nodes ≡ wholes (parts-of b ps p nodes)
  unfolding source_behind
  new-is b ps p nodes =
      let long : length (ps ++ p ∷ []) ≡ suc (length ps) = length-more ps p in
      let same : b + length (ps ++ p ∷ []) ≡ suc (b + length ps) = omega (arith, long) in
      ap (λ (n : ℕ). gives_behind answer n (stamped_from (b + 1) (ps ++ p ∷ [])) [] nodes) same
      ∙ gives-new answer life number stamped (b + length ps) (source_behind b ps p) [] tt nodes

  pub parts-are : (b : ℕ) (ps : List PointValue) (p : PointValue) (nodes : List (Placed P)) → AreParts (b + length ps) (parts-of b ps p nodes)
  parts-are b ps p nodes = parts_behind-are answer life number stamped (b + length ps) (source_behind b ps p) [] tt nodes

  one-more : (b : ℕ) (ps : List PointValue) (p : PointValue) (nodes : List (Placed P)) (s : ℕ) → s ≤ b + length ps
      → node_effects_with s (gives_behind answer (b + length (ps ++ p ∷ [])) (stamped_from (b + 1) (ps ++ p ∷ [])) [] nodes) ≡ node_effects_with s (gives_behind answer (b + length ps) (stamped_from (b + 1) ps) [] nodes)
  one-more b ps p nodes s le =
      rw (new-is b ps p nodes, old-is b ps p nodes) (effects-old (b + length ps) s (parts-of b ps p nodes) le (parts-are b ps p nodes))

  -- ---- more points

  points-more : (b : ℕ) (nodes : List (Placed P)) (s : ℕ) (ps new : List PointValue) → s ≤ b + length ps
      → node_effects_with s (gives_behind answer (b + length (ps ++ new)) (stamped_from (b + 1) (ps ++ new)) [] nodes) ≡ node_effects_with s (gives_behind answer (b + length ps) (stamped_from (b + 1) ps) [] nodes)
  points-more b nodes s ps [] le = ap (λ (qs : List PointValue). node_effects_with s (gives_behind answer (b + length qs) (stamped_from (b + 1) qs) [] nodes)) (append-nil ps)
  points-more b nodes s ps (p ∷ new) le =
      let long : length (ps ++ p ∷ []) ≡ suc (length ps) = length-more ps p in
      let low : s ≤ b + length (ps ++ p ∷ []) = omega (arith, long, le) in
      ap (λ (qs : List PointValue). node_effects_with s (gives_behind answer (b + length qs) (stamped_from (b + 1) qs) [] nodes)) (sym (append_assoc ps (p ∷ []) new))
      ∙ points-more b nodes s (ps ++ p ∷ []) new low
      ∙ one-more b ps p nodes s le

  course-old : (n s : ℕ) (new : List PointValue) (c d : Course P) → Goes n new c d → s ≤ n → node_effects_with s (course_gives answer d) ≡ node_effects_with s (course_gives answer c)
  course-old n s new c d (inl h) le = ap (λ (x : Course P). node_effects_with s (course_gives answer x)) h.1 ∙ points-more c.base c.nodes s c.points new (subst (λ (k : ℕ). s ≤ k) (sym h.0) le)
  course-old n s new c d (inr h) le = ap (λ (x : Course P). node_effects_with s (course_gives answer x)) h.1

  courses-old : (n s : ℕ) (new : List PointValue) (cs cs' : List (Course P)) → AllZip (Goes n new) cs cs' → s ≤ n → course_effects_with answer s cs' ≡ course_effects_with answer s cs
  courses-old n s new [] [] z le = refl
  courses-old n s new [] (c' ∷ cs') z le = absurd z
  courses-old n s new (c ∷ cs) [] z le = absurd z
  courses-old n s new (c ∷ cs) (c' ∷ cs') z le = rw (course-old n s new c c' z.0 le, courses-old n s new cs cs' z.1 le) refl

  stamps-old : (n m : ℕ) (new : List PointValue) (cs cs' : List (Course P)) → AllZip (Goes n new) cs cs' → m ≤ n
      → flat_map (λ s. course_effects_with answer s cs') (stamps m) ≡ flat_map (λ s. course_effects_with answer s cs) (stamps m)
  stamps-old n zero new cs cs' z le = refl
  stamps-old n (suc m) new cs cs' z le =
      let low : m ≤ n = omega (arith, le) in
      flat_map-append (λ s. course_effects_with answer s cs') (stamps m) (suc m ∷ [])
      ∙ ap (λ (es : List Effect). es ++ (course_effects_with answer (suc m) cs' ++ [])) (stamps-old n m new cs cs' z low)
      ∙ ap (λ (es : List Effect). flat_map (λ s. course_effects_with answer s cs) (stamps m) ++ (es ++ [])) (courses-old n (suc m) new cs cs' z le)
      ∙ sym (flat_map-append (λ s. course_effects_with answer s cs) (stamps m) (suc m ∷ []))

  front-back : (n k : ℕ) (cs : List (Course P)) → course_effects answer (n + k) cs ≡ course_effects answer n cs ++ later_effects answer n k cs
  front-back n zero cs =
      let same : n + 0 ≡ n = omega arith in
      ap (λ (m : ℕ). course_effects answer m cs) same ∙ sym (append-nil (course_effects answer n cs))
  front-back n (suc k) cs =
      let same : n + suc k ≡ suc (n + k) = omega arith in
      let last = course_effects_with answer (suc (n + k)) cs in
      ap (λ (m : ℕ). course_effects answer m cs) same
      ∙ flat_map-append (λ s. course_effects_with answer s cs) (stamps (n + k)) (suc (n + k) ∷ [])
      ∙ ap (λ (es : List Effect). es ++ (last ++ [])) (front-back n k cs)
      ∙ ap (λ (es : List Effect). (course_effects answer n cs ++ later_effects answer n k cs) ++ es) (append-nil last)
      ∙ append_assoc (course_effects answer n cs) (later_effects answer n k cs) last

  -- the effects of more points come behind the others
  pub effects_more : (n : ℕ) (new : List PointValue) (before after : List (Course P)) → AllZip (Goes n new) before after
      → course_effects answer (n + length new) after ≡ course_effects answer n before ++ later_effects answer n (length new) after
  effects_more n new before after z =
      let low : n ≤ n = omega arith in
      front-back n (length new) after ∙ ap (λ (es : List Effect). es ++ later_effects answer n (length new) after) (stamps-old n n new before after z low)

-- ---- a life that begins

-- each of these lists is empty
abbrev pub AllEmpty : {A : Type 0} → List (List A) → Type 0
AllEmpty [] = ⊤
AllEmpty (l ∷ ls) = (l ≡ []) × AllEmpty ls

ports-empty : (s port : ℕ) (ls : List (List Item)) → AllEmpty ls → at_ports port (map (items_with s) ls) ≡ []
ports-empty s port [] h = refl
ports-empty s port (l ∷ ls) h = rw (h.0, ports-empty s (port + 1) ls h.1) refl

pub merged-empty : (n : ℕ) (ls : List (List Item)) → AllEmpty ls → merged n ls ≡ []
merged-empty zero ls h = refl
merged-empty (suc n) ls h = flat_map-append (λ s. inputs_with s ls) (stamps n) (suc n ∷ []) ∙ rw (merged-empty n ls h, ports-empty (suc n) 0 ls h) refl

get-empty : (ls : List (List Item)) (i : ℕ) → AllEmpty ls → get_or ls i [] ≡ []
get-empty [] i h = refl
get-empty (l ∷ ls) zero h = h.0
get-empty (l ∷ ls) (suc i) h = get-empty ls i h.1

picked-empty : (outs : List (List Item)) (ps : List ℕ) → AllEmpty outs → AllEmpty (map (λ i. get_or outs i []) ps)
picked-empty outs [] h = tt
picked-empty outs (p ∷ ps) h = (get-empty outs p h, picked-empty outs ps h)

pub lists-empty : (outs : List (List Item)) (ps : List ℕ) → AllEmpty outs → AllEmpty (lists_of [] outs ps)
lists-empty outs [] h = (refl, tt)
lists-empty outs (p ∷ ps) h = picked-empty outs (p ∷ ps) h

pub outs-more : (earlier : List Given) (g : Given) → AllEmpty (outs_of earlier) → g.items ≡ [] → AllEmpty (outs_of (earlier ++ g ∷ []))
outs-more [] g h e = (e, tt)
outs-more (x ∷ earlier) g h e = (h.0, outs-more earlier g h.1 e)

module _ {P : Type 0} (answer : P → Answer) where
  pub gives-nothing : (n : ℕ) (earlier : List Given) (d : Placed P) → AllEmpty (outs_of earlier) → node_gives answer n [] earlier d ≡ nothing
  gives-nothing n earlier d h = ap (λ (xs : List Input). given (answer d.spec) xs) (merged-empty n (lists_of [] (outs_of earlier) d.parents) (lists-empty (outs_of earlier) d.parents h))

  pub none-behind : (s n : ℕ) (earlier : List Given) (nodes : List (Placed P)) → AllEmpty (outs_of earlier) → node_effects_with s (gives_behind answer n [] earlier nodes) ≡ []
  none-behind s n earlier [] h = refl
  none-behind s n earlier (d ∷ nodes) h =
      let g = node_gives answer n [] earlier d in
      let none : g ≡ nothing = gives-nothing n earlier d h in
      ap (λ (x : Given). effects_with s x.effects ++ node_effects_with s (gives_behind answer n [] (earlier ++ g ∷ []) nodes)) none
      ∙ none-behind s n (earlier ++ g ∷ []) nodes (outs-more earlier g h (ap (λ (x : Given). x.items) none))

  with-begun : (s base : ℕ) (nodes : List (Placed P)) (courses : List (Course P)) → course_effects_with answer s (courses ++ begun base nodes ∷ []) ≡ course_effects_with answer s courses
  with-begun s base nodes courses =
      flat_map-append (λ c. node_effects_with s (course_gives answer c)) courses (begun base nodes ∷ [])
      ∙ rw (none-behind s (base + 0) [] nodes tt) (append-nil (course_effects_with answer s courses))

  -- a life that begins has given nothing
  pub effects_begin : (n base : ℕ) (nodes : List (Placed P)) (courses : List (Course P)) → course_effects answer n (courses ++ begun base nodes ∷ []) ≡ course_effects answer n courses
  effects_begin zero base nodes courses = refl
  effects_begin (suc n) base nodes courses =
      flat_map-append (λ s. course_effects_with answer s (courses ++ begun base nodes ∷ [])) (stamps n) (suc n ∷ [])
      ∙ rw (effects_begin n base nodes courses, with-begun (suc n) base nodes courses)
      (sym (flat_map-append (λ s. course_effects_with answer s courses) (stamps n) (suc n ∷ [])))

-- ---- lives that all begin at the first point

module _ {P : Type 0} (answer : P → Answer) where
  first-gives : (nodes : List (Placed P)) (points : List PointValue) → course_gives answer (record { nodes = nodes; base = 0; points = points }) ≡ graph_gives answer points nodes
  first-gives nodes points = let same : 0 + length points ≡ length points = omega arith in ap (λ (n : ℕ). gives_behind answer n (stamped_from 1 points) [] nodes) same

  first-with : (s : ℕ) (lives : List (List (Placed P))) (points : List PointValue) → course_effects_with answer s (from_first points lives) ≡ life_effects_with answer s lives points
  first-with s [] points = refl
  first-with s (nodes ∷ lives) points = rw (first-gives nodes points, first-with s lives points) refl

  first-stamps : (n : ℕ) (lives : List (List (Placed P))) (points : List PointValue) → course_effects answer n (from_first points lives) ≡ flat_map (λ s. life_effects_with answer s lives points) (stamps n)
  first-stamps zero lives points = refl
  first-stamps (suc n) lives points =
      flat_map-append (λ s. course_effects_with answer s (from_first points lives)) (stamps n) (suc n ∷ [])
      ∙ rw (first-stamps n lives points, first-with (suc n) lives points)
      (sym (flat_map-append (λ s. life_effects_with answer s lives points) (stamps n) (suc n ∷ [])))

  -- their effects are those of the lives on all points
  pub effects_from_first : (lives : List (List (Placed P))) (points : List PointValue) → course_effects answer (length points) (from_first points lives) ≡ effects_of answer lives points
  effects_from_first lives points = first-stamps (length points) lives points
