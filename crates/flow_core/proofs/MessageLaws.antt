-- The messages of a load have the points and barriers that they are to have, in order.
use Rattle.std.proofs.Common.{◌≡◌, ℕ, ◌+◌, ◌-◌, ◌*◌, ◌<◌, ◌≤◌, ◌==◌, true, false, cond, List, [], ◌∷◌, ◌++◌, length, refl, ap, subst, ◌∙◌, append-nil, arith}
use Rattle.std.specs.Prelude.{◌≢◌}
use Rattle.std.proofs.lemmas.Bool.Decides.{nat_tests}
use Rattle.kap_base.specs.Points.{PointValue}
use Rattle.kap_base.specs.declared.items.Item.{Item}
use Rattle.kap_base.specs.declared.items.Msg.{Msg}
use Rattle.kap_base.specs.declared.items.Msg.TheVariants as messages
use Rattle.kap_base.specs.declared.items.Stamp.{Stamp}
use Rattle.merge_node.specs.Merge.{IsClosed, RisesFrom, barriers, items}
use Rattle.flow_cells.specs.Outs.{item_msgs}
use Rattle.task_run.specs.Graphs.{stamped_from}
use Rattle.flow_core.specs.Messages.{AreMarks, AreMarksOf, barrier_at, load_messages, marked, marks_behind, stamped_up_to}

-- ---- lists of messages, one behind the other

pub items-append : (xs ys : List Msg) → items (xs ++ ys) ≡ items xs ++ items ys
items-append [] ys = refl
items-append (messages.Item x ∷ xs) ys = ap (λ (l : List Msg). messages.Item x ∷ l) (items-append xs ys)
items-append (messages.Barrier b ∷ xs) ys = items-append xs ys

pub barriers-append : (xs ys : List Msg) → barriers (xs ++ ys) ≡ barriers xs ++ barriers ys
barriers-append [] ys = refl
barriers-append (messages.Item x ∷ xs) ys = barriers-append xs ys
barriers-append (messages.Barrier b ∷ xs) ys = ap (λ (l : List Stamp). b ∷ l) (barriers-append xs ys)

-- ---- the items

items-barrier : (s : ℕ) (marks : List Stamp) → items (barrier_at s marks) ≡ []
items-barrier s [] = refl
items-barrier s (m ∷ marks) = elim (m.0 == s) as (λ b. items (cond b (messages.Barrier m ∷ []) []) ≡ []) [
  | true ↦ refl
  | false ↦ refl
]

items-marked : (xs : List Item) (marks : List Stamp) → items (marked xs marks) ≡ item_msgs xs
items-marked [] marks = refl
items-marked (x ∷ xs) marks =
    let here = barrier_at x.stamp.0 marks in
    let rest = marked xs (marks_behind x.stamp.0 marks) in
    ap (λ (l : List Msg). messages.Item x ∷ l) (items-append here rest ∙ rw items-barrier (items-marked xs (marks_behind x.stamp.0 marks)))

-- its items are the points, with their stamps
pub messages_items : (points : List PointValue) (upto : Stamp) (marks : List Stamp) → items (load_messages points upto marks) ≡ item_msgs (stamped_up_to upto points)
messages_items points upto marks =
    let xs = stamped_up_to upto points in
    items-append (marked xs marks) (messages.Barrier upto ∷ []) ∙ rw (items-marked, append-nil) refl

-- ---- the barriers

barriers-none : (xs : List Item) → barriers (marked xs []) ≡ []
barriers-none [] = refl
barriers-none (x ∷ xs) = barriers-none xs

-- of points with the stamps above one up to another, with marks between
barriers-marked : (above below : ℕ) (points : List PointValue) (marks : List Stamp) → above + length points ≡ below → AreMarks above below marks → barriers (marked (stamped_from (above + 1) points) marks) ≡ marks
barriers-marked above below [] [] e are = refl
barriers-marked above below [] (m ∷ marks) e are =
    let low : above < m.0 = are.0 in
    let high : m.0 < below = are.1 in
    absurd (omega arith)
barriers-marked above below (p ∷ points) [] e are = barriers-none (stamped_from (above + 1) (p ∷ points))
barriers-marked above below (p ∷ points) (m ∷ marks) e are =
    let low : above < m.0 = are.0 in
    let next : above + 1 + length points ≡ below = omega arith in
    elim (m.0 == above + 1) as (λ b. (m.0 == above + 1) ≡ b → barriers (cond b (messages.Barrier m ∷ []) [] ++ marked (stamped_from (above + 1 + 1) points) (cond b marks (m ∷ marks))) ≡ m ∷ marks) [
      | true ↦ λ t.
          let same : m.0 ≡ above + 1 = grind (arith, nat_tests) in
          ap (λ (l : List Stamp). m ∷ l) (barriers-marked (above + 1) below points marks next (subst (λ (s : ℕ). AreMarks s below marks) same are.2))
      | false ↦ λ t.
          let later : above + 1 < m.0 = grind (arith, nat_tests) in
          barriers-marked (above + 1) below points (m ∷ marks) next (later, are.1, are.2)
    ] refl

-- its barriers are the marks and the last stamp
pub messages_barriers : (points : List PointValue) (upto : Stamp) (marks : List Stamp) → length points ≤ upto.0 → AreMarksOf points upto marks → barriers (load_messages points upto marks) ≡ marks ++ upto ∷ []
messages_barriers points upto marks le are =
    barriers-append (marked (stamped_up_to upto points) marks) (messages.Barrier upto ∷ [])
    ∙ ap (λ (l : List Stamp). l ++ upto ∷ []) (barriers-marked (upto.0 - length points) upto.0 points marks (omega arith) are)

-- ---- the order

-- what comes behind a point, where the others stand in order whatever marks are left
rises-behind : (s : ℕ) (end : Stamp) (xs : List Item) (marks : List Stamp) → ((r : ℕ) (left : List Stamp) → r < 2 * (s + 1) → RisesFrom r (marked xs left ++ messages.Barrier end ∷ [])) → RisesFrom (2 * s) ((barrier_at s marks ++ marked xs (marks_behind s marks)) ++ messages.Barrier end ∷ [])
rises-behind s end xs [] rest = rest (2 * s) [] (omega arith)
rises-behind s end xs (m ∷ marks) rest = elim (m.0 == s) as (λ b. (m.0 == s) ≡ b → RisesFrom (2 * s) ((cond b (messages.Barrier m ∷ []) [] ++ marked xs (cond b marks (m ∷ marks))) ++ messages.Barrier end ∷ [])) [
  | true ↦ λ t.
      let same : m.0 ≡ s = grind (arith, nat_tests) in
      (omega arith, rest (2 * m.0 + 1) marks (omega arith))
  | false ↦ λ t. rest (2 * s) (m ∷ marks) (omega arith)
] refl

rises-marked : (r s : ℕ) (end : Stamp) (points : List PointValue) (marks : List Stamp) → s + length points ≡ end.0 + 1 → r < 2 * s → RisesFrom r (marked (stamped_from s points) marks ++ messages.Barrier end ∷ [])
rises-marked r s end [] marks e lt = (omega arith, tt)
rises-marked r s end (p ∷ points) marks e lt =
    let next : s + 1 + length points ≡ end.0 + 1 = omega arith in
    (omega arith, rises-behind s end (stamped_from (s + 1) points) marks (λ q left low. rises-marked q (s + 1) end points left next low))

-- they stand in order: by stamp, with each barrier behind the points up to it
pub messages_rise : (points : List PointValue) (upto : Stamp) (marks : List Stamp) → length points ≤ upto.0 → RisesFrom 0 (load_messages points upto marks)
messages_rise points upto marks le = rises-marked 0 (upto.0 - length points + 1) upto points marks (omega arith) (omega arith)

closed-end : (l : List Msg) (b : Stamp) → IsClosed (l ++ messages.Barrier b ∷ [])
closed-end [] b = tt
closed-end (messages.Item x ∷ l) b = (some l, closed-end l b)
  where
    some : (l : List Msg) → barriers (l ++ messages.Barrier b ∷ []) ≢ []
    some [] = λ e. absurd cc
    some (messages.Item y ∷ l) = some l
    some (messages.Barrier c ∷ l) = λ e. absurd cc
closed-end (messages.Barrier c ∷ l) b = closed-end l b

-- a barrier stands behind each point
pub messages_closed : (points : List PointValue) (upto : Stamp) (marks : List Stamp) → IsClosed (load_messages points upto marks)
messages_closed points upto marks = closed-end (marked (stamped_up_to upto points) marks) upto
