-- The messages of a load are cut at each of its barriers.
use Rattle.std.proofs.Common.{◌≡◌, ℕ, suc, ◌+◌, ◌-◌, ◌<◌, ◌≤◌, ◌==◌, true, false, cond, List, [], ◌∷◌, ◌++◌, length, refl, sym, ap, subst, ◌∙◌, append_assoc, length-append, arith}
use Rattle.std.proofs.lemmas.Bool.Decides.{nat_tests}
use Rattle.kap_base.specs.Points.{PointValue}
use Rattle.kap_base.specs.declared.items.Msg.{Msg}
use Rattle.kap_base.specs.declared.items.Msg.TheVariants as messages
use Rattle.kap_base.specs.declared.items.Stamp.{Stamp}
use Rattle.merge_node.specs.Merge.{IsClosedBy, RisesFrom}
use Rattle.task_run.specs.Graphs.{stamped_from}
use Rattle.task_run.specs.PointLaws.{stamped_point}
use Rattle.flow_core.proofs.MessageLaws.{messages_barriers, messages_closed, messages_rise}
use Rattle.flow_core.specs.Messages.{AreMarks, AreMarksOf, load_messages, marked}
use Rattle.barrier_snapshot.proofs.CutLaws.{NoneIs}

-- ---- marks

-- the last of marks lies above the stamp before them, and below the stamp behind
mark-between : (above below : ℕ) (marks later : List Stamp) (u : Stamp) → AreMarks above below (marks ++ u ∷ later) → (above < u.0) × (u.0 < below)
mark-between above below [] later u are = (are.0, are.1)
mark-between above below (m ∷ marks) later u are =
    let low : above < m.0 = are.0 in
    let rest = mark-between m.0 below marks later u are.2 in
    let up : m.0 < u.0 = rest.0 in
    (omega (arith, low, up), rest.1)

marks-front : (above below : ℕ) (marks later : List Stamp) (u : Stamp) → AreMarks above below (marks ++ u ∷ later) → AreMarks above u.0 marks
marks-front above below [] later u are = tt
marks-front above below (m ∷ marks) later u are = (are.0, (mark-between m.0 below marks later u are.2).0, marks-front m.0 below marks later u are.2)

marks-later : (above below : ℕ) (marks later : List Stamp) (u : Stamp) → AreMarks above below (marks ++ u ∷ later) → AreMarks u.0 below later
marks-later above below [] later u are = are.2
marks-later above below (m ∷ marks) later u are = marks-later m.0 below marks later u are.2

-- marks below a stamp don't have it
pub none-below : (above : ℕ) (marks : List Stamp) (u : Stamp) → AreMarks above u.0 marks → NoneIs u marks
none-below above [] u are = tt
none-below above (m ∷ marks) u are = ((λ e. let lt : m.0 < u.0 = are.1 in absurd (omega (arith, lt, e))), none-below m.0 marks u are.2)

none-above : (above below : ℕ) (marks : List Stamp) (u last : Stamp) → u.0 ≤ above → u.0 < last.0 → AreMarks above below marks → NoneIs u (marks ++ last ∷ [])
none-above above below [] u last le lt are = ((λ e. absurd (omega (arith, lt, e))), tt)
none-above above below (m ∷ marks) u last le lt are =
    let up : above < m.0 = are.0 in
    ((λ e. absurd (omega (arith, le, up, e))), none-above m.0 below marks u last (omega (arith, le, up)) lt are.2)

-- ---- messages

-- the barrier is that of the last point before it
here-cut : (above : ℕ) (points behind : List PointValue) (later : List Stamp) (u : Stamp) → u.0 ≡ above + 1 → above + suc (length points) ≡ u.0
    → messages.Barrier u ∷ marked (stamped_from (above + 1 + 1) (points ++ behind)) later ≡ (marked (stamped_from (above + 1 + 1) points) [] ++ messages.Barrier u ∷ []) ++ marked (stamped_from (u.0 + 1) behind) later
here-cut above [] behind later u s e = let next : above + 1 + 1 ≡ u.0 + 1 = omega (arith, s) in ap (λ (k : ℕ). messages.Barrier u ∷ marked (stamped_from k behind) later) next
here-cut above (q ∷ points) behind later u s e = absurd (omega (arith, s, e))

marked-cut : (above below : ℕ) (points behind : List PointValue) (marks later : List Stamp) (u : Stamp) → above + length points ≡ u.0 → AreMarks above below (marks ++ u ∷ later)
    → marked (stamped_from (above + 1) (points ++ behind)) (marks ++ u ∷ later) ≡ (marked (stamped_from (above + 1) points) marks ++ messages.Barrier u ∷ []) ++ marked (stamped_from (u.0 + 1) behind) later
marked-cut above below [] behind marks later u e are =
    let low : above < u.0 = (mark-between above below marks later u are).0 in
    absurd (omega (arith, low, e))
marked-cut above below (p ∷ points) behind [] later u e are =
    let low : above < u.0 = are.0 in
    let next : above + 1 + length points ≡ u.0 = omega (arith, e) in
    ap (λ (l : List Msg). messages.Item (stamped_point (above + 1) p) ∷ l)
    (elim (u.0 == above + 1) as (λ b. (u.0 == above + 1) ≡ b
    → cond b (messages.Barrier u ∷ []) [] ++ marked (stamped_from (above + 1 + 1) (points ++ behind)) (cond b later (u ∷ later))
    ≡ (marked (stamped_from (above + 1 + 1) points) [] ++ messages.Barrier u ∷ []) ++ marked (stamped_from (u.0 + 1) behind) later) [
      | true ↦ λ t. let same : u.0 ≡ above + 1 = grind (arith, nat_tests) in here-cut above points behind later u same e
      | false ↦ λ t. let up : above + 1 < u.0 = grind (arith, nat_tests) in marked-cut (above + 1) below points behind [] later u next (up, are.1, are.2)
    ] refl)
marked-cut above below (p ∷ points) behind (m ∷ marks) later u e are =
    let low : above < m.0 = are.0 in
    let next : above + 1 + length points ≡ u.0 = omega (arith, e) in
    ap (λ (l : List Msg). messages.Item (stamped_point (above + 1) p) ∷ l)
    (elim (m.0 == above + 1) as (λ b. (m.0 == above + 1) ≡ b
    → cond b (messages.Barrier m ∷ []) [] ++ marked (stamped_from (above + 1 + 1) (points ++ behind)) (cond b (marks ++ u ∷ later) (m ∷ marks ++ u ∷ later))
    ≡ ((cond b (messages.Barrier m ∷ []) [] ++ marked (stamped_from (above + 1 + 1) points) (cond b marks (m ∷ marks))) ++ messages.Barrier u ∷ []) ++ marked (stamped_from (u.0 + 1) behind) later) [
      | true ↦ λ t.
          let same : m.0 ≡ above + 1 = grind (arith, nat_tests) in
          ap (λ (l : List Msg). messages.Barrier m ∷ l) (marked-cut (above + 1) below points behind marks later u next (subst (λ (s : ℕ). AreMarks s below (marks ++ u ∷ later)) same are.2))
      | false ↦ λ t.
          let up : above + 1 < m.0 = grind (arith, nat_tests) in
          marked-cut (above + 1) below points behind (m ∷ marks) later u next (up, are.1, are.2)
    ] refl)

-- a load is one up to a barrier of it, and then one of the points and barriers behind
pub record LoadCut (points behind : List PointValue) (upto last : Stamp) (marks later : List Stamp) : Type 0 where
  pub is : load_messages (points ++ behind) last (marks ++ upto ∷ later) ≡ load_messages points upto marks ++ load_messages behind last later
  pub front : IsClosedBy (marks ++ upto ∷ []) (load_messages points upto marks)
  pub rest : IsClosedBy (later ++ last ∷ []) (load_messages behind last later)
  pub rises : RisesFrom 0 (load_messages (points ++ behind) last (marks ++ upto ∷ later))
  pub none_before : NoneIs upto marks
  pub none_behind : NoneIs upto (later ++ last ∷ [])
  pub above : last.0 - length (points ++ behind) < upto.0

pub load_cut : (points behind : List PointValue) (upto last : Stamp) (marks later : List Stamp) → length (points ++ behind) ≤ last.0 → upto.0 + length behind ≡ last.0
    → AreMarksOf (points ++ behind) last (marks ++ upto ∷ later) → LoadCut points behind upto last marks later
load_cut points behind upto last marks later fits end are =
    let long : length (points ++ behind) ≡ length points + length behind = length-append points behind in
    let low : length points ≤ upto.0 = omega (arith, long, fits, end) in
    let first : last.0 - length (points ++ behind) ≡ upto.0 - length points = omega (arith, long, fits, end) in
    let second : upto.0 ≡ last.0 - length behind = omega (arith, end) in
    let high : length behind ≤ last.0 = omega (arith, end) in
    let here : AreMarks (upto.0 - length points) last.0 (marks ++ upto ∷ later) = subst (λ (s : ℕ). AreMarks s last.0 (marks ++ upto ∷ later)) first are in
    let between = mark-between (upto.0 - length points) last.0 marks later upto here in
    let front : AreMarks (upto.0 - length points) upto.0 marks = marks-front (upto.0 - length points) last.0 marks later upto here in
    let rest : AreMarks upto.0 last.0 later = marks-later (upto.0 - length points) last.0 marks later upto here in
    let sum : upto.0 - length points + length points ≡ upto.0 = omega (arith, low) in
    let cut = marked-cut (upto.0 - length points) last.0 points behind marks later upto sum here in
    record {
      is =
          ap (λ (k : ℕ). marked (stamped_from (k + 1) (points ++ behind)) (marks ++ upto ∷ later) ++ messages.Barrier last ∷ []) first
          ∙ ap (λ (l : List Msg). l ++ messages.Barrier last ∷ []) cut
          ∙ append_assoc (load_messages points upto marks) (marked (stamped_from (upto.0 + 1) behind) later) (messages.Barrier last ∷ [])
          ∙ ap (λ (k : ℕ). load_messages points upto marks ++ (marked (stamped_from (k + 1) behind) later ++ messages.Barrier last ∷ [])) second;
      front = record { barriers = messages_barriers points upto marks low front; closed = messages_closed points upto marks };
      rest = record { barriers = messages_barriers behind last later high (subst (λ (s : ℕ). AreMarks s last.0 later) second rest); closed = messages_closed behind last later };
      rises = messages_rise (points ++ behind) last (marks ++ upto ∷ later) fits;
      none_before = none-below (upto.0 - length points) marks upto front;
      none_behind = none-above upto.0 last.0 later upto last (omega arith) between.1 rest;
      above = subst (λ (s : ℕ). s < upto.0) (sym first) between.0;
    }
