-- What is kept stands for the records so far, and for one more.
use Rattle.std.proofs.Common.{◌≡◌, ℕ, ◌+◌, List, [], ◌∷◌, ◌++◌, length, refl, sym, ap, ◌∙◌, subst, arith, length-append, append_assoc, Option, Some, None}
use Rattle.std.proofs.lemmas.List.{append-nil}
use Rattle.std.specs.Prelude.{if◌then◌else◌, IfSome}
use Rattle.std.specs.Option.{option_to_list}
use Rattle.store_records.specs.Held.{Held, after, begun, ended, is_change, later_of, nothing, points_in, snap_in, tasks_after, transitions_in}
use Rattle.store_records.specs.Histories.{FollowFrom, Follow, end_from, end_of, first_gate, held, held_from, next_gate}
use Rattle.store_records.specs.Held.{MayFollow}
use Rattle.store_records.specs.Records.{FitsRecord}
use Rattle.store_records.specs.declared.rec.Rec.{Rec}
use Rattle.store_records.specs.declared.task.Life.{Life}
use Rattle.store_records.specs.declared.task.Snapshot.{Snapshot}
use Rattle.store_records.specs.declared.task.StoredTask.{StoredTask}
use Rattle.store_records.specs.Orders.{DefinesValid}
use Rattle.store_records.proofs.OrderLaws.{valid_lives, valid_tasks}
use Rattle.store_kept.specs.Changing.{ArePartsFor, IsMarkAt, kept_with}
use Rattle.store_kept.specs.Keeping.{AreMarks, AreValid, IsMark, Keeps, KeepsRecords, KeptValue}
use Rattle.store_kept.specs.declared.kept.Mark.{Mark}
use Rattle.store_kept.specs.declared.parts.Parts.{Parts}

-- ---- records one behind the other, and one more

pub end_more : (at : ℕ) (rs : List Rec) (r : Rec) → end_from at (rs ++ r ∷ []) ≡ next_gate (end_from at rs) r
end_more at [] r = refl
end_more at (q ∷ rs) r = end_more (next_gate at q) rs r

held_more : (h : Held) (at : ℕ) (rs : List Rec) (r : Rec) → held_from h at (rs ++ r ∷ []) ≡ after (held_from h at rs) (end_from at rs) r
held_more h at [] r = refl
held_more h at (q ∷ rs) r = held_more (after h at q) (next_gate at q) rs r

pub held_push : (rs : List Rec) (r : Rec) → held (rs ++ r ∷ []) ≡ after (held rs) (end_of rs) r
held_push rs r = held_more nothing first_gate rs r

follow_more : (h : Held) (at : ℕ) (rs : List Rec) (r : Rec) → FollowFrom h at rs → FitsRecord r → MayFollow (held_from h at rs) r → FollowFrom h at (rs ++ r ∷ [])
follow_more h at [] r follow fits may = (fits, may, tt)
follow_more h at (q ∷ rs) r follow fits may = (follow.0, follow.1, follow_more (after h at q) (next_gate at q) rs r follow.2 fits may)

pub follow_push : (rs : List Rec) (r : Rec) → Follow rs → FitsRecord r → MayFollow (held rs) r → Follow (rs ++ r ∷ [])
follow_push rs r follow fits may = follow_more nothing first_gate rs r follow fits may

-- ---- what is kept

pub keeps_after : (h : Held) (k : KeptValue) (at : ℕ) (r : Rec) (mark : Option Mark) → Keeps h k → Keeps (after h at r) (kept_with at r mark k)
keeps_after h k at r mark keeps = record {
  tasks = ap (λ (t : List StoredTask). tasks_after at r t) keeps.tasks;
  lives =
      ap (λ (n : ℕ). ended n r k.tasks k.lives ++ begun n at r k.tasks) keeps.points
      ∙ ap (λ (t : List StoredTask). ended (length h.points) r t k.lives ++ begun (length h.points) at r t) keeps.tasks
      ∙ ap (λ (l : List Life). ended (length h.points) r h.tasks l ++ begun (length h.points) at r h.tasks) keeps.lives;
  points = omega (arith, keeps.points, length-append h.points (points_in r));
  transitions = omega (arith, keeps.transitions, length-append h.transitions (transitions_in r));
  changes = ap (λ (n : ℕ). n + (if is_change r then 1 else 0)) keeps.changes;
  snap =
      ap (λ (l : List Life). later_of (snap_in at r l) k.snap) keeps.lives
      ∙ ap (λ (s : Option Snapshot). later_of (snap_in at r h.lives) s) keeps.snap;
}

mark_more : (rs : List Rec) (r : Rec) (m : Mark) → IsMark rs m → IsMark (rs ++ r ∷ []) m
mark_more rs r m is = record {
  before = is.before;
  later = is.later ++ r ∷ [];
  split = ap (λ (l : List Rec). l ++ r ∷ []) is.split ∙ append_assoc is.before is.later (r ∷ []);
  gate = is.gate;
  points = is.points;
  transitions = is.transitions;
}

marks_more : (rs : List Rec) (r : Rec) (marks : List Mark) → AreMarks rs marks → AreMarks (rs ++ r ∷ []) marks
marks_more rs r [] are = tt
marks_more rs r (m ∷ marks) are = (mark_more rs r m are.0, marks_more rs r marks are.1)

marks_push : (rs : List Rec) (marks : List Mark) (m : Mark) → AreMarks rs marks → IsMark rs m → AreMarks rs (marks ++ m ∷ [])
marks_push rs [] m are is = (is, tt)
marks_push rs (q ∷ marks) m are is = (are.0, marks_push rs marks m are.1 is)

-- the place of the record that comes next
next_mark : (rs : List Rec) (k : KeptValue) (m : Mark) → Keeps (held rs) k → IsMarkAt (end_of rs) k m → IsMark rs m
next_mark rs k m keeps at = record {
  before = rs;
  later = [];
  split = sym (append-nil rs);
  gate = ap (λ (q : Mark). q.gate) at;
  points = ap (λ (q : Mark). q.points) at ∙ keeps.points;
  transitions = ap (λ (q : Mark). q.transitions) at ∙ keeps.transitions;
}

marks_with : (rs : List Rec) (k : KeptValue) (mark : Option Mark) → KeepsRecords rs k → IfSome mark (IsMarkAt (end_of rs) k) → AreMarks rs (k.marks ++ option_to_list mark)
marks_with rs k None keeps at = subst (AreMarks rs) (sym (append-nil k.marks)) keeps.marks
marks_with rs k (Some m) keeps at = marks_push rs k.marks m keeps.marks (next_mark rs k m keeps.keeps at)

-- one more record
pub keeps_push : (rs : List Rec) (r : Rec) (k : KeptValue) (mark : Option Mark) → KeepsRecords rs k → IfSome mark (IsMarkAt (end_of rs) k) → KeepsRecords (rs ++ r ∷ []) (kept_with (end_of rs) r mark k)
keeps_push rs r k mark keeps at = record {
  keeps = subst (λ (h : Held). Keeps h (kept_with (end_of rs) r mark k)) (sym (held_push rs r)) (keeps_after (held rs) k (end_of rs) r mark keeps.keeps);
  marks = marks_more rs r (k.marks ++ option_to_list mark) (marks_with rs k mark keeps at);
}

-- ---- valid tasks and lives

-- behind one more record they are valid
pub valid_put : (r : Rec) (at : ℕ) (k mid later : KeptValue) (parts : Parts) → mid ≡ k → ArePartsFor at r k parts
    → ((n : ℕ) → ArePartsFor n r mid parts → later ≡ kept_with n r parts.mark mid) → DefinesValid r → AreValid k → AreValid later
valid_put r at k mid later parts mid_is are puts defines valid =
    let later_is : later ≡ kept_with at r parts.mark k =
    puts at (subst (λ (m : KeptValue). ArePartsFor at r m parts) (sym mid_is) are) ∙ ap (λ (m : KeptValue). kept_with at r parts.mark m) mid_is in
    subst AreValid (sym later_is) (record {
      tasks = valid_tasks at r k.tasks defines valid.tasks;
      lives = valid_lives k.points at r k.tasks k.lives defines valid.tasks valid.lives;
    })
