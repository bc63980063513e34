-- The times of stored transitions lie in the range of times.
use Rattle.std.proofs.Common.{◌≡◌, ℕ, zero, suc, ◌+◌, Bool, true, false, not, ◌&&◌, ◌==◌, List, [], ◌∷◌, ◌++◌, length, map, refl, ap, ◌∙◌, append-nil}
use Rattle.std.specs.Prelude.{take}
use Rattle.std.proofs.lemmas.List.{map-append}
use Rattle.kap_base.proofs.TestLaws.{first_of, second_of}
use Rattle.kap_base.specs.Levels.{same_level}
use Rattle.kap_base.specs.Points.{is_time}
use Rattle.kap_base.specs.Events.{EventValue}
use Rattle.life_effects.specs.Times.{times_fit}
use Rattle.store_records.specs.Held.{Held, after, are_next, is_next, level_of, nothing}
use Rattle.store_records.specs.Histories.{Follow, FollowFrom, first_gate, held, held_from, next_gate}
use Rattle.store_records.specs.declared.rec.Rec.{Rec}
use Rattle.store_records.specs.declared.rec.Rec.TheVariants as kinds
use Rattle.topic_core.specs.Topics.{event_of}
use Rattle.topic_core.specs.declared.transition.Transition.{Transition}

both-true : (a b : Bool) → a ≡ true → b ≡ true → (a && b) ≡ true
both-true true b e f = f
both-true false b e f = e

both-fit : (xs ys : List EventValue) → times_fit xs ≡ true → times_fit ys ≡ true → times_fit (xs ++ ys) ≡ true
both-fit [] ys a b = b
both-fit (x ∷ xs) ys a b = both-true (is_time x.time) (times_fit (xs ++ ys)) (first_of (is_time x.time) (times_fit xs) a) (both-fit xs ys (second_of (is_time x.time) (times_fit xs) a) b)

next-time : (before : List Transition) (t : Transition) → is_next before t ≡ true → is_time t.time ≡ true
next-time before t e =
    let level = level_of t.topic t.id before in
    let one = second_of (t.number == length before + 1) (same_level t.old_level level && (not (same_level t.old_level t.new_level) && is_time t.time)) e in
    let two = second_of (same_level t.old_level level) (not (same_level t.old_level t.new_level) && is_time t.time) one in
    second_of (not (same_level t.old_level t.new_level)) (is_time t.time) two

next-times : (before ts : List Transition) → are_next before ts ≡ true → times_fit (map event_of ts) ≡ true
next-times before [] e = refl
next-times before (t ∷ ts) e =
    both-true (is_time t.time) (times_fit (map event_of ts)) (next-time before t (first_of (is_next before t) (are_next (before ++ t ∷ []) ts) e))
    (next-times (before ++ t ∷ []) ts (second_of (is_next before t) (are_next (before ++ t ∷ []) ts) e))

abbrev Timely : List Transition → Type 0
Timely ts = times_fit (map event_of ts) ≡ true

more-timely : (old new : List Transition) → Timely old → Timely new → Timely (old ++ new)
more-timely old new a b = ap times_fit (map-append event_of old new) ∙ both-fit (map event_of old) (map event_of new) a b

none-timely : (old : List Transition) → Timely old → Timely (old ++ [])
none-timely old a = ap (λ (ts : List Transition). times_fit (map event_of ts)) (append-nil old) ∙ a

timely-from : (h : Held) (at : ℕ) (rs : List Rec) → FollowFrom h at rs → Timely h.transitions → Timely (held_from h at rs).transitions
timely-from h at [] f a = a
timely-from h at (kinds.Define id script enabled ∷ rs) f a = timely-from (after h at (kinds.Define id script enabled)) (next_gate at (kinds.Define id script enabled)) rs f.2 (none-timely h.transitions a)
timely-from h at (kinds.Enable id ∷ rs) f a = timely-from (after h at (kinds.Enable id)) (next_gate at (kinds.Enable id)) rs f.2 (none-timely h.transitions a)
timely-from h at (kinds.Disable id ∷ rs) f a = timely-from (after h at (kinds.Disable id)) (next_gate at (kinds.Disable id)) rs f.2 (none-timely h.transitions a)
timely-from h at (kinds.Delete id ∷ rs) f a = timely-from (after h at (kinds.Delete id)) (next_gate at (kinds.Delete id)) rs f.2 (none-timely h.transitions a)
timely-from h at (kinds.Batch db rp points ∷ rs) f a = timely-from (after h at (kinds.Batch db rp points)) (next_gate at (kinds.Batch db rp points)) rs f.2 (none-timely h.transitions a)
timely-from h at (kinds.Trans ts ∷ rs) f a = timely-from (after h at (kinds.Trans ts)) (next_gate at (kinds.Trans ts)) rs f.2 (more-timely h.transitions ts a (next-times h.transitions ts f.1))
timely-from h at (kinds.Snap points trans states ∷ rs) f a = timely-from (after h at (kinds.Snap points trans states)) (next_gate at (kinds.Snap points trans states)) rs f.2 (none-timely h.transitions a)

pub times_stored : (rs : List Rec) → Follow rs → times_fit (map event_of (held rs).transitions) ≡ true
times_stored rs f = timely-from nothing first_gate rs f refl

-- and those of the first of them
pub times_first : (n : ℕ) (ts : List Transition) → times_fit (map event_of ts) ≡ true → times_fit (map event_of (take n ts)) ≡ true
times_first zero ts e = refl
times_first (suc n) [] e = refl
times_first (suc n) (t ∷ ts) e =
    both-true (is_time t.time) (times_fit (map event_of (take n ts))) (first_of (is_time t.time) (times_fit (map event_of ts)) e) (times_first n ts (second_of (is_time t.time) (times_fit (map event_of ts)) e))
