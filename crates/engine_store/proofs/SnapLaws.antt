-- The last snapshot of a store: what is kept of it, and that it stays the last one where transitions are added.
use Rattle.std.proofs.Common.{◌≡◌, ℕ, Bool, true, false, ◌||◌, List, [], ◌∷◌, ◌++◌, map, refl, sym, ap, subst, ◌∙◌, append-nil, append_assoc, true≢false}
use Rattle.std.specs.Prelude.{Option, Some, option_map, unwrap_or}
use Rattle.std.specs.List.{list_any}
use Rattle.store_records.specs.Held.{Held, MayFollow, after, nothing, open_from, transitions_in}
use Rattle.store_records.specs.Histories.{FollowFrom, Follow, end_from, end_of, first_gate, held, held_from, next_gate}
use Rattle.store_records.specs.declared.rec.Rec.{Rec}
use Rattle.store_records.specs.declared.rec.Rec.TheVariants as kinds
use Rattle.store_records.specs.declared.task.Snapshot.{Snapshot}
use Rattle.topic_core.specs.declared.transition.Transition.{Transition}
use Rattle.topic_store.specs.Snapshots.{LastSnap, is_snap}
use Rattle.topic_store.specs.Stores.{numbers_of}

-- ---- records one behind the other

held-both : (h : Held) (at : ℕ) (rs others : List Rec) → held_from h at (rs ++ others) ≡ held_from (held_from h at rs) (end_from at rs) others
held-both h at [] others = refl
held-both h at (r ∷ rs) others = held-both (after h at r) (next_gate at r) rs others

trans-more : (h : Held) (at : ℕ) (rs : List Rec) → (more : List Transition) × ((held_from h at rs).transitions ≡ h.transitions ++ more)
trans-more h at [] = ([], sym (append-nil h.transitions))
trans-more h at (r ∷ rs) =
    let rest = trans-more (after h at r) (next_gate at r) rs in
    (transitions_in r ++ rest.0, rest.1 ∙ append_assoc h.transitions (transitions_in r) rest.0)

-- the transitions are those before, and more
pub held_trans : (before behind : List Rec) → (more : List Transition) × ((held (before ++ behind)).transitions ≡ (held before).transitions ++ more)
held_trans before behind =
    let rest = trans-more (held before) (end_of before) behind in
    (rest.0, ap (λ (h : Held). h.transitions) (held-both nothing first_gate before behind) ∙ rest.1)

may-from : (h : Held) (at : ℕ) (before : List Rec) (r : Rec) (behind : List Rec) → FollowFrom h at (before ++ r ∷ behind) → MayFollow (held_from h at before) r
may-from h at [] r behind f = f.1
may-from h at (b ∷ before) r behind f = may-from (after h at b) (next_gate at b) before r behind f.2

-- a record of a store may follow those before it
pub may_at : (rs before : List Rec) (r : Rec) (behind : List Rec) → Follow rs → rs ≡ before ++ r ∷ behind → MayFollow (held before) r
may_at rs before r behind f split = may-from nothing first_gate before r behind (subst Follow split f)

-- ---- what is kept of the last snapshot

no-snap : (h : Held) (at : ℕ) (rs : List Rec) → list_any is_snap rs ≡ false → (held_from h at rs).snap ≡ h.snap
no-snap h at [] none = refl
no-snap h at (kinds.Define id script enabled ∷ rs) none = no-snap (after h at (kinds.Define id script enabled)) (next_gate at (kinds.Define id script enabled)) rs none
no-snap h at (kinds.Enable id ∷ rs) none = no-snap (after h at (kinds.Enable id)) (next_gate at (kinds.Enable id)) rs none
no-snap h at (kinds.Disable id ∷ rs) none = no-snap (after h at (kinds.Disable id)) (next_gate at (kinds.Disable id)) rs none
no-snap h at (kinds.Delete id ∷ rs) none = no-snap (after h at (kinds.Delete id)) (next_gate at (kinds.Delete id)) rs none
no-snap h at (kinds.Batch db rp points ∷ rs) none = no-snap (after h at (kinds.Batch db rp points)) (next_gate at (kinds.Batch db rp points)) rs none
no-snap h at (kinds.Trans ts ∷ rs) none = no-snap (after h at (kinds.Trans ts)) (next_gate at (kinds.Trans ts)) rs none
no-snap h at (kinds.Snap points trans states ∷ rs) none = absurd (true≢false none)

pub snap_kept : (rs : List Rec) (s : LastSnap rs)
    → (held rs).snap ≡ Some (record { at = end_of s.before; points = s.points; transitions = s.trans; lives = open_from 1 (held s.before).lives })
snap_kept rs s =
    let r = kinds.Snap s.points s.trans s.states in
    ap (λ (l : List Rec). (held l).snap) s.split
    ∙ ap (λ (h : Held). h.snap) (held-both nothing first_gate s.before (r ∷ s.behind))
    ∙ no-snap (after (held s.before) (end_of s.before) r) (next_gate (end_of s.before) r) s.behind s.none_behind

-- how many points and transitions there were
pub numbers_there : (rs : List Rec) (s : LastSnap rs) (kept : Option Snapshot) (found : Option (ℕ × ℕ)) (pair : ℕ × ℕ) → kept ≡ (held rs).snap → found ≡ option_map numbers_of kept → pair ≡ unwrap_or found (0, 0)
    → (pair.0 ≡ s.points) × (pair.1 ≡ s.trans)
numbers_there rs s kept found pair k f u =
    let all : pair ≡ (s.points, s.trans) = u ∙ ap (λ (o : Option (ℕ × ℕ)). unwrap_or o (0, 0)) (f ∙ ap (option_map numbers_of) (k ∙ snap_kept rs s)) in
    (ap (λ (p : ℕ × ℕ). p.0) all, ap (λ (p : ℕ × ℕ). p.1) all)

-- ---- it stays the last one

-- there are records behind it, of which none is a snapshot
pub record IsBehind (rs before : List Rec) (points trans : ℕ) (states : List ℕ) : Type 0 where
  pub behind : List Rec
  pub split : rs ≡ before ++ kinds.Snap points trans states ∷ behind
  pub none_behind : list_any is_snap behind ≡ false

any-behind : (before : List Rec) (points trans : ℕ) (states : List ℕ) (behind : List Rec) → list_any is_snap (before ++ kinds.Snap points trans states ∷ behind) ≡ true
any-behind [] points trans states behind = refl
any-behind (b ∷ before) points trans states behind = by (is_snap b) (any-behind before points trans states behind)
  where
    by : (b : Bool) {c : Bool} → c ≡ true → (b || c) ≡ true
    by true e = refl
    by false e = e

any-front : (xs ys : List Rec) → list_any is_snap (xs ++ ys) ≡ false → list_any is_snap xs ≡ false
any-front [] ys e = refl
any-front (x ∷ xs) ys e = by (is_snap x) (any-front xs ys) e
  where
    by : (b : Bool) → (list_any is_snap (xs ++ ys) ≡ false → list_any is_snap xs ≡ false) → (b || list_any is_snap (xs ++ ys)) ≡ false → (b || list_any is_snap xs) ≡ false
    by true f e = absurd (true≢false e)
    by false f e = f e

first-same : (x y : Rec) (xs ys : List Rec) → x ∷ xs ≡ y ∷ ys → x ≡ y
first-same x y xs ys e = cc

rest-same : (x y : Rec) (xs ys : List Rec) → x ∷ xs ≡ y ∷ ys → xs ≡ ys
rest-same x y xs ys e = cc

is-behind : (rs more before : List Rec) (points trans : ℕ) (states : List ℕ) (behind : List Rec) → list_any is_snap more ≡ false → rs ++ more ≡ before ++ kinds.Snap points trans states ∷ behind → list_any is_snap behind ≡ false
    → IsBehind rs before points trans states
is-behind [] more before points trans states behind none split none_behind =
    absurd (true≢false (sym (any-behind before points trans states behind) ∙ ap (list_any is_snap) (sym split) ∙ none))
is-behind (r ∷ rs) more [] points trans states behind none split none_behind = record {
  behind = rs;
  split = ap (λ (x : Rec). x ∷ rs) (first-same r (kinds.Snap points trans states) (rs ++ more) behind split);
  none_behind = any-front rs more (ap (list_any is_snap) (rest-same r (kinds.Snap points trans states) (rs ++ more) behind split) ∙ none_behind);
}
is-behind (r ∷ rs) more (b ∷ before) points trans states behind none split none_behind =
    let rest = is-behind rs more before points trans states behind none (rest-same r b (rs ++ more) (before ++ kinds.Snap points trans states ∷ behind) split) none_behind in
    record {
      behind = rest.behind;
      split = ap (λ (x : Rec). x ∷ rs) (first-same r b (rs ++ more) (before ++ kinds.Snap points trans states ∷ behind) split) ∙ ap (λ (l : List Rec). b ∷ l) rest.split;
      none_behind = rest.none_behind;
    }

no-snaps : (pieces : List (List Transition)) → list_any is_snap (map kinds.Trans pieces) ≡ false
no-snaps [] = refl
no-snaps (p ∷ pieces) = no-snaps pieces

-- the last snapshot where transitions were added is the one before
pub still_behind : (rs rs' : List Rec) (pieces : List (List Transition)) → rs' ≡ rs ++ map kinds.Trans pieces → (s : LastSnap rs') → IsBehind rs s.before s.points s.trans s.states
still_behind rs rs' pieces records s =
    is-behind rs (map kinds.Trans pieces) s.before s.points s.trans s.states s.behind (no-snaps pieces) (sym records ∙ s.split) s.none_behind

abbrev pub last_before : (rs before : List Rec) (points trans : ℕ) (states : List ℕ) → IsBehind rs before points trans states → LastSnap rs
last_before rs before points trans states b =
    record { before = before; points = points; trans = trans; states = states; behind = b.behind; split = b.split; none_behind = b.none_behind }

-- where others were added of which none is a snapshot, too
pub last_kept : (rs more : List Rec) → list_any is_snap more ≡ false → (s : LastSnap (rs ++ more)) → IsBehind rs s.before s.points s.trans s.states
last_kept rs more none s = is-behind rs more s.before s.points s.trans s.states s.behind none s.split s.none_behind

-- ---- another one behind all records

-- a snapshot is this one
pub record IsThisSnap (rs before : List Rec) (points there trans had : ℕ) (states held_states : List ℕ) : Type 0 where
  pub records : before ≡ rs
  pub points_are : there ≡ points
  pub trans_are : had ≡ trans
  pub states_are : held_states ≡ states

same-snap : (points there trans had : ℕ) (states held_states : List ℕ) → kinds.Snap points trans states ≡ kinds.Snap there had held_states → IsThisSnap [] [] points there trans had states held_states
same-snap points there trans had states held_states e = record { records = refl; points_are = cc; trans_are = cc; states_are = cc }

is-this : (rs before : List Rec) (points there trans had : ℕ) (states held_states : List ℕ) (behind : List Rec) → list_any is_snap behind ≡ false
    → rs ++ kinds.Snap points trans states ∷ [] ≡ before ++ kinds.Snap there had held_states ∷ behind → IsThisSnap rs before points there trans had states held_states
is-this [] [] points there trans had states held_states behind none e =
    same-snap points there trans had states held_states (first-same (kinds.Snap points trans states) (kinds.Snap there had held_states) [] behind e)
is-this [] (b ∷ before) points there trans had states held_states behind none e =
    absurd (true≢false (sym (any-behind before there had held_states behind) ∙ ap (list_any is_snap) (sym (rest-same (kinds.Snap points trans states) b [] (before ++ kinds.Snap there had held_states ∷ behind) e))))
is-this (r ∷ rs) [] points there trans had states held_states behind none e =
    absurd (true≢false (sym (any-behind rs points trans states []) ∙ ap (list_any is_snap) (rest-same r (kinds.Snap there had held_states) (rs ++ kinds.Snap points trans states ∷ []) behind e) ∙ none))
is-this (r ∷ rs) (b ∷ before) points there trans had states held_states behind none e =
    let rest = is-this rs before points there trans had states held_states behind none (rest-same r b (rs ++ kinds.Snap points trans states ∷ []) (before ++ kinds.Snap there had held_states ∷ behind) e) in
    record {
      records = ap (λ (x : Rec). x ∷ before) (sym (first-same r b (rs ++ kinds.Snap points trans states ∷ []) (before ++ kinds.Snap there had held_states ∷ behind) e)) ∙ ap (λ (l : List Rec). r ∷ l) rest.records;
      points_are = rest.points_are;
      trans_are = rest.trans_are;
      states_are = rest.states_are;
    }

-- the last one of all is the one that was added
pub last_added : (rs : List Rec) (points trans : ℕ) (states : List ℕ) (s : LastSnap (rs ++ kinds.Snap points trans states ∷ [])) → IsThisSnap rs s.before points s.points trans s.trans states s.states
last_added rs points trans states s = is-this rs s.before points s.points trans s.trans states s.states s.behind s.none_behind s.split
