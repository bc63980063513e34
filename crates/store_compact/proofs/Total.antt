-- What stays of a store's records stands for the same.
use Rattle.std.proofs.Common.{◌≡◌, ℕ, ◌+◌, ◌<◌, ◌≤◌, Bool, true, false, ◌&&◌, cond, List, [], ◌∷◌, ◌++◌, length, map, Option, None, Some, refl, sym, ap, ◌∙◌, subst, append_assoc, arith, true≢false}
use Rattle.std.specs.Prelude.{◌||◌, ◌==◌, IfSome, option_map}
use Rattle.std.specs.List.{AllByRecursion as Each, filter}
use Rattle.std.specs.Str.{bytes_eq}
use Rattle.std.proofs.lemmas.List.{append-nil}
use Rattle.std.proofs.lemmas.Slice.Eq.{bytes_eq-Decides}
use Rattle.store_records.specs.Held.{Held, MayFollow, after, later_of, life_from, life_of, nothing, snap_in, task_of, tasks_after}
use Rattle.store_records.specs.Histories.{Follow, FollowFrom, end_from, end_of, first_gate, held, held_from, next_gate}
use Rattle.store_records.specs.Orders.{IdsRise}
use Rattle.store_records.specs.Records.{FitsRecord}
use Rattle.store_records.specs.declared.rec.Rec.{Rec}
use Rattle.store_records.specs.declared.rec.Rec.TheVariants as kinds
use Rattle.store_records.specs.declared.task.Life.{Life}
use Rattle.store_records.specs.declared.task.Snapshot.{Snapshot}
use Rattle.store_records.specs.declared.task.StoredTask.{StoredTask}
use Rattle.store_records.proofs.OrderLaws.{in_order}
use Rattle.store_kept.specs.Keeping.{KeepsRecords, KeptValue}
use Rattle.store_kept.proofs.Keeping.{end_more, follow_push, held_push}
use Rattle.store_compact.specs.Deciding.{is_kept}
use Rattle.store_compact.specs.Same.{HasLastSnap, HoldSame, if_snap, last_snap, later_rec, unplaced, unplaced_snap}
use Rattle.store_compact.specs.Staying.{has_lived, if_stays, is_snap_at, is_there, staying, staying_from, staying_of, stays}
use Rattle.store_compact.proofs.Later.{lived_after, own_number}
use Rattle.store_compact.proofs.Step.{Steps, decides, each_weaker, lived_new, steps}
use Rattle.store_compact.proofs.Tasks.{each_found, each_putting, each_removing, each_setting}
use Rattle.store_compact.proofs.Thin.{IsSteady, IsThin, last_of_all, remains}

-- ---- a place further on

placed_after : (at next : ℕ) (r : Rec) (tasks : List StoredTask) → at < next → Each (λ task. task.define_at < next) tasks → Each (λ task. task.define_at < next) (tasks_after at r tasks)
placed_after at next (kinds.Define id script enabled) tasks lt each =
    each_putting (λ task. task.define_at < next) (record { id = id; script = script; enabled = enabled; define_at = at }) tasks lt each
placed_after at next (kinds.Enable id) tasks lt each = each_setting (λ task. task.define_at < next) id true tasks (λ t there. each_found (λ task. task.define_at < next) id tasks t there each) each
placed_after at next (kinds.Disable id) tasks lt each = each_setting (λ task. task.define_at < next) id false tasks (λ t there. each_found (λ task. task.define_at < next) id tasks t there each) each
placed_after at next (kinds.Delete id) tasks lt each = each_removing (λ task. task.define_at < next) id tasks each
placed_after at next (kinds.Batch db rp points) tasks lt each = each
placed_after at next (kinds.Trans transitions) tasks lt each = each
placed_after at next (kinds.Snap points trans states) tasks lt each = each

-- an enabled task has had one of these lives
abbrev HasLived : List Life → StoredTask → Type 0
HasLived lives task = task.enabled ≡ true → has_lived task.define_at lives ≡ true

-- a task that is enabled has had a life
enabled_lives : (n : ℕ) (tasks : List StoredTask) (lives : List Life) (id : List ℕ) (t : StoredTask) → task_of id tasks ≡ Some t
    → (t.enabled ≡ true → has_lived t.define_at (lives ++ life_of n (task_of id tasks)) ≡ true) → has_lived t.define_at (lives ++ life_of n (task_of id tasks)) ≡ true
enabled_lives n tasks lives id t there was = elim t.enabled as (λ b. t.enabled ≡ b → has_lived t.define_at (lives ++ life_of n (task_of id tasks)) ≡ true) [
  | true ↦ λ on. was on
  | false ↦ λ off.
      let begins : life_of n (task_of id tasks) ≡ life_from n t ∷ [] = ap (λ (o : Option StoredTask). life_of n o) there ∙ rw off refl in
      subst (λ (l : List Life). has_lived t.define_at (lives ++ l) ≡ true) (sym begins) (lived_new t.define_at n t lives refl)
] refl

lived_then : (h : Held) (at : ℕ) (r : Rec) → Each (HasLived (after h at r).lives) h.tasks → Each (HasLived (after h at r).lives) (tasks_after at r h.tasks)
lived_then h at (kinds.Define id script enabled) each =
    let task : StoredTask = record { id = id; script = script; enabled = enabled; define_at = at } in
    each_putting (HasLived (after h at (kinds.Define id script enabled)).lives) task h.tasks
    (λ on. subst (λ (b : Bool). has_lived at (h.lives ++ cond b (life_from (length h.points) task ∷ []) []) ≡ true) (sym on) (lived_new at (length h.points) task h.lives refl)) each
lived_then h at (kinds.Enable id) each =
    let lives = (after h at (kinds.Enable id)).lives in
    each_setting (HasLived lives) id true h.tasks (λ t there on. enabled_lives (length h.points) h.tasks h.lives id t there (each_found (HasLived lives) id h.tasks t there each)) each
lived_then h at (kinds.Disable id) each = each_setting (HasLived (after h at (kinds.Disable id)).lives) id false h.tasks (λ t there on. absurd (true≢false (sym on))) each
lived_then h at (kinds.Delete id) each = each_removing (HasLived (after h at (kinds.Delete id)).lives) id h.tasks each
lived_then h at (kinds.Batch db rp points) each = each
lived_then h at (kinds.Trans transitions) each = each
lived_then h at (kinds.Snap points trans states) each = each

snap_before : (at next : ℕ) (o : Option Snapshot) → at ≤ next → IfSome o (λ s. s.at < at) → IfSome o (λ s. s.at < next)
snap_before at next None le before = tt
snap_before at next (Some s) le before = omega (arith, le, before)

snap_then : (at next : ℕ) (r : Rec) (lives : List Life) (o : Option Snapshot) → at < next → IfSome o (λ s. s.at < next) → IfSome (later_of (snap_in at r lives) o) (λ s. s.at < next)
snap_then at next (kinds.Define id script enabled) lives o lt before = before
snap_then at next (kinds.Enable id) lives o lt before = before
snap_then at next (kinds.Disable id) lives o lt before = before
snap_then at next (kinds.Delete id) lives o lt before = before
snap_then at next (kinds.Batch db rp points) lives o lt before = before
snap_then at next (kinds.Trans transitions) lives o lt before = before
snap_then at next (kinds.Snap points trans states) lives o lt before = lt

-- behind one more record
steady_after : (h : Held) (at : ℕ) (r : Rec) → IdsRise (after h at r).tasks → IsSteady h at → IsSteady (after h at r) (next_gate at r)
steady_after h at r rise steady =
    let later : at < next_gate at r = omega arith in
    record {
      rise = rise;
      placed = placed_after at (next_gate at r) r h.tasks later
          (each_weaker (λ task. task.define_at < at) (λ task. task.define_at < next_gate at r) (λ t before. omega (arith, before, later)) h.tasks steady.placed);
      lived = lived_then h at r (each_weaker (HasLived h.lives) (HasLived (after h at r).lives) (λ t was on. lived_after t.define_at h at r (was on)) h.tasks steady.lived);
      snap = snap_then at (next_gate at r) r h.lives h.snap later (snap_before at (next_gate at r) h.snap (omega (arith, later)) steady.snap);
    }

-- ---- up to a place

held_split : (h : Held) (at : ℕ) (xs ys : List Rec) → held_from h at (xs ++ ys) ≡ held_from (held_from h at xs) (end_from at xs) ys
held_split h at [] ys = refl
held_split h at (r ∷ xs) ys = held_split (after h at r) (next_gate at r) xs ys

-- These records, which stay, stand for what the store holds there.
pub record IsStand (all h : Held) (at : ℕ) (ks : List Rec) : Type 0 where
  pub follow : Follow ks
  pub thin : IsThin all h (held ks)
  pub steady : IsSteady h at

module _ (all : Held) where
  one_step : (h : Held) (at : ℕ) (r : Rec) (before ks : List Rec) (b : Bool) → FitsRecord r → Follow ks → Steps all h (held ks) at (end_of ks) r b
      → ((more : List Rec) → Follow more → IsThin all (after h at r) (held more)
      → IsStand all (held_from (after h at r) (next_gate at r) before) (end_from (next_gate at r) before) (more ++ staying_from all (after h at r) (next_gate at r) before))
      → IsStand all (held_from (after h at r) (next_gate at r) before) (end_from (next_gate at r) before) (ks ++ (if_stays b r ++ staying_from all (after h at r) (next_gate at r) before))
  one_step h at r before ks true fits follow step go_on =
      subst (IsStand all (held_from (after h at r) (next_gate at r) before) (end_from (next_gate at r) before)) (append_assoc ks (r ∷ []) (staying_from all (after h at r) (next_gate at r) before))
      (go_on (ks ++ r ∷ []) (follow_push ks r follow fits step.0) (subst (λ (g : Held). IsThin all (after h at r) g) (sym (held_push ks r)) step.1))
  one_step h at r before ks false fits follow step go_on = go_on ks follow step

  thin_from : (before behind pre ks : List Rec) (h : Held) (at : ℕ) → held pre ≡ h → end_of pre ≡ at → all ≡ held_from h at (before ++ behind)
      → Follow pre → FollowFrom h at (before ++ behind) → IsSteady h at → Follow ks → IsThin all h (held ks)
      → IsStand all (held_from h at before) (end_from at before) (ks ++ staying_from all h at before)
  thin_from [] behind pre ks h at is_h is_at ends pre_follow follow steady ks_follow thin =
      subst (IsStand all h at) (sym (append-nil ks)) (record { follow = ks_follow; thin = thin; steady = steady })
  thin_from (r ∷ before) behind pre ks h at is_h is_at ends pre_follow follow steady ks_follow thin =
      let may : MayFollow (held pre) r = subst (λ (x : Held). MayFollow x r) (sym is_h) follow.1 in
      let more_pre : Follow (pre ++ r ∷ []) = follow_push pre r pre_follow follow.0 may in
      let is_next : held (pre ++ r ∷ []) ≡ after h at r =
      held_push pre r ∙ ap (λ (x : Held). after x (end_of pre) r) is_h ∙ ap (λ (n : ℕ). after h n r) is_at in
      let is_gate : end_of (pre ++ r ∷ []) ≡ next_gate at r = end_more first_gate pre r ∙ ap (λ (n : ℕ). next_gate n r) is_at in
      let rise : IdsRise (after h at r).tasks = subst (λ (x : Held). IdsRise x.tasks) is_next (in_order (pre ++ r ∷ []) more_pre).rise in
      one_step h at r before ks (stays all h at r) follow.0 ks_follow
      (steps all h (held ks) at (end_of ks) (before ++ behind) steady thin r follow.1 ends)
      (λ more more_follow more_thin. thin_from before behind (pre ++ r ∷ []) more (after h at r) (next_gate at r) is_next is_gate ends more_pre follow.2
      (steady_after h at r rise steady) more_follow more_thin)

-- what a store holds in the beginning
steady_first : IsSteady nothing first_gate
steady_first = record { rise = tt; placed = tt; lived = tt; snap = tt }

thin_first : (all : Held) → IsThin all nothing nothing
thin_first all = record { tasks = refl; lives = refl; points = refl; transitions = refl; snap = refl }

-- what stays of the first records stands for what these hold
pub stand_at : (rs before behind : List Rec) → Follow rs → rs ≡ before ++ behind → IsStand (held rs) (held before) (end_of before) (staying_of rs before)
stand_at rs before behind follow split =
    thin_from (held rs) before behind [] [] nothing first_gate refl refl (ap held split) tt (subst Follow split follow) steady_first tt (thin_first (held rs))

-- ---- all of them

each_there : (tasks : List StoredTask) → Each (λ t. is_there t.id t.define_at tasks ≡ true) tasks
each_there [] = tt
each_there (x ∷ xs) =
    let own : (bytes_eq x.id x.id && (x.define_at == x.define_at)) ≡ true = rw ((bytes_eq-Decides x.id x.id).1 refl) (own_number x.define_at) in (
      rw own refl,
      each_weaker (λ t. is_there t.id t.define_at xs ≡ true) (λ t. is_there t.id t.define_at (x ∷ xs) ≡ true)
          (λ t there. elim (bytes_eq x.id t.id && (x.define_at == t.define_at)) as (λ b. (b || is_there t.id t.define_at xs) ≡ true) [ true ↦ refl | false ↦ there ]) xs (each_there xs),
    )

filter_each : (p : StoredTask → Bool) (xs : List StoredTask) → Each (λ t. p t ≡ true) xs → filter p xs ≡ xs
filter_each p [] each = refl
filter_each p (x ∷ xs) each = rw each.0 (ap (λ (l : List StoredTask). x ∷ l) (filter_each p xs each.1))

all_remain : (all : Held) → filter (remains all) all.tasks ≡ all.tasks
all_remain all = filter_each (remains all) all.tasks
    (each_weaker (λ t. is_there t.id t.define_at all.tasks ≡ true) (λ t. remains all t ≡ true) (λ t there. rw there refl) all.tasks (each_there all.tasks))

last_is : (all : Held) (o : Option Snapshot) → all.snap ≡ o → last_of_all all o ≡ option_map unplaced_snap o
last_is all None e = refl
last_is all (Some s) e = let own : is_snap_at s.at all.snap ≡ true = rw e (own_number s.at) in rw own refl

pub same_held : (rs : List Rec) → Follow rs → HoldSame (held rs) (held (staying rs))
same_held rs follow =
    let thin = (stand_at rs rs [] follow (sym (append-nil rs))).thin in
    record {
      tasks = sym (thin.tasks ∙ ap (λ (l : List StoredTask). map unplaced l) (all_remain (held rs)));
      lives = sym thin.lives;
      points = sym thin.points;
      transitions = sym thin.transitions;
      snap = sym (thin.snap ∙ last_is (held rs) (held rs).snap refl);
    }

pub staying_follow : (rs : List Rec) → Follow rs → Follow (staying rs)
staying_follow rs follow = (stand_at rs rs [] follow (sym (append-nil rs))).follow

-- ---- the last snapshot's record

none_newer : (o x : Option Rec) → later_rec o x ≡ None → (o ≡ None) × (x ≡ None)
none_newer None x e = (refl, e)
none_newer (Some q) x e = absurd cc

keeps_old : (o : Option Rec) → o ≡ later_rec o None
keeps_old None = refl
keeps_old (Some q) = refl

no_snap_in : (at : ℕ) (r : Rec) (lives : List Life) (o : Option Snapshot) → if_snap r ≡ None → later_of (snap_in at r lives) o ≡ o
no_snap_in at (kinds.Define id script enabled) lives o e = refl
no_snap_in at (kinds.Enable id) lives o e = refl
no_snap_in at (kinds.Disable id) lives o e = refl
no_snap_in at (kinds.Delete id) lives o e = refl
no_snap_in at (kinds.Batch db rp points) lives o e = refl
no_snap_in at (kinds.Trans transitions) lives o e = refl
no_snap_in at (kinds.Snap points trans states) lives o e = absurd cc

no_snap_from : (h : Held) (at : ℕ) (rs : List Rec) → last_snap rs ≡ None → (held_from h at rs).snap ≡ h.snap
no_snap_from h at [] none = refl
no_snap_from h at (r ∷ rs) none =
    let both = none_newer (last_snap rs) (if_snap r) none in
    no_snap_from (after h at r) (next_gate at r) rs both.0 ∙ no_snap_in at r h.lives h.snap both.1

module _ (all h : Held) (at : ℕ) (rs : List Rec) where
  -- a record that is left out isn't the last snapshot
  skipped : (r : Rec) → all.snap ≡ (held_from (after h at r) (next_gate at r) rs).snap → stays all h at r ≡ false → last_snap rs ≡ later_rec (last_snap rs) (if_snap r)
  skipped (kinds.Define id script enabled) ends out = keeps_old (last_snap rs)
  skipped (kinds.Enable id) ends out = keeps_old (last_snap rs)
  skipped (kinds.Disable id) ends out = keeps_old (last_snap rs)
  skipped (kinds.Delete id) ends out = keeps_old (last_snap rs)
  skipped (kinds.Batch db rp points) ends out = keeps_old (last_snap rs)
  skipped (kinds.Trans transitions) ends out = keeps_old (last_snap rs)
  skipped (kinds.Snap points trans states) ends out = by_last (last_snap rs) refl
    where
      by_last : (o : Option Rec) → last_snap rs ≡ o → o ≡ later_rec o (Some (kinds.Snap points trans states))
      by_last (Some q) e = refl
      by_last None e =
          let r : Rec = kinds.Snap points trans states in
          let is : is_snap_at at all.snap ≡ true = ap (λ (o : Option Snapshot). is_snap_at at o) (ends ∙ no_snap_from (after h at r) (next_gate at r) rs e) ∙ own_number at in
          absurd (true≢false (sym is ∙ out))

  one_last : (r : Rec) (b : Bool) (ks : List Rec) → all.snap ≡ (held_from (after h at r) (next_gate at r) rs).snap → stays all h at r ≡ b → last_snap ks ≡ last_snap rs
      → last_snap (if_stays b r ++ ks) ≡ later_rec (last_snap rs) (if_snap r)
  one_last r true ks ends stay same = ap (λ (o : Option Rec). later_rec o (if_snap r)) same
  one_last r false ks ends out same = same ∙ skipped r ends out

last_from : (all h : Held) (at : ℕ) (rs : List Rec) → all.snap ≡ (held_from h at rs).snap → last_snap (staying_from all h at rs) ≡ last_snap rs
last_from all h at [] ends = refl
last_from all h at (r ∷ rs) ends =
    one_last all h at rs r (stays all h at r) (staying_from all (after h at r) (next_gate at r) rs) ends refl (last_from all (after h at r) (next_gate at r) rs ends)

pub same_last : (rs : List Rec) → last_snap (staying rs) ≡ last_snap rs
same_last rs = last_from (held rs) nothing first_gate rs refl

-- ---- one more of the first records

staying_more : (all h : Held) (at : ℕ) (before : List Rec) (r : Rec)
    → staying_from all h at (before ++ r ∷ []) ≡ staying_from all h at before ++ if_stays (stays all (held_from h at before) (end_from at before) r) r
staying_more all h at [] r = append-nil (if_stays (stays all h at r) r)
staying_more all h at (q ∷ before) r =
    ap (λ (l : List Rec). if_stays (stays all h at q) q ++ l) (staying_more all (after h at q) (next_gate at q) before r)
    ∙ sym (append_assoc (if_stays (stays all h at q) q) (staying_from all (after h at q) (next_gate at q) before) _)

pub staying_push : (rs before : List Rec) (r : Rec) → staying_of rs (before ++ r ∷ []) ≡ staying_of rs before ++ if_stays (stays (held rs) (held before) (end_of before) r) r
staying_push rs before r = staying_more (held rs) nothing first_gate before r

-- a record fits, and may follow those before it
follows_from : (h : Held) (at : ℕ) (before : List Rec) (r : Rec) (behind : List Rec) → FollowFrom h at (before ++ r ∷ behind) → FitsRecord r × MayFollow (held_from h at before) r
follows_from h at [] r behind follow = (follow.0, follow.1)
follows_from h at (q ∷ before) r behind follow = follows_from (after h at q) (next_gate at q) before r behind follow.2

pub follows_there : (rs before : List Rec) (r : Rec) (behind : List Rec) → Follow rs → rs ≡ before ++ r ∷ behind → FitsRecord r × MayFollow (held before) r
follows_there rs before r behind follow split = follows_from nothing first_gate before r behind (subst Follow split follow)

-- by what is kept of all records, and of those that stay so far, it is decided whether one stays
pub decides_at : (rs before : List Rec) (r : Rec) (behind : List Rec) (a k : KeptValue) → Follow rs → rs ≡ before ++ r ∷ behind → KeepsRecords rs a → KeepsRecords (staying_of rs before) k
    → is_kept a k (end_of before) r ≡ stays (held rs) (held before) (end_of before) r
decides_at rs before r behind a k follow split keeps_all keeps =
    let stand = stand_at rs before (r ∷ behind) follow split in
    decides (held rs) (held before) (held (staying_of rs before)) (end_of before) (end_of (staying_of rs before)) behind stand.steady stand.thin a k keeps_all.keeps keeps.keeps r
    (follows_there rs before r behind follow split).1 (ap held split ∙ held_split nothing first_gate before (r ∷ behind))

-- ---- the last snapshot, where it stands

staying_split : (all h : Held) (at : ℕ) (xs ys : List Rec) → staying_from all h at (xs ++ ys) ≡ staying_from all h at xs ++ staying_from all (held_from h at xs) (end_from at xs) ys
staying_split all h at [] ys = refl
staying_split all h at (r ∷ xs) ys =
    ap (λ (l : List Rec). if_stays (stays all h at r) r ++ l) (staying_split all (after h at r) (next_gate at r) xs ys)
    ∙ sym (append_assoc (if_stays (stays all h at r) r) (staying_from all (after h at r) (next_gate at r) xs) _)

pub same_snap : (rs before behind : List Rec) (points trans : ℕ) (states : List ℕ) → Follow rs → rs ≡ before ++ kinds.Snap points trans states ∷ behind → last_snap behind ≡ None
    → HasLastSnap (held before) points trans states (staying rs)
same_snap rs before behind points trans states follow split none =
    let r : Rec = kinds.Snap points trans states in
    let all : Held = held rs in
    let h : Held = held before in
    let at : ℕ = end_of before in
    let ends : all ≡ held_from (after h at r) (next_gate at r) behind = ap held split ∙ held_split nothing first_gate before (r ∷ behind) in
    let stay : is_snap_at at all.snap ≡ true =
    ap (λ (x : Held). is_snap_at at x.snap) ends ∙ ap (λ (o : Option Snapshot). is_snap_at at o) (no_snap_from (after h at r) (next_gate at r) behind none) ∙ own_number at in
    let thin = (stand_at rs before (r ∷ behind) follow split).thin in
    record {
      before = staying_of rs before;
      behind = staying_from all (after h at r) (next_gate at r) behind;
      split =
          ap (λ (l : List Rec). staying_from all nothing first_gate l) split ∙ staying_split all nothing first_gate before (r ∷ behind)
          ∙ ap (λ (b : Bool). staying_of rs before ++ (if_stays b r ++ staying_from all (after h at r) (next_gate at r) behind)) stay;
      none_behind = last_from all (after h at r) (next_gate at r) behind (ap (λ (x : Held). x.snap) ends) ∙ none;
      lives = thin.lives;
      points_are = thin.points;
      transitions = thin.transitions;
    }
