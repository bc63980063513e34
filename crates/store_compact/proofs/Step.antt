-- One more record, which stays or is left out.
use Rattle.std.proofs.Common.{◌≡◌, ◌⊎◌, ⊎_elim, ℕ, ◌+◌, ◌<◌, ◌≤◌, Bool, true, false, not, ◌&&◌, cond, List, [], ◌∷◌, ◌++◌, length, map, Option, None, Some, refl, sym, ap, ◌∙◌, subst, arith, true≢false}
use Rattle.std.specs.Prelude.{◌||◌, ◌==◌, IfSome, option_map, nat_lt}
use Rattle.std.specs.List.{AllByRecursion as Each, filter}
use Rattle.std.specs.Option.{option_map_or}
use Rattle.std.specs.Str.{bytes_eq}
use Rattle.std.proofs.lemmas.Bool.Decides.{nat_tests}
use Rattle.std.proofs.lemmas.List.{append-nil, length-map, map-append}
use Rattle.kap_base.proofs.TestLaws.{both, first_of, not_false, not_true, second_false, second_of}
use Rattle.kap_base.specs.Points.{PointValue}
use Rattle.kap_base.specs.Texts.{is_task_id}
use Rattle.kap_base.specs.declared.limits.TheConstants.{TASK_LIMIT}
use Rattle.topic_core.specs.declared.transition.Transition.{Transition}
use Rattle.store_records.specs.Held.{Held, MayFollow, after, are_next, end_life, has_task, is_called, is_enabled, life_from, life_of, may_define, open_from, put_task, remove_task, set_enabled, task_of}
use Rattle.store_records.specs.Histories.{held_from, next_gate}
use Rattle.store_records.specs.declared.rec.Rec.{Rec}
use Rattle.store_records.specs.declared.rec.Rec.TheVariants as kinds
use Rattle.store_records.specs.declared.task.Life.{Life}
use Rattle.store_records.specs.declared.task.Snapshot.{Snapshot}
use Rattle.store_records.specs.declared.task.StoredTask.{StoredTask}
use Rattle.store_kept.specs.Keeping.{Keeps, KeptValue}
use Rattle.store_records.proofs.OrderLaws.{same_id}
use Rattle.store_compact.specs.Deciding.{is_kept}
use Rattle.store_compact.specs.Same.{unplaced, unplaced_life}
use Rattle.store_compact.specs.Staying.{has_lived, is_snap_at, is_there, stays}
use Rattle.store_compact.proofs.Later.{IsOther, gone_later, lived_after, lived_later, not_there, other_number, own_number, snap_later}
use Rattle.store_compact.proofs.Lives.{lived_back, unplaced_end, unplaced_numbers}
use Rattle.store_compact.proofs.Tasks.{Found, each_found, filter_few, filter_free, filter_none, filter_of, filter_put, filter_remove, filter_set, found_in, none_left, none_of_id, put_lost, remove_lost, set_same, there_has, unplaced_has, unplaced_of, unplaced_put, unplaced_remove, unplaced_set}
use Rattle.store_compact.proofs.Thin.{IsSteady, IsThin, last_of_all, remains}

-- ---- tests

or_second : (a b : Bool) → b ≡ true → (a || b) ≡ true
or_second true b e = refl
or_second false b e = e

or_both : (a b : Bool) → a ≡ false → b ≡ false → (a || b) ≡ false
or_both a b p q = rw (p, q) refl

is_not : (b : Bool) → not b ≡ false → b ≡ true
is_not true e = refl
is_not false e = absurd cc

lt_stays : (a b n : ℕ) → a ≤ b → nat_lt b n ≡ true → nat_lt a n ≡ true
lt_stays a b n le lt = grind (arith, nat_tests)

pub each_weaker : (P Q : StoredTask → Type 0) → ((t : StoredTask) → P t → Q t) → (xs : List StoredTask) → Each P xs → Each Q xs
each_weaker P Q to [] each = tt
each_weaker P Q to (x ∷ xs) each = (to x each.0, each_weaker P Q to xs each.1)

-- the snapshot of another record
other_snap : (place : ℕ) (s : Snapshot) (o : Option Snapshot) → o ≡ Some s → place < s.at → is_snap_at place o ≡ false
other_snap place s o is lt = rw is (other_number place s.at lt)

abbrev snap_with : ℕ → ℕ → List ℕ → Snapshot
snap_with points trans lives = record { at = 0; points = points; transitions = trans; lives = lives }

-- ---- lives without places

life_unplaced : (n : ℕ) (o : Option StoredTask) → map unplaced_life (life_of n o) ≡ life_of n (option_map unplaced o)
life_unplaced n None = refl
life_unplaced n (Some t) = elim t.enabled as (λ b. map unplaced_life (cond b [] (life_from n t ∷ [])) ≡ cond b [] (life_from n (unplaced t) ∷ [])) [ true ↦ refl | false ↦ refl ]

end_unplaced : (b : Bool) (id : List ℕ) (n : ℕ) (ls : List Life) → map unplaced_life (cond b (end_life id n ls) ls) ≡ cond b (end_life id n (map unplaced_life ls)) (map unplaced_life ls)
end_unplaced true id n ls = unplaced_end id n ls
end_unplaced false id n ls = refl

enabled_unplaced : (o : Option StoredTask) → option_map_or (λ t. t.enabled) (option_map unplaced o) false ≡ option_map_or (λ t. t.enabled) o false
enabled_unplaced None = refl
enabled_unplaced (Some t) = refl

-- both lists grow by the same
lives_grow : (es fs xs ys : List Life) → map unplaced_life es ≡ map unplaced_life fs → map unplaced_life xs ≡ map unplaced_life ys
    → map unplaced_life (es ++ xs) ≡ map unplaced_life (fs ++ ys)
lives_grow es fs xs ys front back =
    map-append unplaced_life es xs ∙ ap (λ (l : List Life). l ++ map unplaced_life xs) front
    ∙ ap (λ (l : List Life). map unplaced_life fs ++ l) back ∙ sym (map-append unplaced_life fs ys)

-- ---- a life that begins

pub lived_new : (at n : ℕ) (t : StoredTask) (ls : List Life) → t.define_at ≡ at → has_lived at (ls ++ life_from n t ∷ []) ≡ true
lived_new at n t ls is = lived_back at ls (life_from n t ∷ []) (rw is (rw (own_number at) refl))

-- ---- the step

-- the record stays, or is left out
abbrev pub Steps : Held → Held → Held → ℕ → ℕ → Rec → Bool → Type 0
Steps all h g at to r true = MayFollow g r × IsThin all (after h at r) (after g to r)
Steps all h g at to r false = IsThin all (after h at r) g

module _ (all h g : Held) (at to : ℕ) (rest : List Rec) (steady : IsSteady h at) (thin : IsThin all h g) where
  abbrev p : StoredTask → Bool
  p = remains all

  -- this is what the store holds in the end
  abbrev EndsAs : Rec → Type 0
  EndsAs r = all ≡ held_from (after h at r) (next_gate at r) rest

  lived_at_last : (r : Rec) (place : ℕ) → EndsAs r → has_lived place (after h at r).lives ≡ true → has_lived place all.lives ≡ true
  lived_at_last r place ends lived = subst (λ (x : Held). has_lived place x.lives ≡ true) (sym ends) (lived_later place (after h at r) (next_gate at r) rest lived)

  lived_so_far : (r : Rec) (place : ℕ) → EndsAs r → has_lived place h.lives ≡ true → has_lived place all.lives ≡ true
  lived_so_far r place ends lived = lived_at_last r place ends (lived_after place h at r lived)

  same_points : length g.points ≡ length h.points
  same_points = ap (λ (l : List PointValue). length l) thin.points

  -- ---- tasks that remain

  module _ (id : List ℕ) (found : Found id h.tasks) (stay : p found.task ≡ true) where
    there : task_of id (filter p h.tasks) ≡ Some found.task
    there = filter_of p id h.tasks found.task found.there stay

    same_task : option_map unplaced (task_of id g.tasks) ≡ option_map unplaced (task_of id h.tasks)
    same_task =
        sym (unplaced_of id g.tasks) ∙ ap (λ (l : List StoredTask). task_of id l) thin.tasks ∙ unplaced_of id (filter p h.tasks)
        ∙ ap (λ (o : Option StoredTask). option_map unplaced o) (there ∙ sym found.there)

    is_in : has_task id g.tasks ≡ true
    is_in =
        sym (unplaced_has id g.tasks) ∙ ap (λ (l : List StoredTask). has_task id l) thin.tasks ∙ unplaced_has id (filter p h.tasks)
        ∙ there_has id (filter p h.tasks) found.task there

    same_enabled : is_enabled id g.tasks ≡ is_enabled id h.tasks
    same_enabled =
        sym (enabled_unplaced (task_of id g.tasks)) ∙ ap (λ (o : Option StoredTask). option_map_or (λ t. t.enabled) o false) same_task
        ∙ enabled_unplaced (task_of id h.tasks)

    set_thin : (e : Bool) → map unplaced (set_enabled id e g.tasks) ≡ map unplaced (filter p (set_enabled id e h.tasks))
    set_thin e =
        unplaced_set id e g.tasks ∙ ap (λ (l : List StoredTask). set_enabled id e l) thin.tasks ∙ sym (unplaced_set id e (filter p h.tasks))
        ∙ ap (λ (l : List StoredTask). map unplaced l) (filter_set p id e h.tasks found.task found.there stay stay)

    remove_thin : map unplaced (remove_task id g.tasks) ≡ map unplaced (filter p (remove_task id h.tasks))
    remove_thin =
        unplaced_remove id g.tasks ∙ ap (λ (l : List StoredTask). remove_task id l) thin.tasks ∙ sym (unplaced_remove id (filter p h.tasks))
        ∙ ap (λ (l : List StoredTask). map unplaced l) (filter_remove p id h.tasks found.task found.there stay)

    ended_thin : map unplaced_life (cond (is_enabled id g.tasks) (end_life id (length g.points) g.lives) g.lives)
        ≡ map unplaced_life (cond (is_enabled id h.tasks) (end_life id (length h.points) h.lives) h.lives)
    ended_thin =
        end_unplaced (is_enabled id g.tasks) id (length g.points) g.lives
        ∙ ap (λ (b : Bool). cond b (end_life id (length g.points) (map unplaced_life g.lives)) (map unplaced_life g.lives)) same_enabled
        ∙ ap (λ (n : ℕ). cond (is_enabled id h.tasks) (end_life id n (map unplaced_life g.lives)) (map unplaced_life g.lives)) same_points
        ∙ ap (λ (l : List Life). cond (is_enabled id h.tasks) (end_life id (length h.points) l) l) thin.lives
        ∙ sym (end_unplaced (is_enabled id h.tasks) id (length h.points) h.lives)

    begun_thin : map unplaced_life (life_of (length g.points) (task_of id g.tasks)) ≡ map unplaced_life (life_of (length h.points) (task_of id h.tasks))
    begun_thin =
        life_unplaced (length g.points) (task_of id g.tasks)
        ∙ ap (λ (n : ℕ). life_of n (option_map unplaced (task_of id g.tasks))) same_points
        ∙ ap (λ (o : Option StoredTask). life_of (length h.points) o) same_task
        ∙ sym (life_unplaced (length h.points) (task_of id h.tasks))

  -- ---- what is as it was

  still_lives : map unplaced_life (g.lives ++ []) ≡ map unplaced_life (h.lives ++ [])
  still_lives = lives_grow g.lives h.lives [] [] thin.lives refl

  -- nothing is added to what stays
  no_more_lives : (ls : List Life) → ls ≡ h.lives → map unplaced_life g.lives ≡ map unplaced_life (ls ++ [])
  no_more_lives ls is = thin.lives ∙ ap (λ (l : List Life). map unplaced_life l) (sym is ∙ sym (append-nil ls))

  no_more_points : g.points ≡ h.points ++ []
  no_more_points = thin.points ∙ sym (append-nil h.points)

  no_more_transitions : g.transitions ≡ h.transitions ++ []
  no_more_transitions = thin.transitions ∙ sym (append-nil h.transitions)

  -- ---- each kind of record

  define_steps : (id script : List ℕ) (enabled : Bool) → may_define id script h.tasks ≡ true → EndsAs (kinds.Define id script enabled) → (b : Bool)
      → (is_there id at all.tasks || has_lived at all.lives) ≡ b → Steps all h g at to (kinds.Define id script enabled) b
  define_steps id script enabled may ends true stay =
      let room = second_of (is_task_id id) _ may in
      let sizes = second_of (not (has_task id h.tasks)) _ room in
      let free : has_task id h.tasks ≡ false = not_true (has_task id h.tasks) (first_of (not (has_task id h.tasks)) _ room) in
      let free_here : has_task id g.tasks ≡ false =
      sym (unplaced_has id g.tasks) ∙ ap (λ (l : List StoredTask). has_task id l) thin.tasks ∙ unplaced_has id (filter p h.tasks) ∙ filter_free p id h.tasks free in
      let few : length g.tasks ≤ length h.tasks =
      omega (arith, sym (length-map g.tasks unplaced) ∙ ap (λ (l : List StoredTask). length l) thin.tasks ∙ length-map (filter p h.tasks) unplaced, filter_few p h.tasks) in
      let old : StoredTask = record { id = id; script = script; enabled = enabled; define_at = at } in
      let new : StoredTask = record { id = id; script = script; enabled = enabled; define_at = to } in (
        both (is_task_id id) _ (first_of (is_task_id id) _ may)
            (both (not (has_task id g.tasks)) _ (not_false (has_task id g.tasks) free_here)
            (both (nat_lt (length g.tasks) TASK_LIMIT) _ (lt_stays (length g.tasks) (length h.tasks) TASK_LIMIT few (first_of _ _ sizes)) (second_of _ _ sizes))),
        record {
          tasks =
              unplaced_put new g.tasks ∙ ap (λ (l : List StoredTask). put_task (unplaced new) l) thin.tasks ∙ sym (unplaced_put old (filter p h.tasks))
              ∙ ap (λ (l : List StoredTask). map unplaced l) (filter_put p old h.tasks steady.rise stay);
          lives = lives_grow g.lives h.lives (cond enabled (life_from (length g.points) new ∷ []) []) (cond enabled (life_from (length h.points) old ∷ []) []) thin.lives
              (elim enabled as (λ b. map unplaced_life (cond b (life_from (length g.points) new ∷ []) []) ≡ map unplaced_life (cond b (life_from (length h.points) old ∷ []) [])) [
                | true ↦ ap (λ (n : ℕ). life_from n (unplaced old) ∷ []) same_points
                | false ↦ refl
              ]);
          points = ap (λ (l : List PointValue). l ++ []) thin.points;
          transitions = ap (λ (l : List Transition). l ++ []) thin.transitions;
          snap = thin.snap;
        },
      )
  define_steps id script enabled may ends false out =
      let old : StoredTask = record { id = id; script = script; enabled = enabled; define_at = at } in
      let off : enabled ≡ false = never enabled refl in
      record {
        tasks = thin.tasks ∙ ap (λ (l : List StoredTask). map unplaced l) (put_lost p old h.tasks out);
        lives = thin.lives ∙ ap (λ (l : List Life). map unplaced_life l) (sym (append-nil h.lives))
            ∙ ap (λ (b : Bool). map unplaced_life (h.lives ++ cond b (life_from (length h.points) old ∷ []) [])) (sym off);
        points = no_more_points;
        transitions = no_more_transitions;
        snap = thin.snap;
      }
    where
      never : (b : Bool) → enabled ≡ b → enabled ≡ false
      never true on =
          let task : StoredTask = record { id = id; script = script; enabled = enabled; define_at = at } in
          let lived : has_lived at (after h at (kinds.Define id script enabled)).lives ≡ true =
          subst (λ (b : Bool). has_lived at (h.lives ++ cond b (life_from (length h.points) task ∷ []) []) ≡ true) (sym on) (lived_new at (length h.points) task h.lives refl) in
          absurd (true≢false (sym (lived_at_last (kinds.Define id script enabled) at ends lived) ∙ second_false (is_there id at all.tasks) (has_lived at all.lives) out))
      never false off = off

  enable_steps : (id : List ℕ) → has_task id h.tasks ≡ true → EndsAs (kinds.Enable id) → (b : Bool) → not (is_enabled id h.tasks) ≡ b → Steps all h g at to (kinds.Enable id) b
  enable_steps id has ends b is = by_found (found_in id h.tasks has) b is
    where
      by_found : (found : Found id h.tasks) → (b : Bool) → not (is_enabled id h.tasks) ≡ b → Steps all h g at to (kinds.Enable id) b
      by_found found true stay =
          let there_is : is_enabled id h.tasks ≡ found.task.enabled = ap (λ (o : Option StoredTask). option_map_or (λ t. t.enabled) o false) found.there in
          let off : found.task.enabled ≡ false = sym there_is ∙ not_true (is_enabled id h.tasks) stay in
          let begins : life_of (length h.points) (task_of id h.tasks) ≡ life_from (length h.points) found.task ∷ [] =
          ap (λ (o : Option StoredTask). life_of (length h.points) o) found.there ∙ rw off refl in
          let lived : has_lived found.task.define_at (h.lives ++ life_of (length h.points) (task_of id h.tasks)) ≡ true =
          subst (λ (l : List Life). has_lived found.task.define_at (h.lives ++ l) ≡ true) (sym begins) (lived_new found.task.define_at (length h.points) found.task h.lives refl) in
          let stays_in : p found.task ≡ true = or_second (is_there found.task.id found.task.define_at all.tasks) (has_lived found.task.define_at all.lives)
          (lived_at_last (kinds.Enable id) found.task.define_at ends lived) in (
            is_in id found stays_in,
            record {
              tasks = set_thin id found stays_in true;
              lives = lives_grow g.lives h.lives (life_of (length g.points) (task_of id g.tasks)) (life_of (length h.points) (task_of id h.tasks)) thin.lives (begun_thin id found stays_in);
              points = ap (λ (l : List PointValue). l ++ []) thin.points;
              transitions = ap (λ (l : List Transition). l ++ []) thin.transitions;
              snap = thin.snap;
            },
          )
      by_found found false out =
          let there_is : is_enabled id h.tasks ≡ found.task.enabled = ap (λ (o : Option StoredTask). option_map_or (λ t. t.enabled) o false) found.there in
          let on : found.task.enabled ≡ true = sym there_is ∙ is_not (is_enabled id h.tasks) out in
          let none : life_of (length h.points) (task_of id h.tasks) ≡ [] = ap (λ (o : Option StoredTask). life_of (length h.points) o) found.there ∙ rw on refl in
          record {
            tasks = thin.tasks ∙ ap (λ (l : List StoredTask). map unplaced (filter p l)) (sym (set_same id true h.tasks found.task found.there on));
            lives = no_more_lives h.lives refl ∙ ap (λ (l : List Life). map unplaced_life (h.lives ++ l)) (sym none);
            points = no_more_points;
            transitions = no_more_transitions;
            snap = thin.snap;
          }

  disable_steps : (id : List ℕ) → has_task id h.tasks ≡ true → EndsAs (kinds.Disable id) → (b : Bool) → is_enabled id h.tasks ≡ b → Steps all h g at to (kinds.Disable id) b
  disable_steps id has ends b is = by_found (found_in id h.tasks has) b is
    where
      by_found : (found : Found id h.tasks) → (b : Bool) → is_enabled id h.tasks ≡ b → Steps all h g at to (kinds.Disable id) b
      by_found found true stay =
          let there_is : is_enabled id h.tasks ≡ found.task.enabled = ap (λ (o : Option StoredTask). option_map_or (λ t. t.enabled) o false) found.there in
          let lived : has_lived found.task.define_at h.lives ≡ true =
          each_found (λ task. task.enabled ≡ true → has_lived task.define_at h.lives ≡ true) id h.tasks found.task found.there steady.lived (sym there_is ∙ stay) in
          let stays_in : p found.task ≡ true = or_second (is_there found.task.id found.task.define_at all.tasks) (has_lived found.task.define_at all.lives)
          (lived_so_far (kinds.Disable id) found.task.define_at ends lived) in (
            is_in id found stays_in,
            record {
              tasks = set_thin id found stays_in false;
              lives = lives_grow _ _ [] [] (ended_thin id found stays_in) refl;
              points = ap (λ (l : List PointValue). l ++ []) thin.points;
              transitions = ap (λ (l : List Transition). l ++ []) thin.transitions;
              snap = thin.snap;
            },
          )
      by_found found false out =
          let there_is : is_enabled id h.tasks ≡ found.task.enabled = ap (λ (o : Option StoredTask). option_map_or (λ t. t.enabled) o false) found.there in
          record {
            tasks = thin.tasks ∙ ap (λ (l : List StoredTask). map unplaced (filter p l)) (sym (set_same id false h.tasks found.task found.there (sym there_is ∙ out)));
            lives = no_more_lives (cond (is_enabled id h.tasks) (end_life id (length h.points) h.lives) h.lives) (rw out refl);
            points = no_more_points;
            transitions = no_more_transitions;
            snap = thin.snap;
          }

  -- a task that never has a life isn't enabled
  never_on : (r : Rec) (id : List ℕ) (found : Found id h.tasks) → EndsAs r → has_lived found.task.define_at all.lives ≡ false → is_enabled id h.tasks ≡ false
  never_on r id found ends never =
      let there_is : is_enabled id h.tasks ≡ found.task.enabled = ap (λ (o : Option StoredTask). option_map_or (λ t. t.enabled) o false) found.there in
      elim (is_enabled id h.tasks) as (λ b. is_enabled id h.tasks ≡ b → b ≡ false) [
        | true ↦ λ on.
            let lived : has_lived found.task.define_at h.lives ≡ true =
            each_found (λ task. task.enabled ≡ true → has_lived task.define_at h.lives ≡ true) id h.tasks found.task found.there steady.lived (sym there_is ∙ on) in
            absurd (true≢false (sym (lived_so_far r found.task.define_at ends lived) ∙ never))
        | false ↦ λ off. refl
      ] refl

  -- and once it is deleted, it is left out
  gone_for_good : (id : List ℕ) (found : Found id h.tasks) → EndsAs (kinds.Delete id) → has_lived found.task.define_at all.lives ≡ false → p found.task ≡ false
  gone_for_good id found ends never =
      let place = found.task.define_at in
      let called : found.task.id ≡ id = same_id found.task.id id found.called in
      let others : Each (IsOther found.task.id place) (remove_task id h.tasks) =
      each_weaker (λ other. is_called id other ≡ false) (IsOther found.task.id place)
      (λ t no. ap (λ (b : Bool). b && (t.define_at == place)) (ap (λ (i : List ℕ). bytes_eq t.id i) called ∙ no)) (remove_task id h.tasks) (none_left id h.tasks steady.rise) in
      let before : place < next_gate at (kinds.Delete id) = omega (arith, each_found (λ task. task.define_at < at) id h.tasks found.task found.there steady.placed) in
      let gone : is_there found.task.id place all.tasks ≡ false =
      subst (λ (x : Held). is_there found.task.id place x.tasks ≡ false) (sym ends)
      (gone_later found.task.id place (after h at (kinds.Delete id)) (next_gate at (kinds.Delete id)) rest before (not_there found.task.id place (remove_task id h.tasks) others)) in
      or_both (is_there found.task.id place all.tasks) (has_lived place all.lives) gone never

  delete_steps : (id : List ℕ) → has_task id h.tasks ≡ true → EndsAs (kinds.Delete id) → (b : Bool)
      → option_map_or (λ task. has_lived task.define_at all.lives) (task_of id h.tasks) false ≡ b → Steps all h g at to (kinds.Delete id) b
  delete_steps id has ends b is = by_found (found_in id h.tasks has) b is
    where
      by_found : (found : Found id h.tasks) → (b : Bool) → option_map_or (λ task. has_lived task.define_at all.lives) (task_of id h.tasks) false ≡ b → Steps all h g at to (kinds.Delete id) b
      by_found found true stay =
          let lived_is : option_map_or (λ task. has_lived task.define_at all.lives) (task_of id h.tasks) false ≡ has_lived found.task.define_at all.lives =
          ap (λ (o : Option StoredTask). option_map_or (λ task. has_lived task.define_at all.lives) o false) found.there in
          let stays_in : p found.task ≡ true = or_second (is_there found.task.id found.task.define_at all.tasks) (has_lived found.task.define_at all.lives) (sym lived_is ∙ stay) in (
            is_in id found stays_in,
            record {
              tasks = remove_thin id found stays_in;
              lives = lives_grow _ _ [] [] (ended_thin id found stays_in) refl;
              points = ap (λ (l : List PointValue). l ++ []) thin.points;
              transitions = ap (λ (l : List Transition). l ++ []) thin.transitions;
              snap = thin.snap;
            },
          )
      by_found found false out =
          let lived_is : option_map_or (λ task. has_lived task.define_at all.lives) (task_of id h.tasks) false ≡ has_lived found.task.define_at all.lives =
          ap (λ (o : Option StoredTask). option_map_or (λ task. has_lived task.define_at all.lives) o false) found.there in
          let never : has_lived found.task.define_at all.lives ≡ false = sym lived_is ∙ out in
          let off : is_enabled id h.tasks ≡ false = never_on (kinds.Delete id) id found ends never in
          record {
            tasks = thin.tasks ∙ ap (λ (l : List StoredTask). map unplaced l)
                (remove_lost p id h.tasks found.task found.there (gone_for_good id found ends never));
            lives = no_more_lives (cond (is_enabled id h.tasks) (end_life id (length h.points) h.lives) h.lives) (rw off refl);
            points = no_more_points;
            transitions = no_more_transitions;
            snap = thin.snap;
          }

  snap_steps : (points trans : ℕ) (states : List ℕ) → MayFollow h (kinds.Snap points trans states) → EndsAs (kinds.Snap points trans states) → (b : Bool)
      → is_snap_at at all.snap ≡ b → Steps all h g at to (kinds.Snap points trans states) b
  snap_steps points trans states may ends true stay = (
    record {
      points_are = may.points_are ∙ sym same_points;
      trans_are = may.trans_are ∙ ap (λ (l : List Transition). length l) (sym thin.transitions);
      states_are = may.states_are;
    },
    record {
      tasks = thin.tasks;
      lives = still_lives;
      points = ap (λ (l : List PointValue). l ++ []) thin.points;
      transitions = ap (λ (l : List Transition). l ++ []) thin.transitions;
      snap = rw stay (ap (λ (lives : List ℕ). Some (snap_with points trans lives))
          (sym (unplaced_numbers 1 g.lives) ∙ ap (λ (l : List Life). open_from 1 l) thin.lives ∙ unplaced_numbers 1 h.lives));
    },
  )
  snap_steps points trans states may ends false out = record {
    tasks = thin.tasks;
    lives = no_more_lives h.lives refl;
    points = no_more_points;
    transitions = no_more_transitions;
    snap = rw out (thin.snap ∙ none_before h.snap refl);
  }
    where
      none_before : (o : Option Snapshot) → h.snap ≡ o → last_of_all all o ≡ None
      none_before None e = refl
      none_before (Some s) e =
          let before : s.at < at = subst (λ (o : Option Snapshot). IfSome o (λ s. s.at < at)) e steady.snap in
          let other : is_snap_at s.at all.snap ≡ false = ⊎_elim
          (λ same. other_snap s.at (record { at = at; points = points; transitions = trans; lives = open_from 1 h.lives }) all.snap (ap (λ (x : Held). x.snap) ends ∙ same) before)
          (λ late. other_snap s.at late.last all.snap (ap (λ (x : Held). x.snap) ends ∙ late.is) (omega (arith, before, late.behind)))
          (snap_later (after h at (kinds.Snap points trans states)) (next_gate at (kinds.Snap points trans states)) rest) in
          rw other refl

  -- one more record
  pub steps : (r : Rec) → MayFollow h r → EndsAs r → Steps all h g at to r (stays all h at r)
  steps (kinds.Define id script enabled) may ends = define_steps id script enabled may ends _ refl
  steps (kinds.Enable id) may ends = enable_steps id may ends _ refl
  steps (kinds.Disable id) may ends = disable_steps id may ends _ refl
  steps (kinds.Delete id) may ends = delete_steps id may ends _ refl
  steps (kinds.Batch db rp points) may ends = (
    may,
    record {
      tasks = thin.tasks;
      lives = still_lives;
      points = ap (λ (l : List PointValue). l ++ points) thin.points;
      transitions = ap (λ (l : List Transition). l ++ []) thin.transitions;
      snap = thin.snap;
    },
  )
  steps (kinds.Trans transitions) may ends = (
    subst (λ (l : List Transition). are_next l transitions ≡ true) (sym thin.transitions) may,
    record {
      tasks = thin.tasks;
      lives = still_lives;
      points = ap (λ (l : List PointValue). l ++ []) thin.points;
      transitions = ap (λ (l : List Transition). l ++ transitions) thin.transitions;
      snap = thin.snap;
    },
  )
  steps (kinds.Snap points trans states) may ends = snap_steps points trans states may ends _ refl

  -- ---- by what is kept

  -- none of this id is there, where the task is left out
  not_in : (id : List ℕ) (found : Found id h.tasks) → p found.task ≡ false → has_task id g.tasks ≡ false
  not_in id found out =
      sym (unplaced_has id g.tasks) ∙ ap (λ (l : List StoredTask). has_task id l) thin.tasks ∙ unplaced_has id (filter p h.tasks)
      ∙ filter_none p id h.tasks found.task steady.rise found.there out

  -- whether the task is enabled
  enabled_is : (r : Rec) (id : List ℕ) → has_task id h.tasks ≡ true → EndsAs r → is_enabled id g.tasks ≡ is_enabled id h.tasks
  enabled_is r id has ends = by_found (found_in id h.tasks has)
    where
      by_found : Found id h.tasks → is_enabled id g.tasks ≡ is_enabled id h.tasks
      by_found found = elim (p found.task) as (λ b. p found.task ≡ b → is_enabled id g.tasks ≡ is_enabled id h.tasks) [
        | true ↦ λ stay. same_enabled id found stay
        | false ↦ λ out.
            let never = second_false (is_there found.task.id found.task.define_at all.tasks) (has_lived found.task.define_at all.lives) out in
            ap (λ (o : Option StoredTask). option_map_or (λ t. t.enabled) o false) (none_of_id id g.tasks (not_in id found out)) ∙ sym (never_on r id found ends never)
      ] refl

  -- whether a task's Delete stays
  deleted_is : (id : List ℕ) → has_task id h.tasks ≡ true → EndsAs (kinds.Delete id) → has_task id g.tasks ≡ stays all h at (kinds.Delete id)
  deleted_is id has ends = by_found (found_in id h.tasks has)
    where
      by_found : Found id h.tasks → has_task id g.tasks ≡ stays all h at (kinds.Delete id)
      by_found found =
          let lived_is : stays all h at (kinds.Delete id) ≡ has_lived found.task.define_at all.lives =
          ap (λ (o : Option StoredTask). option_map_or (λ task. has_lived task.define_at all.lives) o false) found.there in
          elim (has_lived found.task.define_at all.lives) as (λ b. has_lived found.task.define_at all.lives ≡ b → has_task id g.tasks ≡ b) [
            | true ↦ λ lived. is_in id found (or_second (is_there found.task.id found.task.define_at all.tasks) (has_lived found.task.define_at all.lives) lived)
            | false ↦ λ never. not_in id found (gone_for_good id found ends never)
          ] refl ∙ sym lived_is

  module _ (a k : KeptValue) (keeps_all : Keeps all a) (keeps : Keeps g k) where
    -- what is kept decides as the definition does
    pub decides : (r : Rec) → MayFollow h r → EndsAs r → is_kept a k at r ≡ stays all h at r
    decides (kinds.Define id script enabled) may ends =
        ap (λ (l : List StoredTask). is_there id at l || has_lived at a.lives) keeps_all.tasks ∙ ap (λ (l : List Life). is_there id at all.tasks || has_lived at l) keeps_all.lives
    decides (kinds.Enable id) may ends = ap (λ (l : List StoredTask). not (is_enabled id l)) keeps.tasks ∙ ap not (enabled_is (kinds.Enable id) id may ends)
    decides (kinds.Disable id) may ends = ap (λ (l : List StoredTask). is_enabled id l) keeps.tasks ∙ enabled_is (kinds.Disable id) id may ends
    decides (kinds.Delete id) may ends = ap (λ (l : List StoredTask). has_task id l) keeps.tasks ∙ deleted_is id may ends
    decides (kinds.Batch db rp points) may ends = refl
    decides (kinds.Trans transitions) may ends = refl
    decides (kinds.Snap points trans states) may ends = ap (λ (o : Option Snapshot). is_snap_at at o) keeps_all.snap
