-- Lists of tasks some of which are left out.
use Rattle.std.proofs.Common.{◌≡◌, ℕ, ◌≤◌, Bool, true, false, cond, List, [], ◌∷◌, length, map, None, Some, refl, sym, ap, ◌∙◌, subst, arith, true≢false}
use Rattle.std.specs.Prelude.{◌||◌, option_map}
use Rattle.std.specs.List.{AllByRecursion as Each, filter}
use Rattle.std.specs.Ordering.{is_lt}
use Rattle.std.specs.Str.{bytes_eq}
use Rattle.std.specs.declared.cmp.Ordering.{Ordering}
use Rattle.std.specs.declared.cmp.Ordering.TheVariants.{Less, Equal, Greater}
use Rattle.std.proofs.lemmas.Cmp.{nat_list_cmp_total}
use Rattle.kap_base.proofs.TestLaws.{first_false, second_false}
use Rattle.kap_base.specs.Maps.{byte_order}
use Rattle.store_records.specs.Held.{has_task, is_called, put_task, remove_task, set_enabled, task_of}
use Rattle.store_records.specs.Orders.{IdsRise}
use Rattle.store_records.specs.declared.task.StoredTask.{StoredTask}
use Rattle.store_records.proofs.OrderLaws.{each_out, each_put, less_apart, out_is, put_in, put_is, same_id, take_out}
use Rattle.store_compact.specs.Same.{unplaced}

-- ---- the task of an id

-- the task that is there
pub record Found (id : List ℕ) (tasks : List StoredTask) : Type 0 where
  pub task : StoredTask
  pub there : task_of id tasks ≡ Some task
  pub called : bytes_eq task.id id ≡ true

pub found_in : (id : List ℕ) (tasks : List StoredTask) → has_task id tasks ≡ true → Found id tasks
found_in id [] has = absurd (true≢false (sym has))
found_in id (x ∷ xs) has = elim (is_called id x) as (λ b. is_called id x ≡ b → (b || has_task id xs) ≡ true → Found id (x ∷ xs)) [
  | true ↦ λ e h. record { task = x; there = rw e refl; called = e }
  | false ↦ λ e h. let rest = found_in id xs h in record { task = rest.task; there = rw e rest.there; called = rest.called }
] refl has

-- a task that is found is there
pub there_has : (id : List ℕ) (xs : List StoredTask) (t : StoredTask) → task_of id xs ≡ Some t → has_task id xs ≡ true
there_has id [] t e = absurd cc
there_has id (x ∷ xs) t e = elim (is_called id x) as (λ b. cond b (Some x) (task_of id xs) ≡ Some t → (b || has_task id xs) ≡ true) [
  | true ↦ λ e. refl
  | false ↦ λ e. there_has id xs t e
] e

pub none_of_id : (id : List ℕ) (xs : List StoredTask) → has_task id xs ≡ false → task_of id xs ≡ None
none_of_id id [] none = refl
none_of_id id (x ∷ xs) none =
    let here : is_called id x ≡ false = first_false (is_called id x) (has_task id xs) none in
    rw here (none_of_id id xs (second_false (is_called id x) (has_task id xs) none))

module _ (P : StoredTask → Type 0) where
  pub each_found : (id : List ℕ) (xs : List StoredTask) (t : StoredTask) → task_of id xs ≡ Some t → Each P xs → P t
  each_found id [] t e each = absurd cc
  each_found id (x ∷ xs) t e each = elim (is_called id x) as (λ b. cond b (Some x) (task_of id xs) ≡ Some t → P t) [
    | true ↦ λ e. let same : x ≡ t = cc in subst (λ (u : StoredTask). P u) same each.0
    | false ↦ λ e. each_found id xs t e each.1
  ] e

  pub each_putting : (t : StoredTask) (xs : List StoredTask) → P t → Each P xs → Each P (put_task t xs)
  each_putting t xs is each = subst (Each P) (sym (put_is t xs)) (each_put P t xs is each)

  pub each_removing : (id : List ℕ) (xs : List StoredTask) → Each P xs → Each P (remove_task id xs)
  each_removing id xs each = subst (Each P) (sym (out_is id xs)) (each_out P id xs each)

  -- where the task of the id is enabled or isn't
  pub each_setting : (id : List ℕ) (e : Bool) (xs : List StoredTask) → ((t : StoredTask) → task_of id xs ≡ Some t → P (record t { enabled = e })) → Each P xs → Each P (set_enabled id e xs)
  each_setting id e [] is each = tt
  each_setting id e (x ∷ xs) is each = elim (is_called id x) as
      (λ b. ((t : StoredTask) → cond b (Some x) (task_of id xs) ≡ Some t → P (record t { enabled = e })) → Each P (cond b (record x { enabled = e } ∷ xs) (x ∷ set_enabled id e xs))) [
        | true ↦ λ is. (is x refl, each.1)
        | false ↦ λ is. (each.0, each_setting id e xs is each.1)
      ] is

-- where it is so already, nothing changes
pub set_same : (id : List ℕ) (e : Bool) (xs : List StoredTask) (t : StoredTask) → task_of id xs ≡ Some t → t.enabled ≡ e → set_enabled id e xs ≡ xs
set_same id e [] t there is = refl
set_same id e (x ∷ xs) t there is = elim (is_called id x) as
    (λ b. cond b (Some x) (task_of id xs) ≡ Some t → cond b (record x { enabled = e } ∷ xs) (x ∷ set_enabled id e xs) ≡ x ∷ xs) [
      | true ↦ λ there.
          let same : x ≡ t = cc in
          let on : x.enabled ≡ e = ap (λ (u : StoredTask). u.enabled) same ∙ is in
          ap (λ (b : Bool). record x { enabled = b } ∷ xs) (sym on)
      | false ↦ λ there. ap (λ (l : List StoredTask). x ∷ l) (set_same id e xs t there is)
    ] there

-- ---- places put aside

pub unplaced_of : (id : List ℕ) (xs : List StoredTask) → task_of id (map unplaced xs) ≡ option_map unplaced (task_of id xs)
unplaced_of id [] = refl
unplaced_of id (x ∷ xs) = elim (is_called id x) as (λ b. cond b (Some (unplaced x)) (task_of id (map unplaced xs)) ≡ option_map unplaced (cond b (Some x) (task_of id xs))) [
  | true ↦ refl
  | false ↦ unplaced_of id xs
]

pub unplaced_has : (id : List ℕ) (xs : List StoredTask) → has_task id (map unplaced xs) ≡ has_task id xs
unplaced_has id [] = refl
unplaced_has id (x ∷ xs) = ap (λ (b : Bool). is_called id x || b) (unplaced_has id xs)

pub unplaced_set : (id : List ℕ) (e : Bool) (xs : List StoredTask) → map unplaced (set_enabled id e xs) ≡ set_enabled id e (map unplaced xs)
unplaced_set id e [] = refl
unplaced_set id e (x ∷ xs) = elim (is_called id x) as
    (λ b. map unplaced (cond b (record x { enabled = e } ∷ xs) (x ∷ set_enabled id e xs)) ≡ cond b (record (unplaced x) { enabled = e } ∷ map unplaced xs) (unplaced x ∷ set_enabled id e (map unplaced xs))) [
      | true ↦ refl
      | false ↦ ap (λ (l : List StoredTask). unplaced x ∷ l) (unplaced_set id e xs)
    ]

out_unplaced : (id : List ℕ) (xs : List StoredTask) → map unplaced (take_out id xs) ≡ take_out id (map unplaced xs)
out_unplaced id [] = refl
out_unplaced id (x ∷ xs) = elim (is_called id x) as
    (λ b. map unplaced (cond b xs (x ∷ take_out id xs)) ≡ cond b (map unplaced xs) (unplaced x ∷ take_out id (map unplaced xs))) [
      | true ↦ refl
      | false ↦ ap (λ (l : List StoredTask). unplaced x ∷ l) (out_unplaced id xs)
    ]

pub unplaced_remove : (id : List ℕ) (xs : List StoredTask) → map unplaced (remove_task id xs) ≡ remove_task id (map unplaced xs)
unplaced_remove id xs = ap (λ (l : List StoredTask). map unplaced l) (out_is id xs) ∙ out_unplaced id xs ∙ sym (out_is id (map unplaced xs))

put_unplaced : (t : StoredTask) (xs : List StoredTask) → map unplaced (put_in t xs) ≡ put_in (unplaced t) (map unplaced xs)
put_unplaced t [] = refl
put_unplaced t (x ∷ xs) = elim (is_lt (byte_order t.id x.id)) as
    (λ b. map unplaced (cond b (t ∷ x ∷ xs) (x ∷ put_in t xs)) ≡ cond b (unplaced t ∷ unplaced x ∷ map unplaced xs) (unplaced x ∷ put_in (unplaced t) (map unplaced xs))) [
      | true ↦ refl
      | false ↦ ap (λ (l : List StoredTask). unplaced x ∷ l) (put_unplaced t xs)
    ]

pub unplaced_put : (t : StoredTask) (xs : List StoredTask) → map unplaced (put_task t xs) ≡ put_task (unplaced t) (map unplaced xs)
unplaced_put t xs = ap (λ (l : List StoredTask). map unplaced l) (put_is t xs) ∙ put_unplaced t xs ∙ sym (put_is (unplaced t) (map unplaced xs))

-- ---- some left out

module _ (p : StoredTask → Bool) where
  pub filter_few : (xs : List StoredTask) → length (filter p xs) ≤ length xs
  filter_few [] = omega arith
  filter_few (x ∷ xs) = elim (p x) as (λ b. length (cond b (x ∷ filter p xs) (filter p xs)) ≤ length (x ∷ xs)) [
    | true ↦ omega (arith, filter_few xs)
    | false ↦ omega (arith, filter_few xs)
  ]

  pub filter_free : (id : List ℕ) (xs : List StoredTask) → has_task id xs ≡ false → has_task id (filter p xs) ≡ false
  filter_free id [] free = refl
  filter_free id (x ∷ xs) free =
      let here : is_called id x ≡ false = first_false (is_called id x) (has_task id xs) free in
      let rest = filter_free id xs (second_false (is_called id x) (has_task id xs) free) in
      elim (p x) as (λ b. has_task id (cond b (x ∷ filter p xs) (filter p xs)) ≡ false) [ true ↦ rw here rest | false ↦ rest ]

  none_above : (id : List ℕ) (xs : List StoredTask) → Each (λ other. byte_order id other.id ≡ Less) xs → has_task id (filter p xs) ≡ false
  none_above id [] each = refl
  none_above id (x ∷ xs) each =
      let here : is_called id x ≡ false = less_apart id x.id each.0 in
      let rest = none_above id xs each.1 in
      elim (p x) as (λ b. has_task id (cond b (x ∷ filter p xs) (filter p xs)) ≡ false) [ true ↦ rw here rest | false ↦ rest ]

  -- where the task of the id is left out, none of that id is there
  pub filter_none : (id : List ℕ) (xs : List StoredTask) (t : StoredTask) → IdsRise xs → task_of id xs ≡ Some t → p t ≡ false → has_task id (filter p xs) ≡ false
  filter_none id [] t rise there out = absurd cc
  filter_none id (x ∷ xs) t rise there out = elim (is_called id x) as
      (λ b. is_called id x ≡ b → cond b (Some x) (task_of id xs) ≡ Some t → has_task id (cond (p x) (x ∷ filter p xs) (filter p xs)) ≡ false) [
        | true ↦ λ e there.
            let same : x ≡ t = cc in
            let here : p x ≡ false = ap p same ∙ out in
            rw here (none_above id xs (subst (λ (i : List ℕ). Each (λ other. byte_order i other.id ≡ Less) xs) (same_id x.id id e) rise.0))
        | false ↦ λ e there.
            let rest = filter_none id xs t rise.1 there out in
            elim (p x) as (λ b. has_task id (cond b (x ∷ filter p xs) (filter p xs)) ≡ false) [ true ↦ rw e rest | false ↦ rest ]
      ] refl there

  -- where it isn't left out, it is the task of the id
  pub filter_of : (id : List ℕ) (xs : List StoredTask) (t : StoredTask) → task_of id xs ≡ Some t → p t ≡ true → task_of id (filter p xs) ≡ Some t
  filter_of id [] t there stays = absurd cc
  filter_of id (x ∷ xs) t there stays = elim (is_called id x) as
      (λ b. is_called id x ≡ b → cond b (Some x) (task_of id xs) ≡ Some t → task_of id (cond (p x) (x ∷ filter p xs) (filter p xs)) ≡ Some t) [
        | true ↦ λ e there.
            let same : x ≡ t = cc in
            let here : p x ≡ true = ap p same ∙ stays in
            rw (here, e) there
        | false ↦ λ e there.
            let rest = filter_of id xs t there stays in
            elim (p x) as (λ b. task_of id (cond b (x ∷ filter p xs) (filter p xs)) ≡ Some t) [ true ↦ rw e rest | false ↦ rest ]
      ] refl there

  pub filter_set : (id : List ℕ) (e : Bool) (xs : List StoredTask) (t : StoredTask) → task_of id xs ≡ Some t → p t ≡ true → p (record t { enabled = e }) ≡ true
      → set_enabled id e (filter p xs) ≡ filter p (set_enabled id e xs)
  filter_set id e [] t there stays still = absurd cc
  filter_set id e (x ∷ xs) t there stays still = elim (is_called id x) as
      (λ b. is_called id x ≡ b → cond b (Some x) (task_of id xs) ≡ Some t
      → set_enabled id e (cond (p x) (x ∷ filter p xs) (filter p xs)) ≡ filter p (cond b (record x { enabled = e } ∷ xs) (x ∷ set_enabled id e xs))) [
        | true ↦ λ c there.
            let same : x ≡ t = cc in
            let here : p x ≡ true = ap p same ∙ stays in
            let then : p (record x { enabled = e }) ≡ true = ap (λ (u : StoredTask). p (record u { enabled = e })) same ∙ still in
            rw (here, then, c) refl
        | false ↦ λ c there.
            let rest = filter_set id e xs t there stays still in
            elim (p x) as (λ b. set_enabled id e (cond b (x ∷ filter p xs) (filter p xs)) ≡ cond b (x ∷ filter p (set_enabled id e xs)) (filter p (set_enabled id e xs))) [
              | true ↦ rw c (ap (λ (l : List StoredTask). x ∷ l) rest)
              | false ↦ rest
            ]
      ] refl there

  out_filter : (id : List ℕ) (xs : List StoredTask) (t : StoredTask) → task_of id xs ≡ Some t → p t ≡ true → take_out id (filter p xs) ≡ filter p (take_out id xs)
  out_filter id [] t there stays = absurd cc
  out_filter id (x ∷ xs) t there stays = elim (is_called id x) as
      (λ b. is_called id x ≡ b → cond b (Some x) (task_of id xs) ≡ Some t → take_out id (cond (p x) (x ∷ filter p xs) (filter p xs)) ≡ filter p (cond b xs (x ∷ take_out id xs))) [
        | true ↦ λ c there.
            let same : x ≡ t = cc in
            let here : p x ≡ true = ap p same ∙ stays in
            rw (here, c) refl
        | false ↦ λ c there.
            let rest = out_filter id xs t there stays in
            elim (p x) as (λ b. take_out id (cond b (x ∷ filter p xs) (filter p xs)) ≡ cond b (x ∷ filter p (take_out id xs)) (filter p (take_out id xs))) [
              | true ↦ rw c (ap (λ (l : List StoredTask). x ∷ l) rest)
              | false ↦ rest
            ]
      ] refl there

  pub filter_remove : (id : List ℕ) (xs : List StoredTask) (t : StoredTask) → task_of id xs ≡ Some t → p t ≡ true → remove_task id (filter p xs) ≡ filter p (remove_task id xs)
  filter_remove id xs t there stays = out_is id (filter p xs) ∙ out_filter id xs t there stays ∙ ap (λ (l : List StoredTask). filter p l) (sym (out_is id xs))

  out_lost : (id : List ℕ) (xs : List StoredTask) (t : StoredTask) → task_of id xs ≡ Some t → p t ≡ false → filter p xs ≡ filter p (take_out id xs)
  out_lost id [] t there out = refl
  out_lost id (x ∷ xs) t there out = elim (is_called id x) as
      (λ b. cond b (Some x) (task_of id xs) ≡ Some t → cond (p x) (x ∷ filter p xs) (filter p xs) ≡ filter p (cond b xs (x ∷ take_out id xs))) [
        | true ↦ λ there.
            let same : x ≡ t = cc in
            let here : p x ≡ false = ap p same ∙ out in
            rw here refl
        | false ↦ λ there. ap (λ (l : List StoredTask). cond (p x) (x ∷ l) l) (out_lost id xs t there out)
      ] there

  -- a task that was left out is deleted
  pub remove_lost : (id : List ℕ) (xs : List StoredTask) (t : StoredTask) → task_of id xs ≡ Some t → p t ≡ false → filter p xs ≡ filter p (remove_task id xs)
  remove_lost id xs t there out = out_lost id xs t there out ∙ ap (λ (l : List StoredTask). filter p l) (sym (out_is id xs))

  put_front : (t : StoredTask) (xs : List StoredTask) → Each (λ other. byte_order t.id other.id ≡ Less) xs → put_in t (filter p xs) ≡ t ∷ filter p xs
  put_front t [] each = refl
  put_front t (x ∷ xs) each = elim (p x) as (λ b. put_in t (cond b (x ∷ filter p xs) (filter p xs)) ≡ t ∷ cond b (x ∷ filter p xs) (filter p xs)) [
    | true ↦ rw each.0 refl
    | false ↦ put_front t xs each.1
  ]

  below_all : (a b : List ℕ) (xs : List StoredTask) → byte_order a b ≡ Less → Each (λ other. byte_order b other.id ≡ Less) xs → Each (λ other. byte_order a other.id ≡ Less) xs
  below_all a b [] less each = tt
  below_all a b (x ∷ xs) less each = (nat_list_cmp_total.trans a b x.id less each.0, below_all a b xs less each.1)

  less_is : (o : Ordering) → is_lt o ≡ true → o ≡ Less
  less_is Less e = refl
  less_is Equal e = absurd (true≢false (sym e))
  less_is Greater e = absurd (true≢false (sym e))

  put_filter : (t : StoredTask) (xs : List StoredTask) → IdsRise xs → p t ≡ true → put_in t (filter p xs) ≡ filter p (put_in t xs)
  put_filter t [] rise stays = rw stays refl
  put_filter t (x ∷ xs) rise stays = elim (is_lt (byte_order t.id x.id)) as
      (λ b. is_lt (byte_order t.id x.id) ≡ b → put_in t (cond (p x) (x ∷ filter p xs) (filter p xs)) ≡ filter p (cond b (t ∷ x ∷ xs) (x ∷ put_in t xs))) [
        | true ↦ λ e. rw stays (elim (p x) as (λ b. put_in t (cond b (x ∷ filter p xs) (filter p xs)) ≡ t ∷ cond b (x ∷ filter p xs) (filter p xs)) [
          | true ↦ rw e refl
          | false ↦ put_front t xs (below_all t.id x.id xs (less_is (byte_order t.id x.id) e) rise.0)
        ])
        | false ↦ λ e.
            let rest = put_filter t xs rise.1 stays in
            elim (p x) as (λ b. put_in t (cond b (x ∷ filter p xs) (filter p xs)) ≡ cond b (x ∷ filter p (put_in t xs)) (filter p (put_in t xs))) [
              | true ↦ rw e (ap (λ (l : List StoredTask). x ∷ l) rest)
              | false ↦ rest
            ]
      ] refl

  pub filter_put : (t : StoredTask) (xs : List StoredTask) → IdsRise xs → p t ≡ true → put_task t (filter p xs) ≡ filter p (put_task t xs)
  filter_put t xs rise stays = put_is t (filter p xs) ∙ put_filter t xs rise stays ∙ ap (λ (l : List StoredTask). filter p l) (sym (put_is t xs))

  lost_put : (t : StoredTask) (xs : List StoredTask) → p t ≡ false → filter p xs ≡ filter p (put_in t xs)
  lost_put t [] out = rw out refl
  lost_put t (x ∷ xs) out = elim (is_lt (byte_order t.id x.id)) as (λ b. cond (p x) (x ∷ filter p xs) (filter p xs) ≡ filter p (cond b (t ∷ x ∷ xs) (x ∷ put_in t xs))) [
    | true ↦ rw out refl
    | false ↦ ap (λ (l : List StoredTask). cond (p x) (x ∷ l) l) (lost_put t xs out)
  ]

  -- a task that is left out is defined
  pub put_lost : (t : StoredTask) (xs : List StoredTask) → p t ≡ false → filter p xs ≡ filter p (put_task t xs)
  put_lost t xs out = lost_put t xs out ∙ ap (λ (l : List StoredTask). filter p l) (sym (put_is t xs))

-- ---- after a task was deleted

others_above : (id : List ℕ) (xs : List StoredTask) → Each (λ other. byte_order id other.id ≡ Less) xs → Each (λ other. is_called id other ≡ false) xs
others_above id [] each = tt
others_above id (x ∷ xs) each = (less_apart id x.id each.0, others_above id xs each.1)

out_none : (id : List ℕ) (xs : List StoredTask) → IdsRise xs → Each (λ other. is_called id other ≡ false) (take_out id xs)
out_none id [] rise = tt
out_none id (x ∷ xs) rise = elim (is_called id x) as (λ b. is_called id x ≡ b → Each (λ other. is_called id other ≡ false) (cond b xs (x ∷ take_out id xs))) [
  | true ↦ λ e. others_above id xs (subst (λ (i : List ℕ). Each (λ other. byte_order i other.id ≡ Less) xs) (same_id x.id id e) rise.0)
  | false ↦ λ e. (e, out_none id xs rise.1)
] refl

-- none of its id is there
pub none_left : (id : List ℕ) (xs : List StoredTask) → IdsRise xs → Each (λ other. is_called id other ≡ false) (remove_task id xs)
none_left id xs rise = subst (Each (λ other. is_called id other ≡ false)) (sym (out_is id xs)) (out_none id xs rise)
