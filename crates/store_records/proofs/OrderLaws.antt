-- What a store holds stays in order behind one more record that may follow.
use Rattle.std.proofs.Common.{◌≡◌, ℕ, suc, ◌+◌, ◌<◌, ◌≤◌, Bool, true, false, not, ◌&&◌, cond, List, [], ◌∷◌, ◌++◌, length, Option, None, Some, refl, sym, ap, ◌∙◌, subst, arith, length-append, true≢false}
use Rattle.std.specs.Prelude.{◌||◌, IfSome}
use Rattle.std.specs.List.{AllByRecursion as Each, filter, insert, list_any, position_or_len, remove}
use Rattle.std.specs.Option.{option_map_or}
use Rattle.std.specs.Ordering.{is_eq, is_lt}
use Rattle.std.specs.Str.{bytes_eq}
use Rattle.std.specs.declared.cmp.Ordering.{Ordering}
use Rattle.std.specs.declared.cmp.Ordering.TheVariants.{Less, Equal, Greater}
use Rattle.std.proofs.lemmas.Bool.{leb-true, ltb-true}
use Rattle.std.proofs.lemmas.Cmp.{nat_list_cmp_total}
use Rattle.std.proofs.lemmas.List.{append-nil}
use Rattle.std.proofs.lemmas.List.Elements.{filter-append}
use Rattle.std.proofs.lemmas.Map.Text.{is_eq-slice_cmp}
use Rattle.std.proofs.lemmas.Slice.Eq.{bytes_eq-Decides}
use Rattle.kap_base.proofs.TestLaws.{first_false, first_of, not_true, second_false, second_of}
use Rattle.kap_base.specs.Maps.{byte_order}
use Rattle.kap_base.specs.Texts.{is_task_id}
use Rattle.kap_base.specs.declared.limits.TheConstants.{TASK_LIMIT}
use Rattle.store_records.specs.Held.{Held, MayFollow, after, begun, end_life, ended, has_task, is_called, is_enabled, is_open, is_open_of, life_from, life_of, may_define, nothing, open_from, points_in, put_task, remove_task, set_enabled, task_of, tasks_after, transitions_in}
use Rattle.store_records.specs.Histories.{Follow, FollowFrom, first_gate, held, held_from, next_gate}
use Rattle.store_records.specs.Orders.{DefinesValid, HasOpenLives, IdsRise, IsInOrder, IsSnapWithin, IsValid}
use Rattle.store_records.specs.declared.rec.Rec.{Rec}
use Rattle.store_records.specs.declared.rec.Rec.TheVariants as kinds
use Rattle.store_records.specs.declared.task.Life.{Life}
use Rattle.store_records.specs.declared.task.Snapshot.{Snapshot}
use Rattle.store_records.specs.declared.task.StoredTask.{StoredTask}

-- ---- ids

pub same_id : (a b : List ℕ) → bytes_eq a b ≡ true → a ≡ b
same_id a b e = (bytes_eq-Decides a b).0 e

is_same : (a b : List ℕ) → a ≡ b → bytes_eq a b ≡ true
is_same a b e = (bytes_eq-Decides a b).1 e

-- tests of two ids that one test tells
by_ids : (P : Type 0) (a b : List ℕ) → (bytes_eq a b ≡ true → P) → (bytes_eq a b ≡ false → P) → P
by_ids P a b if_same if_other = elim (bytes_eq a b) as (λ t. bytes_eq a b ≡ t → P) [ true ↦ if_same | false ↦ if_other ] refl

-- an id that is another one's is not a third one's
other_id : (x a b : List ℕ) → bytes_eq x a ≡ true → bytes_eq a b ≡ false → bytes_eq x b ≡ false
other_id x a b same other = subst (λ (y : List ℕ). bytes_eq y b ≡ false) (sym (same_id x a same)) other

less_is : (o : Ordering) → is_lt o ≡ true → o ≡ Less
less_is Less e = refl
less_is Equal e = absurd (true≢false (sym e))
less_is Greater e = absurd (true≢false (sym e))

-- of two ids one stands below the other
pub less_apart : (a b : List ℕ) → byte_order a b ≡ Less → bytes_eq b a ≡ false
less_apart a b less = by_ids (bytes_eq b a ≡ false) b a
    (λ same. let tied : bytes_eq a b ≡ true = is_same a b (sym (same_id b a same)) in
    absurd (true≢false (sym tied ∙ sym (is_eq-slice_cmp a b) ∙ ap is_eq less)))
    (λ other. other)

-- the other way round
greater_other : (a b : List ℕ) → is_lt (byte_order a b) ≡ false → bytes_eq b a ≡ false → byte_order b a ≡ Less
greater_other a b not_less other = elim (byte_order a b) as (λ o. byte_order a b ≡ o → is_lt o ≡ false → byte_order b a ≡ Less) [
  | Less ↦ λ e l. absurd (true≢false l)
  | Equal ↦ λ e l. let tied : bytes_eq a b ≡ true = sym (is_eq-slice_cmp a b) ∙ ap is_eq e in
      absurd (true≢false (sym (is_same b a (sym (same_id a b tied))) ∙ other))
  | Greater ↦ λ e l. rw (nat_list_cmp_total.antisymm b a, e) refl
] refl not_less

-- ---- tasks one after the other

-- the task put before the first whose id is greater
abbrev pub put_in : StoredTask → List StoredTask → List StoredTask
put_in t [] = t ∷ []
put_in t (x ∷ xs) = cond (is_lt (byte_order t.id x.id)) (t ∷ x ∷ xs) (x ∷ put_in t xs)

insert_more : (x t : StoredTask) (xs : List StoredTask) (n : ℕ) → insert (x ∷ xs) (1 + n) t ≡ x ∷ insert xs n t
insert_more x t xs n = let e : 1 + n ≡ suc n = omega arith in rw e refl

pub put_is : (t : StoredTask) (xs : List StoredTask) → put_task t xs ≡ put_in t xs
put_is t [] = refl
put_is t (x ∷ xs) = elim (is_lt (byte_order t.id x.id)) as
    (λ b. insert (x ∷ xs) (cond (not b) (1 + position_or_len (λ other. is_lt (byte_order t.id other.id)) xs) 0) t ≡ cond b (t ∷ x ∷ xs) (x ∷ put_in t xs)) [
      | true ↦ refl
      | false ↦ insert_more x t xs (position_or_len (λ other. is_lt (byte_order t.id other.id)) xs) ∙ ap (λ (l : List StoredTask). x ∷ l) (put_is t xs)
    ]

-- the tasks without the first of this id
abbrev pub take_out : List ℕ → List StoredTask → List StoredTask
take_out id [] = []
take_out id (x ∷ xs) = cond (is_called id x) xs (x ∷ take_out id xs)

remove_more : (x : StoredTask) (xs : List StoredTask) (n : ℕ) → remove (x ∷ xs) (1 + n) ≡ x ∷ remove xs n
remove_more x xs n = let e : 1 + n ≡ suc n = omega arith in rw e refl

pub out_is : (id : List ℕ) (xs : List StoredTask) → remove_task id xs ≡ take_out id xs
out_is id [] = refl
out_is id (x ∷ xs) = elim (is_called id x) as
    (λ b. remove (x ∷ xs) (cond (not b) (1 + position_or_len (is_called id) xs) 0) ≡ cond b xs (x ∷ take_out id xs)) [
      | true ↦ refl
      | false ↦ remove_more x xs (position_or_len (is_called id) xs) ∙ ap (λ (l : List StoredTask). x ∷ l) (out_is id xs)
    ]

module _ (P : StoredTask → Type 0) where
  pub each_put : (t : StoredTask) (xs : List StoredTask) → P t → Each P xs → Each P (put_in t xs)
  each_put t [] is each = (is, tt)
  each_put t (x ∷ xs) is each = elim (is_lt (byte_order t.id x.id)) as (λ b. Each P (cond b (t ∷ x ∷ xs) (x ∷ put_in t xs))) [
    | true ↦ (is, each)
    | false ↦ (each.0, each_put t xs is each.1)
  ]

  pub each_out : (id : List ℕ) (xs : List StoredTask) → Each P xs → Each P (take_out id xs)
  each_out id [] each = tt
  each_out id (x ∷ xs) each = elim (is_called id x) as (λ b. Each P (cond b xs (x ∷ take_out id xs))) [
    | true ↦ each.1
    | false ↦ (each.0, each_out id xs each.1)
  ]

  each_set : ((t : StoredTask) (e : Bool) → P t → P (record t { enabled = e })) → (id : List ℕ) (e : Bool) (xs : List StoredTask) → Each P xs → Each P (set_enabled id e xs)
  each_set stays id e [] each = tt
  each_set stays id e (x ∷ xs) each = elim (is_called id x) as (λ b. Each P (cond b (record x { enabled = e } ∷ xs) (x ∷ set_enabled id e xs))) [
    | true ↦ (stays x e each.0, each.1)
    | false ↦ (each.0, each_set stays id e xs each.1)
  ]

  each_found : (id : List ℕ) (xs : List StoredTask) → Each P xs → IfSome (task_of id xs) P
  each_found id [] each = tt
  each_found id (x ∷ xs) each = elim (is_called id x) as (λ b. IfSome (cond b (Some x) (task_of id xs)) P) [
    | true ↦ each.0
    | false ↦ each_found id xs each.1
  ]

-- ---- ids that rise

below_all : (a b : List ℕ) (xs : List StoredTask) → byte_order a b ≡ Less → Each (λ other. byte_order b other.id ≡ Less) xs → Each (λ other. byte_order a other.id ≡ Less) xs
below_all a b [] less each = tt
below_all a b (x ∷ xs) less each = (nat_list_cmp_total.trans a b x.id less each.0, below_all a b xs less each.1)

rise_put : (t : StoredTask) (xs : List StoredTask) → has_task t.id xs ≡ false → IdsRise xs → IdsRise (put_in t xs)
rise_put t [] free rise = (tt, tt)
rise_put t (x ∷ xs) free rise = elim (is_lt (byte_order t.id x.id)) as (λ b. is_lt (byte_order t.id x.id) ≡ b → IdsRise (cond b (t ∷ x ∷ xs) (x ∷ put_in t xs))) [
  | true ↦ λ e. let less : byte_order t.id x.id ≡ Less = less_is (byte_order t.id x.id) e in
      ((less, below_all t.id x.id xs less rise.0), rise)
  | false ↦ λ e. let here : byte_order x.id t.id ≡ Less = greater_other t.id x.id e (first_false (is_called t.id x) (has_task t.id xs) free) in
      (each_put (λ other. byte_order x.id other.id ≡ Less) t xs here rise.0, rise_put t xs (second_false (is_called t.id x) (has_task t.id xs) free) rise.1)
] refl

rise_out : (id : List ℕ) (xs : List StoredTask) → IdsRise xs → IdsRise (take_out id xs)
rise_out id [] rise = tt
rise_out id (x ∷ xs) rise = elim (is_called id x) as (λ b. IdsRise (cond b xs (x ∷ take_out id xs))) [
  | true ↦ rise.1
  | false ↦ (each_out (λ other. byte_order x.id other.id ≡ Less) id xs rise.0, rise_out id xs rise.1)
]

rise_set : (id : List ℕ) (e : Bool) (xs : List StoredTask) → IdsRise xs → IdsRise (set_enabled id e xs)
rise_set id e [] rise = tt
rise_set id e (x ∷ xs) rise = elim (is_called id x) as (λ b. IdsRise (cond b (record x { enabled = e } ∷ xs) (x ∷ set_enabled id e xs))) [
  | true ↦ rise
  | false ↦ (each_set (λ other. byte_order x.id other.id ≡ Less) (λ t f h. h) id e xs rise.0, rise_set id e xs rise.1)
]

-- ---- how many tasks there are

long_put : (t : StoredTask) (xs : List StoredTask) → length (put_in t xs) ≡ 1 + length xs
long_put t [] = refl
long_put t (x ∷ xs) = elim (is_lt (byte_order t.id x.id)) as (λ b. length (cond b (t ∷ x ∷ xs) (x ∷ put_in t xs)) ≡ 1 + length (x ∷ xs)) [
  | true ↦ omega arith
  | false ↦ omega (arith, long_put t xs)
]

long_out : (id : List ℕ) (xs : List StoredTask) → length (take_out id xs) ≤ length xs
long_out id [] = omega arith
long_out id (x ∷ xs) = elim (is_called id x) as (λ b. length (cond b xs (x ∷ take_out id xs)) ≤ length (x ∷ xs)) [
  | true ↦ omega arith
  | false ↦ omega (arith, long_out id xs)
]

long_set : (id : List ℕ) (e : Bool) (xs : List StoredTask) → length (set_enabled id e xs) ≡ length xs
long_set id e [] = refl
long_set id e (x ∷ xs) = elim (is_called id x) as (λ b. length (cond b (record x { enabled = e } ∷ xs) (x ∷ set_enabled id e xs)) ≡ length (x ∷ xs)) [
  | true ↦ refl
  | false ↦ omega (arith, long_set id e xs)
]

-- ---- which task has an id

none_of_id : (id : List ℕ) (xs : List StoredTask) → has_task id xs ≡ false → task_of id xs ≡ None
none_of_id id [] none = refl
none_of_id id (x ∷ xs) none =
    let here : is_called id x ≡ false = first_false (is_called id x) (has_task id xs) none in
    rw here (none_of_id id xs (second_false (is_called id x) (has_task id xs) none))

none_above : (id : List ℕ) (xs : List StoredTask) → Each (λ other. byte_order id other.id ≡ Less) xs → task_of id xs ≡ None
none_above id [] each = refl
none_above id (x ∷ xs) each =
    let here : is_called id x ≡ false = less_apart id x.id each.0 in
    rw here (none_above id xs each.1)

module _ (id : List ℕ) where
  put_other : (t : StoredTask) (xs : List StoredTask) → bytes_eq t.id id ≡ false → task_of id (put_in t xs) ≡ task_of id xs
  put_other t [] other = rw other refl
  put_other t (x ∷ xs) other = elim (is_lt (byte_order t.id x.id)) as (λ b. task_of id (cond b (t ∷ x ∷ xs) (x ∷ put_in t xs)) ≡ task_of id (x ∷ xs)) [
    | true ↦ rw other refl
    | false ↦ ap (λ (o : Option StoredTask). cond (is_called id x) (Some x) o) (put_other t xs other)
  ]

  put_same : (t : StoredTask) (xs : List StoredTask) → bytes_eq t.id id ≡ true → has_task id xs ≡ false → task_of id (put_in t xs) ≡ Some t
  put_same t [] same free = rw same refl
  put_same t (x ∷ xs) same free = elim (is_lt (byte_order t.id x.id)) as (λ b. task_of id (cond b (t ∷ x ∷ xs) (x ∷ put_in t xs)) ≡ Some t) [
    | true ↦ rw same refl
    | false ↦
        let here : is_called id x ≡ false = first_false (is_called id x) (has_task id xs) free in
        rw here (put_same t xs same (second_false (is_called id x) (has_task id xs) free))
  ]

  out_other : (gone : List ℕ) (xs : List StoredTask) → bytes_eq gone id ≡ false → task_of id (take_out gone xs) ≡ task_of id xs
  out_other gone [] other = refl
  out_other gone (x ∷ xs) other = elim (is_called gone x) as (λ b. is_called gone x ≡ b → task_of id (cond b xs (x ∷ take_out gone xs)) ≡ task_of id (x ∷ xs)) [
    | true ↦ λ e. let here : is_called id x ≡ false = other_id x.id gone id e other in rw here refl
    | false ↦ λ e. ap (λ (o : Option StoredTask). cond (is_called id x) (Some x) o) (out_other gone xs other)
  ] refl

  out_same : (xs : List StoredTask) → IdsRise xs → task_of id (take_out id xs) ≡ None
  out_same [] rise = refl
  out_same (x ∷ xs) rise = elim (is_called id x) as (λ b. is_called id x ≡ b → task_of id (cond b xs (x ∷ take_out id xs)) ≡ None) [
    | true ↦ λ e. none_above id xs (subst (λ (i : List ℕ). Each (λ other. byte_order i other.id ≡ Less) xs) (same_id x.id id e) rise.0)
    | false ↦ λ e. rw e (out_same xs rise.1)
  ] refl

  set_other : (changed : List ℕ) (e : Bool) (xs : List StoredTask) → bytes_eq changed id ≡ false → task_of id (set_enabled changed e xs) ≡ task_of id xs
  set_other changed e [] other = refl
  set_other changed e (x ∷ xs) other = elim (is_called changed x) as
      (λ b. is_called changed x ≡ b → task_of id (cond b (record x { enabled = e } ∷ xs) (x ∷ set_enabled changed e xs)) ≡ task_of id (x ∷ xs)) [
        | true ↦ λ t. let here : is_called id x ≡ false = other_id x.id changed id t other in rw here refl
        | false ↦ λ t. ap (λ (o : Option StoredTask). cond (is_called id x) (Some x) o) (set_other changed e xs other)
      ] refl

  set_same : (e : Bool) (xs : List StoredTask) → has_task id xs ≡ true → is_enabled id (set_enabled id e xs) ≡ e
  set_same e [] has = absurd (true≢false (sym has))
  set_same e (x ∷ xs) has = elim (is_called id x) as
      (λ b. is_called id x ≡ b → (b || has_task id xs) ≡ true → is_enabled id (cond b (record x { enabled = e } ∷ xs) (x ∷ set_enabled id e xs)) ≡ e) [
        | true ↦ λ t h. rw t refl
        | false ↦ λ t h. rw t (set_same e xs h)
      ] refl has

-- ---- open lives

module _ {A : Type 0} (p : A → Bool) where
  count_both : (xs ys : List A) → length (filter p (xs ++ ys)) ≡ length (filter p xs) + length (filter p ys)
  count_both xs ys = ap (λ (l : List A). length l) (filter-append p xs ys) ∙ length-append (filter p xs) (filter p ys)

  count_none : (xs : List A) → list_any p xs ≡ false → length (filter p xs) ≡ 0
  count_none [] none = refl
  count_none (x ∷ xs) none =
      let here : p x ≡ false = first_false (p x) (list_any p xs) none in
      rw here (count_none xs (second_false (p x) (list_any p xs) none))

  count_more : (x : A) (xs ys : List A) → length (filter p xs) ≡ length (filter p ys) → length (filter p (x ∷ xs)) ≡ length (filter p (x ∷ ys))
  count_more x xs ys same = elim (p x) as (λ b. length (cond b (x ∷ filter p xs) (filter p xs)) ≡ length (cond b (x ∷ filter p ys) (filter p ys))) [
    | true ↦ omega (arith, same)
    | false ↦ same
  ]

-- a life that has ended isn't open
closed : (id : List ℕ) (n : ℕ) (life : Life) → is_open_of id (record life { last = Some n }) ≡ false
closed id n life = elim (bytes_eq life.task id) as (λ b. (b && false) ≡ false) [ true ↦ refl | false ↦ refl ]

-- one of another task isn't this one's
not_other : (id : List ℕ) (life : Life) → bytes_eq life.task id ≡ false → is_open_of id life ≡ false
not_other id life other = rw other refl

-- where a task's life ends, it has one open life fewer, if it had one
end_same : (id : List ℕ) (n : ℕ) (lives : List Life)
    → length (filter (is_open_of id) (end_life id n lives)) + cond (list_any (is_open_of id) lives) 1 0 ≡ length (filter (is_open_of id) lives)
end_same id n [] = refl
end_same id n (life ∷ lives) = elim (list_any (is_open_of id) lives) as
    (λ some. length (filter (is_open_of id) (end_life id n lives)) + cond some 1 0 ≡ length (filter (is_open_of id) lives)
    → length (filter (is_open_of id) (cond some (life ∷ end_life id n lives) (cond (is_open_of id life) (record life { last = Some n }) life ∷ lives)))
    + cond (is_open_of id life || some) 1 0 ≡ length (filter (is_open_of id) (life ∷ lives))) [
      | true ↦ λ fewer. elim (is_open_of id life) as
          (λ here. length (cond here (life ∷ filter (is_open_of id) (end_life id n lives)) (filter (is_open_of id) (end_life id n lives))) + cond (here || true) 1 0
          ≡ length (cond here (life ∷ filter (is_open_of id) lives) (filter (is_open_of id) lives))) [
            | true ↦ omega (arith, fewer)
            | false ↦ fewer
          ]
      | false ↦ λ fewer. elim (is_open_of id life) as
          (λ here. is_open_of id life ≡ here → length (filter (is_open_of id) (cond here (record life { last = Some n }) life ∷ lives)) + cond (here || false) 1 0
          ≡ length (cond here (life ∷ filter (is_open_of id) lives) (filter (is_open_of id) lives))) [
            | true ↦ λ h. rw (closed id n life) (omega arith)
            | false ↦ λ h. rw h (omega arith)
          ] refl
    ] (end_same id n lives)

-- and the others have as many
end_other : (id gone : List ℕ) (n : ℕ) (lives : List Life) → bytes_eq gone id ≡ false
    → length (filter (is_open_of id) (end_life gone n lives)) ≡ length (filter (is_open_of id) lives)
end_other id gone n [] other = refl
end_other id gone n (life ∷ lives) other = elim (list_any (is_open_of gone) lives) as
    (λ some. length (filter (is_open_of id) (cond some (life ∷ end_life gone n lives) (cond (is_open_of gone life) (record life { last = Some n }) life ∷ lives)))
    ≡ length (filter (is_open_of id) (life ∷ lives))) [
      | true ↦ count_more (is_open_of id) life (end_life gone n lives) lives (end_other id gone n lives other)
      | false ↦ elim (is_open_of gone life) as
          (λ here. is_open_of gone life ≡ here → length (filter (is_open_of id) (cond here (record life { last = Some n }) life ∷ lives)) ≡ length (filter (is_open_of id) (life ∷ lives))) [
            | true ↦ λ h.
                let apart : bytes_eq life.task id ≡ false = other_id life.task gone id (first_of (bytes_eq life.task gone) (is_open life) h) other in
                rw (closed id n life, not_other id life apart) refl
            | false ↦ λ h. refl
          ] refl
    ]

-- a life that begins
begin_same : (id : List ℕ) (n : ℕ) (task : StoredTask) → bytes_eq task.id id ≡ true → length (filter (is_open_of id) (life_from n task ∷ [])) ≡ 1
begin_same id n task same = rw same refl

begin_other : (id : List ℕ) (n : ℕ) (task : StoredTask) → bytes_eq task.id id ≡ false → length (filter (is_open_of id) (life_from n task ∷ [])) ≡ 0
begin_other id n task other = rw other refl

-- what holds of each life still does where some end
module _ (P : Life → Type 0) (ends : (life : Life) (n : ℕ) → P life → P (record life { last = Some n })) where
  each_end : (id : List ℕ) (n : ℕ) (lives : List Life) → Each P lives → Each P (end_life id n lives)
  each_end id n [] each = tt
  each_end id n (life ∷ lives) each =
      elim (list_any (is_open_of id) lives) as (λ b. Each P (cond b (life ∷ end_life id n lives) (cond (is_open_of id life) (record life { last = Some n }) life ∷ lives))) [
        | true ↦ (each.0, each_end id n lives each.1)
        | false ↦ elim (is_open_of id life) as (λ b. Each P (cond b (record life { last = Some n }) life ∷ lives)) [
          | true ↦ (ends life n each.0, each.1)
          | false ↦ each
        ]
      ]

long_end : (id : List ℕ) (n : ℕ) (lives : List Life) → length (end_life id n lives) ≡ length lives
long_end id n [] = refl
long_end id n (life ∷ lives) =
    elim (list_any (is_open_of id) lives) as (λ b. length (cond b (life ∷ end_life id n lives) (cond (is_open_of id life) (record life { last = Some n }) life ∷ lives)) ≡ length (life ∷ lives)) [
      | true ↦ omega (arith, long_end id n lives)
      | false ↦ refl
    ]

each_both : {A : Type 0} (P : A → Type 0) (xs ys : List A) → Each P xs → Each P ys → Each P (xs ++ ys)
each_both P [] ys one two = two
each_both P (x ∷ xs) ys one two = (one.0, each_both P xs ys one.1 two)

-- ---- the task that is there

record Found (id : List ℕ) (tasks : List StoredTask) : Type 0 where
  task : StoredTask
  there : task_of id tasks ≡ Some task
  called : bytes_eq task.id id ≡ true

found_in : (id : List ℕ) (tasks : List StoredTask) → has_task id tasks ≡ true → Found id tasks
found_in id [] has = absurd (true≢false (sym has))
found_in id (x ∷ xs) has = elim (is_called id x) as (λ b. is_called id x ≡ b → (b || has_task id xs) ≡ true → Found id (x ∷ xs)) [
  | true ↦ λ e h. record { task = x; there = rw e refl; called = e }
  | false ↦ λ e h. let rest = found_in id xs h in record { task = rest.task; there = rw e rest.there; called = rest.called }
] refl has

abbrev one_if : Bool → ℕ
one_if b = cond b 1 0

abbrev enabled_if : Option StoredTask → Bool
enabled_if o = option_map_or (λ t. t.enabled) o false

-- ---- one open life for each enabled task, behind one more record

begun_count : (id : List ℕ) (n : ℕ) (task : StoredTask) (b : Bool) → bytes_eq task.id id ≡ true
    → length (filter (is_open_of id) (cond b (life_from n task ∷ []) [])) ≡ one_if b
begun_count id n task true same = begin_same id n task same
begun_count id n task false same = refl

begun_none : (id : List ℕ) (n : ℕ) (task : StoredTask) (b : Bool) → bytes_eq task.id id ≡ false
    → length (filter (is_open_of id) (cond b (life_from n task ∷ []) [])) ≡ 0
begun_none id n task true other = begin_other id n task other
begun_none id n task false other = refl

enabled_count : (id : List ℕ) (n : ℕ) (task : StoredTask) (b : Bool) → bytes_eq task.id id ≡ true
    → length (filter (is_open_of id) (cond b [] (life_from n task ∷ []))) + one_if b ≡ 1
enabled_count id n task true same = refl
enabled_count id n task false same = omega (arith, begin_same id n task same)

enabled_none : (id : List ℕ) (n : ℕ) (task : StoredTask) (b : Bool) → bytes_eq task.id id ≡ false
    → length (filter (is_open_of id) (cond b [] (life_from n task ∷ []))) ≡ 0
enabled_none id n task true other = refl
enabled_none id n task false other = begin_other id n task other

left_same : (id : List ℕ) (n : ℕ) (lives : List Life) (b : Bool) → length (filter (is_open_of id) lives) ≡ one_if b
    → length (filter (is_open_of id) (cond b (end_life id n lives) lives)) ≡ 0
left_same id n lives true one = elim (list_any (is_open_of id) lives) as
    (λ t. list_any (is_open_of id) lives ≡ t → length (filter (is_open_of id) (end_life id n lives)) + cond t 1 0 ≡ length (filter (is_open_of id) lives)
    → length (filter (is_open_of id) (end_life id n lives)) ≡ 0) [
      | true ↦ λ e sum. omega (arith, sum, one)
      | false ↦ λ e sum. absurd (omega (arith, one, count_none (is_open_of id) lives e))
    ] refl (end_same id n lives)
left_same id n lives false none = none

left_other : (id gone : List ℕ) (n : ℕ) (lives : List Life) (b : Bool) → bytes_eq gone id ≡ false
    → length (filter (is_open_of id) (cond b (end_life gone n lives) lives)) ≡ length (filter (is_open_of id) lives)
left_other id gone n lives true other = end_other id gone n lives other
left_other id gone n lives false other = refl

module _ (n : ℕ) (tasks : List StoredTask) (lives : List Life)
    (one : (id : List ℕ) → length (filter (is_open_of id) lives) ≡ one_if (enabled_if (task_of id tasks))) where
  open_defined : (task : StoredTask) → has_task task.id tasks ≡ false → (id : List ℕ)
      → length (filter (is_open_of id) (lives ++ cond task.enabled (life_from n task ∷ []) [])) ≡ one_if (enabled_if (task_of id (put_task task tasks)))
  open_defined task free id =
      count_both (is_open_of id) lives (cond task.enabled (life_from n task ∷ []) [])
      ∙ by_ids _ task.id id same other ∙ ap (λ (l : List StoredTask). one_if (enabled_if (task_of id l))) (sym (put_is task tasks))
    where
      same : bytes_eq task.id id ≡ true
          → length (filter (is_open_of id) lives) + length (filter (is_open_of id) (cond task.enabled (life_from n task ∷ []) [])) ≡ one_if (enabled_if (task_of id (put_in task tasks)))
      same e =
          let none : has_task id tasks ≡ false = subst (λ (i : List ℕ). has_task i tasks ≡ false) (same_id task.id id e) free in
          let before : length (filter (is_open_of id) lives) ≡ 0 = one id ∙ ap (λ (o : Option StoredTask). one_if (enabled_if o)) (none_of_id id tasks none) in
          let there : one_if (enabled_if (task_of id (put_in task tasks))) ≡ one_if task.enabled =
          ap (λ (o : Option StoredTask). one_if (enabled_if o)) (put_same id task tasks e none) in
          omega (arith, before, begun_count id n task task.enabled e, there)

      other : bytes_eq task.id id ≡ false
          → length (filter (is_open_of id) lives) + length (filter (is_open_of id) (cond task.enabled (life_from n task ∷ []) [])) ≡ one_if (enabled_if (task_of id (put_in task tasks)))
      other e =
          let there : one_if (enabled_if (task_of id (put_in task tasks))) ≡ one_if (enabled_if (task_of id tasks)) =
          ap (λ (o : Option StoredTask). one_if (enabled_if o)) (put_other id task tasks e) in
          omega (arith, one id, begun_none id n task task.enabled e, there)

  open_enabled : (id : List ℕ) → has_task id tasks ≡ true → (other : List ℕ)
      → length (filter (is_open_of other) (lives ++ life_of n (task_of id tasks))) ≡ one_if (is_enabled other (set_enabled id true tasks))
  open_enabled id has other = with_found (found_in id tasks has)
    where
      with_found : Found id tasks
          → length (filter (is_open_of other) (lives ++ life_of n (task_of id tasks))) ≡ one_if (is_enabled other (set_enabled id true tasks))
      with_found found =
          let sum = count_both (is_open_of other) lives (life_of n (task_of id tasks)) in
          let begun_is : length (filter (is_open_of other) (life_of n (task_of id tasks)))
          ≡ length (filter (is_open_of other) (cond found.task.enabled [] (life_from n found.task ∷ []))) =
          ap (λ (o : Option StoredTask). length (filter (is_open_of other) (life_of n o))) found.there in
          by_ids _ id other
          (λ e.
          let is : id ≡ other = same_id id other e in
          let called : bytes_eq found.task.id other ≡ true = subst (λ (i : List ℕ). bytes_eq found.task.id i ≡ true) is found.called in
          let there : task_of other tasks ≡ Some found.task = subst (λ (i : List ℕ). task_of i tasks ≡ Some found.task) is found.there in
          let before : length (filter (is_open_of other) lives) ≡ one_if found.task.enabled =
          one other ∙ ap (λ (o : Option StoredTask). one_if (enabled_if o)) there in
          let after_that : one_if (is_enabled other (set_enabled id true tasks)) ≡ 1 =
          ap one_if (subst (λ (i : List ℕ). is_enabled i (set_enabled id true tasks) ≡ true) is (set_same id true tasks has)) in
          omega (arith, sum, begun_is, before, enabled_count other n found.task found.task.enabled called, after_that))
          (λ e.
          let not_called : bytes_eq found.task.id other ≡ false = other_id found.task.id id other found.called e in
          let there : one_if (is_enabled other (set_enabled id true tasks)) ≡ one_if (enabled_if (task_of other tasks)) =
          ap (λ (o : Option StoredTask). one_if (enabled_if o)) (set_other other id true tasks e) in
          omega (arith, sum, begun_is, one other, enabled_none other n found.task found.task.enabled not_called, there))

  -- a task's life has ended, and the task isn't enabled any more
  open_ended : (id : List ℕ) (later : List StoredTask) → is_enabled id later ≡ false
      → ((other : List ℕ) → bytes_eq id other ≡ false → task_of other later ≡ task_of other tasks) → (other : List ℕ)
      → length (filter (is_open_of other) (cond (is_enabled id tasks) (end_life id n lives) lives ++ [])) ≡ one_if (enabled_if (task_of other later))
  open_ended id later off stay other =
      ap (λ (l : List Life). length (filter (is_open_of other) l)) (append-nil (cond (is_enabled id tasks) (end_life id n lives) lives))
      ∙ by_ids _ id other same apart
    where
      same : bytes_eq id other ≡ true → length (filter (is_open_of other) (cond (is_enabled id tasks) (end_life id n lives) lives)) ≡ one_if (enabled_if (task_of other later))
      same e = subst (λ (i : List ℕ). length (filter (is_open_of i) (cond (is_enabled id tasks) (end_life id n lives) lives)) ≡ one_if (enabled_if (task_of i later))) (same_id id other e)
          (left_same id n lives (is_enabled id tasks) (one id) ∙ sym (ap one_if off))

      apart : bytes_eq id other ≡ false → length (filter (is_open_of other) (cond (is_enabled id tasks) (end_life id n lives) lives)) ≡ one_if (enabled_if (task_of other later))
      apart e = left_other other id n lives (is_enabled id tasks) e ∙ one other
          ∙ sym (ap (λ (o : Option StoredTask). one_if (enabled_if o)) (stay other e))

-- ---- the last snapshot

open_within : (n : ℕ) (lives : List Life) → Each (λ number. (n ≤ number) × (number < n + length lives)) (open_from n lives)
open_within n [] = tt
open_within n (life ∷ lives) =
    let rest = further (open_from (n + 1) lives) (open_within (n + 1) lives) in
    elim (is_open life) as (λ b. Each (λ number. (n ≤ number) × (number < n + length (life ∷ lives))) (cond b (n ∷ open_from (n + 1) lives) (open_from (n + 1) lives))) [
      | true ↦ ((omega arith, omega arith), rest)
      | false ↦ rest
    ]
  where
    further : (numbers : List ℕ) → Each (λ number. (n + 1 ≤ number) × (number < n + 1 + length lives)) numbers
        → Each (λ number. (n ≤ number) × (number < n + length (life ∷ lives))) numbers
    further [] each = tt
    further (k ∷ ks) each = ((omega (arith, each.0.0), omega (arith, each.0.1)), further ks each.1)

within_more : (m k : ℕ) (numbers : List ℕ) → m ≤ k → Each (λ number. (0 < number) × (number ≤ m)) numbers → Each (λ number. (0 < number) × (number ≤ k)) numbers
within_more m k [] le each = tt
within_more m k (x ∷ xs) le each = ((each.0.0, omega (arith, each.0.1, le)), within_more m k xs le each.1)

from_one : (m : ℕ) (numbers : List ℕ) → Each (λ number. (1 ≤ number) × (number < 1 + m)) numbers → Each (λ number. (0 < number) × (number ≤ m)) numbers
from_one m [] each = tt
from_one m (x ∷ xs) each = ((omega (arith, each.0.0), omega (arith, each.0.1)), from_one m xs each.1)

snap_more : (h later : Held) (snap : Option Snapshot) → length h.points ≤ length later.points → length h.transitions ≤ length later.transitions
    → length h.lives ≤ length later.lives → IfSome snap (IsSnapWithin h) → IfSome snap (IsSnapWithin later)
snap_more h later None points trans lives within = tt
snap_more h later (Some s) points trans lives within = record {
  points = omega (arith, within.points, points);
  transitions = omega (arith, within.transitions, trans);
  lives = within_more (length h.lives) (length later.lives) s.lives lives within.lives;
}

long_if : (b : Bool) (id : List ℕ) (n : ℕ) (lives : List Life) → length (cond b (end_life id n lives) lives) ≡ length lives
long_if true id n lives = long_end id n lives
long_if false id n lives = refl

long_left : (n : ℕ) (r : Rec) (tasks : List StoredTask) (lives : List Life) → length (ended n r tasks lives) ≡ length lives
long_left n (kinds.Define id script enabled) tasks lives = refl
long_left n (kinds.Enable id) tasks lives = refl
long_left n (kinds.Disable id) tasks lives = long_if (is_enabled id tasks) id n lives
long_left n (kinds.Delete id) tasks lives = long_if (is_enabled id tasks) id n lives
long_left n (kinds.Batch db rp points) tasks lives = refl
long_left n (kinds.Trans transitions) tasks lives = refl
long_left n (kinds.Snap points trans states) tasks lives = refl

module _ (h : Held) (at : ℕ) (r : Rec) where
  more_points : length h.points ≤ length (after h at r).points
  more_points = omega (arith, length-append h.points (points_in r))

  more_trans : length h.transitions ≤ length (after h at r).transitions
  more_trans = omega (arith, length-append h.transitions (transitions_in r))

  more_lives : length h.lives ≤ length (after h at r).lives
  more_lives = omega (
    arith,
    length-append (ended (length h.points) r h.tasks h.lives) (begun (length h.points) at r h.tasks),
    long_left (length h.points) r h.tasks h.lives,
  )

  -- the one before stays
  snap_stays : IfSome h.snap (IsSnapWithin h) → IfSome h.snap (IsSnapWithin (after h at r))
  snap_stays within = snap_more h (after h at r) h.snap more_points more_trans more_lives within

-- ---- valid tasks and lives

abbrev valid_task : StoredTask → Type 0
valid_task task = IsValid task.id task.script

abbrev valid_life : Life → Type 0
valid_life life = IsValid life.task life.script

valid_if : (b : Bool) (id : List ℕ) (n : ℕ) (lives : List Life) → Each valid_life lives → Each valid_life (cond b (end_life id n lives) lives ++ [])
valid_if true id n lives each = each_both valid_life (end_life id n lives) [] (each_end valid_life (λ life k v. v) id n lives each) tt
valid_if false id n lives each = each_both valid_life lives [] each tt

valid_begun : (n : ℕ) (task : StoredTask) (b : Bool) → IsValid task.id task.script → Each valid_life (cond b (life_from n task ∷ []) [])
valid_begun n task true valid = (valid, tt)
valid_begun n task false valid = tt

valid_of : (n : ℕ) (o : Option StoredTask) → IfSome o valid_task → Each valid_life (life_of n o)
valid_of n None valid = tt
valid_of n (Some task) valid = elim task.enabled as (λ b. Each valid_life (cond b [] (life_from n task ∷ []))) [
  | true ↦ tt
  | false ↦ (valid, tt)
]

-- behind one more record the tasks are valid
pub valid_tasks : (at : ℕ) (r : Rec) (tasks : List StoredTask) → DefinesValid r → Each valid_task tasks → Each valid_task (tasks_after at r tasks)
valid_tasks at (kinds.Define id script enabled) tasks valid each =
    let task : StoredTask = record { id = id; script = script; enabled = enabled; define_at = at } in
    subst (Each valid_task) (sym (put_is task tasks)) (each_put valid_task task tasks valid each)
valid_tasks at (kinds.Enable id) tasks valid each = each_set valid_task (λ t e v. v) id true tasks each
valid_tasks at (kinds.Disable id) tasks valid each = each_set valid_task (λ t e v. v) id false tasks each
valid_tasks at (kinds.Delete id) tasks valid each = subst (Each valid_task) (sym (out_is id tasks)) (each_out valid_task id tasks each)
valid_tasks at (kinds.Batch db rp points) tasks valid each = each
valid_tasks at (kinds.Trans transitions) tasks valid each = each
valid_tasks at (kinds.Snap points trans states) tasks valid each = each

-- and the lives
pub valid_lives : (n at : ℕ) (r : Rec) (tasks : List StoredTask) (lives : List Life) → DefinesValid r → Each valid_task tasks → Each valid_life lives
    → Each valid_life (ended n r tasks lives ++ begun n at r tasks)
valid_lives n at (kinds.Define id script enabled) tasks lives valid are each = each_both valid_life lives _ each
    (valid_begun n (record { id = id; script = script; enabled = enabled; define_at = at }) enabled valid)
valid_lives n at (kinds.Enable id) tasks lives valid are each = each_both valid_life lives _ each (valid_of n (task_of id tasks) (each_found valid_task id tasks are))
valid_lives n at (kinds.Disable id) tasks lives valid are each = valid_if (is_enabled id tasks) id n lives each
valid_lives n at (kinds.Delete id) tasks lives valid are each = valid_if (is_enabled id tasks) id n lives each
valid_lives n at (kinds.Batch db rp points) tasks lives valid are each = each_both valid_life lives [] each tt
valid_lives n at (kinds.Trans transitions) tasks lives valid are each = each_both valid_life lives [] each tt
valid_lives n at (kinds.Snap points trans states) tasks lives valid are each = each_both valid_life lives [] each tt

same_open : (h : Held) → HasOpenLives h → (id : List ℕ) → length (filter (is_open_of id) (h.lives ++ [])) ≡ one_if (is_enabled id h.tasks)
same_open h one id = ap (λ (l : List Life). length (filter (is_open_of id) l)) (append-nil h.lives) ∙ one id

-- a task that may be defined is valid
pub defines_valid : (id script : List ℕ) (tasks : List StoredTask) → may_define id script tasks ≡ true → IsValid id script
defines_valid id script tasks may =
    let sizes = second_of (not (has_task id tasks)) _ (second_of (is_task_id id) _ may) in
    record { called = first_of (is_task_id id) _ may; short = leb-true _ _ (second_of _ _ sizes) }

-- ---- one more record

in_order_after : (h : Held) (at : ℕ) (r : Rec) → MayFollow h r → IsInOrder h → IsInOrder (after h at r)
in_order_after h at (kinds.Define id script enabled) may ok =
    let task : StoredTask = record { id = id; script = script; enabled = enabled; define_at = at } in
    let room = second_of (is_task_id id) _ may in
    let free : has_task id h.tasks ≡ false = not_true (has_task id h.tasks) (first_of (not (has_task id h.tasks)) _ room) in
    let sizes = second_of (not (has_task id h.tasks)) _ room in
    let few : length h.tasks < TASK_LIMIT = ltb-true _ _ (first_of _ _ sizes) in
    let valid : IsValid id script = defines_valid id script h.tasks may in
    record {
      rise = subst IdsRise (sym (put_is task h.tasks)) (rise_put task h.tasks free ok.rise);
      few = omega (arith, few, ap (λ (l : List StoredTask). length l) (put_is task h.tasks), long_put task h.tasks);
      tasks = valid_tasks at (kinds.Define id script enabled) h.tasks valid ok.tasks;
      lives = valid_lives (length h.points) at (kinds.Define id script enabled) h.tasks h.lives valid ok.tasks ok.lives;
      one_open = open_defined (length h.points) h.tasks h.lives ok.one_open task free;
      snap = snap_stays h at (kinds.Define id script enabled) ok.snap;
    }
in_order_after h at (kinds.Enable id) may ok = record {
  rise = rise_set id true h.tasks ok.rise;
  few = omega (arith, ok.few, long_set id true h.tasks);
  tasks = valid_tasks at (kinds.Enable id) h.tasks tt ok.tasks;
  lives = valid_lives (length h.points) at (kinds.Enable id) h.tasks h.lives tt ok.tasks ok.lives;
  one_open = open_enabled (length h.points) h.tasks h.lives ok.one_open id may;
  snap = snap_stays h at (kinds.Enable id) ok.snap;
}
in_order_after h at (kinds.Disable id) may ok = record {
  rise = rise_set id false h.tasks ok.rise;
  few = omega (arith, ok.few, long_set id false h.tasks);
  tasks = valid_tasks at (kinds.Disable id) h.tasks tt ok.tasks;
  lives = valid_lives (length h.points) at (kinds.Disable id) h.tasks h.lives tt ok.tasks ok.lives;
  one_open = open_ended (length h.points) h.tasks h.lives ok.one_open id (set_enabled id false h.tasks) (set_same id false h.tasks may)
      (λ other apart. set_other other id false h.tasks apart);
  snap = snap_stays h at (kinds.Disable id) ok.snap;
}
in_order_after h at (kinds.Delete id) may ok = record {
  rise = subst IdsRise (sym (out_is id h.tasks)) (rise_out id h.tasks ok.rise);
  few = omega (arith, ok.few, ap (λ (l : List StoredTask). length l) (out_is id h.tasks), long_out id h.tasks);
  tasks = valid_tasks at (kinds.Delete id) h.tasks tt ok.tasks;
  lives = valid_lives (length h.points) at (kinds.Delete id) h.tasks h.lives tt ok.tasks ok.lives;
  one_open = open_ended (length h.points) h.tasks h.lives ok.one_open id (remove_task id h.tasks)
      (ap (λ (l : List StoredTask). is_enabled id l) (out_is id h.tasks) ∙ ap enabled_if (out_same id h.tasks ok.rise))
      (λ other apart. ap (λ (l : List StoredTask). task_of other l) (out_is id h.tasks) ∙ out_other other id h.tasks apart);
  snap = snap_stays h at (kinds.Delete id) ok.snap;
}
in_order_after h at (kinds.Batch db rp points) may ok = record {
  rise = ok.rise;
  few = ok.few;
  tasks = ok.tasks;
  lives = valid_lives (length h.points) at (kinds.Batch db rp points) h.tasks h.lives tt ok.tasks ok.lives;
  one_open = same_open h ok.one_open;
  snap = snap_stays h at (kinds.Batch db rp points) ok.snap;
}
in_order_after h at (kinds.Trans transitions) may ok = record {
  rise = ok.rise;
  few = ok.few;
  tasks = ok.tasks;
  lives = valid_lives (length h.points) at (kinds.Trans transitions) h.tasks h.lives tt ok.tasks ok.lives;
  one_open = same_open h ok.one_open;
  snap = snap_stays h at (kinds.Trans transitions) ok.snap;
}
in_order_after h at (kinds.Snap points trans states) may ok = record {
  rise = ok.rise;
  few = ok.few;
  tasks = ok.tasks;
  lives = valid_lives (length h.points) at (kinds.Snap points trans states) h.tasks h.lives tt ok.tasks ok.lives;
  one_open = same_open h ok.one_open;
  snap = record {
    points = omega (arith, may.points_are, more_points h at (kinds.Snap points trans states));
    transitions = omega (arith, may.trans_are, more_trans h at (kinds.Snap points trans states));
    lives = within_more (length h.lives) (length (after h at (kinds.Snap points trans states)).lives) (open_from 1 h.lives)
        (more_lives h at (kinds.Snap points trans states)) (from_one (length h.lives) (open_from 1 h.lives) (open_within 1 h.lives));
  };
}

in_order_from : (h : Held) (at : ℕ) (rs : List Rec) → FollowFrom h at rs → IsInOrder h → IsInOrder (held_from h at rs)
in_order_from h at [] follow ok = ok
in_order_from h at (r ∷ rs) follow ok = in_order_from (after h at r) (next_gate at r) rs follow.2 (in_order_after h at r follow.1 ok)

-- behind the records of a store
pub in_order : (rs : List Rec) → Follow rs → IsInOrder (held rs)
in_order rs follow = in_order_from nothing first_gate rs follow
    (record { rise = tt; few = omega arith; tasks = tt; lives = tt; one_open = λ id. refl; snap = tt })
