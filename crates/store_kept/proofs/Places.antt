-- Places in lists of tasks and lives.
use Rattle.std.proofs.Common.{◌≡◌, ℕ, suc, ◌+◌, ◌<◌, ◌≤◌, Bool, true, false, not, cond, ltb, List, [], ◌∷◌, ◌++◌, Option, Some, None, length, get_or, refl, sym, ap, ◌∙◌, arith}
use Rattle.std.specs.Prelude.{◌||◌, position, slice_set}
use Rattle.std.specs.List.{list_any, position_or_len}
use Rattle.std.proofs.lemmas.Bool.{ltb-false, ltb-true}
use Rattle.std.proofs.lemmas.List.{set_at}
use Rattle.kap_base.proofs.TestLaws.{first_false, second_false}
use Rattle.store_records.specs.Held.{end_life, is_called, is_open_of, set_enabled, task_of}
use Rattle.store_records.specs.declared.task.Life.{Life}
use Rattle.store_records.specs.declared.task.StoredTask.{StoredTask}
use Rattle.store_kept.specs.Lives.{StandsLast}

module _ {A : Type 0} (p : A → Bool) where
  pub place_le : (xs : List A) → position_or_len p xs ≤ length xs
  place_le [] = omega arith
  place_le (x ∷ xs) = elim (p x) as (λ b. cond (not b) (1 + position_or_len p xs) 0 ≤ length (x ∷ xs)) [ true ↦ omega arith | false ↦ omega (arith, place_le xs) ]

  -- where none was found, it is the length
  pub no_place : (xs : List A) → None ≡ position p xs → position_or_len p xs ≡ length xs
  no_place xs e =
      elim (ltb (position_or_len p xs) (length xs)) as (λ t. ltb (position_or_len p xs) (length xs) ≡ t → ◌≡◌ {A = Option ℕ} None (cond t (Some (position_or_len p xs)) None) → position_or_len p xs ≡ length xs) [
        | true ↦ λ _ e. absurd cc
        | false ↦ λ t _. let le : length xs ≤ position_or_len p xs = ltb-false _ _ t in omega (arith, place_le xs)
      ] refl e

  -- where one was found, it is its place
  pub a_place : (xs : List A) (i : ℕ) → Some i ≡ position p xs → (i ≡ position_or_len p xs) × (i < length xs)
  a_place xs i e =
      elim (ltb (position_or_len p xs) (length xs)) as (λ t. ltb (position_or_len p xs) (length xs) ≡ t → ◌≡◌ {A = Option ℕ} (Some i) (cond t (Some (position_or_len p xs)) None) → (i ≡ position_or_len p xs) × (i < length xs)) [
        | true ↦ λ t e. let same : i ≡ position_or_len p xs = cc in (same, omega (arith, same, ltb-true _ _ t))
        | false ↦ λ _ e. absurd cc
      ] refl e

-- ---- tasks

-- a write at the task's place
pub enabled_there : (id : List ℕ) (enabled : Bool) (tasks : List StoredTask) (at : ℕ) (d : StoredTask) → at ≡ position_or_len (is_called id) tasks → at < length tasks
    → slice_set tasks at (record (get_or tasks at d) { enabled = enabled }) ≡ set_enabled id enabled tasks
enabled_there id enabled [] at d is lt = absurd (omega arith)
enabled_there id enabled (task ∷ tasks) at d is lt = by_test (λ n e lt. enabled_there id enabled tasks n d e lt) (is_called id task) refl
  where
    by_test : ((n : ℕ) → n ≡ position_or_len (is_called id) tasks → n < length tasks → slice_set tasks n (record (get_or tasks n d) { enabled = enabled }) ≡ set_enabled id enabled tasks)
        → (b : Bool) → is_called id task ≡ b → slice_set (task ∷ tasks) at (record (get_or (task ∷ tasks) at d) { enabled = enabled }) ≡ set_enabled id enabled (task ∷ tasks)
    by_test more true e =
        let zero_is : at ≡ 0 = rw e at is in
        rw (zero_is, e) refl
    by_test more false e =
        let next_is : at ≡ 1 + position_or_len (is_called id) tasks = rw e at is in
        let suc_is : at ≡ suc (position_or_len (is_called id) tasks) = omega (arith, next_is) in
        rw (suc_is, e) (ap (λ (l : List StoredTask). task ∷ l) (more (position_or_len (is_called id) tasks) refl (omega (arith, next_is, lt))))

-- no task is changed where none has the id
pub enabled_nowhere : (id : List ℕ) (enabled : Bool) (tasks : List StoredTask) → position_or_len (is_called id) tasks ≡ length tasks → tasks ≡ set_enabled id enabled tasks
enabled_nowhere id enabled [] is = refl
enabled_nowhere id enabled (task ∷ tasks) is = by_test (λ e. enabled_nowhere id enabled tasks e) (is_called id task) refl
  where
    by_test : (position_or_len (is_called id) tasks ≡ length tasks → tasks ≡ set_enabled id enabled tasks) → (b : Bool) → is_called id task ≡ b → task ∷ tasks ≡ set_enabled id enabled (task ∷ tasks)
    by_test more true e = let none : 0 ≡ length (task ∷ tasks) = rw e at is in absurd (omega (arith, none))
    by_test more false e =
        let rest : 1 + position_or_len (is_called id) tasks ≡ length (task ∷ tasks) = rw e at is in
        rw e (ap (λ (l : List StoredTask). task ∷ l) (more (omega (arith, rest))))

-- the task at the place is the one of the id
pub task_there : (id : List ℕ) (tasks : List StoredTask) (at : ℕ) (d : StoredTask) → at ≡ position_or_len (is_called id) tasks → at < length tasks → task_of id tasks ≡ Some (get_or tasks at d)
task_there id [] at d is lt = absurd (omega arith)
task_there id (task ∷ tasks) at d is lt = by_test (λ n e lt. task_there id tasks n d e lt) (is_called id task) refl
  where
    by_test : ((n : ℕ) → n ≡ position_or_len (is_called id) tasks → n < length tasks → task_of id tasks ≡ Some (get_or tasks n d)) → (b : Bool) → is_called id task ≡ b → task_of id (task ∷ tasks) ≡ Some (get_or (task ∷ tasks) at d)
    by_test more true e =
        let zero_is : at ≡ 0 = rw e at is in
        rw (zero_is, e) refl
    by_test more false e =
        let next_is : at ≡ 1 + position_or_len (is_called id) tasks = rw e at is in
        let suc_is : at ≡ suc (position_or_len (is_called id) tasks) = omega (arith, next_is) in
        rw (suc_is, e) (more (position_or_len (is_called id) tasks) refl (omega (arith, next_is, lt)))

pub task_nowhere : (id : List ℕ) (tasks : List StoredTask) → position_or_len (is_called id) tasks ≡ length tasks → task_of id tasks ≡ None
task_nowhere id [] is = refl
task_nowhere id (task ∷ tasks) is = by_test (λ e. task_nowhere id tasks e) (is_called id task) refl
  where
    by_test : (position_or_len (is_called id) tasks ≡ length tasks → task_of id tasks ≡ None) → (b : Bool) → is_called id task ≡ b → task_of id (task ∷ tasks) ≡ None
    by_test more true e = let none : 0 ≡ length (task ∷ tasks) = rw e at is in absurd (omega (arith, none))
    by_test more false e =
        let rest : 1 + position_or_len (is_called id) tasks ≡ length (task ∷ tasks) = rw e at is in
        rw e (more (omega (arith, rest)))

-- ---- lives

seam : (before : List Life) (life : Life) (behind : List Life) (d : Life) → get_or (before ++ life ∷ behind) (length before) d ≡ life
seam [] life behind d = refl
seam (b ∷ before) life behind d = seam before life behind d

any_there : (id : List ℕ) (before : List Life) (life : Life) (behind : List Life) → is_open_of id life ≡ true → list_any (is_open_of id) (before ++ life ∷ behind) ≡ true
any_there id [] life behind e = rw e refl
any_there id (b ∷ before) life behind e = by_test (is_open_of id b) (any_there id before life behind e)
  where
    by_test : (x : Bool) → list_any (is_open_of id) (before ++ life ∷ behind) ≡ true → (x || list_any (is_open_of id) (before ++ life ∷ behind)) ≡ true
    by_test true r = refl
    by_test false r = r

-- the last open life ends
pub ended_there : (id : List ℕ) (n : ℕ) (before : List Life) (life : Life) (behind : List Life) → is_open_of id life ≡ true → list_any (is_open_of id) behind ≡ false
    → end_life id n (before ++ life ∷ behind) ≡ before ++ record life { last = Some n } ∷ behind
ended_there id n [] life behind e none = rw (none, e) refl
ended_there id n (b ∷ before) life behind e none =
    rw (any_there id before life behind e) (ap (λ (l : List Life). b ∷ l) (ended_there id n before life behind e none))

pub ended_nowhere : (id : List ℕ) (n : ℕ) (lives : List Life) → list_any (is_open_of id) lives ≡ false → end_life id n lives ≡ lives
ended_nowhere id n [] none = refl
ended_nowhere id n (life ∷ lives) none =
    let here = first_false (is_open_of id life) (list_any (is_open_of id) lives) none in
    let later = second_false (is_open_of id life) (list_any (is_open_of id) lives) none in
    rw (later, here) refl

-- a write at the place of the last open life
pub ended_at : (id : List ℕ) (n : ℕ) (lives : List Life) (at : ℕ) (life : Life) → StandsLast id lives at → life ≡ get_or lives at life
    → slice_set lives at (record life { last = Some n }) ≡ end_life id n lives
ended_at id n lives at life stands is =
    let whole = stands.before ++ stands.life ∷ stands.behind in
    let same : life ≡ stands.life = is ∙ ap (λ (l : List Life). get_or l at life) stands.split ∙ ap (λ (k : ℕ). get_or whole k life) stands.place ∙ seam stands.before stands.life stands.behind life in
    ap (λ (l : List Life). slice_set l at (record life { last = Some n })) stands.split
    ∙ set_at stands.before stands.life stands.behind (record life { last = Some n }) at (sym stands.place)
    ∙ ap (λ (l : Life). stands.before ++ record l { last = Some n } ∷ stands.behind) same
    ∙ sym (ended_there id n stands.before stands.life stands.behind stands.open_of stands.none_behind)
    ∙ ap (λ (l : List Life). end_life id n l) (sym stands.split)
