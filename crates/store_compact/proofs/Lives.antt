-- Lives, and that a task has had one.
use Rattle.std.proofs.Common.{◌≡◌, ℕ, ◌+◌, Bool, true, false, cond, List, [], ◌∷◌, ◌++◌, map, Some, refl, sym, ap, ◌∙◌}
use Rattle.std.specs.Prelude.{◌||◌, ◌==◌}
use Rattle.std.specs.List.{list_any}
use Rattle.store_records.specs.Held.{end_life, is_open, is_open_of, open_from}
use Rattle.store_records.specs.declared.task.Life.{Life}
use Rattle.store_compact.specs.Same.{unplaced_life}
use Rattle.store_compact.specs.Staying.{has_lived}

-- ---- places put aside

unplaced_open : (id : List ℕ) (ls : List Life) → list_any (is_open_of id) (map unplaced_life ls) ≡ list_any (is_open_of id) ls
unplaced_open id [] = refl
unplaced_open id (l ∷ ls) = ap (λ (b : Bool). is_open_of id l || b) (unplaced_open id ls)

pub unplaced_end : (id : List ℕ) (n : ℕ) (ls : List Life) → map unplaced_life (end_life id n ls) ≡ end_life id n (map unplaced_life ls)
unplaced_end id n [] = refl
unplaced_end id n (l ∷ ls) =
    let mine = unplaced_life l in
    elim (list_any (is_open_of id) ls) as
    (λ b. map unplaced_life (cond b (l ∷ end_life id n ls) (cond (is_open_of id l) (record l { last = Some n }) l ∷ ls))
    ≡ cond b (mine ∷ end_life id n (map unplaced_life ls)) (cond (is_open_of id l) (record mine { last = Some n }) mine ∷ map unplaced_life ls)) [
      | true ↦ ap (λ (k : List Life). mine ∷ k) (unplaced_end id n ls)
      | false ↦ elim (is_open_of id l) as
          (λ b. map unplaced_life (cond b (record l { last = Some n }) l ∷ ls) ≡ cond b (record mine { last = Some n }) mine ∷ map unplaced_life ls) [ true ↦ refl | false ↦ refl ]
    ]
    ∙ ap (λ (b : Bool). cond b (mine ∷ end_life id n (map unplaced_life ls)) (cond (is_open_of id l) (record mine { last = Some n }) mine ∷ map unplaced_life ls)) (sym (unplaced_open id ls))

-- their numbers are told without their places
pub unplaced_numbers : (n : ℕ) (ls : List Life) → open_from n (map unplaced_life ls) ≡ open_from n ls
unplaced_numbers n [] = refl
unplaced_numbers n (l ∷ ls) = ap (λ (k : List ℕ). cond (is_open l) (n ∷ k) k) (unplaced_numbers (n + 1) ls)

-- ---- a task that has had a life

-- it has had one where some end
pub lived_end : (at : ℕ) (id : List ℕ) (n : ℕ) (ls : List Life) → has_lived at (end_life id n ls) ≡ has_lived at ls
lived_end at id n [] = refl
lived_end at id n (l ∷ ls) = elim (list_any (is_open_of id) ls) as
    (λ b. has_lived at (cond b (l ∷ end_life id n ls) (cond (is_open_of id l) (record l { last = Some n }) l ∷ ls)) ≡ has_lived at (l ∷ ls)) [
      | true ↦ ap (λ (b : Bool). (l.define_at == at) || b) (lived_end at id n ls)
      | false ↦ elim (is_open_of id l) as (λ b. has_lived at (cond b (record l { last = Some n }) l ∷ ls) ≡ has_lived at (l ∷ ls)) [ true ↦ refl | false ↦ refl ]
    ]

-- and where more begin
pub lived_front : (at : ℕ) (xs ys : List Life) → has_lived at xs ≡ true → has_lived at (xs ++ ys) ≡ true
lived_front at [] ys lived = absurd cc
lived_front at (l ∷ xs) ys lived = elim (l.define_at == at) as (λ b. (b || has_lived at xs) ≡ true → (b || has_lived at (xs ++ ys)) ≡ true) [
  | true ↦ λ lived. refl
  | false ↦ λ lived. lived_front at xs ys lived
] lived

pub lived_back : (at : ℕ) (xs ys : List Life) → has_lived at ys ≡ true → has_lived at (xs ++ ys) ≡ true
lived_back at [] ys lived = lived
lived_back at (l ∷ xs) ys lived =
    let rest = lived_back at xs ys lived in
    elim (l.define_at == at) as (λ b. (b || has_lived at (xs ++ ys)) ≡ true) [ true ↦ refl | false ↦ rest ]
