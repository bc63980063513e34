-- Merged lists grow by what a further stamp adds to each.
use Rattle.std.proofs.Common.{◌≡◌, ℕ, zero, suc, ◌+◌, ◌≤◌, ◌<◌, ◌==◌, true, false, cond, List, [], ◌∷◌, ◌++◌, map, refl, sym, append-nil, arith}
use Rattle.std.proofs.lemmas.Bool.Decides.{nat_tests}
use Rattle.std.proofs.lemmas.List.Elements.{filter-append}
use Rattle.std.proofs.lemmas.List.Concat.{flat_map-append}
use Rattle.kap_base.specs.declared.items.Item.{Item}
use Rattle.task_run.specs.Stamps.{of_item, of_input, HaveStamp, StampsUpTo}
use Rattle.task_run.specs.StampLaws.{up_to_append, have_append, none_with, all_with, none_above}
use Rattle.task_run.specs.Merging.{stamps, items_with, at_port, at_ports, merged}

-- a list that grew behind the stamps up to n by items with the next stamp
pub record Grows (n : ℕ) (old more new : List Item) : Type 0 where
  pub is : new ≡ old ++ more
  pub before : StampsUpTo of_item n old
  pub behind : HaveStamp of_item (suc n) more

-- ---- items with a stamp

-- the items with an old stamp are those that were there
pub with_old : (n s : ℕ) (old more new : List Item) → s ≤ n → Grows n old more new → items_with s new ≡ items_with s old
with_old n s old more new le g =
    let other : (suc n == s) ≡ false = grind (arith, nat_tests) in
    rw (g.is, filter-append, none_with of_item s (suc n) more other g.behind) (append-nil (items_with s old))

-- the items with the next stamp are those that were added
pub with_new : (n : ℕ) (old more new : List Item) → Grows n old more new → items_with (suc n) new ≡ more
with_new n old more new g =
    let above : n < suc n = omega arith in
    rw (
      g.is,
      filter-append,
      none_above of_item (suc n) n old above g.before,
      all_with of_item
          (suc n) more g.behind,
    ) refl

-- ---- lists that are picked by their numbers

module _ (n : ℕ) (old more new : ℕ → List Item) (grow : (i : ℕ) → Grows n (old i) (more i) (new i)) where
  picked-old : (s port : ℕ) (is : List ℕ) → s ≤ n
      → at_ports port (map (items_with s) (map new is)) ≡ at_ports port (map (items_with s) (map old is))
  picked-old s port [] le = refl
  picked-old s port (i ∷ is) le =
      rw (with_old n s (old i) (more i) (new i) le (grow i), picked-old s (port + 1) is le) refl

  picked-new : (port : ℕ) (is : List ℕ)
      → at_ports port (map (items_with (suc n)) (map new is)) ≡ at_ports port (map more is)
  picked-new port [] = refl
  picked-new port (i ∷ is) = rw (with_new n (old i) (more i) (new i) (grow i), picked-new (port + 1) is) refl

  merged-old : (m : ℕ) (is : List ℕ) → m ≤ n → merged m (map new is) ≡ merged m (map old is)
  merged-old zero is le = refl
  merged-old (suc m) is le =
      let low : m ≤ n = omega arith in
      rw (flat_map-append, merged-old m is low, picked-old (suc m) 0 is le)
      (sym (flat_map-append _ (stamps m) (suc m ∷ [])))

  -- the merged lists grow by what was added, port by port
  pub merged_more : (is : List ℕ) → merged (suc n) (map new is) ≡ merged n (map old is) ++ at_ports 0 (map more is)
  merged_more is =
      let low : n ≤ n = omega arith in
      rw (flat_map-append, merged-old n is low, picked-new 0 is, append-nil) refl

  -- what was added has the next stamp
  pub added_at : (port : ℕ) (is : List ℕ) → HaveStamp of_input (suc n) (at_ports port (map more is))
  added_at port [] = tt
  added_at port (i ∷ is) =
      have_append of_input (suc n) _ _ (at-port port (more i) (grow i).behind) (added_at (port + 1) is)
    where
      at-port : (port : ℕ) (items : List Item) → HaveStamp of_item (suc n) items
          → HaveStamp of_input (suc n) (at_port port items)
      at-port port [] have = tt
      at-port port (x ∷ items) have = (have.0, at-port port items have.1)

-- ---- merged lists have the stamps up to n

with-up_to : (n s port : ℕ) (items : List Item) → s ≤ n → StampsUpTo of_input n (at_port port (items_with s items))
with-up_to n s port [] le = tt
with-up_to n s port (i ∷ items) le =
    elim (i.stamp.0 == s) as (λ b. (i.stamp.0 == s) ≡ b
    → StampsUpTo of_input n (at_port port (cond b (i ∷ items_with s items) (items_with s items)))) [
      | true ↦ λ e. let same : i.stamp.0 ≡ s = grind (arith, nat_tests) in ((omega arith), with-up_to n s port items le)
      | false ↦ λ e. with-up_to n s port items le
    ] refl

ports-up_to : (n s port : ℕ) (lists : List (List Item)) → s ≤ n
    → StampsUpTo of_input n (at_ports port (map (items_with s) lists))
ports-up_to n s port [] le = tt
ports-up_to n s port (l ∷ lists) le =
    up_to_append of_input n _ _ (with-up_to n s port l le) (ports-up_to n s (port + 1) lists le)

merged-below : (n m : ℕ) (lists : List (List Item)) → m ≤ n → StampsUpTo of_input n (merged m lists)
merged-below n zero lists le = tt
merged-below n (suc m) lists le =
    let low : m ≤ n = omega arith in
    rw flat_map-append
    (up_to_append of_input n _ _ (merged-below n m lists low)
    (up_to_append of_input n _ _ (ports-up_to n (suc m) 0 lists le) tt))

-- lists merged up to a stamp have no stamp above it
pub merged_up_to : (n : ℕ) (lists : List (List Item)) → StampsUpTo of_input n (merged n lists)
merged_up_to n lists = let low : n ≤ n = omega arith in merged-below n n lists low
