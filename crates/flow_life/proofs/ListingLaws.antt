-- Each step that can be made is among all steps, and these stay where cells move.
use Rattle.std.proofs.Common.{◌≡◌, ℕ, Bool, zero, suc, ◌+◌, ◌<◌, ◌≤◌, List, [], ◌∷◌, ◌++◌, map, length, Some, refl, sym, ap, subst, ◌∙◌, ⊎_elim, append_assoc, arith}
use Rattle.std.specs.Prelude.{Contains, slice_get}
use Rattle.std.specs.List.{AllZip}
use Rattle.std.proofs.lemmas.List.Elements.{Contains-append_left, Contains-append_right}
use Rattle.kap_base.specs.declared.items.Msg.{Msg}
use Rattle.node_core.specs.declared.node.Node.{Ghosts}
use Rattle.flow_cells.specs.declared.parts.InEdge.{InEdge}
use Rattle.flow_cells.specs.declared.parts.CellParts.{CellParts}
use Rattle.flow_cells.specs.Gathers.{Gathers}
use Rattle.flow_cells.specs.Loads.{InLoads, OutLoads}
use Rattle.flow_life.specs.declared.steps.Step.{Step}
use Rattle.flow_life.specs.declared.steps.Step.TheVariants as steps
use Rattle.flow_life.proofs.LeftLaws.{parents-same}
use Rattle.flow_life.specs.Listing.{ends_of, puts_to, steps_from, takes_to}
use Rattle.flow_life.specs.Lives.{IsLife}
use Rattle.flow_life.specs.Loads.{LoadsFrom}
use Rattle.flow_life.proofs.PlaceLaws.{CellOfOut, cell-of_out, found-same, get-within, same_place, zip-length}
use Rattle.flow_life.specs.Steps.{CanPutAt, CanTakeAt}
use Rattle.flow_life.proofs.StreamLaws.{get-map}
use Rattle.flow_life.specs.Streams.{plans_of}
use Rattle.flow_life.specs.Wired.{outs_of, parents_of, sum_by_out, sum_of_all, times}

-- ---- a step is among all

alone : (s : Step) → Contains (s ∷ []) s
alone s = (0, omega arith, refl)

takes-have : (cell input n : ℕ) → input < n → Contains (takes_to cell n) (steps.Take cell input)
takes-have cell input zero lt = absurd (omega (arith, lt))
takes-have cell input (suc n) lt = ⊎_elim
    (λ e. Contains-append_right (takes_to cell n) (steps.Take cell n ∷ []) (steps.Take cell input) (subst (λ (k : ℕ). Contains (steps.Take cell k ∷ []) (steps.Take cell input)) e (alone (steps.Take cell input))))
    (λ ne. Contains-append_left (takes_to cell n) (steps.Take cell n ∷ []) (steps.Take cell input) (takes-have cell input n (below ne)))
    (same_place input n)
  where
    below : (input ≡ n → ⊥) → input < n
    below ne = omega (arith, lt, ne)

puts-have : (cell out n : ℕ) → out < n → Contains (puts_to cell n) (steps.Put cell out)
puts-have cell out zero lt = absurd (omega (arith, lt))
puts-have cell out (suc n) lt = ⊎_elim
    (λ e. Contains-append_right (puts_to cell n) (steps.Put cell n ∷ []) (steps.Put cell out) (subst (λ (k : ℕ). Contains (steps.Put cell k ∷ []) (steps.Put cell out)) e (alone (steps.Put cell out))))
    (λ ne. Contains-append_left (puts_to cell n) (steps.Put cell n ∷ []) (steps.Put cell out) (puts-have cell out n (below ne)))
    (same_place out n)
  where
    below : (out ≡ n → ⊥) → out < n
    below ne = omega (arith, lt, ne)

further : (j from : ℕ) → j + suc from ≡ suc j + from
further j from = omega arith

take-among : (from : ℕ) (ends : List (ℕ × ℕ)) (j : ℕ) (e : ℕ × ℕ) (input : ℕ) → slice_get ends j ≡ Some e → input < e.0 → Contains (steps_from from ends) (steps.Take (j + from) input)
take-among from [] j e input at lt = absurd cc
take-among from (x ∷ ends) zero e input at lt =
    let s = steps.Take from input in
    let here : 0 + from ≡ from = omega arith in
    let within : input < x.0 = subst (λ (y : ℕ × ℕ). input < y.0) (found-same (Some x) e x at refl) lt in
    let mine : Contains (takes_to from x.0 ++ puts_to from x.1) s = Contains-append_left (takes_to from x.0) (puts_to from x.1) s (takes-have from input x.0 within) in
    subst (λ (k : ℕ). Contains (steps_from from (x ∷ ends)) (steps.Take k input)) (sym here)
    (Contains-append_left (takes_to from x.0 ++ puts_to from x.1) (steps_from (suc from) ends) s mine)
take-among from (x ∷ ends) (suc j) e input at lt =
    subst (λ (k : ℕ). Contains (steps_from from (x ∷ ends)) (steps.Take k input)) (further j from)
    (Contains-append_right (takes_to from x.0 ++ puts_to from x.1) (steps_from (suc from) ends) (steps.Take (j + suc from) input) (take-among (suc from) ends j e input at lt))

put-among : (from : ℕ) (ends : List (ℕ × ℕ)) (j : ℕ) (e : ℕ × ℕ) (out : ℕ) → slice_get ends j ≡ Some e → out < e.1 → Contains (steps_from from ends) (steps.Put (j + from) out)
put-among from [] j e out at lt = absurd cc
put-among from (x ∷ ends) zero e out at lt =
    let s = steps.Put from out in
    let here : 0 + from ≡ from = omega arith in
    let within : out < x.1 = subst (λ (y : ℕ × ℕ). out < y.1) (found-same (Some x) e x at refl) lt in
    let mine : Contains (takes_to from x.0 ++ puts_to from x.1) s = Contains-append_right (takes_to from x.0) (puts_to from x.1) s (puts-have from out x.1 within) in
    subst (λ (k : ℕ). Contains (steps_from from (x ∷ ends)) (steps.Put k out)) (sym here)
    (Contains-append_left (takes_to from x.0 ++ puts_to from x.1) (steps_from (suc from) ends) s mine)
put-among from (x ∷ ends) (suc j) e out at lt =
    subst (λ (k : ℕ). Contains (steps_from from (x ∷ ends)) (steps.Put k out)) (further j from)
    (Contains-append_right (takes_to from x.0 ++ puts_to from x.1) (steps_from (suc from) ends) (steps.Put (j + suc from) out) (put-among (suc from) ends j e out at lt))

module _ {N : Type 0} where
  -- the ends of a cell
  abbrev ends : CellParts N → ℕ × ℕ
  ends c = (length c.ins.items, length c.core.outs.items)

  -- a take that can be made is listed
  pub take-listed : (from : ℕ) (cells : List (CellParts N)) (cell input : ℕ) → CanTakeAt cells cell input → Contains (steps_from from (ends_of cells)) (steps.Take (cell + from) input)
  take-listed from cells cell input can =
      take-among from (ends_of cells) cell (ends can.parts) input (get-map ends cells cell can.parts can.at) (get-within can.parts.ins.items input can.can.edge can.can.at)

  -- and so is a put
  pub put-listed : (from : ℕ) (cells : List (CellParts N)) (cell out : ℕ) → CanPutAt cells cell out → Contains (steps_from from (ends_of cells)) (steps.Put (cell + from) out)
  put-listed from cells cell out can =
      let o : CellOfOut cells cell out can.edge = cell-of_out cells cell out can.edge can.at in
      put-among from (ends_of cells) cell (ends o.cell) out (get-map ends cells cell o.cell o.at) (get-within o.cell.core.outs.items out can.edge o.here)

  -- the steps of one cell and then those of the others
  pub listed_cell : (cells : List (CellParts N)) (c : CellParts N) (others : List (CellParts N)) (from n inputs outs : ℕ) (was taken put all : List Step) → cells ≡ c ∷ others → n ≡ from → inputs ≡ length c.ins.items → outs ≡ length c.core.outs.items
      → taken ≡ was ++ takes_to n inputs → put ≡ taken ++ puts_to n outs → all ≡ put ++ steps_from (n + 1) (ends_of others) → all ≡ was ++ steps_from from (ends_of cells)
  listed_cell cells c others from n inputs outs was taken put all is here ins os a b d =
      let next : n + 1 ≡ suc n = omega arith in
      let later = steps_from (suc n) (ends_of others) in
      let one : all ≡ ((was ++ takes_to n inputs) ++ puts_to n outs) ++ later =
      d ∙ ap (λ (k : ℕ). put ++ steps_from k (ends_of others)) next ∙ ap (λ (l : List Step). l ++ later) (b ∙ ap (λ (l : List Step). l ++ puts_to n outs) a) in
      let two : all ≡ was ++ ((takes_to n inputs ++ puts_to n outs) ++ later) =
      one ∙ ap (λ (l : List Step). l ++ later) (append_assoc was (takes_to n inputs) (puts_to n outs)) ∙ append_assoc was (takes_to n inputs ++ puts_to n outs) later in
      subst (λ (l : List (CellParts N)). all ≡ was ++ steps_from from (ends_of l)) (sym is)
      (subst (λ (k : ℕ). all ≡ was ++ steps_from k (ends_of (c ∷ others))) here
      (subst (λ (k : ℕ). all ≡ was ++ ((takes_to n k ++ puts_to n (length c.core.outs.items)) ++ later)) ins
      (subst (λ (k : ℕ). all ≡ was ++ ((takes_to n inputs ++ puts_to n k) ++ later)) os two)))

-- ---- all steps stay

-- 1 at a number, and else 0
mark : ℕ → ℕ → ℕ
mark zero zero = 1
mark zero (suc m) = 0
mark (suc n) zero = 0
mark (suc n) (suc m) = mark n m

mark-own : (n : ℕ) → mark n n ≡ 1
unfolding mark
mark-own zero = refl
mark-own (suc n) = mark-own n

mark-later : (n m : ℕ) → n < m → mark n m ≡ 0
unfolding mark
mark-later zero zero lt = absurd (omega (arith, lt))
mark-later zero (suc m) lt = refl
mark-later (suc n) zero lt = refl
mark-later (suc n) (suc m) lt = mark-later n m (omega (arith, lt))

times-none : (n : ℕ) → times 0 n ≡ 0
times-none zero = refl
times-none (suc n) = let h : times 0 n ≡ 0 = times-none n in omega (arith, h)

times-one : (n : ℕ) → times 1 n ≡ n
times-one zero = refl
times-one (suc n) = let h : times 1 n ≡ n = times-one n in omega (arith, h)

sum-none : (f : ℕ → ℕ) (n : ℕ) (xs : List ℕ) → ((m : ℕ) → n ≤ m → f m ≡ 0) → sum_by_out f n xs ≡ 0
sum-none f n [] h = refl
sum-none f n (x ∷ xs) h =
    let a : times (f n) x ≡ 0 = ap (λ (k : ℕ). times k x) (h n (omega arith)) ∙ times-none x in
    let b : sum_by_out f (suc n) xs ≡ 0 = sum-none f (suc n) xs (λ m le. h m (omega (arith, le))) in
    omega (arith, a, b)

sum-mark : (n x : ℕ) (xs : List ℕ) → sum_by_out (mark n) n (x ∷ xs) ≡ x
sum-mark n x xs =
    let a : times (mark n n) x ≡ x = ap (λ (k : ℕ). times k x) (mark-own n) ∙ times-one x in
    let b : sum_by_out (mark n) (suc n) xs ≡ 0 = sum-none (mark n) (suc n) xs (λ m le. mark-later n m (omega (arith, le))) in
    omega (arith, a, b)

-- sums over outs tell how many each cell has
outs-only : (n : ℕ) (xs ys : List ℕ) → length xs ≡ length ys → ((f : ℕ → ℕ) → sum_by_out f n xs ≡ sum_by_out f n ys) → xs ≡ ys
outs-only n [] [] len same = refl
outs-only n [] (y ∷ ys) len same = absurd (omega (arith, len))
outs-only n (x ∷ xs) [] len same = absurd (omega (arith, len))
outs-only n (x ∷ xs) (y ∷ ys) len same =
    let here : x ≡ y = sym (sum-mark n x xs) ∙ same (mark n) ∙ sum-mark n y ys in
    let later : xs ≡ ys = outs-only (suc n) xs ys (omega (arith, len)) (λ f.
    let whole : times (f n) x + sum_by_out f (suc n) xs ≡ times (f n) y + sum_by_out f (suc n) ys = same f in
    let first : times (f n) x ≡ times (f n) y = ap (times (f n)) here in
    omega (arith, whole, first)) in
    ap (λ (k : ℕ). k ∷ xs) here ∙ ap (λ (l : List ℕ). y ∷ l) later

map-length : {A B : Type 0} (f : A → B) (xs : List A) → length (map f xs) ≡ length xs
map-length f [] = refl
map-length f (x ∷ xs) = ap suc (map-length f xs)

module _ {N : Type 0} where
  -- the same parents and as many outs are the same ends
  ends-same : (cells cells' : List (CellParts N)) → parents_of cells' ≡ parents_of cells → outs_of cells' ≡ outs_of cells → ends_of cells' ≡ ends_of cells
  ends-same [] [] ps os = refl
  ends-same [] (d ∷ cells') ps os = absurd cc
  ends-same (c ∷ cells) [] ps os = absurd cc
  ends-same (c ∷ cells) (d ∷ cells') ps os =
      let from = λ (e : InEdge). e.from in
      let first : map from d.ins.items ≡ map from c.ins.items = cc in
      let later : parents_of cells' ≡ parents_of cells = cc in
      let outs : length d.core.outs.items ≡ length c.core.outs.items = cc in
      let later_outs : outs_of cells' ≡ outs_of cells = cc in
      let ins : length d.ins.items ≡ length c.ins.items = sym (map-length from d.ins.items) ∙ ap length first ∙ map-length from c.ins.items in
      let here : ends d ≡ ends c = rw (ins, outs) refl in
      ap (λ (e : ℕ × ℕ). e ∷ ends_of cells') here ∙ ap (λ (l : List (ℕ × ℕ)). ends c ∷ l) (ends-same cells cells' later later_outs)

  -- a load leaves the ends
  pub ends-loaded : (keeps : Bool) (source : List Msg) (cells cells' : List (CellParts N)) → AllZip (LoadsFrom keeps source) cells cells' → ends_of cells' ≡ ends_of cells
  ends-loaded keeps source [] [] z = refl
  ends-loaded keeps source [] (d ∷ cells') z = absurd z
  ends-loaded keeps source (c ∷ cells) [] z = absurd z
  ends-loaded keeps source (c ∷ cells) (d ∷ cells') z =
      let ins : length d.ins.items ≡ length c.ins.items = zip-length InLoads c.ins.items d.ins.items z.0.ins in
      let outs : length d.core.outs.items ≡ length c.core.outs.items = zip-length OutLoads c.core.outs.items d.core.outs.items z.0.outs in
      let here : ends d ≡ ends c = rw (ins, outs) refl in
      ap (λ (e : ℕ × ℕ). e ∷ ends_of cells') here ∙ ap (λ (l : List (ℕ × ℕ)). ends c ∷ l) (ends-loaded keeps source cells cells' z.1)

  -- and so does gathering
  pub ends-gathered : (cells cells' : List (CellParts N)) → AllZip Gathers cells cells' → ends_of cells' ≡ ends_of cells
  ends-gathered [] [] z = refl
  ends-gathered [] (d ∷ cells') z = absurd z
  ends-gathered (c ∷ cells) [] z = absurd z
  ends-gathered (c ∷ cells) (d ∷ cells') z =
      let here : ends d ≡ ends c = rw (z.0.ins, z.0.outs) refl in
      ap (λ (e : ℕ × ℕ). e ∷ ends_of cells') here ∙ ap (λ (l : List (ℕ × ℕ)). ends c ∷ l) (ends-gathered cells cells' z.1)

module _ {N P S : Type 0} (g : Ghosts N P S) where
  -- lives of the same plans have the same ends
  pub ends-planned : (cells cells' : List (CellParts N)) → IsLife g cells → IsLife g cells' → plans_of g cells' ≡ plans_of g cells → ends_of cells' ≡ ends_of cells
  ends-planned cells cells' life life' plans =
      let parents : parents_of cells' ≡ parents_of cells = parents-same g cells cells' plans in
      let count : length cells' ≡ length cells = sym (map-length (λ (c : CellParts N). map (λ (e : InEdge). e.from) c.ins.items) cells') ∙ ap length parents ∙ map-length (λ (c : CellParts N). map (λ (e : InEdge). e.from) c.ins.items) cells in
      let long : length (outs_of cells') ≡ length (outs_of cells) = map-length (λ (c : CellParts N). length c.core.outs.items) cells' ∙ count ∙ sym (map-length (λ (c : CellParts N). length c.core.outs.items) cells) in
      ends-same cells cells' parents (outs-only 0 (outs_of cells') (outs_of cells) long (λ f. sym (life'.ready.wired.even f) ∙ ap (sum_of_all f) parents ∙ life.ready.wired.even f))
