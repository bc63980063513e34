-- What the code keeps of the points that it passed.
use Rattle.std.specs.Prelude.{◌≡◌, ℕ, ℤ, pos, ◌+ℤ◌, Bool, if◌then◌else◌, List, [], map, Option, Some, None, unwrap_or}
use Rattle.std.specs.Int.{int_wrap, w64}
use Rattle.std.specs.List.{list_any}
use Rattle.std.specs.Option.{option_to_list}
use Rattle.std.specs.Ordering.{int_cmp, is_eq, nat_cmp, ordering_then}
use Rattle.std.specs.Cmp.Lexicographic.{slice_cmp}
use Rattle.std.specs.declared.cmp.Ordering.{Ordering}
use denote.Ref.{Bor}
use Rattle.kap_base.specs.declared.value.Value.{Value}
use Rattle.kap_base.specs.declared.value.Value.TheVariants.{Int, Bool as Truth, Str}
use Rattle.select_nodes.specs.declared.choices.Choice.{Choice}
use Rattle.select_nodes.specs.declared.choices.Choice.TheVariants.{One, Many}
use Rattle.select_nodes.specs.Choices.{at_end, distinct}
use Rattle.kap_base.specs.Values.{is_same_value}
use Rattle.select_nodes.specs.Picks.{PickValue, ReadingValue}

-- the one of two that goes first, where the second came later
abbrev pub better : {A : Type 0} → (A → A → Bool) → Option A → Option A → Option A
better before None next = next
better before (Some best) None = Some best
better before (Some best) (Some next) = Some (if before next best then next else best)

-- a sum with one more
abbrev pub added : Option ℤ → Option ReadingValue → Option ℤ
added sum None = sum
added sum (Some r) = Some (int_wrap w64 (unwrap_or sum (pos 0) +ℤ r.number))

-- one value at most, or several
abbrev pub choice_items : Choice → List PickValue
choice_items (One pick) = option_to_list pick
choice_items (Many picks) = picks.items

-- ---- the values that came

-- the kind of a value, its number, and the bytes of its text
abbrev pub KeyValue : Type 0
KeyValue = ℕ × ℤ × List ℕ

-- what tells a value from others
abbrev pub key_of : Value → KeyValue
key_of (Int n) = (0, n, [])
key_of (Truth b) = (1, pos (if b then 1 else 0), [])
key_of (Str text) = (2, pos 0, text)

-- an order of these
abbrev pub compare_keys : KeyValue → KeyValue → Ordering
compare_keys a b = ordering_then (ordering_then (nat_cmp a.0 b.0) (int_cmp a.1 b.1)) (slice_cmp nat_cmp a.2 b.2)

-- a key that is kept, with the bytes of its text lent
abbrev pub KeptKey : Type 0
KeptKey = ℕ × ℤ × Bor (List ℕ)

-- the same of one that is kept
abbrev pub seen_key : KeptKey → KeyValue
seen_key k = (k.0, k.1, k.2.now)

-- one of the keys is that of the value
abbrev pub is_seen : List KeptKey → Value → Bool
is_seen keys v = list_any (λ k. is_eq (compare_keys (key_of v) (seen_key k))) keys

-- the keys are those of these values, and each of these is told once
pub record Told (tmax : ℤ) (vs : List Value) (keys : List KeptKey) (picks : List PickValue) : Type 0 where
  pub seen : (v : Value) → is_seen keys v ≡ list_any (is_same_value v) vs
  pub told : picks ≡ map (at_end tmax) (distinct vs)
