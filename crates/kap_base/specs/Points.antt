-- A point, as definitions speak of it, and what holds of each.
use Rattle.std.specs.Prelude.{ℕ, ℤ, pos, negsuc, ◌^◌, Bool, true, ◌&&◌, List, [], ◌∷◌, Option, None, Some, nat_lt, nat_le, IsTrue}
use Rattle.std.specs.List.{list_all}
use Rattle.std.specs.Str.{is_utf8}
use Rattle.std.specs.FinMap.{entries, len}
use Rattle.std.specs.Ordering.{is_lt}
use Rattle.kap_base.specs.declared.value.Value.{Value}
use Rattle.kap_base.specs.declared.value.Value.TheVariants as values
use Rattle.kap_base.specs.declared.limits.TheConstants.{TIME_LIMIT}
use Rattle.kap_base.specs.Texts.{is_line, is_name, is_measurement}
use Rattle.kap_base.specs.Maps.{KeyMap, byte_order}

-- a point: its database, policy, measurement, tags, fields, dimensions, whether its group has its name, and its time
pub record PointValue : Type 0 where
  pub db : List ℕ
  pub rp : List ℕ
  pub name : List ℕ
  pub tags : KeyMap (List ℕ)
  pub fields : KeyMap Value
  pub dims : List (List ℕ)
  pub by_name : Bool
  pub time : ℤ

-- a time in nanoseconds within plus or minus 9,000,000,000,000,000,000
abbrev pub is_time : ℤ → Bool
is_time (pos n) = nat_le n TIME_LIMIT
is_time (negsuc n) = nat_lt n TIME_LIMIT

-- an integer of 64 bits, a truth value, or a text on one line
abbrev pub is_value : Value → Bool
is_value (values.Int (pos n)) = nat_lt n (2 ^ 63)
is_value (values.Int (negsuc n)) = nat_lt n (2 ^ 63)
is_value (values.Bool b) = true
is_value (values.Str text) = is_line text

-- the names that are there, or none
abbrev pub names_in : Option (List (List ℕ)) → List (List ℕ)
names_in None = []
names_in (Some names) = names

-- each stands below the next one
abbrev pub rises : List (List ℕ) → Bool
rises [] = true
rises (a ∷ []) = true
rises (a ∷ b ∷ names) = is_lt (byte_order a b) && rises (b ∷ names)

-- names of tags, which need be no name texts: UTF-8, in byte order, each once
abbrev pub are_dimensions : List (List ℕ) → Bool
are_dimensions dims = rises dims && list_all is_utf8 dims

-- names of fields, and values that they can have
abbrev pub are_fields : KeyMap Value → Bool
are_fields fields = list_all (λ e. is_name e.0 && is_value e.1) (entries fields)

-- what holds of each point
pub record IsPoint (p : PointValue) : Type 0 where
  pub db : IsTrue (is_line p.db)
  pub rp : IsTrue (is_line p.rp)
  pub name : IsTrue (is_measurement p.name)
  pub tags : IsTrue (list_all (λ e. is_name e.0 && is_name e.1) (entries p.tags))
  pub fields : IsTrue (are_fields p.fields)
  pub some_field : IsTrue (nat_lt 0 (len p.fields))
  pub dims : IsTrue (are_dimensions p.dims)
  pub time : IsTrue (is_time p.time)
