-- Maps from texts.
use Rattle.std.specs.FinMap.{FinMap, code, insert}
use Rattle.std.specs.Coded.{Coded, coded_list, coded_ℕ}
use Rattle.std.specs.Prelude.{ℕ, Bool, true, List, [], ◌∷◌}
use Rattle.std.specs.Ordering.{nat_cmp, is_lt}
use Rattle.std.specs.Cmp.Lexicographic.{slice_cmp}
use Rattle.std.specs.declared.cmp.Ordering.{Ordering}

-- the order of texts: by bytes, from the first on
abbrev pub byte_order : List ℕ → List ℕ → Ordering
byte_order = slice_cmp nat_cmp

-- A finite map from texts, in byte order. To insert at a key that is there puts the new value in the old one's place.
abbrev pub KeyMap : Type 0 → Type 0
KeyMap V = FinMap byte_order V

-- maps from texts are told apart by their entries
abbrev pub key_map_code : {V : Type 0} → Coded V → Coded (KeyMap V)
key_map_code v = code (coded_list coded_ℕ) v

-- a map with these entries, put one after the other: of equal keys the last one counts
abbrev pub with_entries : {V : Type 0} → KeyMap V → List (List ℕ × V) → KeyMap V
with_entries m [] = m
with_entries m (e ∷ es) = with_entries (insert m e.0 e.1) es

-- the key stands below that of the first entry, if there is one
abbrev pub is_below : {V : Type 0} → List ℕ → List (List ℕ × V) → Bool
is_below key [] = true
is_below key (e ∷ es) = is_lt (byte_order key e.0)
