-- Records one behind the other.
use Rattle.std.specs.Prelude.{ℕ, ◌+◌, List, [], ◌∷◌, length, ⊤}
use Rattle.store_records.specs.Held.{Held, MayFollow, after, nothing}
use Rattle.store_records.specs.Records.{FitsRecord, spell_record}
use Rattle.store_records.specs.declared.rec.Rec.{Rec}

-- the offset of the gate behind a record whose own gate stands at this offset: the gate, the body's length in four
-- bytes, the body
abbrev pub next_gate : ℕ → Rec → ℕ
next_gate at r = at + (5 + length (spell_record r))

-- the offset of the gate behind records, the first of whose gates stands at this offset
abbrev pub end_from : ℕ → List Rec → ℕ
end_from at [] = at
end_from at (r ∷ rs) = end_from (next_gate at r) rs

-- what a store holds behind records, the first of whose gates stands at this offset
abbrev pub held_from : Held → ℕ → List Rec → Held
held_from h at [] = h
held_from h at (r ∷ rs) = held_from (after h at r) (next_gate at r) rs

-- each has a body, and may follow those before it
abbrev pub FollowFrom : Held → ℕ → List Rec → Type 0
FollowFrom h at [] = ⊤
FollowFrom h at (r ∷ rs) = FitsRecord r × MayFollow h r × FollowFrom (after h at r) (next_gate at r) rs

-- the first gate of a log stands at offset 8
abbrev pub first_gate : ℕ
first_gate = 8

-- the offset of the gate behind the records of a log
abbrev pub end_of : List Rec → ℕ
end_of rs = end_from first_gate rs

-- what a store with these records holds
abbrev pub held : List Rec → Held
held rs = held_from nothing first_gate rs

-- the records are those of a store
abbrev pub Follow : List Rec → Type 0
Follow rs = FollowFrom nothing first_gate rs
