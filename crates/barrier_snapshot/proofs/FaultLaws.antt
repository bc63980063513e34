-- The place that a fault names is where bytes hold no states.
use Rattle.std.proofs.Common.{◌≡◌, ◌^◌, ℕ, ◌+◌, ◌<◌, ◌≤◌, List, [], ◌++◌, length, None, sym, ap, subst, ◌∙◌, append_assoc, arith}
use Rattle.std.specs.Int.{w32}
use Rattle.std.specs.List.{flat_map}
use Rattle.state_code.specs.Laws.{u32_spelled}
use Rattle.state_code.specs.Places.{Passes, Place, start_of}
use Rattle.state_code.specs.Spelling.{IsBytes, IsSpelling, Reading, read_number, spell_bytes, spell_number, value_then}
use Rattle.barrier_snapshot.specs.Captures.{spellings}
use Rattle.barrier_snapshot.specs.Faults.{BeginWithState, FaultsAt, LeaveBehind, bytes_behind, no_number, no_state}
use Rattle.barrier_snapshot.specs.Reading.{StopsAt, read_each, read_whole}
use Rattle.barrier_snapshot.proofs.ReadLaws.{each_only, same_value, whole_again}

-- what is passed and what is left is all
pub from_start : (bytes : List ℕ) (old new : Place) → old ≡ start_of bytes → new.offset + length new.rest ≡ old.offset + length old.rest → new.offset + length new.rest ≡ length bytes
from_start bytes old new is sum =
    let all : old.offset + length old.rest ≡ 0 + length bytes = ap (λ (p : Place). p.offset + length p.rest) is in
    omega (arith, sum, all)

module _ {P S : Type 0} {fits : P → S → Type 0} {spell : P → S → List ℕ} {read : P → Reading S} (spelled : (p : P) → IsSpelling (fits p) (spell p) (read p)) where
  -- ---- the number

  number-stands : (specs : List P) (bytes rest : List ℕ) → length specs < 2 ^ 32 → bytes ≡ spell_number w32 (length specs) ++ rest → read_number w32 bytes ≡ value_then (length specs) rest
  number-stands specs bytes rest below is = ap (read_number w32) is ∙ u32_spelled.again (length specs) rest below

  -- no number stands there
  pub without_number : (specs : List P) (bytes : List ℕ) (offset : ℕ) → offset ≡ 0 → read_number w32 bytes ≡ None → FaultsAt fits spell specs bytes offset
  without_number specs bytes offset first none = no_number first (λ rest below is. let some = number-stands specs bytes rest below is in absurd cc)

  -- or another one
  pub other_number : (specs : List P) (bytes body : List ℕ) (n offset : ℕ) → offset ≡ 0 → read_number w32 bytes ≡ value_then n body → (n ≡ length specs → ⊥) → FaultsAt fits spell specs bytes offset
  other_number specs bytes body n offset first number other =
      no_number first (λ rest below is. other (same_value n (length specs) body rest (sym number ∙ number-stands specs bytes rest below is)).0)

  -- or they are too many
  pub too_many_states : (specs : List P) (bytes : List ℕ) (offset : ℕ) → offset ≡ 0 → 2 ^ 32 ≤ length specs → FaultsAt fits spell specs bytes offset
  too_many_states specs bytes offset first many = no_number first (λ rest below is. absurd (omega (arith, many, below)))

  -- ---- behind it

  left-behind : (specs before : List P) (bytes body rest : List ℕ) (states : List S) (n offset : ℕ) → IsBytes bytes → read_number w32 bytes ≡ value_then n body → n ≡ length specs
      → read_each read before body ≡ value_then states rest → offset + length rest ≡ length bytes → LeaveBehind fits spell (length specs) before bytes offset rest
  left-behind specs before bytes body rest states n offset all number count each from =
      let first = u32_spelled.only bytes n body all number in
      let behind = each_only spelled before body states rest first.rest_bytes each in
      let pieces = flat_map spell_bytes (spellings fits spell before states) in
      record {
        states = states;
        are = behind.are;
        short = behind.short;
        below = subst (λ (m : ℕ). m < 2 ^ 32) count first.fits;
        is = first.parts
            ∙ ap (λ (m : ℕ). spell_number w32 m ++ body) count
            ∙ ap (λ (l : List ℕ). spell_number w32 (length specs) ++ l) behind.parts
            ∙ sym (append_assoc (spell_number w32 (length specs)) pieces rest);
        from = from;
      }

  not-there : (p : P) (rest : List ℕ) → read_whole (read p) rest ≡ None → BeginWithState fits spell p rest → ⊥
  not-there p rest none s =
      let some : read_whole (read p) rest ≡ value_then s.state s.behind = ap (read_whole (read p)) s.is ∙ whole_again (spelled p) s.state s.behind s.fit s.short in
      absurd cc

  -- a byte string isn't the state of its node
  pub without_state : (specs : List P) (bytes : List ℕ) (body : Place) (n offset : ℕ) → IsBytes bytes → read_number w32 bytes ≡ value_then n body.rest → body.offset + length body.rest ≡ length bytes → n ≡ length specs
      → StopsAt read specs body offset → FaultsAt fits spell specs bytes offset
  without_state specs bytes body n offset all number from count s =
      let here : offset + length s.place.rest ≡ length bytes = (let named = s.named in let passed = s.passes.offset in omega (arith, named, passed, from)) in
      no_state s.before s.after s.next s.place.rest s.specs_are (left-behind specs s.before bytes body.rest s.place.rest s.states n offset all number count s.passes.reads here) (not-there s.next s.place.rest s.none)

  -- more bytes are there
  pub with_more : (specs : List P) (bytes : List ℕ) (body behind : Place) (states : List S) (n offset : ℕ) → IsBytes bytes → read_number w32 bytes ≡ value_then n body.rest → body.offset + length body.rest ≡ length bytes → n ≡ length specs
      → Passes (read_each read specs) body behind states → offset ≡ behind.offset → (behind.rest ≡ [] → ⊥) → FaultsAt fits spell specs bytes offset
  with_more specs bytes body behind states n offset all number from count passes named some =
      let here : offset + length behind.rest ≡ length bytes = (let passed = passes.offset in omega (arith, named, passed, from)) in
      bytes_behind behind.rest (left-behind specs specs bytes body.rest behind.rest states n offset all number count passes.reads here) some
