-- The states of a snapshot: a number of cells, and the state of each as a byte string.
use Rattle.std.specs.Prelude.{◌≡◌, ℕ, ◌+◌, List, ◌++◌, length, None, Result, Ok, Err, ⊤}
use Rattle.std.specs.Int.{w32}
use Rattle.std.specs.List.{flat_map}
use Rattle.std.proofs.Common.{refl, sym, ap, ◌∙◌}
use Rattle.state_code.specs.Laws.{bytes_spelled, list_spelled}
use Rattle.state_code.specs.Spelling.{FitsBytes, FitsList, IsBytes, IsSpelling, Reading, Stands, read_as, read_bytes, read_list, read_many, spell_bytes, spell_list, spell_number, value_then}
use Rattle.state_code.specs.Places.{Place}
use Rattle.state_code.specs.declared.fault.CodeFault.{CodeFault}
use Rattle.state_code.specs.declared.fault.CodeFault.TheVariants.{At, NoMemory}
use Rattle.store_records.specs.Combining.{parted, stands_at}

-- The bytes are the states of cells.
pub record AreStates (bytes : List ℕ) : Type 0 where
  pub cells : List (List ℕ)
  pub fits : FitsList FitsBytes cells
  pub is : bytes ≡ spell_list spell_bytes cells

-- they stand as they are
abbrev pub spell_states : List ℕ → List ℕ
spell_states bytes = bytes

-- and the states of so many cells as the number says that stands there
abbrev pub read_states : Reading (List ℕ)
read_states = read_as (spell_list spell_bytes) (read_list read_bytes)

states_again : (bytes rest : List ℕ) → AreStates bytes → read_states (bytes ++ rest) ≡ value_then bytes rest
states_again bytes rest are =
    ap (λ (t : List ℕ). read_states (t ++ rest)) are.is
    ∙ rw ((list_spelled bytes_spelled).again are.cells rest are.fits)
    (ap (λ (t : List ℕ). value_then t rest) (sym are.is))

states_only : (whole bytes rest : List ℕ) → IsBytes whole → read_states whole ≡ value_then bytes rest
    → Stands AreStates spell_states whole bytes rest
states_only whole bytes rest fits e =
    let one = parted (read_list read_bytes whole) (λ cells rest. value_then (spell_list spell_bytes cells) rest)
    (bytes, rest) e in
    let first = (list_spelled bytes_spelled).only whole one.value one.rest fits one.first in
    stands_at whole (spell_list spell_bytes one.value) bytes one.rest rest one.second (record {
      fits = record { cells = one.value; fits = first.fits; is = refl };
      parts = first.parts;
      rest_bytes = first.rest_bytes;
    })

-- what is spelled is read again, and only that
pub states_spelled : IsSpelling AreStates spell_states read_states
states_spelled = record { again = states_again; only = states_only }

-- so many states are read, and stand behind their number
pub record Gathered (count : ℕ) (old new : Place) (bytes : List ℕ) : Type 0 where
  pub cells : List (List ℕ)
  pub reads : read_many read_bytes count old.rest ≡ value_then cells new.rest
  pub is : bytes ≡ spell_number w32 count ++ flat_map spell_bytes cells
  pub long : length cells ≡ count
  pub offset : new.offset + length new.rest ≡ old.offset + length old.rest

-- so many states are gathered, or they don't stand there, unless memory ran out
abbrev pub GathersOrNot : ℕ → Place → Place → Result (List ℕ) CodeFault → Type 0
GathersOrNot count old new (Ok bytes) = Gathered count old new bytes
GathersOrNot count old new (Err (At offset)) = read_many read_bytes count old.rest ≡ None
GathersOrNot count old new (Err NoMemory) = ⊤
