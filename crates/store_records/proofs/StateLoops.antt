-- States one behind the other, as a loop gathers them.
use Rattle.std.proofs.Common.{◌≡◌, ℕ, ◌+◌, ◌-◌, ◌<◌, List, [], ◌∷◌, ◌++◌, length, ap, ◌∙◌, arith, length-append}
use Rattle.std.proofs.lemmas.List.{flat_map_more}
use Rattle.std.specs.Int.{w32}
use Rattle.std.specs.List.{flat_map}
use Rattle.state_code.specs.Places.{Passes, Place}
use Rattle.state_code.specs.Spelling.{read_bytes, spell_bytes, spell_number}
use Rattle.state_code.proofs.Loops.{Taken, one_taken}

-- i of count states were taken
pub record Gathering (count i : ℕ) (first from : Place) (states : List ℕ) : Type 0 where
  pub cells : List (List ℕ)
  pub taken : Taken read_bytes count i cells first from
  pub is : states ≡ spell_number w32 count ++ flat_map spell_bytes cells
  pub long : length cells ≡ i

-- one more was taken
pub one_gathered : (count i : ℕ) (first from after : Place) (states more cell : List ℕ) → i < count → Passes read_bytes from after cell → more ≡ states ++ spell_bytes cell
    → Gathering count i first from states → Gathering count (i + 1) first after more
one_gathered count i first from after states more cell lt passed is so_far = record {
  cells = so_far.cells ++ cell ∷ [];
  taken = one_taken read_bytes count i so_far.cells cell first from after lt passed so_far.taken;
  is = is ∙ ap (λ (t : List ℕ). t ++ spell_bytes cell) so_far.is ∙ flat_map_more spell_bytes (spell_number w32 count) so_far.cells cell;
  long = omega (arith, length-append so_far.cells (cell ∷ []), so_far.long);
}
