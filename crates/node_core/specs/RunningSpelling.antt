-- How the state of a node is spelled: the last stamp with which effects were given, their number, the number of inputs
-- dropped, and what its kind keeps.
use Rattle.std.specs.Prelude.{ℕ, ◌<◌, ◌^◌, List, refl}
use Rattle.std.specs.Int.{w32, w64}
use Rattle.state_code.specs.Spelling.{Reading, IsSpelling, FitsPair, spell_pair, read_pair, spell_number, read_number, read_as}
use Rattle.state_code.specs.Laws.{u32_spelled, u64_spelled, pair_spelled, as_parts}
use Rattle.node_core.specs.declared.running.Running.{Running}

-- the state as a tuple of its parts
abbrev pub running_parts : {S : Type 0} → Running S → (ℕ × ℕ) × (ℕ × S)
running_parts r = ((r.tally.stamp, r.tally.count), (r.dropped, r.inner))

-- and the state of such a tuple
abbrev pub running_of : {S : Type 0} → (ℕ × ℕ) × (ℕ × S) → Running S
running_of p = record { tally = record { stamp = p.0.0; count = p.0.1 }; dropped = p.1.0; inner = p.1.1 }

-- the numbers fit their bytes, and what the kind keeps can be spelled
abbrev pub FitsRunning : {S : Type 0} → (S → Type 0) → Running S → Type 0
FitsRunning Fits r =
    FitsPair (FitsPair (λ n. n < 2 ^ 64) (λ n. n < 2 ^ 32)) (FitsPair (λ n. n < 2 ^ 64) Fits) (running_parts r)

-- the parts one behind the other
abbrev pub spell_running : {S : Type 0} → (S → List ℕ) → Running S → List ℕ
spell_running spell r =
    spell_pair (spell_pair (spell_number w64) (spell_number w32)) (spell_pair (spell_number w64) spell)
    (running_parts r)

-- the parts that stand there
abbrev pub read_running : {S : Type 0} → Reading S → Reading (Running S)
read_running read =
    read_as running_of (read_pair (read_pair (read_number w64) (read_number w32)) (read_pair (read_number w64) read))

-- what is spelled is read again, and only that
pub running_spelled : {S : Type 0} {Fits : S → Type 0} {spell : S → List ℕ} {read : Reading S}
    → IsSpelling Fits spell read → IsSpelling (FitsRunning Fits) (spell_running spell) (read_running read)
running_spelled inner =
    as_parts (pair_spelled (pair_spelled u64_spelled u32_spelled)
    (pair_spelled u64_spelled inner)) running_of running_parts (λ r. refl) (λ p. refl)
