-- Where bytes hold no states of nodes: the place that a fault names.
use Rattle.std.specs.Prelude.{◌≡◌, ℕ, ◌+◌, ◌<◌, ◌^◌, List, [], ◌∷◌, ◌++◌, length}
use Rattle.std.specs.Int.{w32}
use Rattle.std.specs.List.{flat_map}
use Rattle.state_code.specs.Spelling.{AllFit, FitsBytes, spell_bytes, spell_number}
use Rattle.barrier_snapshot.specs.Captures.{AreStatesOf, spellings}

module _ {P S : Type 0} (fits : P → S → Type 0) (spell : P → S → List ℕ) where
  -- bytes begin with a byte string that is a state of a node of this spec
  pub record BeginWithState (p : P) (bytes : List ℕ) : Type 0 where
    pub state : S
    pub behind : List ℕ
    pub fit : fits p state
    pub short : FitsBytes (spell p state)
    pub is : bytes ≡ spell_bytes (spell p state) ++ behind

  -- bytes begin with this number, and with states of nodes of these specs as byte strings; others are left behind them,
  -- from an offset on
  pub record LeaveBehind (number : ℕ) (specs : List P) (bytes : List ℕ) (offset : ℕ) (rest : List ℕ) : Type 0 where
    pub states : List S
    pub are : AreStatesOf fits spell specs states
    pub short : AllFit FitsBytes (spellings fits spell specs states)
    pub below : number < 2 ^ 32
    pub is : bytes ≡ (spell_number w32 number ++ flat_map spell_bytes (spellings fits spell specs states)) ++ rest
    pub from : offset + length rest ≡ length bytes

  -- The place that a fault names in bytes that are no capture of nodes of these specs. It is 0 where they don't begin
  -- with the number of the states; else it is where the first byte string would stand that isn't the state of its node;
  -- and where all of them are, it is where more bytes stand behind the last one.
  pub data FaultsAt (specs : List P) (bytes : List ℕ) (offset : ℕ) : Type 0 where
    no_number : offset ≡ 0
        → ((rest : List ℕ) → length specs < 2 ^ 32 → bytes ≡ spell_number w32 (length specs) ++ rest → ⊥)
        → FaultsAt specs bytes offset
    no_state : (before after : List P) (p : P) (rest : List ℕ) → specs ≡ before ++ p ∷ after
        → LeaveBehind (length specs) before bytes offset rest → (BeginWithState p rest → ⊥)
        → FaultsAt specs bytes offset
    bytes_behind : (rest : List ℕ) → LeaveBehind (length specs) specs bytes offset rest → (rest ≡ [] → ⊥)
        → FaultsAt specs bytes offset
