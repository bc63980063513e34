-- The records of a store as bytes: a byte that names the kind, and what the record holds.
use Rattle.std.specs.Prelude.{◌≡◌, ℕ, zero, suc, ◌<◌, ◌^◌, Bool, List, [], ◌∷◌, ◌++◌, Option, Some, None, Result, Ok, Err, IsTrue, ⊤}
use Rattle.std.specs.List.{list_all}
use Rattle.std.specs.Int.{w64}
use Rattle.std.proofs.Common.{refl}
use Rattle.kap_base.specs.declared.memory.NoMemory.{NoMemory}
use Rattle.state_code.specs.Laws.{bool_spelled, list_spelled, pair_spelled, u64_spelled, variant}
use Rattle.state_code.specs.Spelling.{FitsList, FitsPair, IsBytes, IsSpelling, Reading, Stands, read_as, read_bool, read_list, read_number, read_pair, spell_bool, spell_bytes, spell_list, spell_number, spell_pair, value_then}
use Rattle.state_code.specs.Texts.{FitsText, read_text, text_spelled}
use Rattle.store_records.specs.Lines.{Batch, FitsBatch, are_lines, batch_spelled, is_of, read_batch, spell_batch}
use Rattle.store_records.specs.States.{AreStates, read_states, spell_states, states_spelled}
use Rattle.store_records.specs.Transitions.{FitsTransition, read_transition, spell_transition, transition_spelled}
use Rattle.store_records.specs.declared.rec.Rec.{Rec}
use Rattle.store_records.specs.declared.rec.Rec.TheVariants as kinds

-- id, script, and whether it is enabled
abbrev pub Definition : Type 0
Definition = List ℕ × (List ℕ × Bool)

-- id and script are UTF-8 of fewer than 2^32 bytes
abbrev pub FitsDefinition : Definition → Type 0
FitsDefinition = FitsPair FitsText (FitsPair FitsText (λ b. ⊤))

-- id, script, and whether it is enabled, one behind the other
abbrev pub spell_definition : Definition → List ℕ
spell_definition = spell_pair spell_bytes (spell_pair spell_bytes spell_bool)

-- and the definition whose parts stand there
abbrev pub read_definition : Reading Definition
read_definition = read_pair read_text (read_pair read_text read_bool)

-- how many points, how many transitions, and the states
abbrev pub Snapshot : Type 0
Snapshot = ℕ × (ℕ × List ℕ)

-- both numbers are below 2^64, and the states are those of cells
abbrev pub FitsSnapshot : Snapshot → Type 0
FitsSnapshot = FitsPair (λ n. n < 2 ^ 64) (FitsPair (λ n. n < 2 ^ 64) AreStates)

-- both numbers and the states, one behind the other
abbrev pub spell_snapshot : Snapshot → List ℕ
spell_snapshot = spell_pair (spell_number w64) (spell_pair (spell_number w64) spell_states)

-- and the snapshot whose parts stand there
abbrev pub read_snapshot : Reading Snapshot
read_snapshot = read_pair (read_number w64) (read_pair (read_number w64) read_states)

-- ---- each kind of record, by what it holds

-- the record of a definition
abbrev pub define_of : Definition → Rec
define_of x = kinds.Define x.0 x.1.0 x.1.1

-- the record of a batch
abbrev pub batch_of : Batch → Rec
batch_of x = kinds.Batch x.0.0 x.0.1 x.1

-- the record of a snapshot
abbrev pub snap_of : Snapshot → Rec
snap_of x = kinds.Snap x.0 x.1.0 x.1.1

-- A record has a spelling: its texts and lists are shorter than 2^32, the points of a batch are those that its lines
-- read as, and the states of a snapshot are those of cells.
abbrev pub FitsRecord : Rec → Type 0
FitsRecord (kinds.Define id script enabled) = FitsDefinition (id, (script, enabled))
FitsRecord (kinds.Enable id) = FitsText id
FitsRecord (kinds.Disable id) = FitsText id
FitsRecord (kinds.Delete id) = FitsText id
FitsRecord (kinds.Batch db rp points) = FitsBatch ((db, rp), points)
FitsRecord (kinds.Trans transitions) = FitsList FitsTransition transitions
FitsRecord (kinds.Snap points trans states) = FitsSnapshot (points, (trans, states))

-- the kind's byte, and what the record holds
abbrev pub spell_record : Rec → List ℕ
spell_record (kinds.Define id script enabled) = 1 ∷ spell_definition (id, (script, enabled))
spell_record (kinds.Enable id) = 2 ∷ spell_bytes id
spell_record (kinds.Disable id) = 3 ∷ spell_bytes id
spell_record (kinds.Delete id) = 4 ∷ spell_bytes id
spell_record (kinds.Batch db rp points) = 5 ∷ spell_batch ((db, rp), points)
spell_record (kinds.Trans transitions) = 6 ∷ spell_list spell_transition transitions
spell_record (kinds.Snap points trans states) = 7 ∷ spell_snapshot (points, (trans, states))

-- a record that defines a task, behind its byte
abbrev pub read_define : Reading Rec
read_define = read_as define_of read_definition

-- a record that enables a task, behind its byte
abbrev pub read_enable : Reading Rec
read_enable = read_as kinds.Enable read_text

-- a record that disables a task, behind its byte
abbrev pub read_disable : Reading Rec
read_disable = read_as kinds.Disable read_text

-- a record that deletes a task, behind its byte
abbrev pub read_delete : Reading Rec
read_delete = read_as kinds.Delete read_text

-- a record of points, behind its byte
abbrev pub read_points : Reading Rec
read_points = read_as batch_of read_batch

-- a record of transitions, behind its byte
abbrev pub read_trans : Reading Rec
read_trans = read_as kinds.Trans (read_list read_transition)

-- a record of a snapshot, behind its byte
abbrev pub read_snap : Reading Rec
read_snap = read_as snap_of read_snapshot

-- the record of the kind that the first byte names; another byte is none
abbrev pub read_record : Reading Rec
read_record [] = None
read_record (zero ∷ bytes) = None
read_record (suc zero ∷ bytes) = read_define bytes
read_record (suc (suc zero) ∷ bytes) = read_enable bytes
read_record (suc (suc (suc zero)) ∷ bytes) = read_disable bytes
read_record (suc (suc (suc (suc zero))) ∷ bytes) = read_delete bytes
read_record (suc (suc (suc (suc (suc zero)))) ∷ bytes) = read_points bytes
read_record (suc (suc (suc (suc (suc (suc zero))))) ∷ bytes) = read_trans bytes
read_record (suc (suc (suc (suc (suc (suc (suc zero)))))) ∷ bytes) = read_snap bytes
read_record (suc (suc (suc (suc (suc (suc (suc (suc n))))))) ∷ bytes) = None

-- What a record holds is of its kind's form: a batch has a database and a policy without line feeds, and points of
-- these, ungrouped; a snapshot has the states of cells.
abbrev pub HasForm : Rec → Type 0
HasForm (kinds.Batch db rp points) = IsTrue (are_lines (db, rp)) × IsTrue (list_all (is_of db rp) points)
HasForm (kinds.Snap points trans states) = AreStates states
HasForm r = ⊤

-- the bytes are the body of the record
pub record IsBodyOf (r : Rec) (body : List ℕ) : Type 0 where
  pub fits : FitsRecord r
  pub is : body ≡ spell_record r

-- they are the body of no record
abbrev pub IsNoBody : List ℕ → Type 0
IsNoBody body = (r : Rec) → IsBodyOf r body → ⊥

-- the record whose body these bytes are, or none, unless memory ran out
abbrev pub RecordOf : List ℕ → Result (Option Rec) NoMemory → Type 0
RecordOf body (Ok (Some r)) = IsBodyOf r body
RecordOf body (Ok None) = IsNoBody body
RecordOf body (Err e) = ⊤

definition_spelled : IsSpelling FitsDefinition spell_definition read_definition
definition_spelled = pair_spelled text_spelled (pair_spelled text_spelled bool_spelled)

transitions_spelled : IsSpelling (FitsList FitsTransition) (spell_list spell_transition) (read_list read_transition)
transitions_spelled = list_spelled transition_spelled

snapshot_spelled : IsSpelling FitsSnapshot spell_snapshot read_snapshot
snapshot_spelled = pair_spelled u64_spelled (pair_spelled u64_spelled states_spelled)

record_again : (r : Rec) (rest : List ℕ) → FitsRecord r → read_record (spell_record r ++ rest) ≡ value_then r rest
record_again (kinds.Define id script enabled) rest fits =
    rw (definition_spelled.again (id, (script, enabled)) rest fits) refl
record_again (kinds.Enable id) rest fits = rw (text_spelled.again id rest fits) refl
record_again (kinds.Disable id) rest fits = rw (text_spelled.again id rest fits) refl
record_again (kinds.Delete id) rest fits = rw (text_spelled.again id rest fits) refl
record_again (kinds.Batch db rp points) rest fits = rw (batch_spelled.again ((db, rp), points) rest fits) refl
record_again (kinds.Trans transitions) rest fits = rw (transitions_spelled.again transitions rest fits) refl
record_again (kinds.Snap points trans states) rest fits =
    rw (snapshot_spelled.again (points, (trans, states)) rest fits) refl

record_only : (bytes : List ℕ) (r : Rec) (rest : List ℕ) → IsBytes bytes → read_record bytes ≡ value_then r rest
    → Stands FitsRecord spell_record bytes r rest
record_only [] r rest fits e = absurd cc
record_only (zero ∷ bytes) r rest fits e = absurd cc
record_only (suc zero ∷ bytes) r rest fits e =
    variant definition_spelled 1 define_of (λ x h. h) (λ x. refl) bytes r rest fits e
record_only (suc (suc zero) ∷ bytes) r rest fits e =
    variant text_spelled 2 kinds.Enable (λ x h. h) (λ x. refl) bytes r rest fits e
record_only (suc (suc (suc zero)) ∷ bytes) r rest fits e =
    variant text_spelled 3 kinds.Disable (λ x h. h) (λ x. refl) bytes r rest fits e
record_only (suc (suc (suc (suc zero))) ∷ bytes) r rest fits e =
    variant text_spelled 4 kinds.Delete (λ x h. h) (λ x. refl) bytes r rest fits e
record_only (suc (suc (suc (suc (suc zero)))) ∷ bytes) r rest fits e =
    variant batch_spelled 5 batch_of (λ x h. h) (λ x. refl) bytes r rest fits e
record_only (suc (suc (suc (suc (suc (suc zero))))) ∷ bytes) r rest fits e =
    variant transitions_spelled 6 kinds.Trans (λ x h. h) (λ x. refl) bytes r rest fits e
record_only (suc (suc (suc (suc (suc (suc (suc zero)))))) ∷ bytes) r rest fits e =
    variant snapshot_spelled 7 snap_of (λ x h. h) (λ x. refl) bytes r rest fits e
record_only (suc (suc (suc (suc (suc (suc (suc (suc n))))))) ∷ bytes) r rest fits e = absurd cc

-- what is spelled is read again, and only that
pub record_spelled : IsSpelling FitsRecord spell_record read_record
record_spelled = record { again = record_again; only = record_only }
