-- Records that are read back.
use Rattle.std.proofs.Common.{◌≡◌, ℕ, List, [], ◌∷◌, ◌++◌, length, map, refl, sym, ap, ◌∙◌, subst, arith, Ok, Err}
use Rattle.std.specs.Prelude.{Option, Some, None}
use Rattle.std.proofs.lemmas.List.{map-append}
use Rattle.kap_io.specs.Disk.{Image}
use Rattle.gate_log.specs.Bodies.{bytes_of}
use Rattle.gate_log.specs.Logs.{LogState, Rests}
use Rattle.gate_log.specs.Reading.{BodyAt}
use Rattle.gate_log.specs.declared.fault.LogFault.{LogFault}
use Rattle.gate_log.specs.declared.fault.LogFault.TheVariants as log
use Rattle.kap_io.specs.declared.disk.Part.{Part}
use Rattle.store_records.specs.Held.{Held, after, nothing}
use Rattle.store_records.specs.Histories.{Follow, FollowFrom, end_of, first_gate, next_gate}
use Rattle.store_records.specs.Records.{FitsRecord, IsBodyOf, spell_record}
use Rattle.store_records.specs.declared.rec.Rec.{Rec}
use Rattle.store_records.specs.declared.rec.Rec.TheVariants as kinds
use Rattle.store_kept.proofs.Keeping.{end_more}
use Rattle.topic_store.specs.Faults.{fault_in}
use Rattle.topic_store.specs.Snapshots.{LastSnap, StatesOrNot, states_in}
use Rattle.topic_store.specs.Stored.{BodyOrNot, RecordOrNot}
use Rattle.topic_store.specs.declared.fault.StoreFault.{StoreFault}
use Rattle.topic_store.specs.declared.fault.StoreFault.TheVariants.{NotStore, DiskFault, Long, NoMemory}
use Rattle.topic_store.proofs.Apart.{gate_is}

pub none_of : {A : Type 0} (o : Option A) → ((x : A) → o ≡ Some x → ⊥) → o ≡ None
none_of None not_some = refl
none_of (Some x) not_some = absurd (not_some x refl)

-- a body isn't there
pub body_refused : (part : Part) (bodies : List (List ℕ)) (at : ℕ) (fault : LogFault) → BodyAt (Err fault) bodies at → BodyOrNot (Err (fault_in part fault)) bodies at
body_refused part bodies at log.Header found = found
body_refused part bodies at (log.Torn offset) found = found
body_refused part bodies at log.DiskFault found = tt
body_refused part bodies at log.Long found = found
body_refused part bodies at log.NoMemory found = tt

pub body_found : (bodies : List (List ℕ)) (at : ℕ) (found : Option (List ℕ × ℕ)) → BodyAt (Ok found) bodies at → BodyOrNot (Ok found) bodies at
body_found bodies at None is = is
body_found [] at (Some next) is = is
body_found (body ∷ bodies) at (Some next) is = is

-- a log of records, at a gate behind some of them
pub rests_split : (rs before behind : List Rec) (seen : Image) (images : Image → Type 0) (l : LogState) → rs ≡ before ++ behind
    → Rests (map spell_record rs) seen images l → Rests (map spell_record before ++ map spell_record behind) seen images l
rests_split rs before behind seen images l split rests =
    subst (λ (b : List (List ℕ)). Rests b seen images l) (ap (λ (s : List Rec). map spell_record s) split ∙ map-append spell_record before behind) rests

pub gate_split : (before : List Rec) (gate : ℕ) → gate ≡ end_of before → gate ≡ length (bytes_of (map spell_record before))
gate_split before gate at = at ∙ sym (gate_is before)

fits_from : (h : Held) (at : ℕ) (before : List Rec) (r : Rec) (behind : List Rec) → FollowFrom h at (before ++ r ∷ behind) → FitsRecord r
fits_from h at [] r behind follow = follow.0
fits_from h at (q ∷ before) r behind follow = fits_from (after h at q) (next_gate at q) before r behind follow.2

body_of : (rs before : List Rec) (r : Rec) (behind : List Rec) (body : List ℕ) → Follow rs → rs ≡ before ++ r ∷ behind → body ≡ spell_record r → IsBodyOf r body
body_of rs before r behind body follow split is =
    record { fits = fits_from nothing first_gate before r behind (subst (λ (s : List Rec). FollowFrom nothing first_gate s) split follow); is = is }

-- ---- what stands at a gate of a store's log

pub none_there : (behind : List Rec) (gate : ℕ) → BodyOrNot (Ok None) (map spell_record behind) gate → behind ≡ []
none_there [] gate none = refl
none_there (r ∷ behind) gate none = absurd cc

-- the record that was read from a body of which it is known that it is one's
pub known_there : (rs before behind : List Rec) (gate next : ℕ) (body : List ℕ) (r : Rec) → Follow rs → rs ≡ before ++ behind → gate ≡ end_of before
    → BodyOrNot (Ok (Some (body, next))) (map spell_record behind) gate → ((q : Rec) → IsBodyOf q body → ◌≡◌ {A = Option Rec} (Some r) (Some q))
    → RecordOrNot (Ok (Some (r, next))) before behind
known_there rs before [] gate next body r follow split at there known = absurd there
known_there rs before (q ∷ behind) gate next body r follow split at there known =
    let same : r ≡ q = cc (known q (body_of rs before q behind body follow split there.0)) in
    (same, omega (arith, there.1, at, end_more first_gate before q, ap (λ (b : List ℕ). length b) there.0))

-- a record is read from such a body
pub known_some : (rs before behind : List Rec) (gate next : ℕ) (body : List ℕ) → Follow rs → rs ≡ before ++ behind
    → BodyOrNot (Ok (Some (body, next))) (map spell_record behind) gate → ((q : Rec) → IsBodyOf q body → ◌≡◌ {A = Option Rec} None (Some q)) → ⊥
known_some rs before [] gate next body follow split there known = there
known_some rs before (q ∷ behind) gate next body follow split there known =
    let none : ◌≡◌ {A = Option Rec} None (Some q) = known q (body_of rs before q behind body follow split there.0) in absurd cc

pub fault_there : (before behind : List Rec) (gate : ℕ) (fault : StoreFault) → BodyOrNot (Err fault) (map spell_record behind) gate
    → RecordOrNot (Err fault) before behind
fault_there before behind gate (NotStore part offset) found = found
fault_there before behind gate DiskFault found = tt
fault_there before behind gate Long found = found
fault_there before behind gate NoMemory found = tt

-- ---- states

pub states_fault : (before behind : List Rec) (states : List ℕ) (fault : StoreFault) → RecordOrNot (Err fault) before behind → StatesOrNot states (Err fault)
states_fault before behind states (NotStore part offset) found = found
states_fault before behind states DiskFault found = tt
states_fault before behind states Long found = found
states_fault before behind states NoMemory found = tt

some_states : (states found : List ℕ) → Some found ≡ Some states → found ≡ states
some_states states found e = cc

-- the record that was read is the snapshot
pub states_there : (rs : List Rec) (snap : LastSnap rs) (r : Rec) (next : ℕ)
    → RecordOrNot (Ok (Some (r, next))) snap.before (kinds.Snap snap.points snap.trans snap.states ∷ snap.behind) → (states : List ℕ) → Some states ≡ states_in r
    → states ≡ snap.states
states_there rs snap r next there states is = some_states snap.states states (is ∙ ap states_in there.0)

pub no_states : (rs : List Rec) (snap : LastSnap rs) (r : Rec) (next : ℕ)
    → RecordOrNot (Ok (Some (r, next))) snap.before (kinds.Snap snap.points snap.trans snap.states ∷ snap.behind) → None ≡ states_in r → ⊥
no_states rs snap r next there is = absurd (cc (is, ap states_in there.0))

pub no_snap : (rs : List Rec) (snap : LastSnap rs) → RecordOrNot (Ok None) snap.before (kinds.Snap snap.points snap.trans snap.states ∷ snap.behind) → ⊥
no_snap rs snap none = absurd cc
