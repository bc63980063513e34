-- Records that are copied from one log into another.
use Rattle.std.proofs.Common.{◌≡◌, ℕ, ◌+◌, ◌≤◌, Bool, true, false, List, [], ◌∷◌, ◌++◌, length, map, refl, sym, ap, ◌∙◌, subst, arith, append_assoc, Ok, Err}
use Rattle.std.specs.Prelude.{Option, Some, None, IfSome}
use Rattle.std.proofs.lemmas.List.{append-nil, map-append}
use Rattle.kap_io.specs.Disk.{Elsewhere, Image, On}
use Rattle.kap_io.specs.Moments.{Moments, Quiet, then_run}
use Rattle.kap_io.specs.declared.disk.Part.{Part}
use Rattle.gate_log.specs.Logs.{LogState, Rests}
use Rattle.gate_log.specs.declared.log.TheConstants.{BODY_LIMIT}
use Rattle.gate_log.proofs.Beside.{DiffersIn, rests_elsewhere}
use Rattle.gate_log.proofs.Quietly.{rests_quietly}
use Rattle.store_records.specs.Held.{Held, MayFollow}
use Rattle.store_records.specs.Histories.{end_of, first_gate, held}
use Rattle.store_records.specs.Orders.{DefinesValid}
use Rattle.store_records.specs.Records.{IsBodyOf, spell_record}
use Rattle.store_records.specs.declared.rec.Rec.{Rec}
use Rattle.store_records.specs.declared.rec.Rec.TheVariants as kinds
use Rattle.store_records.proofs.OrderLaws.{defines_valid}
use Rattle.store_kept.specs.Changing.{IsMarkAt, kept_with}
use Rattle.store_kept.specs.Keeping.{KeepsRecords, KeptValue}
use Rattle.store_kept.specs.declared.kept.Mark.{Mark}
use Rattle.store_kept.proofs.Keeping.{end_more, keeps_push}
use Rattle.store_compact.specs.Deciding.{is_kept}
use Rattle.store_compact.specs.Staying.{if_stays, staying, staying_of, stays}
use Rattle.store_compact.proofs.Total.{decides_at, follows_there, staying_push}
use Rattle.topic_store.specs.Rewriting.{HasPut, IsCopying, IsSource, StoredOrNot}
use Rattle.topic_store.specs.Stored.{BodyOrNot}
use Rattle.topic_store.specs.Stores.{AreShort, AreStored}
use Rattle.topic_store.specs.declared.fault.StoreFault.{StoreFault}
use Rattle.topic_store.specs.declared.fault.StoreFault.TheVariants.{NotStore, DiskFault, Long, NoMemory}
use Rattle.topic_store.proofs.Apart.{gate_is}

-- ---- what stands at a gate

short_there : (before : List Rec) (r : Rec) (behind : List Rec) → AreShort (before ++ r ∷ behind) → length (spell_record r) ≤ BODY_LIMIT
short_there [] r behind short = short.0
short_there (q ∷ before) r behind short = short_there before r behind short.1

valid_there : (h : Held) (r : Rec) → MayFollow h r → DefinesValid r
valid_there h (kinds.Define id script enabled) may = defines_valid id script h.tasks may
valid_there h (kinds.Enable id) may = tt
valid_there h (kinds.Disable id) may = tt
valid_there h (kinds.Delete id) may = tt
valid_there h (kinds.Batch db rp points) may = tt
valid_there h (kinds.Trans transitions) may = tt
valid_there h (kinds.Snap points trans states) may = tt

-- the first of the records behind some, which has this body, and the gate behind it
pub record HasNext (before behind : List Rec) (next : ℕ) (body : List ℕ) : Type 0 where
  pub r : Rec
  pub more : List Rec
  pub is : behind ≡ r ∷ more
  pub body_of : IsBodyOf r body
  pub short : length body ≤ BODY_LIMIT
  pub valid : DefinesValid r
  pub next_is : next ≡ end_of (before ++ r ∷ [])

pub next_there : (rs before behind : List Rec) (gate next : ℕ) (body : List ℕ) → AreStored rs → rs ≡ before ++ behind → gate ≡ end_of before
    → BodyOrNot (Ok (Some (body, next))) (map spell_record behind) gate → HasNext before behind next body
next_there rs before [] gate next body stored split at there = absurd there
next_there rs before (r ∷ behind) gate next body stored split at there =
    let follows = follows_there rs before r behind stored.follow split in
    record {
      r = r;
      more = behind;
      is = refl;
      body_of = record { fits = follows.0; is = there.0 };
      short = omega (arith, ap (λ (b : List ℕ). length b) there.0, short_there before r behind (subst AreShort split stored.short));
      valid = valid_there (held before) r follows.1;
      next_is = omega (arith, there.1, at, end_more first_gate before r, ap (λ (b : List ℕ). length b) there.0);
    }

some_is : {A : Type 0} (x y : A) → ◌≡◌ {A = Option A} (Some x) (Some y) → x ≡ y
some_is x y e = cc

pub none_is_none : (r : Rec) → ◌≡◌ {A = Option Rec} None (Some r) → ⊥
none_is_none r e = absurd cc

pub short_body : (a b : List ℕ) → a ≡ b → length b ≤ BODY_LIMIT → length a ≤ BODY_LIMIT
short_body a b same short = subst (λ (l : List ℕ). length l ≤ BODY_LIMIT) (sym same) short

-- it is read
pub stored_there : (before behind : List Rec) (next : ℕ) (body : List ℕ) (r : Rec) → (has : HasNext before behind next body) → Some r ≡ Some has.r
    → StoredOrNot (Ok (Some (body, r, next))) before behind
stored_there before behind next body r has is =
    subst (λ (l : List Rec). StoredOrNot (Ok (Some (body, r, next))) before l) (sym has.is) (has.body_of.is, some_is r has.r is, has.next_is)

pub stored_fault : (before behind : List Rec) (gate : ℕ) (fault : StoreFault) → BodyOrNot (Err fault) (map spell_record behind) gate → StoredOrNot (Err fault) before behind
stored_fault before behind gate (NotStore part offset) found = found
stored_fault before behind gate DiskFault found = tt
stored_fault before behind gate Long found = found
stored_fault before behind gate NoMemory found = tt

-- ---- a record that is put behind a log

pub put_behind_log : (ks : List Rec) (r : Rec) (body : List ℕ) (seen : Image) (images : Image → Type 0) (log new : LogState) (k mid later : KeptValue) (mark : Option Mark) (n : ℕ)
    (before : Image) (left : Image → Type 0) → HasPut ks before left log k → body ≡ spell_record r → n ≡ log.end
    → Rests (map spell_record ks ++ body ∷ []) seen images new → later ≡ kept_with n r mark k → IfSome mark (IsMarkAt n k) → HasPut (ks ++ r ∷ []) seen images new later
put_behind_log ks r body seen images log new k mid later mark n before left put is at rests later_is marked =
    let at_end : n ≡ end_of ks = at ∙ put.rests.end ∙ gate_is ks in
    let bodies : map spell_record ks ++ body ∷ [] ≡ map spell_record (ks ++ r ∷ []) =
    ap (λ (b : List ℕ). map spell_record ks ++ b ∷ []) is ∙ sym (map-append spell_record ks (r ∷ [])) in
    record {
      rests = subst (λ (b : List (List ℕ)). Rests b seen images new) bodies rests;
      keeps =
          subst (KeepsRecords (ks ++ r ∷ [])) (sym (later_is ∙ ap (λ (m : ℕ). kept_with m r mark k) at_end))
          (keeps_push ks r k mark put.keeps (subst (λ (m : ℕ). IfSome mark (IsMarkAt m k)) at_end marked));
    }

-- ---- a copy on its way

module _ {D : Type 0} (seen : D → Image) (moment : D → ℕ) (may_leave : D → Image → Type 0) (left_since : D → ℕ → Image → Type 0) (old_disk new_disk : D)
    (quiet : Quiet seen moment may_leave left_since old_disk new_disk) where
  pub put_quietly : (ks : List Rec) (log : LogState) (k : KeptValue) → HasPut ks (seen old_disk) (may_leave old_disk) log k → HasPut ks (seen new_disk) (may_leave new_disk) log k
  put_quietly ks log k put = record {
    rests = rests_quietly seen moment may_leave left_since old_disk new_disk (map spell_record ks) log quiet put.rests;
    keeps = put.keeps;
  }

  pub source_quietly : (rs : List Rec) (old : LogState) (all : KeptValue) → IsSource rs (seen old_disk) (may_leave old_disk) old all → IsSource rs (seen new_disk) (may_leave new_disk) old all
  source_quietly rs old all source = record {
    stored = source.stored;
    rests = rests_quietly seen moment may_leave left_since old_disk new_disk (map spell_record rs) old quiet source.rests;
    keeps = source.keeps;
  }

-- the old log stays while another file changes
pub source_elsewhere : (part : Part) (becomes : List ℕ → List ℕ → Type 0) (seen later : Image) (images left : Image → Type 0) (rs : List Rec) (old : LogState) (all : KeptValue)
    → (old.part ≡ part → ⊥) → Elsewhere part seen later → DiffersIn part becomes images left → IsSource rs seen images old all → IsSource rs later left old all
source_elsewhere part becomes seen later images left rs old all apart elsewhere reached source = record {
  stored = source.stored;
  rests = rests_elsewhere part becomes seen later images left elsewhere reached (map spell_record rs) old apart source.rests;
  keeps = source.keeps;
}

module _ (rs : List Rec) (gate : ℕ) (seen : Image) (images : Image → Type 0) (old : LogState) (all : KeptValue) (log : LogState) (k : KeptValue)
    (copying : IsCopying rs gate seen images old all log k) where
  -- all were copied
  pub all_copied : (later : Image) (left : Image → Type 0) → StoredOrNot (Ok None) copying.before copying.behind → HasPut (staying_of rs copying.before) later left log k
      → HasPut (staying rs) later left log k
  all_copied later left none put =
      let whole : copying.before ≡ rs = sym (append-nil copying.before) ∙ ap (λ (l : List Rec). copying.before ++ l) (sym none) ∙ sym copying.split in
      subst (λ (l : List Rec). HasPut (staying_of rs l) later left log k) whole put

  module _ (body : List ℕ) (r : Rec) (next : ℕ) (found : StoredOrNot (Ok (Some (body, r, next))) copying.before copying.behind) where
    -- the records behind it
    record Onward : Type 0 where
      more : List Rec
      split : rs ≡ copying.before ++ r ∷ more
      body_is : body ≡ spell_record r
      next_is : next ≡ end_of (copying.before ++ r ∷ [])

    onward_from : (behind : List Rec) → rs ≡ copying.before ++ behind → StoredOrNot (Ok (Some (body, r, next))) copying.before behind → Onward
    onward_from [] split found = absurd found
    onward_from (q ∷ more) split found = record {
      more = more;
      split = split ∙ ap (λ (x : Rec). copying.before ++ x ∷ more) (sym found.1);
      body_is = found.0 ∙ ap spell_record (sym found.1);
      next_is = found.2 ∙ ap (λ (x : Rec). end_of (copying.before ++ x ∷ [])) (sym found.1);
    }

    onward : Onward
    onward = onward_from copying.behind copying.split found

    pub body_is : body ≡ spell_record r
    body_is = onward.body_is

    decided : is_kept all k gate r ≡ stays (held rs) (held copying.before) (end_of copying.before) r
    decided =
        ap (λ (n : ℕ). is_kept all k n r) copying.at_gate
        ∙ decides_at rs copying.before r onward.more all k copying.source.stored.follow onward.split copying.source.keeps copying.put.keeps

    grown : (b : Bool) → is_kept all k gate r ≡ b → staying_of rs (copying.before ++ r ∷ []) ≡ staying_of rs copying.before ++ if_stays b r
    grown b is = staying_push rs copying.before r ∙ ap (λ (t : Bool). staying_of rs copying.before ++ if_stays t r) (sym decided ∙ is)

    go_on : (later : Image) (left : Image → Type 0) (new : LogState) (more : KeptValue) (ks : List Rec) → staying_of rs (copying.before ++ r ∷ []) ≡ ks → IsSource rs later left old all
        → new.part ≡ log.part → HasPut ks later left new more → IsCopying rs next later left old all new more
    go_on later left new more ks is source part put = record {
      before = copying.before ++ r ∷ [];
      behind = onward.more;
      split = onward.split ∙ sym (append_assoc copying.before (r ∷ []) onward.more);
      at_gate = onward.next_is;
      source = source;
      apart = λ e. copying.apart (e ∙ part);
      put = subst (λ (l : List Rec). HasPut l later left new more) (sym is) put;
    }

    -- it was copied
    pub one_copied : (later : Image) (left : Image → Type 0) (new : LogState) (more : KeptValue) → true ≡ is_kept all k gate r → IsSource rs later left old all → new.part ≡ log.part
        → HasPut (staying_of rs copying.before ++ r ∷ []) later left new more → IsCopying rs next later left old all new more
    one_copied later left new more stay source part put = go_on later left new more (staying_of rs copying.before ++ r ∷ []) (grown true (sym stay)) source part put

    -- or left out
    pub one_left_out : (later : Image) (left : Image → Type 0) → false ≡ is_kept all k gate r → IsSource rs later left old all
        → HasPut (staying_of rs copying.before) later left log k → IsCopying rs next later left old all log k
    one_left_out later left out source put =
        go_on later left log k (staying_of rs copying.before) (grown false (sym out) ∙ append-nil (staying_of rs copying.before)) source refl put

-- ---- the moments of copying

module _ {D : Type 0} (moment : D → ℕ) (may_leave : D → Image → Type 0) (left_since : D → ℕ → Image → Type 0) (part same : Part) (is : same ≡ part) where
  -- calls on one file, and then others
  pub on_then : (old mid new : D) → Moments moment may_leave left_since old mid (On part (λ _ _. Unit {0})) → Moments moment may_leave left_since mid new (On same (λ _ _. Unit {0}))
      → Moments moment may_leave left_since old new (On part (λ _ _. Unit {0}))
  on_then old mid new one two = then_run moment may_leave left_since old mid new (On part (λ _ _. Unit {0})) (On part (λ _ _. Unit {0})) (On part (λ _ _. Unit {0})) one
      (subst (λ (p : Part). Moments moment may_leave left_since mid new (On p (λ _ _. Unit {0}))) is two)
      (λ a b was how. how)
      (λ a b c was how now step. record { step = tt; elsewhere = λ q apart. step.elsewhere q apart ∙ how.elsewhere q apart })
