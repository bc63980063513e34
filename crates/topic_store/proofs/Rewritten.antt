-- A store on its other log.
use Rattle.std.proofs.Common.{◌≡◌, ◌⊎◌, inl, inr, ⊎_elim, ℕ, ◌+◌, ◌<◌, ◌≤◌, Bool, true, false, List, [], ◌∷◌, ◌++◌, length, map, refl, sym, ap, ◌∙◌, subst, arith}
use Rattle.std.specs.Prelude.{◌%◌, ◌==◌, if◌then◌else◌}
use Rattle.kap_io.specs.Disk.{Elsewhere, Image, On}
use Rattle.kap_io.specs.Moments.{Moments, Quiet, Same, then_run, weaker}
use Rattle.kap_io.specs.declared.disk.Part.{Part}
use Rattle.kap_io.specs.declared.disk.Part.TheVariants.{Head, Left, Right}
use Rattle.gate_log.specs.Bodies.{IsLog}
use Rattle.gate_log.specs.Head.{IsHead, IsRunOrNext, IsSettledHead}
use Rattle.gate_log.specs.Logs.{LogState}
use Rattle.gate_log.specs.declared.log.TheConstants.{BODY_LIMIT}
use Rattle.gate_log.proofs.Beside.{DiffersIn, rests_elsewhere}
use Rattle.gate_log.proofs.Unique.{head_unique}
use Rattle.std.proofs.lemmas.Bool.Decides.{nat_tests}
use Rattle.store_records.specs.Held.{Held, after}
use Rattle.store_records.specs.Histories.{held, next_gate}
use Rattle.store_records.specs.Records.{spell_record}
use Rattle.store_records.specs.declared.rec.Rec.{Rec}
use Rattle.store_kept.specs.Keeping.{KeptValue}
use Rattle.store_compact.specs.Staying.{if_stays, staying, staying_from, stays}
use Rattle.store_compact.proofs.Total.{staying_follow}
use Rattle.topic_store.specs.Rewriting.{HasPut, IsSource, other_log, stands_old_or_new}
use Rattle.topic_store.specs.Stores.{AreShort, AreStored, IsOn, Stands, StoreState, current}
use Rattle.topic_store.proofs.Adding.{head_apart, image_stands}

-- ---- the records that stay

short_if : (b : Bool) (r : Rec) (ks : List Rec) → length (spell_record r) ≤ BODY_LIMIT → AreShort ks → AreShort (if_stays b r ++ ks)
short_if true r ks short rest = (short, rest)
short_if false r ks short rest = rest

short_from : (all h : Held) (at : ℕ) (rs : List Rec) → AreShort rs → AreShort (staying_from all h at rs)
short_from all h at [] short = tt
short_from all h at (r ∷ rs) short =
    short_if (stays all h at r) r (staying_from all (after h at r) (next_gate at r) rs) short.0 (short_from all (after h at r) (next_gate at r) rs short.1)

pub staying_stored : (rs : List Rec) → AreStored rs → AreStored (staying rs)
staying_stored rs stored = record { follow = staying_follow rs stored.follow; short = short_from (held rs) _ _ rs stored.short }

-- ---- the other log

zero_is : (m : ℕ) → (m == 0) ≡ true → m ≡ 0
zero_is m e = grind (arith, nat_tests)

one_is : (m : ℕ) → m < 2 → (m == 0) ≡ false → m ≡ 1
one_is m lt e = grind (arith, nat_tests)

even_next : (n : ℕ) → (n % 2 == 0) ≡ true → ((n + 1) % 2 == 0) ≡ false
even_next n e =
    let zero : n % 2 ≡ 0 = zero_is (n % 2) e in
    let next : (n + 1) % 2 ≡ 1 = omega (arith, zero) in
    rw next refl

odd_next : (n : ℕ) → (n % 2 == 0) ≡ false → ((n + 1) % 2 == 0) ≡ true
odd_next n e =
    let below : n % 2 < 2 = omega arith in
    let one : n % 2 ≡ 1 = one_is (n % 2) below e in
    let next : (n + 1) % 2 ≡ 0 = omega (arith, one) in
    rw next refl

next_log : (run : ℕ) → current (run + 1) ≡ other_log (current run)
next_log run = elim (run % 2 == 0) as (λ b. (run % 2 == 0) ≡ b → current (run + 1) ≡ other_log (if b then Left else Right)) [
  | true ↦ λ e. rw (even_next run e) refl
  | false ↦ λ e. rw (odd_next run e) refl
] refl

other_apart : (run : ℕ) → current run ≡ other_log (current run) → ⊥
other_apart run = by_test (run % 2 == 0)
  where
    by_test : (even : Bool) → (if even then Left else Right) ≡ other_log (if even then Left else Right) → ⊥
    by_test true e = cc
    by_test false e = cc

other_no_head : (run : ℕ) → Head ≡ other_log (current run) → ⊥
other_no_head run = by_test (run % 2 == 0)
  where
    by_test : (even : Bool) → Head ≡ other_log (if even then Left else Right) → ⊥
    by_test true e = cc
    by_test false e = cc

module _ (rs : List Rec) (seen : Image) (images : Image → Type 0) (store : StoreState) (on : IsOn rs seen images store) where
  pub source_of : IsSource rs seen images store.log store.kept
  source_of = record { stored = on.stored; rests = on.log; keeps = on.kept }

  other_is : other_log store.log.part ≡ other_log (current on.run)
  other_is = ap other_log on.part

  -- the other log is neither the store's nor the head
  pub log_apart : store.log.part ≡ other_log store.log.part → ⊥
  log_apart e = other_apart on.run (sym on.part ∙ e ∙ other_is)

  pub no_head : Head ≡ other_log store.log.part → ⊥
  no_head e = other_no_head on.run (e ∙ other_is)

  pub settled : IsSettledHead on.run seen images
  settled = record { head = on.head; durable = on.durable }

  -- and so is each image
  pub still_stands : (becomes : List ℕ → List ℕ → Type 0) (a b : Image) → images a → On (other_log store.log.part) becomes a b → Stands rs b
  still_stands becomes a b was how =
      let head : b Head ≡ seen Head = how.elsewhere Head no_head ∙ on.durable a was in
      let log : b store.log.part ≡ seen store.log.part = how.elsewhere store.log.part log_apart ∙ on.log.file.durable a was in
      record {
        run = on.run;
        head = subst (IsHead on.run) (sym head) on.head;
        log = subst (λ (p : Part). IsLog (map spell_record rs) (b p)) on.part (subst (IsLog (map spell_record rs)) (sym log) on.log.file.bytes);
        stored = on.stored;
      }

  -- ---- the switch, where the other log is written

  module _ (log : LogState) (k : KeptValue) (is_other : log.part ≡ other_log store.log.part) (put : HasPut (staying rs) seen images log k) where
    log_no_head : log.part ≡ Head → ⊥
    log_no_head e = no_head (sym e ∙ is_other)

    old_no_head : store.log.part ≡ Head → ⊥
    old_no_head e = head_apart on.run (sym e ∙ on.part)

    next_is : log.part ≡ current (on.run + 1)
    next_is = is_other ∙ other_is ∙ sym (next_log on.run)

    -- an image stands for the old records or for those that stay
    pub either_stands : (b c : Image) → images b → On Head (λ _ file. IsRunOrNext on.run file) b c → Stands rs c ⊎ Stands (staying rs) c
    either_stands b c was how = ⊎_elim
        (λ same. inl (record {
          run = on.run;
          head = same;
          log = subst (λ (p : Part). IsLog (map spell_record rs) (c p)) on.part
              (subst (IsLog (map spell_record rs)) (sym (how.elsewhere store.log.part old_no_head ∙ on.log.file.durable b was)) on.log.file.bytes);
          stored = on.stored;
        }))
        (λ next. inr (record {
          run = on.run + 1;
          head = next;
          log = subst (λ (p : Part). IsLog (map spell_record (staying rs)) (c p)) next_is
              (subst (IsLog (map spell_record (staying rs))) (sym (how.elsewhere log.part log_no_head ∙ put.rests.file.durable b was)) put.rests.file.bytes);
          stored = staying_stored rs on.stored;
        })) how.step

    -- the store is on the other log
    pub on_other : (becomes : List ℕ → List ℕ → Type 0) (later : Image) (left : Image → Type 0) → Elsewhere Head seen later → DiffersIn Head becomes images left
        → IsSettledHead (on.run + 1) later left → IsOn (staying rs) later left (record { log = log; kept = k })
    on_other becomes later left elsewhere reached settled_next = record {
      run = on.run + 1;
      head = settled_next.head;
      durable = settled_next.durable;
      part = next_is;
      log = rests_elsewhere Head becomes seen later images left elsewhere reached (map spell_record (staying rs)) log log_no_head put.rests;
      stored = staying_stored rs on.stored;
      kept = put.keeps;
    }

-- the run of a head is one
pub run_is : (n m : ℕ) (file : List ℕ) → IsHead n file → IsHead m file → n ≡ m
run_is n m file one two = head_unique n m file one two

-- ---- moments

module _ {D : Type 0} (moment : D → ℕ) (may_leave : D → Image → Type 0) (left_since : D → ℕ → Image → Type 0) (rs : List Rec) (seen : D → Image) (store : StoreState) where
  -- while the other log is written
  pub writing_moments : (old new : D) → IsOn rs (seen old) (may_leave old) store → Moments moment may_leave left_since old new (On (other_log store.log.part) (λ _ _. Unit {0}))
      → Moments moment may_leave left_since old new (stands_old_or_new rs)
  writing_moments old new on run = weaker moment may_leave left_since old new _ (stands_old_or_new rs) run (λ a b was how. inl (still_stands rs (seen old) (may_leave old) store on (λ _ _. Unit {0}) a b was how))

  -- and then the head names it
  pub switching_moments : (old mid new : D) (log : LogState) (k : KeptValue) → IsOn rs (seen old) (may_leave old) store → (on : IsOn rs (seen mid) (may_leave mid) store)
      → log.part ≡ other_log store.log.part → HasPut (staying rs) (seen mid) (may_leave mid) log k
      → Moments moment may_leave left_since old mid (On (other_log store.log.part) (λ _ _. Unit {0}))
      → Moments moment may_leave left_since mid new (On Head (λ _ file. IsRunOrNext on.run file)) → Moments moment may_leave left_since old new (stands_old_or_new rs)
  switching_moments old mid new log k on on_mid is_other put one two = then_run moment may_leave left_since old mid new (stands_old_or_new rs) _ (stands_old_or_new rs)
      (writing_moments old mid on one) two
      (λ a b was how. how)
      (λ a b c was how now step. either_stands rs (seen mid) (may_leave mid) store on_mid log k is_other put b c now step)

-- calls that change nothing, and then others
pub quiet_first : {D : Type 0} (seen : D → Image) (moment : D → ℕ) (may_leave : D → Image → Type 0) (left_since : D → ℕ → Image → Type 0) (rs : List Rec) (store : StoreState) (old mid new : D)
    → IsOn rs (seen old) (may_leave old) store → Quiet seen moment may_leave left_since old mid → Moments moment may_leave left_since mid new (stands_old_or_new rs)
    → Moments moment may_leave left_since old new (stands_old_or_new rs)
quiet_first seen moment may_leave left_since rs store old mid new on quiet two =
    then_run moment may_leave left_since old mid new Same (stands_old_or_new rs) (stands_old_or_new rs) quiet.moments two
    (λ a b was same. inl (image_stands rs (seen old) (may_leave old) store on b (subst (may_leave old) (sym same) was)))
    (λ a b c was same now how. how)

-- the head has the run that it had
pub same_run : (one two : List Rec) (first second : Image) (images left : Image → Type 0) (store other : StoreState) (on : IsOn one first images store) (later : IsOn two second left other)
    → second Head ≡ first Head → later.run ≡ on.run
same_run one two first second images left store other on later same = head_unique later.run on.run (second Head) later.head (subst (IsHead on.run) (sym same) on.head)
