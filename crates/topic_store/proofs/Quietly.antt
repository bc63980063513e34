-- A store after calls that change nothing.
use Rattle.std.proofs.Common.{◌≡◌, ℕ, List, map, sym, ◌∙◌, ap, subst}
use Rattle.kap_io.specs.Disk.{Image}
use Rattle.kap_io.specs.Moments.{Quiet, quiet_images}
use Rattle.kap_io.specs.declared.disk.Part.TheVariants.{Head}
use Rattle.gate_log.specs.Head.{IsHead}
use Rattle.gate_log.proofs.Quietly.{rests_quietly}
use Rattle.store_records.specs.Records.{spell_record}
use Rattle.store_records.specs.declared.rec.Rec.{Rec}
use Rattle.topic_store.specs.Stores.{IsOn, StoreState}

-- it is on its disk as before
pub on_quietly : {D : Type 0} (seen : D → Image) (moment : D → ℕ) (may_leave : D → Image → Type 0) (left_since : D → ℕ → Image → Type 0) (old new : D)
    (rs : List Rec) (store : StoreState) → Quiet seen moment may_leave left_since old new → IsOn rs (seen old) (may_leave old) store
    → IsOn rs (seen new) (may_leave new) store
on_quietly seen moment may_leave left_since old new rs store quiet on =
    let reads : seen new Head ≡ seen old Head = ap (λ (i : Image). i Head) quiet.reads in
    record {
      run = on.run;
      head = subst (IsHead on.run) (sym reads) on.head;
      durable = λ c left. on.durable c (quiet_images seen moment may_leave left_since old new quiet c left) ∙ sym reads;
      part = on.part;
      log = rests_quietly seen moment may_leave left_since old new (map spell_record rs) store.log quiet on.log;
      stored = on.stored;
      kept = on.kept;
    }
