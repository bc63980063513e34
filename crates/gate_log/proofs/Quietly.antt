-- A log after calls that change nothing.
use Rattle.std.proofs.Common.{◌≡◌, ℕ, List, sym, ◌∙◌, ap, subst}
use Rattle.kap_io.specs.Disk.{Image}
use Rattle.kap_io.specs.Moments.{Quiet, quiet_images}
use Rattle.gate_log.specs.Bodies.{IsLog}
use Rattle.gate_log.specs.Logs.{LogState, Rests}

-- it rests as before
pub rests_quietly : {D : Type 0} (seen : D → Image) (moment : D → ℕ) (may_leave : D → Image → Type 0)
    (left_since : D → ℕ → Image → Type 0) (old new : D) (bodies : List (List ℕ)) (log : LogState)
    → Quiet seen moment may_leave left_since old new → Rests bodies (seen old) (may_leave old) log
    → Rests bodies (seen new) (may_leave new) log
rests_quietly seen moment may_leave left_since old new bodies log quiet rests =
    let reads : seen new log.part ≡ seen old log.part = ap (λ (i : Image). i log.part) quiet.reads in
    record {
      file = record {
        bytes = subst (IsLog bodies) (sym reads) rests.file.bytes;
        durable = λ c left. rests.file.durable c (quiet_images seen moment may_leave left_since old new quiet c left) ∙ sym reads;
      };
      end = rests.end;
    }
