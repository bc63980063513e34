-- What is kept behind a batch.
use Rattle.std.proofs.Common.{◌≡◌, ℕ, ◌++◌, List, append-nil, sym}
use Rattle.std.specs.Option.{option_to_list}
use Rattle.kap_base.specs.Points.{PointValue}
use Rattle.store_records.specs.declared.rec.Rec.TheVariants as kinds
use Rattle.store_kept.specs.Changing.{ArePartsFor, kept_with}
use Rattle.store_kept.specs.Keeping.{KeptValue}
use Rattle.store_kept.specs.declared.kept.Mark.{Mark}
use Rattle.store_kept.specs.declared.parts.Parts.{Parts}

-- only its mark and the numbers are new
pub batch_kept : (at : ℕ) (db rp : List ℕ) (points : List PointValue) (k : KeptValue) (parts : Parts) → ArePartsFor at (kinds.Batch db rp points) k parts
    → (marks : List Mark) → marks ≡ k.marks ++ option_to_list parts.mark
    → ◌≡◌ {A = KeptValue} (record { tasks = k.tasks; lives = k.lives; points = parts.points; transitions = parts.transitions; changes = parts.changes; snap = k.snap; marks = marks })
    (kept_with at (kinds.Batch db rp points) parts.mark k)
batch_kept at db rp points k parts are marks is = λ i. record {
  tasks = k.tasks;
  lives = sym (append-nil k.lives) i;
  points = are.points i;
  transitions = are.transitions i;
  changes = are.changes i;
  snap = k.snap;
  marks = is i;
}
