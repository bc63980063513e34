use Rattle.std.proofs.Common.{◌+◌, ◌++◌, ap, sym, ◌∙◌, append_assoc, arith}
use Rattle.recording_file.specs.Printed.{record_text}
use Rattle.sample_points.specs.Samples.{sample_of, sample_text}
use Rattle.sample_replay.proofs.RecordLaws.{text_next}
use Rattle.sample_replay.proofs.records.records_behind.Goals as goal

pub recording-preserved : goal.recording-preserved
recording-preserved c =
    let n = c.recording.number in
    let record_is = record_text (sample_of (n + 1)) in
    let before = c.recording.invariant in
    record {
      after = let low = before.after in omega arith;
      within = let more = c.recording-test.true in omega arith;
      text = text_next n ∙ ap (λ l. l ++ record_is) before.text ∙ append_assoc (sample_text c.args.from) c.recording.text record_is
          ∙ ap (λ l. sample_text c.args.from ++ l) (sym c.in_ok-put_record.ensures);
    }
