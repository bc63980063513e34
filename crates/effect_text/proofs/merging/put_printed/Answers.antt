use Rattle.std.proofs.lemmas.Result.{on_ok_weaker}
use Rattle.effect_text.proofs.PieceLaws.{merged_told, told_text, told_topics}
use Rattle.effect_text.specs.Pieces.{by_stamp, side_by_side}
use Rattle.effect_text.proofs.merging.put_printed.Goals as goal

pub returns-clause-text : goal.returns-clause-text
returns-clause-text c = λ tasks events fs stands have are.
    on_ok_weaker c.put_merged.result (λ told. told_text tasks events c.args.topics.now c.put_merged.new.topics c.args.text.now c.put_merged.new.text _ (by_stamp c.args.from c.args.count (side_by_side fs)) told
    (merged_told tasks c.args.from c.args.count fs _ have are) stands) c.put_merged.ensures

pub returns-clause-topics : goal.returns-clause-topics
returns-clause-topics c = λ tasks events fs stands have are.
    on_ok_weaker c.put_merged.result (λ told. told_topics tasks events c.args.topics.now c.put_merged.new.topics c.args.text.now c.put_merged.new.text _ (by_stamp c.args.from c.args.count (side_by_side fs)) told
    (merged_told tasks c.args.from c.args.count fs _ have are) stands) c.put_merged.ensures
