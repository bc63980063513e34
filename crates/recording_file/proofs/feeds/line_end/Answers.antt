use Rattle.std.proofs.Common.{◌≡◌, ℕ, List, Some, None, drop, subst}
use Rattle.memchr.specs.Find.{IsFirstByte, is_byte}
use Rattle.recording_file.proofs.FeedLaws.{end_found, end_missing}
use Rattle.recording_file.proofs.feeds.line_end.Goals as goal

pub returns-in-Some-clause-end : goal.returns-in-Some-clause-end
returns-in-Some-clause-end c =
    let rest : c.split_at.result.1.now ≡ drop c.args.searched c.args.bytes.now = cc in
    end_found c.args.bytes.now c.args.searched c.in-Some.at c.requires.within c.requires.searched (subst (λ (r : List ℕ). IsFirstByte (is_byte 10) r (Some c.in-Some.at)) rest c.in-Some.ensures)

pub returns-in-None-clause-end : goal.returns-in-None-clause-end
returns-in-None-clause-end c =
    let rest : c.split_at.result.1.now ≡ drop c.args.searched c.args.bytes.now = cc in
    end_missing c.args.bytes.now c.args.searched c.requires.within c.requires.searched (subst (λ (r : List ℕ). IsFirstByte (is_byte 10) r None) rest c.in-None.ensures)
