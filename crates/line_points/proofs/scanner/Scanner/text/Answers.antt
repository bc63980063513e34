use Rattle.line_points.proofs.Utf8Laws.{text_at-shorter}
use Rattle.line_points.proofs.scanner.Scanner.text.Goals as goal

pub returns-in-Some-clause-shorter : goal.returns-in-Some-clause-shorter
returns-in-Some-clause-shorter c = rw c.skip.ensures (text_at-shorter c.args.part c.args.self.now.rest.now _ _ c.in-Some.ensures.parts)
