use Rattle.std.proofs.lemmas.Result.{IfOk-weaker}
use Rattle.lambda_fns.proofs.LineLaws.{trim_line}
use Rattle.lambda_fns.proofs.texts.trim_space.Goals as goal

pub returns-clause-line : goal.returns-clause-line
returns-clause-line c = λ line. IfOk-weaker c.from_str.result _ _ (λ made e. rw e (trim_line c.args.text.now c.trim.result.now c.trim.ensures.value c.trim.utf8 line)) c.from_str.ensures.text
