use Rattle.tick_compile.proofs.TypingLaws.{truth_is}
use Rattle.tick_compile.proofs.typing.can_be_true.Goals as goal

pub returns : goal.returns
returns c = truth_is c.args.lambda.now c.can_be.result c.can_be.ensures.answer
