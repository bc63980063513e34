use Rattle.std.specs.Prelude.{false}
use Rattle.tick_compile.proofs.TemplateLaws.{answered}
use Rattle.tick_compile.proofs.templates.message_template.Goals as goal

pub returns : goal.returns
returns c = let laws = c.one_meaning.ensures in answered laws.parts laws.fault laws.apart false c.args.text.now c.read.result c.read.ensures.ok c.read.ensures.err
