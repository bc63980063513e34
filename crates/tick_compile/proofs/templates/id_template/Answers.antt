use Rattle.std.specs.Prelude.{true}
use Rattle.tick_compile.proofs.TemplateLaws.{answered}
use Rattle.tick_compile.proofs.templates.id_template.Goals as goal

pub returns : goal.returns
returns c = let laws = c.one_meaning.ensures in answered laws.parts laws.fault laws.apart true c.args.text.now c.read_id.result c.read_id.ensures.ok c.read_id.ensures.err
