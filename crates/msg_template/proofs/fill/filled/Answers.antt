use Rattle.std.proofs.Common.{rules, ◌≡◌, ◌+◌, ◌<◌, take, length, string_bytes}
use Rattle.msg_template.specs.Filling.{whole_text}
use Rattle.msg_template.proofs.FillLaws.{made_enough, put_one}
use Rattle.msg_template.proofs.fill.filled.Goals as goal

pub returns-then-len-gt-TEMPLATE_LIMIT : goal.returns-then-len-gt-TEMPLATE_LIMIT
returns-then-len-gt-TEMPLATE_LIMIT c =
    let is : string_bytes c.put_part.new.out ≡ whole_text c.args.facts.now (take (c.parts.part-index + 1) c.args.parts.now) =
    put_one c.args.facts.now c.args.parts.now c.parts.part-index c.part-item.result (string_bytes c.parts.out) (string_bytes c.put_part.new.out) c.parts-test.true c.part-item.is c.parts.invariant c.in_ok-put_part.ensures in
    let long : 65536 < length (string_bytes c.put_part.new.out) = search rules in
    made_enough 65536 c.args.facts.now c.args.parts.now (c.parts.part-index + 1) (string_bytes c.put_part.new.out) is long
