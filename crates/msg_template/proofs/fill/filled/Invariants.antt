use Rattle.std.proofs.Common.{◌≡◌, take, string_bytes}
use Rattle.msg_template.specs.Filling.{whole_text}
use Rattle.msg_template.proofs.fill.filled.Given as goal

-- what was passed is put
abbrev pub invariant-parts : goal.invariant-parts
invariant-parts l = string_bytes l.out ≡ whole_text l.facts (take l.part-index l.parts)
