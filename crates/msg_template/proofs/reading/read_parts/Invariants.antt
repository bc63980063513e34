use Rattle.std.proofs.Common.{◌≡◌, ◌+◌, ◌++◌, length, List}
use denote.Text.{Utf8}
use denote.Shadow.{shadow}
use Rattle.msg_template.specs.declared.fault.TemplateFault.{TemplateFault}
use Rattle.msg_template.specs.declared.template.Part.{Part}
use Rattle.msg_template.specs.Reading.{Reads, Refuses}
use Rattle.msg_template.proofs.reading.read_parts.Given as goal

-- what the rest is read as, behind the parts so far, is what the text is read as
abbrev pub invariant-parts : goal.invariant-parts
invariant-parts l = record {
  text : shadow (Utf8 l.rest);
  place : l.at + length l.rest ≡ length l.fn.text;
  reads : (others : List Part) → Reads l.of_id l.rest others → Reads l.of_id l.fn.text (l.parts.items ++ others);
  refuses : (fault : TemplateFault) → Refuses l.of_id l.rest l.at fault → Refuses l.of_id l.fn.text 0 fault;
}

abbrev pub decreases-parts : goal.decreases-parts
decreases-parts l = length l.rest
