use Rattle.std.proofs.Common.{◌≡◌, ◌++◌, drop}
use Rattle.effect_text.specs.Lines.{dropped_lines}
use Rattle.effect_text.proofs.dropped.put_lines.Given as goal

-- what was added and what is still due are the lines of the whole
abbrev pub invariant-putting : goal.invariant-putting
invariant-putting l =
    l.text ++ dropped_lines l.task.id (drop l.node-index l.task.nodes) l.rest ≡ l.initial.text ++ dropped_lines l.task.id l.task.nodes l.counts
