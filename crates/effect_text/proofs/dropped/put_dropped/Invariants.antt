use Rattle.std.proofs.Common.{◌≡◌, ◌++◌, drop}
use Rattle.effect_text.specs.Lines.{dropped_text}
use Rattle.effect_text.proofs.dropped.put_dropped.Given as goal

-- what was added and what is still due are the lines of the whole
abbrev pub invariant-putting : goal.invariant-putting
invariant-putting l =
    l.text ++ dropped_text (drop l.task-index l.tasks) l.rest ≡ l.initial.text ++ dropped_text l.tasks l.counts
