use Rattle.std.proofs.Common.{◌≤◌}
use Rattle.tick_parser.specs.declared.script.Links.{size-Links}
use Rattle.tick_parser.specs.declared.script.Vals.{size-Vals}
use Rattle.tick_parser.proofs.+script.Given as goal

-- What is left is no deeper than the list at the start, so each element is less deep than it.
abbrev pub invariant-script::Vals::drop-loop-self : goal.invariant-script::Vals::drop-loop-self
invariant-script::Vals::drop-loop-self l = size-Vals l.self ≤ size-Vals l.fn.self

abbrev pub invariant-script::Links::drop-loop-self : goal.invariant-script::Links::drop-loop-self
invariant-script::Links::drop-loop-self l = size-Links l.self ≤ size-Links l.fn.self
