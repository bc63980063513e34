use Rattle.std.proofs.Common.{◌≡◌, [], drop}
use Rattle.tick_parser.specs.Refusal.{ended}
use Rattle.tick_parser.specs.Machine.{run, Between}
use Rattle.tick_parser.specs.States.{state_of, IsCountedState}
use Rattle.tick_parser.proofs.parser.read.Given as goal

-- Over the tokens that are left the run from here is the run over all from the start.
abbrev pub invariant-loop-token : goal.invariant-loop-token
invariant-loop-token l = record {
  same : run 64 512 4096 (drop l.token-index l.tokens) (state_of l.state) ≡ run 64 512 4096 l.tokens (Between []);
  counted : IsCountedState l.state;
  place : ended l.end (drop l.token-index l.tokens) ≡ ended 0 l.tokens;
}
