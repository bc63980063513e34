use Rattle.std.proofs.Common.{sym, subst, ◌∙◌}
use Rattle.kap_server.specs.Epochs.{IsAhead}
use Rattle.kap_server.proofs.reading.EpochReader.next.Goals as goal

pub returns-in-Some-clause-epoch : goal.returns-in-Some-clause-epoch
returns-in-Some-clause-epoch g c = λ before ahead.
    subst (IsAhead before c.args.self.now.reader) (sym c.take.ensures.value ∙ c.in-Some.is) ahead _ _
