use Rattle.std.proofs.Common.{subst}
use Rattle.kap_base.specs.Points.{IsPoint}
use Rattle.state_code.proofs.PointLaws.{tests_of_point}
use Rattle.kap_base.proofs.ResultLaws.{on_ok}
use Rattle.state_code.proofs.points.PointSpelled.append_spelling.Goals as goal

pub returns-clause-fits : goal.returns-clause-fits
returns-clause-fits c =
    let holds = subst IsPoint c.self.view_is c.self.invariant in
    on_ok c.append_rest.result (λ rest. ((c.in_ok-append_named.ensures.fits, (c.in_ok-append_maps.ensures.fits, rest)), tests_of_point c.args.self.now holds)) c.append_rest.ensures.fits
