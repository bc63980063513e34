use Rattle.std.proofs.Common.{ap, arith}
use Rattle.kap_service.specs.Values.{Sharing}
use Rattle.kap_service.proofs.shared.Shared.close.Goals as goal

pub returns-clause-below : goal.returns-clause-below
returns-clause-below g c owned store left =
    let below = c.ended.ensures.below owned store left in
    let all = c.ended.ensures.changes in
    let view = ap (λ (s : Sharing). s.began) c.self.view_is in
    let began = c.self.invariant.0 in
    omega arith
