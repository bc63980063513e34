use Rattle.std.proofs.Common.{◌≡◌, ◌∷◌, false, subst, sym}
use Rattle.std.specs.List.{AllZip}
use Rattle.kap_server.specs.Parts.{HasTold}
use Rattle.kap_server.proofs.parts.+run_in_turn.Goals as goal

pub returns-in-Some : goal.returns-in-Some
returns-in-Some g t c =
    subst (λ parts. AllZip (λ p q. q.failed ≡ false → HasTold g.N.Node.answer c.args.names.now c.args.points.now.items p.run q.run q.told) parts (c.run_part.new.part ∷ c.run_in_turn.new.parts)) (sym c.in-Some.ensures.cases.0)
    (c.run_part.ensures, c.run_in_turn.ensures)
