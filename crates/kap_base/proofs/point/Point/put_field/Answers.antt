use Rattle.kap_base.proofs.PointLaws.{with_field}
use Rattle.kap_base.proofs.point.Point.put_field.Goals as goal

pub invariant_of-self-2 : goal.invariant_of-self-2
invariant_of-self-2 c = rw c.in_ok-insert.ensures.ok (with_field _ c.args.name c.args.value c.self.invariant c.requires.name c.requires.value)
