use Rattle.std.proofs.Common.{◌∙◌, arith}
use Rattle.gate_log.proofs.Unique.{length-push}
use Rattle.gate_log.proofs.log.Log.append.Goals as goal

pub returns-clause-any_moment : goal.returns-clause-any_moment
returns-clause-any_moment g c =
    rw (← c.self.view_is) (
    λ tells bodies rests.
    c.add_record.ensures.any_moment tells bodies c.args.body.now
    (record { file = rests.file; at_end = rests.end; is_record = c.deref.ensures.value ∙ c.in_ok-piece.ensures; fits = omega arith })
    )

pub returns-in-Ok-clause-added : goal.returns-in-Ok-clause-added
returns-in-Ok-clause-added g c =
    rw (← c.self.view_is) (
    λ tells bodies rests.
    record {
      file = c.in-Ok.ensures.done tells bodies c.args.body.now
          (record { file = rests.file; at_end = rests.end; is_record = c.deref.ensures.value ∙ c.in_ok-piece.ensures; fits = omega arith });
      end = omega (arith, length-push bodies c.args.body.now, rests.end);
    }
    )

pub returns-in-Ok-clause-any_moment : goal.returns-in-Ok-clause-any_moment
returns-in-Ok-clause-any_moment g c =
    rw (← c.self.view_is) (
    λ tells bodies rests.
    c.add_record.ensures.any_moment tells bodies c.args.body.now
    (record { file = rests.file; at_end = rests.end; is_record = c.deref.ensures.value ∙ c.in_ok-piece.ensures; fits = omega arith })
    )
