use Rattle.std.proofs.Common.{ℕ, refl, arith, length-take}
use Rattle.gate_log.proofs.Found.{closed_there, record_there, cut_there}
use Rattle.gate_log.proofs.read.next_gate.Goals as goal

pub returns-in-Open-clause-found : goal.returns-in-Open-clause-found
returns-in-Open-clause-found g c =
    λ tells is_size. record_there c.args.gate c.args.size _ c.fill.new.buf _ is_size c.requires (omega (arith, length-take {A = ℕ}))
    (c.in_ok-fill.ensures.bytes tells) (omega (arith, length-take {A = ℕ})) _ c.in-Open.ensures

pub returns-in-Torn-clause-found : goal.returns-in-Torn-clause-found
returns-in-Torn-clause-found g c =
    λ tells is_size. (
      refl,
      cut_there c.args.gate c.args.size _ c.fill.new.buf _ is_size c.requires (omega (arith, length-take {A = ℕ}))
          (c.in_ok-fill.ensures.bytes tells) (omega (arith, length-take {A = ℕ})) c.in-Torn.ensures,
    )

pub returns-in-Closed-clause-found : goal.returns-in-Closed-clause-found
returns-in-Closed-clause-found g c =
    λ tells is_size. closed_there c.args.gate c.args.size _ c.fill.new.buf _ is_size c.requires (omega (arith, length-take {A = ℕ}))
    (c.in_ok-fill.ensures.bytes tells) (omega (arith, length-take {A = ℕ})) c.in-Closed.ensures
