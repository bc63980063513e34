use Rattle.std.proofs.Common.{◌≡◌, None, arith, subst}
use Rattle.state_code.specs.Places.{Place}
use Rattle.state_code.specs.Spelling.{value_then}
use Rattle.store_records.specs.Records.{read_record}
use Rattle.store_records.proofs.BodyLaws.{is_body, more_is_none, none_is_none}
use Rattle.store_records.proofs.records.read_record.Goals as goal

pub returns-then-is_done : goal.returns-then-is_done
returns-then-is_done c =
    is_body c.args.body.now c.in-Ok.rec c.read_any.new.from.rest (λ i. omega (arith, c.type_inv.body i))
    (subst (λ (p : Place). read_record p.rest ≡ value_then c.in-Ok.rec c.read_any.new.from.rest) c.new-from.ensures c.in-Ok.ensures.reads) c.if-is_done.ensures

pub returns-else-is_done : goal.returns-else-is_done
returns-else-is_done c =
    more_is_none c.args.body.now c.in-Ok.rec c.read_any.new.from.rest
    (subst (λ (p : Place). read_record p.rest ≡ value_then c.in-Ok.rec c.read_any.new.from.rest) c.new-from.ensures c.in-Ok.ensures.reads) c.if-is_done.ensures

pub returns-in-Err-At : goal.returns-in-Err-At
returns-in-Err-At c =
    none_is_none c.args.body.now
    (subst (λ (p : Place). read_record p.rest ≡ None) c.new-from.ensures (rw c.in-Err-At.field-0-is at c.in-Err-At.ensures))
