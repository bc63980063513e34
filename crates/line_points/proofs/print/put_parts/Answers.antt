use Rattle.line_points.proofs.PrintLaws.{kept_on, kept_before}
use Rattle.line_points.proofs.print.put_parts.Goals as goal

pub returns-in_err-put_fields-clause-before : goal.returns-in_err-put_fields-clause-before
returns-in_err-put_fields-clause-before c =
    kept_on c.args.out.now c.push.new.self c.put_fields.new.out
    (kept_on c.args.out.now c.put_tags.new.out c.push.new.self
    (kept_on c.args.out.now c.put_part.new.out c.put_tags.new.out c.put_part.ensures.before c.put_tags.ensures.before)
    (kept_before c.put_tags.new.out c.push.new.self _ c.in_ok-push.ensures.ok))
    c.put_fields.ensures.before

pub returns-clause-before : goal.returns-clause-before
returns-clause-before c =
    kept_on c.args.out.now c.push-2.new.self c.put_number.new.out
    (kept_on c.args.out.now c.put_fields.new.out c.push-2.new.self
    (kept_on c.args.out.now c.push.new.self c.put_fields.new.out
    (kept_on c.args.out.now c.put_tags.new.out c.push.new.self
    (kept_on c.args.out.now c.put_part.new.out c.put_tags.new.out c.put_part.ensures.before c.put_tags.ensures.before)
    (kept_before c.put_tags.new.out c.push.new.self _ c.in_ok-push.ensures.ok))
    c.put_fields.ensures.before)
    (kept_before c.put_fields.new.out c.push-2.new.self _ c.in_ok-push-2.ensures.ok))
    c.put_number.ensures.before
