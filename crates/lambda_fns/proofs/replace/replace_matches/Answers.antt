use Rattle.std.proofs.Common.{rules, ◌≡◌, ◌++◌, ◌+◌, ◌-◌, ◌<◌, ◌≤◌, length, string_bytes, arith, sym, ap, ◌∙◌}
use Rattle.lambda_fns.proofs.ReplaceLaws.{with_places}
use Rattle.lambda_fns.proofs.ReplaceLaws.{step_kept, ended, spent, too_long}
use Rattle.lambda_fns.proofs.replace.replace_matches.Goals as goal
use Rattle.lambda_fns.proofs.replace.replace_matches.Goals.{else-replacing-test, then-replacing-test+in_default}

pub returns-then-len-gt-TEXT_LIMIT : goal.returns-then-len-gt-TEXT_LIMIT
returns-then-len-gt-TEXT_LIMIT c =
    let left : 0 < c.args.count - c.replacing.counter = omega (arith, c.replacing-test.true) in
    let kept = step_kept (c.args.count - c.replacing.counter) c.args.from.now c.args.to.now c.replacing.rest.now (string_bytes c.replacing.made) (with_places c.args.count c.args.from.now c.args.to.now c.args.text.now) c.in-Some.before.now c.in-Some.after.now left c.in-Some.ensures.cases c.replacing.invariant.same in
    let made : string_bytes c.push_str-in-replacing.new.self ≡ (string_bytes c.replacing.made ++ c.in-Some.before.now) ++ c.args.to.now = c.in_ok-push_str-2.ensures.bytes ∙ ap (λ l. l ++ c.args.to.now) c.in_ok-push_str.ensures.bytes in
    let long : 65536 < length (string_bytes c.push_str-in-replacing.new.self) = search rules in
    too_long _ _ _ 65536 kept (rw made at long)

pub replacing-preserved : goal.replacing-preserved
replacing-preserved c =
    let left : 0 < c.args.count - c.replacing.counter = omega (arith, c.replacing-test.true) in
    let kept = step_kept (c.args.count - c.replacing.counter) c.args.from.now c.args.to.now c.replacing.rest.now (string_bytes c.replacing.made) (with_places c.args.count c.args.from.now c.args.to.now c.args.text.now) c.in-Some.before.now c.in-Some.after.now left c.in-Some.ensures.cases c.replacing.invariant.same in
    let made : string_bytes c.push_str-in-replacing.new.self ≡ (string_bytes c.replacing.made ++ c.in-Some.before.now) ++ c.args.to.now = c.in_ok-push_str-2.ensures.bytes ∙ ap (λ l. l ++ c.args.to.now) c.in_ok-push_str.ensures.bytes in
    let next : c.args.count - (c.replacing.counter + 1) ≡ c.args.count - c.replacing.counter - 1 = omega arith in
    record {
      text = search rules;
      same = rw (made, next) kept;
      short = search rules;
    }

pub returns-then-len-gt-TEXT_LIMIT-2 : goal.returns-then-len-gt-TEXT_LIMIT-2
returns-then-len-gt-TEXT_LIMIT-2 c =
    let whole : string_bytes c.replacing.made ++ c.replacing.rest.now ≡ with_places c.args.count c.args.from.now c.args.to.now c.args.text.now =
    elim c.replacing-test.branch [
      | else-replacing-test w ↦ spent (c.args.count - c.replacing.counter) c.args.from.now c.args.to.now c.replacing.rest.now (string_bytes c.replacing.made) _ (omega (arith, w.replacing-test.false)) c.replacing.invariant.same
      | then-replacing-test+in_default w ↦ ended (c.args.count - c.replacing.counter) c.args.from.now c.args.to.now c.replacing.rest.now (string_bytes c.replacing.made) _ w.in_default.ensures.cases c.replacing.invariant.same
    ] in
    let long : 65536 < length (string_bytes c.push_str-2.new.self) = search rules in
    rw (sym whole, ← c.in_ok-push_str-3.ensures.bytes) long

pub returns : goal.returns
returns c =
    let whole : string_bytes c.replacing.made ++ c.replacing.rest.now ≡ with_places c.args.count c.args.from.now c.args.to.now c.args.text.now =
    elim c.replacing-test.branch [
      | else-replacing-test w ↦ spent (c.args.count - c.replacing.counter) c.args.from.now c.args.to.now c.replacing.rest.now (string_bytes c.replacing.made) _ (omega (arith, w.replacing-test.false)) c.replacing.invariant.same
      | then-replacing-test+in_default w ↦ ended (c.args.count - c.replacing.counter) c.args.from.now c.args.to.now c.replacing.rest.now (string_bytes c.replacing.made) _ w.in_default.ensures.cases c.replacing.invariant.same
    ] in
    let short : length (string_bytes c.push_str-2.new.self) ≤ 65536 = search rules in
    let all = c.in_ok-push_str-3.ensures.bytes ∙ whole in
    (all, rw all at short)
