use Rattle.std.proofs.Common.{rules, ◌≡◌, ◌++◌, ◌<◌, ◌≤◌, length, string_bytes, sym, ap, ◌∙◌}
use Rattle.std.proofs.lemmas.Str.{IsUtf8-past_char, chars_past_char}
use Rattle.std.specs.Char.{encode_utf8}
use Rattle.std.specs.Str.{chars}
use Rattle.lambda_fns.proofs.ReplaceLaws.{between}
use Rattle.lambda_fns.specs.Texts.{piece}
use Rattle.lambda_fns.proofs.ReplaceLaws.{spread_kept, spread_done, too_long}
use Rattle.lambda_fns.proofs.replace.insert_between.Goals as goal

pub returns-then-len-gt-TEXT_LIMIT : goal.returns-then-len-gt-TEXT_LIMIT
returns-then-len-gt-TEXT_LIMIT c =
    let steps = c.in-Some.ensures.steps in
    let split = chars_past_char c.inserting.character-iterator.rest.now c.next.new.self.rest.now c.in-Some.character c.inserting.invariant.text steps.0 in
    let kept = spread_kept c.inserting.left c.args.to.now (chars c.next.new.self.rest.now) (string_bytes c.inserting.made) (between c.args.count c.args.to.now (chars c.args.text.now)) c.in-Some.character (rw split at c.inserting.invariant.same) in
    let made : string_bytes c.push.new.self ≡ (string_bytes c.inserting.made ++ piece c.inserting.left c.args.to.now) ++ encode_utf8 c.in-Some.character = c.in_ok-push.ensures.bytes ∙ ap (λ l. l ++ encode_utf8 c.in-Some.character) c.in_ok-left.ensures.bytes in
    let long : 65536 < length (string_bytes c.push.new.self) = search rules in
    too_long _ _ _ 65536 kept (rw made at long)

pub inserting-preserved : goal.inserting-preserved
inserting-preserved c =
    let steps = c.in-Some.ensures.steps in
    let split = chars_past_char c.inserting.character-iterator.rest.now c.next.new.self.rest.now c.in-Some.character c.inserting.invariant.text steps.0 in
    let kept = spread_kept c.inserting.left c.args.to.now (chars c.next.new.self.rest.now) (string_bytes c.inserting.made) (between c.args.count c.args.to.now (chars c.args.text.now)) c.in-Some.character (rw split at c.inserting.invariant.same) in
    let made : string_bytes c.push.new.self ≡ (string_bytes c.inserting.made ++ piece c.inserting.left c.args.to.now) ++ encode_utf8 c.in-Some.character = c.in_ok-push.ensures.bytes ∙ ap (λ l. l ++ encode_utf8 c.in-Some.character) c.in_ok-left.ensures.bytes in
    record {
      text = IsUtf8-past_char c.inserting.character-iterator.rest.now c.next.new.self.rest.now c.in-Some.character c.inserting.invariant.text steps.0;
      same = rw (made, c.in_ok-left.ensures.left) kept;
      short = search rules;
    }

pub returns-then-len-gt-TEXT_LIMIT-2 : goal.returns-then-len-gt-TEXT_LIMIT-2
returns-then-len-gt-TEXT_LIMIT-2 c =
    let done = spread_done c.inserting.left c.args.to.now c.inserting.character-iterator.rest.now (string_bytes c.inserting.made) _ c.in-None.ensures.steps.0.0 c.inserting.invariant.same in
    let long : 65536 < length (string_bytes c.push_if_left-2.new.made) = search rules in
    rw (sym done, ← c.in_ok-push_if_left.ensures.bytes) long

pub returns : goal.returns
returns c =
    let done = spread_done c.inserting.left c.args.to.now c.inserting.character-iterator.rest.now (string_bytes c.inserting.made) _ c.in-None.ensures.steps.0.0 c.inserting.invariant.same in
    let short : length (string_bytes c.push_if_left-2.new.made) ≤ 65536 = search rules in
    let all = c.in_ok-push_if_left.ensures.bytes ∙ done in
    (all, rw all at short)
