use Rattle.std.proofs.Common.{◌≡◌, ◌≤◌, ◌+◌, refl, arith}
use Rattle.effect_text.proofs.PieceLaws.{merging_begins, merging_ends, merging_on}
use Rattle.effect_text.specs.Pieces.{PieceValue, merged}
use Rattle.effect_text.proofs.merging.put_merged.Goals as goal

pub merging-init : goal.merging-init
merging-init c = merging_begins c.args.topics.now c.args.text.now c.args.from c.args.count 0 c.args.parts.now refl

pub merging-preserved : goal.merging-preserved
merging-preserved c =
    let next : c.in-Some.next ≡ c.merging.stamp + 1 = omega (arith, c.in-Some.ensures) in
    merging_on c.args.topics.now c.merging.topics c.put_fronts.new.topics c.args.text.now c.merging.text c.put_fronts.new.text c.merging.stamp c.in-Some.next c.args.count c.merging.counter
    (merged (λ (p : PieceValue). p.stamp) c.args.from c.args.count c.args.parts.now) c.merging.parts c.put_fronts.new.parts c.merging-test.true next c.in_ok-put_fronts.ensures.rests c.in_ok-put_fronts.ensures.told c.merging.invariant

pub returns : goal.returns
returns c =
    let all : c.args.count ≤ c.merging.counter = omega (arith, c.merging-test.false) in
    merging_ends c.args.topics.now c.merging.topics c.args.text.now c.merging.text c.merging.stamp c.args.count c.merging.counter
    (merged (λ (p : PieceValue). p.stamp) c.args.from c.args.count c.args.parts.now) c.merging.parts all c.merging.invariant
