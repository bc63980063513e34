use Rattle.std.proofs.Common.{sym, ◌∙◌}
use Rattle.store_records.specs.Histories.{held}
use Rattle.store_kept.specs.Keeping.{kept_of}
use Rattle.store_kept.proofs.Keeping.{valid_put}
use Rattle.store_kept.proofs.Records.{committed, refused}
use Rattle.store_kept.proofs.taking.take_record.Goals as goal

pub returns-then-not-branch-clause-takes : goal.returns-then-not-branch-clause-takes
returns-then-not-branch-clause-takes c rs body is holds at =
    let may = c.in_ok-may_follow.ensures.may (held rs).transitions holds.topics_are holds.kept.keeps.transitions in
    refused rs c.args.rec.now body (kept_of c.args.kept.now) c.args.topics.now holds is (sym c.if-not-branch.true ∙ may)

pub returns-clause-takes : goal.returns-clause-takes
returns-clause-takes c rs body is holds at =
    let may = c.in_ok-may_follow.ensures.may (held rs).transitions holds.topics_are holds.kept.keeps.transitions in
    committed rs c.args.rec.now body c.args.gate (kept_of c.args.kept.now) (kept_of c.prepare.new.kept) (kept_of c.commit.new.kept) c.args.topics.now c.may_follow.new.topics c.in_ok-parts.parts
    holds at is (sym c.if-not-branch.false ∙ may) c.in_ok-parts.ensures.same c.in_ok-parts.ensures.parts c.commit.ensures
    (c.in_ok-may_follow.ensures.topics (held rs).transitions holds.topics_are c.if-not-branch.false)

pub returns-clause-valid : goal.returns-clause-valid
returns-clause-valid c valid =
    valid_put c.args.rec.now c.args.gate (kept_of c.args.kept.now) (kept_of c.prepare.new.kept) (kept_of c.commit.new.kept) c.in_ok-parts.parts
    c.in_ok-parts.ensures.same c.in_ok-parts.ensures.parts c.commit.ensures (c.in_ok-may_follow.ensures.defines c.if-not-branch.false) valid
