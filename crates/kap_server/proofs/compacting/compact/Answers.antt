use Rattle.std.proofs.Common.{sym, subst}
use Rattle.kap_io.specs.Moments.{Quiet}
use Rattle.kap_server.specs.Compacting.{CompactedTo, EndsCompaction, OpensToCompact}
use Rattle.kap_server.specs.declared.status.Status.{Status}
use Rattle.kap_server.proofs.CompactLaws.{compact_asked, compact_done, compact_failed, compact_none, none_compacted, opened_then_compacted, opened_whole, opening_compacts}
use Rattle.kap_server.proofs.compacting.compact.Goals as goal

-- ---- the store isn't opened

pub returns-in-Err-clause-ends : goal.returns-in-Err-clause-ends
returns-in-Err-clause-ends g c = subst EndsCompaction (sym c.from.ensures) (opening_compacts c.in-Err.fault c.in-Err.ensures.faults)

pub returns-in-Err-clause-compacted : goal.returns-in-Err-clause-compacted
returns-in-Err-clause-compacted g c = λ tells rs stands good.
    let before = g.P.Patterns.refusals c.args.pats.now in
    let after = g.P.Patterns.refusals c.make_engine.new.pats in
    let seen = g.D.Disk.seen c.make_engine.new.disk in
    let images = g.D.Disk.may_leave c.make_engine.new.disk in
    record {
      ends =
          subst (λ (s : Status). CompactedTo g.N.Node g.N.ScriptNode.planned rs before after seen images s) (sym c.from.ensures)
          (none_compacted g.N.Node g.N.ScriptNode.planned rs before after seen images c.in-Err.fault c.in-Err.ensures.faults (c.in-Err.ensures.rose tells rs stands good));
      any_moment = opened_whole g.N.Node g.N.ScriptNode.planned rs g.D.Disk.moment g.D.Disk.may_leave g.D.Disk.left_since _ _ (c.make_engine.ensures.any_moment tells rs stands good);
    }

pub returns-in-Err-clause-opened : goal.returns-in-Err-clause-opened
returns-in-Err-clause-opened g c = λ tells.
    let before = g.P.Patterns.refusals c.args.pats.now in
    let after = g.P.Patterns.refusals c.make_engine.new.pats in
    let refused = g.P.Patterns.refused c.make_engine.new.pats in
    let still = Quiet g.D.Disk.seen g.D.Disk.moment g.D.Disk.may_leave g.D.Disk.left_since c.args.disk.now c.make_engine.new.disk in
    let files = g.D.Disk.seen c.args.disk.now in
    subst (λ (s : Status). OpensToCompact g.N.Node g.N.ScriptNode.planned before after refused still files s) (sym c.from.ensures)
    (compact_none g.N.Node g.N.ScriptNode.planned before after refused still files c.in-Err.fault c.in-Err.ensures.faults
    (λ part offset e. (c.in-Err.ensures.refused tells part offset e, c.in-Err.ensures.still tells part offset e)))

-- ---- it is compacted

pub returns-in-Ok-compact-clause-compacted : goal.returns-in-Ok-compact-clause-compacted
returns-in-Ok-compact-clause-compacted g c = λ tells rs stands good.
    let made = c.in-Ok.ensures.made tells rs stands good in
    record {
      ends =
          compact_done g.N.Node g.N.ScriptNode.planned rs (g.D.Disk.seen c.make_engine.new.disk) (g.D.Disk.may_leave c.make_engine.new.disk) c.in-Ok.engine c.compact.new.self (g.D.Disk.seen c.compact.new.disk) (g.D.Disk.may_leave c.compact.new.disk)
          made (c.in-Ok-compact.ensures.compacted tells made.records made.engine);
      any_moment =
          opened_then_compacted g.N.Node g.N.ScriptNode.planned rs g.D.Disk.seen g.D.Disk.moment g.D.Disk.may_leave g.D.Disk.left_since _ _ _ c.in-Ok.engine made
          (c.make_engine.ensures.any_moment tells rs stands good) (c.compact.ensures.any_moment tells made.records made.engine);
    }

pub returns-in-Ok-compact-clause-opened : goal.returns-in-Ok-compact-clause-opened
returns-in-Ok-compact-clause-opened g c = λ tells.
    let opened = c.in-Ok.ensures.opened tells in
    record { records = opened.0; stands = opened.1; asked = opened.2 }

-- ---- it isn't

pub returns-clause-ends : goal.returns-clause-ends
returns-clause-ends g c = subst EndsCompaction (sym c.from-in-Err-compact.ensures) (opening_compacts c.in-Err-compact.fault c.in-Err-compact.ensures.faults)

pub returns-clause-compacted : goal.returns-clause-compacted
returns-clause-compacted g c = λ tells rs stands good.
    let made = c.in-Ok.ensures.made tells rs stands good in
    let before = g.P.Patterns.refusals c.args.pats.now in
    let after = g.P.Patterns.refusals c.make_engine.new.pats in
    let seen = g.D.Disk.seen c.compact.new.disk in
    let images = g.D.Disk.may_leave c.compact.new.disk in
    record {
      ends =
          subst (λ (s : Status). CompactedTo g.N.Node g.N.ScriptNode.planned rs before after seen images s) (sym c.from-in-Err-compact.ensures)
          (compact_failed g.N.Node g.N.ScriptNode.planned rs before after seen images c.in-Err-compact.fault (c.in-Err-compact.ensures.failed tells made.records made.engine));
      any_moment =
          opened_then_compacted g.N.Node g.N.ScriptNode.planned rs g.D.Disk.seen g.D.Disk.moment g.D.Disk.may_leave g.D.Disk.left_since _ _ _ c.in-Ok.engine made
          (c.make_engine.ensures.any_moment tells rs stands good) (c.compact.ensures.any_moment tells made.records made.engine);
    }

pub returns-clause-opened : goal.returns-clause-opened
returns-clause-opened g c = λ tells.
    let opened = c.in-Ok.ensures.opened tells in
    let before = g.P.Patterns.refusals c.args.pats.now in
    let after = g.P.Patterns.refusals c.make_engine.new.pats in
    let refused = g.P.Patterns.refused c.make_engine.new.pats in
    let still = Quiet g.D.Disk.seen g.D.Disk.moment g.D.Disk.may_leave g.D.Disk.left_since c.args.disk.now c.compact.new.disk in
    let files = g.D.Disk.seen c.args.disk.now in
    subst (λ (s : Status). OpensToCompact g.N.Node g.N.ScriptNode.planned before after refused still files s) (sym c.from-in-Err-compact.ensures)
    (compact_asked g.N.Node g.N.ScriptNode.planned before after refused still files c.in-Err-compact.fault c.in-Err-compact.ensures.faults (record { records = opened.0; stands = opened.1; asked = opened.2 })
    (λ good. let made = c.in-Ok.ensures.made tells opened.0 opened.1 good in c.in-Err-compact.ensures.failed tells made.records made.engine))
