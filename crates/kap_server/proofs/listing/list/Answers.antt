use Rattle.std.proofs.Common.{inr, Err, List, ℕ, sym, subst, ◌∙◌}
use Rattle.kap_io.specs.Moments.{quiet_then}
use Rattle.store_records.specs.Histories.{held}
use Rattle.store_lists.specs.Writing.{Lists}
use Rattle.kap_server.specs.Listing.{AreAsked, IsOfList, Opens, Shows, all_transitions, held_whole, list_text}
use Rattle.kap_server.specs.declared.status.Status.{Status}
use Rattle.kap_server.specs.declared.status.Status.TheVariants as statuses
use Rattle.kap_server.specs.declared.words.Listing.{Listing}
use Rattle.kap_server.specs.declared.words.Listing.TheVariants.{Alerts}
use Rattle.kap_server.proofs.ExportLaws.{tells_as_replay}
use Rattle.kap_server.proofs.ListLaws.{behind_quietly, engine_ends, good_then_quiet, leaves_full, list_ends, list_whole, no_place, opens_asked, opens_none, others_listed, place_of_opening, shows_fault, shows_none, topics_whole}
use Rattle.kap_server.proofs.listing.list.Goals as goal

pub returns-in-Err-clause-rose : goal.returns-in-Err-clause-rose
returns-in-Err-clause-rose g c = λ tells rs good stands part offset e. c.in-Err.ensures.rose tells rs stands good part offset (place_of_opening c.in-Err.fault part offset c.in-Err.ensures.faults (sym c.from.ensures ∙ e))

pub returns-in-Err-clause-opened : goal.returns-in-Err-clause-opened
returns-in-Err-clause-opened g c = λ tells.
    let before = g.P.Patterns.refusals c.args.pats.now in
    let after = g.P.Patterns.refusals c.make_engine.new.pats in
    let refused = g.P.Patterns.refused c.make_engine.new.pats in
    let files = g.D.Disk.seen c.args.disk.now in
    subst (λ (s : Status). Opens g.N.Node g.N.ScriptNode.planned before after refused files s) (sym c.from.ensures)
    (opens_none g.N.Node g.N.ScriptNode.planned before after refused files c.in-Err.fault c.in-Err.ensures.faults (c.in-Err.ensures.refused tells))

pub returns-in-Err-clause-any_moment : goal.returns-in-Err-clause-any_moment
returns-in-Err-clause-any_moment g c = λ tells rs good stands. c.make_engine.ensures.any_moment tells rs stands good

pub returns-in-Err-clause-again : goal.returns-in-Err-clause-again
returns-in-Err-clause-again g c = λ tells rs full stands. c.make_engine.ensures.again tells rs stands full

-- ---- the list was written

pub returns-in-Ok-write_list-clause-shown : goal.returns-in-Ok-write_list-clause-shown
returns-in-Ok-write_list-clause-shown g c = λ tells rs good stands.
    let made = c.in-Ok.ensures.made tells rs stands good in
    let seen = g.D.Disk.seen c.make_engine.new.disk in
    let images = g.D.Disk.may_leave c.make_engine.new.disk in
    let one = c.scripts_have_one_answer.ensures.task in
    let w = g.K.Sink.written c.args.out.now in
    let v = g.K.Sink.written c.write_list.new.out in
    subst (λ (text : List ℕ). Shows text statuses.Ok w v) (sym (list_whole g.N.Node g.N.ScriptNode.planned one rs good seen images c.in-Ok.engine made c.args.listing))
    (c.in-Ok-write_list.ensures.lists tells made.records made.engine.on (topics_whole g.N.Node g.N.ScriptNode.planned one rs good seen images c.in-Ok.engine made c.kept_laws.ensures.one))

pub returns-in-Ok-write_list-clause-any_moment : goal.returns-in-Ok-write_list-clause-any_moment
returns-in-Ok-write_list-clause-any_moment g c = λ tells rs good stands.
    good_then_quiet g.N.Node g.N.ScriptNode.planned rs g.D.Disk.seen g.D.Disk.moment g.D.Disk.may_leave g.D.Disk.left_since _ _ _ (c.make_engine.ensures.any_moment tells rs stands good) (c.write_list.ensures.quiet tells)

pub returns-in-Ok-write_list-clause-full : goal.returns-in-Ok-write_list-clause-full
returns-in-Ok-write_list-clause-full g c = λ tells rs good stands ok.
    let seen = g.D.Disk.seen c.write_list.new.disk in
    let images = g.D.Disk.may_leave c.write_list.new.disk in
    let made = behind_quietly g.N.Node g.N.ScriptNode.planned rs c.in-Ok.engine g.D.Disk.seen g.D.Disk.moment g.D.Disk.may_leave g.D.Disk.left_since _ _ (c.write_list.ensures.quiet tells) (c.in-Ok.ensures.made tells rs stands good) in
    leaves_full g.N.Node g.N.ScriptNode.planned c.scripts_have_one_answer.ensures.task rs good seen images c.in-Ok.engine made

pub returns-in-Ok-write_list-clause-again : goal.returns-in-Ok-write_list-clause-again
returns-in-Ok-write_list-clause-again g c = λ tells rs full stands.
    quiet_then g.D.Disk.seen g.D.Disk.moment g.D.Disk.may_leave g.D.Disk.left_since _ _ _ (c.make_engine.ensures.again tells rs stands full) (c.write_list.ensures.quiet tells)

-- ---- it wasn't, or not whole

pub returns-clause-shown : goal.returns-clause-shown
returns-clause-shown g c = λ tells rs good stands.
    let made = c.in-Ok.ensures.made tells rs stands good in
    let seen = g.D.Disk.seen c.make_engine.new.disk in
    let images = g.D.Disk.may_leave c.make_engine.new.disk in
    let one = c.scripts_have_one_answer.ensures.task in
    let w = g.K.Sink.written c.args.out.now in
    let v = g.K.Sink.written c.write_list.new.out in
    subst (λ (s : Status). Shows (list_text c.args.listing (held_whole g.N.Node g.N.ScriptNode.planned rs good)) s w v) (sym c.from-in-Err-write_list.ensures)
    (shows_fault c.in-Err-write_list.fault (list_text c.args.listing (held_whole g.N.Node g.N.ScriptNode.planned rs good)) w v
    (subst (λ (text : List ℕ). Lists {T = Unit {0}} (Err c.in-Err-write_list.fault) text w v) (sym (list_whole g.N.Node g.N.ScriptNode.planned one rs good seen images c.in-Ok.engine made c.args.listing))
    (c.in-Err-write_list.ensures.lists tells made.records made.engine.on (topics_whole g.N.Node g.N.ScriptNode.planned one rs good seen images c.in-Ok.engine made c.kept_laws.ensures.one))))

pub returns-clause-any_moment : goal.returns-clause-any_moment
returns-clause-any_moment g c = λ tells rs good stands.
    good_then_quiet g.N.Node g.N.ScriptNode.planned rs g.D.Disk.seen g.D.Disk.moment g.D.Disk.may_leave g.D.Disk.left_since _ _ _ (c.make_engine.ensures.any_moment tells rs stands good) (c.write_list.ensures.quiet tells)

pub returns-clause-again : goal.returns-clause-again
returns-clause-again g c = λ tells rs full stands.
    quiet_then g.D.Disk.seen g.D.Disk.moment g.D.Disk.may_leave g.D.Disk.left_since _ _ _ (c.make_engine.ensures.again tells rs stands full) (c.write_list.ensures.quiet tells)

pub returns-clause-rose : goal.returns-clause-rose
returns-clause-rose g c = λ tells rs good stands part offset e.
    let made = c.in-Ok.ensures.made tells rs stands good in
    let seen = g.D.Disk.seen c.make_engine.new.disk in
    let images = g.D.Disk.may_leave c.make_engine.new.disk in
    let one = c.scripts_have_one_answer.ensures.task in
    absurd (no_place c.in-Err-write_list.fault part offset _ _ _
    (c.in-Err-write_list.ensures.lists tells made.records made.engine.on (topics_whole g.N.Node g.N.ScriptNode.planned one rs good seen images c.in-Ok.engine made c.kept_laws.ensures.one))
    (sym c.from-in-Err-write_list.ensures ∙ e))

pub returns-clause-opened : goal.returns-clause-opened
returns-clause-opened g c = λ tells.
    let opened = c.in-Ok.ensures.opened tells in
    let seen = g.D.Disk.seen c.make_engine.new.disk in
    let images = g.D.Disk.may_leave c.make_engine.new.disk in
    let one = c.scripts_have_one_answer.ensures.task in
    let files = g.D.Disk.seen c.args.disk.now in
    let asked : AreAsked g.N.Node g.N.ScriptNode.planned files = record { records = opened.0; stands = opened.1; asked = opened.2 } in
    subst (λ (s : Status). Opens g.N.Node g.N.ScriptNode.planned (g.P.Patterns.refusals c.args.pats.now) (g.P.Patterns.refusals c.make_engine.new.pats) (g.P.Patterns.refused c.make_engine.new.pats) files s) (sym c.from-in-Err-write_list.ensures)
    (opens_asked g.N.Node g.N.ScriptNode.planned (g.P.Patterns.refusals c.args.pats.now) (g.P.Patterns.refusals c.make_engine.new.pats) (g.P.Patterns.refused c.make_engine.new.pats) files c.in-Err-write_list.fault asked
    (λ good. let made = c.in-Ok.ensures.made tells opened.0 opened.1 good in (
      list_text c.args.listing (held made.records),
      g.K.Sink.written c.args.out.now,
      g.K.Sink.written c.write_list.new.out,
      c.in-Err-write_list.ensures.lists tells made.records made.engine.on (topics_whole g.N.Node g.N.ScriptNode.planned one opened.0 good seen images c.in-Ok.engine made c.kept_laws.ensures.one),
    )))

pub returns-clause-left : goal.returns-clause-left
returns-clause-left g c = λ tells part offset e.
    let opened = c.in-Ok.ensures.opened tells in
    let seen = g.D.Disk.seen c.make_engine.new.disk in
    let images = g.D.Disk.may_leave c.make_engine.new.disk in
    let one = c.scripts_have_one_answer.ensures.task in
    inr (others_listed g.N.Node g.N.ScriptNode.planned (g.D.Disk.seen c.args.disk.now) c.in-Err-write_list.fault (record { records = opened.0; stands = opened.1; asked = opened.2 }) part offset
    (λ good. let made = c.in-Ok.ensures.made tells opened.0 opened.1 good in (
      list_text c.args.listing (held made.records),
      g.K.Sink.written c.args.out.now,
      g.K.Sink.written c.write_list.new.out,
      c.in-Err-write_list.ensures.lists tells made.records made.engine.on (topics_whole g.N.Node g.N.ScriptNode.planned one opened.0 good seen images c.in-Ok.engine made c.kept_laws.ensures.one),
    ))
    (sym c.from-in-Err-write_list.ensures ∙ e))

pub returns-in-Err-clause-ends : goal.returns-in-Err-clause-ends
returns-in-Err-clause-ends g c = subst IsOfList (sym c.from.ensures) (engine_ends c.in-Err.fault c.in-Err.ensures.faults)

pub returns-clause-ends : goal.returns-clause-ends
returns-clause-ends g c = subst IsOfList (sym c.from-in-Err-write_list.ensures) (list_ends c.in-Err-write_list.fault)

-- ---- the alerts of a store that a replay may take

pub returns-in-Err-clause-exported : goal.returns-in-Err-clause-exported
returns-in-Err-clause-exported g c = λ tells rs good stands is say export.
    let text = list_text Alerts (held_whole g.N.Node g.N.ScriptNode.planned rs good) in
    let w = g.K.Sink.written c.args.out.now in
    tells_as_replay g.N.Node.answer g.N.ScriptNode.planned (held rs) good.tasks (all_transitions g.N.Node g.N.ScriptNode.planned rs good) c.from.result w w
    (λ names. c.alerts_are_those_of_a_replay.ensures.told say names (held rs).points (held rs).lives good.tasks export.alone)
    (c.alerts_are_those_of_a_replay.ensures.pairs rs good.tasks stands.stored.follow good.are)
    (c.exports_are_read_again.ensures rs stands.stored.follow export.lines export.fits)
    (subst (λ (s : Status). Shows text s w w) (sym c.from.ensures) (shows_none c.in-Err.fault text w c.in-Err.ensures.faults))

pub returns-in-Ok-write_list-clause-exported : goal.returns-in-Ok-write_list-clause-exported
returns-in-Ok-write_list-clause-exported g c = λ tells rs good stands is say export.
    let w = g.K.Sink.written c.args.out.now in
    let v = g.K.Sink.written c.write_list.new.out in
    tells_as_replay g.N.Node.answer g.N.ScriptNode.planned (held rs) good.tasks (all_transitions g.N.Node g.N.ScriptNode.planned rs good) statuses.Ok w v
    (λ names. c.alerts_are_those_of_a_replay.ensures.told say names (held rs).points (held rs).lives good.tasks export.alone)
    (c.alerts_are_those_of_a_replay.ensures.pairs rs good.tasks stands.stored.follow good.are)
    (c.exports_are_read_again.ensures rs stands.stored.follow export.lines export.fits)
    (subst (λ (listing : Listing). Shows (list_text listing (held_whole g.N.Node g.N.ScriptNode.planned rs good)) statuses.Ok w v) is (returns-in-Ok-write_list-clause-shown g c tells rs good stands))

pub returns-clause-exported : goal.returns-clause-exported
returns-clause-exported g c = λ tells rs good stands is say export.
    let w = g.K.Sink.written c.args.out.now in
    let v = g.K.Sink.written c.write_list.new.out in
    tells_as_replay g.N.Node.answer g.N.ScriptNode.planned (held rs) good.tasks (all_transitions g.N.Node g.N.ScriptNode.planned rs good) c.from-in-Err-write_list.result w v
    (λ names. c.alerts_are_those_of_a_replay.ensures.told say names (held rs).points (held rs).lives good.tasks export.alone)
    (c.alerts_are_those_of_a_replay.ensures.pairs rs good.tasks stands.stored.follow good.are)
    (c.exports_are_read_again.ensures rs stands.stored.follow export.lines export.fits)
    (subst (λ (listing : Listing). Shows (list_text listing (held_whole g.N.Node g.N.ScriptNode.planned rs good)) c.from-in-Err-write_list.result w v) is (returns-clause-shown g c tells rs good stands))
