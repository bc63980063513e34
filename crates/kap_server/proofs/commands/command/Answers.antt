use Rattle.std.proofs.Common.{◌≡◌, ℕ, ℤ, true, false, List, map, inr, sym, ap, subst, ◌∙◌, ⊎_elim, w64, to_z, of_z, to_z-of_z}
use Rattle.std.specs.Prelude.{◌⊎◌, string_bytes}
use Rattle.kap_io.specs.Moments.{Quiet}
use Rattle.line_points.specs.declared.mode.Mode.TheVariants as modes
use Rattle.store_records.specs.Held.{has_task}
use Rattle.store_records.specs.Histories.{held}
use Rattle.kap_server.specs.Changing.{Changes, Defines, DefinesTo, EndsReading, OpensToChange, record_of}
use Rattle.kap_server.specs.Command.{IsToldRefused, IsUnlessDiskFailed, change_status, defines}
use Rattle.kap_server.specs.Options.{unit_of}
use Rattle.kap_server.specs.Runs.{refusal_of}
use Rattle.kap_server.specs.Words.{reads_input, request_in, runs_net}
use Rattle.kap_server.specs.Writing.{ReadsLines, Writes}
use Rattle.kap_server.specs.declared.words.Change.{Change}
use Rattle.kap_server.proofs.CommandLaws.{behind_nowhere, change_answers, change_not_many, change_not_none, change_nowhere, changes_no_pattern, changes_not, compact_nowhere, define_answers, define_not_none, lines_no_pattern, lines_not, same_change, same_changed, same_defined, script_not, write_answers, write_as_asked, write_not_many, write_not_none, write_rose}
use Rattle.kap_server.proofs.CheckLaws.{check_answers}
use Rattle.kap_server.proofs.CompactLaws.{compact_answers, compact_not_many, compact_not_none, compacts_changes}
use Rattle.kap_server.proofs.GenLaws.{few_to_replay, few_to_summarize, summary_not_none, summed_as_asked, summed_not, summed_tells}
use Rattle.kap_server.proofs.ListLaws.{never, no_pattern, same_listing, show_not_many, show_not_none, shows_asked, tells_place}
use Rattle.kap_server.proofs.NetLaws.{net_as_asked, samples_as_asked}
use Rattle.kap_server.proofs.RunLaws.{not_none, ran_as_asked, ran_not_disk, ran_not_many, ran_not_usage, ran_refused, ran_status}
use Rattle.kap_server.specs.declared.status.Status.TheVariants as statuses
use Rattle.kap_server.specs.declared.words.Listing.TheVariants.{Alerts}
use Rattle.kap_server.proofs.commands.command.Goals as goal

pub returns-in-Some-Check-clause-check_status : goal.returns-in-Some-Check-clause-check_status
returns-in-Some-Check-clause-check_status g c = λ text status asks told to.
    check_answers (g.P.Patterns.refused c.check.new.pats) text c.check.result status (g.S.Source.left c.args.input.now) (g.S.Source.left c.check.new.input) (g.K.Sink.written c.args.out.now) (g.K.Sink.written c.check.new.out) c.check.ensures.checked told to

pub returns-else-are_too_many-clause-usage : goal.returns-else-are_too_many-clause-usage
returns-else-are_too_many-clause-usage g c =
    let asked = rw (c.in-Some-Replay.is, c.in-Some-Replay.field-0-is) at c.request_in.ensures.request in
    record {
      only = λ e. absurd (ran_not_usage _ _ _ _ _ c.replay_pairs.result _ _ _ _ c.replay_pairs.ensures.ran e);
      always = λ none. absurd (not_none _ _ (asked ∙ none));
    }

pub returns-else-are_too_many-clause-too_many : goal.returns-else-are_too_many-clause-too_many
returns-else-are_too_many-clause-too_many g c =
    let asked = rw (c.in-Some-Replay.is, c.in-Some-Replay.field-0-is) at c.request_in.ensures.request in
    λ not. record {
      only = λ e. absurd (ran_not_many _ _ _ _ _ c.replay_pairs.result _ _ _ _ c.replay_pairs.ensures.ran e);
      always = λ asks. absurd (few_to_replay _ _ _ (sym asked) (sym c.are_too_many.ensures ∙ c.if-are_too_many.false) asks);
    }

pub returns-else-are_too_many-clause-ran : goal.returns-else-are_too_many-clause-ran
returns-else-are_too_many-clause-ran g c =
    let asked = rw (c.in-Some-Replay.is, c.in-Some-Replay.field-0-is) at c.request_in.ensures.request in
    λ options pairs asks. ran_as_asked _ _ _ _ _ _ _ c.replay_pairs.result _ _ _ _ (asked ∙ asks.asks) c.replay_pairs.ensures.ran

pub returns-else-are_too_many-clause-status : goal.returns-else-are_too_many-clause-status
returns-else-are_too_many-clause-status g c =
    let asked = rw (c.in-Some-Replay.is, c.in-Some-Replay.field-0-is) at c.request_in.ensures.request in
    λ options pairs tasks bytes asks are told plain.
    ran_status _ _ _ _ _ c.replay_pairs.result _ _ _ _ (ran_as_asked _ _ _ _ options _ pairs c.replay_pairs.result _ _ _ _ (asked ∙ asks.asks) c.replay_pairs.ensures.ran) tasks bytes are told plain

pub returns-else-are_too_many-clause-refused : goal.returns-else-are_too_many-clause-refused
returns-else-are_too_many-clause-refused g c =
    let asked = rw (c.in-Some-Replay.is, c.in-Some-Replay.field-0-is) at c.request_in.ensures.request in
    λ options pairs status asks none plain.
    ran_refused _ _ _ _ _ c.replay_pairs.result _ _ _ _ (ran_as_asked _ _ _ _ options _ pairs c.replay_pairs.result _ _ _ _ (asked ∙ asks.asks) c.replay_pairs.ensures.ran) status none plain

pub returns-else-are_too_many-clause-disk_fault : goal.returns-else-are_too_many-clause-disk_fault
returns-else-are_too_many-clause-disk_fault g c = λ e. absurd (ran_not_disk _ _ _ _ _ c.replay_pairs.result _ _ _ _ c.replay_pairs.ensures.ran e)

pub returns-else-are_too_many-2-clause-usage : goal.returns-else-are_too_many-2-clause-usage
returns-else-are_too_many-2-clause-usage g c =
    let asked = rw (c.in-Some-Summarize.is, c.in-Some-Summarize.field-0-is) at c.request_in.ensures.request in
    record {
      only = λ e. absurd ((summed_not _ _ (g.P.Patterns.refused c.write_summary.new.pats) _ _ c.write_summary.result (g.K.Sink.written c.args.out.now) (g.K.Sink.written c.write_summary.new.out) c.write_summary.ensures.summed).0 e);
      always = λ none. absurd (summary_not_none _ _ (asked ∙ none));
    }

pub returns-else-are_too_many-2-clause-too_many : goal.returns-else-are_too_many-2-clause-too_many
returns-else-are_too_many-2-clause-too_many g c =
    let asked = rw (c.in-Some-Summarize.is, c.in-Some-Summarize.field-0-is) at c.request_in.ensures.request in
    λ not. record {
      only = λ e. absurd ((summed_not _ _ (g.P.Patterns.refused c.write_summary.new.pats) _ _ c.write_summary.result (g.K.Sink.written c.args.out.now) (g.K.Sink.written c.write_summary.new.out) c.write_summary.ensures.summed).1 e);
      always = λ asks. absurd (few_to_summarize _ _ _ (sym asked) (sym c.are_too_many-in-Some-Summarize.ensures ∙ c.if-are_too_many-2.false) asks);
    }

pub returns-else-are_too_many-2-clause-nothing : goal.returns-else-are_too_many-2-clause-nothing
returns-else-are_too_many-2-clause-nothing g c = λ not e. absurd (summed_tells _ _ (g.P.Patterns.refused c.write_summary.new.pats) _ _ c.write_summary.result (g.K.Sink.written c.args.out.now) (g.K.Sink.written c.write_summary.new.out) c.write_summary.ensures.summed e)

pub returns-else-are_too_many-2-clause-summed : goal.returns-else-are_too_many-2-clause-summed
returns-else-are_too_many-2-clause-summed g c =
    let asked = rw (c.in-Some-Summarize.is, c.in-Some-Summarize.field-0-is) at c.request_in.ensures.request in
    λ n pairs asks. summed_as_asked _ _ (g.P.Patterns.refused c.write_summary.new.pats) _ _ n _ pairs c.write_summary.result (g.K.Sink.written c.args.out.now) (g.K.Sink.written c.write_summary.new.out) c.from-in-Some-Summarize.ensures (asked ∙ asks.asks) c.write_summary.ensures.summed

pub returns-else-are_too_many-2-clause-read_fault : goal.returns-else-are_too_many-2-clause-read_fault
returns-else-are_too_many-2-clause-read_fault g c = λ e. absurd ((summed_not _ _ (g.P.Patterns.refused c.write_summary.new.pats) _ _ c.write_summary.result (g.K.Sink.written c.args.out.now) (g.K.Sink.written c.write_summary.new.out) c.write_summary.ensures.summed).3 e)

pub returns-else-are_too_many-2-clause-disk_fault : goal.returns-else-are_too_many-2-clause-disk_fault
returns-else-are_too_many-2-clause-disk_fault g c = λ e. absurd ((summed_not _ _ (g.P.Patterns.refused c.write_summary.new.pats) _ _ c.write_summary.result (g.K.Sink.written c.args.out.now) (g.K.Sink.written c.write_summary.new.out) c.write_summary.ensures.summed).2 e)

pub returns-in-Some-Show-clause-shown : goal.returns-in-Some-Show-clause-shown
returns-in-Some-Show-clause-shown g c = λ listing rs good asks tells stands.
    let asked = rw (c.in-Some-Show.is, c.in-Some-Show.field-0-is) at c.request_in.ensures.request in
    shows_asked g.N.Node g.N.ScriptNode.planned rs good c.in-Some-Show.listing listing c.list.result (g.K.Sink.written c.args.out.now) (g.K.Sink.written c.list.new.out) (asked ∙ asks) (c.list.ensures.shown tells rs good stands)

pub returns-in-Some-Show-clause-exported : goal.returns-in-Some-Show-clause-exported
returns-in-Some-Show-clause-exported g c = λ rs good asks tells stands say export.
    let asked = rw (c.in-Some-Show.is, c.in-Some-Show.field-0-is) at c.request_in.ensures.request in
    c.list.ensures.exported tells rs good stands (same_listing c.in-Some-Show.listing Alerts (asked ∙ asks)) say export

pub returns-in-Some-Show-clause-unrefused : goal.returns-in-Some-Show-clause-unrefused
returns-in-Some-Show-clause-unrefused g c = λ listing rs part offset asks tells stands good e. c.list.ensures.rose tells rs good stands part offset e

pub returns-in-Some-Show-clause-opened : goal.returns-in-Some-Show-clause-opened
returns-in-Some-Show-clause-opened g c = λ listing asks tells. c.list.ensures.opened tells

pub returns-in-Some-Show-clause-left : goal.returns-in-Some-Show-clause-left
returns-in-Some-Show-clause-left g c = λ listing part offset asks tells e. c.list.ensures.left tells part offset e

pub returns-in-Some-Show-clause-no_store : goal.returns-in-Some-Show-clause-no_store
returns-in-Some-Show-clause-no_store g c = λ listing part offset asks tells none.
    tells_place g.N.Node g.N.ScriptNode.planned (g.P.Patterns.refusals c.args.pats.now) (g.P.Patterns.refusals c.list.new.pats) (g.P.Patterns.refused c.list.new.pats) (g.D.Disk.seen c.args.disk.now) part offset c.list.result none
    (c.list.ensures.opened tells)

pub returns-in-Some-Show-clause-images : goal.returns-in-Some-Show-clause-images
returns-in-Some-Show-clause-images g c = λ listing rs asks tells stands good. c.list.ensures.any_moment tells rs good stands

pub returns-in-Some-Show-clause-full : goal.returns-in-Some-Show-clause-full
returns-in-Some-Show-clause-full g c = λ listing rs asks tells stands good ok. c.list.ensures.full tells rs good stands ok

pub returns-in-Some-Show-clause-again : goal.returns-in-Some-Show-clause-again
returns-in-Some-Show-clause-again g c = λ listing rs asks tells stands full. c.list.ensures.again tells rs full stands

pub returns-else-are_too_many-clause-net : goal.returns-else-are_too_many-clause-net
returns-else-are_too_many-clause-net g c =
    let asked = rw (c.in-Some-Replay.is, c.in-Some-Replay.field-0-is) at c.request_in.ensures.request in
    λ options pairs asks ok. net_as_asked _ _ _ _ options _ pairs _ (asked ∙ asks.asks) (c.replay_pairs.ensures.net ok)

pub returns-else-are_too_many-2-clause-sample_net : goal.returns-else-are_too_many-2-clause-sample_net
returns-else-are_too_many-2-clause-sample_net g c =
    let asked = rw (c.in-Some-Summarize.is, c.in-Some-Summarize.field-0-is) at c.request_in.ensures.request in
    λ n pairs asks ok. samples_as_asked _ _ _ _ _ n _ pairs c.from-in-Some-Summarize.ensures (asked ∙ asks.asks) (c.write_summary.ensures.net ok)

pub returns-in-Some-Show-clause-usage : goal.returns-in-Some-Show-clause-usage
returns-in-Some-Show-clause-usage g c =
    let asked = rw (c.in-Some-Show.is, c.in-Some-Show.field-0-is) at c.request_in.ensures.request in
    record {
      only = λ e. absurd (never c.list.result statuses.Usage c.list.ensures.ends (λ x. x) e);
      always = λ none. absurd (show_not_none c.in-Some-Show.listing (asked ∙ none));
    }

pub returns-in-Some-Show-clause-too_many : goal.returns-in-Some-Show-clause-too_many
returns-in-Some-Show-clause-too_many g c =
    let asked = rw (c.in-Some-Show.is, c.in-Some-Show.field-0-is) at c.request_in.ensures.request in
    λ not. record {
      only = λ e. absurd (never c.list.result statuses.TooManyTasks c.list.ensures.ends (λ x. x) e);
      always = λ many. absurd (show_not_many c.in-Some-Show.listing _ asked many);
    }

pub returns-in-Some-Show-clause-nothing : goal.returns-in-Some-Show-clause-nothing
returns-in-Some-Show-clause-nothing g c = λ not. ⊎_elim
    (λ e. absurd (never c.list.result statuses.Usage c.list.ensures.ends (λ x. x) e))
    (λ e. absurd (never c.list.result statuses.TooManyTasks c.list.ensures.ends (λ x. x) e))

pub returns-in-Some-Show-clause-read_fault : goal.returns-in-Some-Show-clause-read_fault
returns-in-Some-Show-clause-read_fault g c = λ e. absurd (never c.list.result statuses.ReadFault c.list.ensures.ends (λ x. x) e)

pub returns-in-Some-Show-clause-pattern : goal.returns-in-Some-Show-clause-pattern
returns-in-Some-Show-clause-pattern g c = λ e. absurd (no_pattern c.list.result c.list.ensures.ends e)

-- ---- a task is defined

pub returns-in-Some-Define-clause-usage : goal.returns-in-Some-Define-clause-usage
returns-in-Some-Define-clause-usage g c =
    let asked = rw (c.in-Some-Define.is, c.in-Some-Define.field-0-is) at c.request_in.ensures.request in
    record {
      only = λ e. absurd (script_not (g.P.Patterns.refused c.define.new.pats) (g.S.Source.left c.args.input.now) (g.S.Source.left c.define.new.input) c.define.result statuses.Usage c.define.ensures.script (λ x. x) e);
      always = λ none. absurd (define_not_none c.in-Some-Define.id.now (asked ∙ none));
    }

pub returns-in-Some-Define-clause-too_many : goal.returns-in-Some-Define-clause-too_many
returns-in-Some-Define-clause-too_many g c =
    let asked = rw (c.in-Some-Define.is, c.in-Some-Define.field-0-is) at c.request_in.ensures.request in
    λ not. let no : true ≡ false = ap defines asked ∙ not in absurd cc

pub returns-in-Some-Define-clause-nothing : goal.returns-in-Some-Define-clause-nothing
returns-in-Some-Define-clause-nothing g c =
    let asked = rw (c.in-Some-Define.is, c.in-Some-Define.field-0-is) at c.request_in.ensures.request in
    λ not. let no : true ≡ false = ap defines asked ∙ not in absurd cc

pub returns-in-Some-Define-clause-script : goal.returns-in-Some-Define-clause-script
returns-in-Some-Define-clause-script g c = λ id asks. c.define.ensures.script

pub returns-in-Some-Define-clause-defined : goal.returns-in-Some-Define-clause-defined
returns-in-Some-Define-clause-defined g c = λ id rs asks tells stands good.
    let asked = rw (c.in-Some-Define.is, c.in-Some-Define.field-0-is) at c.request_in.ensures.request in
    subst (λ (i : List ℕ). (EndsReading c.define.result × (c.define.new.disk ≡ c.args.disk.now)) ⊎ Defines g.N.Node g.N.ScriptNode.planned g.D.Disk.seen g.D.Disk.moment g.D.Disk.may_leave g.D.Disk.left_since rs i (g.S.Source.left c.args.input.now) (g.P.Patterns.refusals c.args.pats.now) (g.P.Patterns.refusals c.define.new.pats) c.args.disk.now c.define.new.disk c.define.result)
    (same_defined c.in-Some-Define.id.now id (asked ∙ asks)) (c.define.ensures.defined tells rs stands good)

pub returns-in-Some-Define-clause-define_status : goal.returns-in-Some-Define-clause-define_status
returns-in-Some-Define-clause-define_status g c = λ id text rs status asks tells stands good is to.
    let asked = rw (c.in-Some-Define.is, c.in-Some-Define.field-0-is) at c.request_in.ensures.request in
    let same = same_defined c.in-Some-Define.id.now id (asked ∙ asks) in
    define_answers (g.P.Patterns.refusals c.args.pats.now) (g.P.Patterns.refusals c.define.new.pats) (g.P.Patterns.refused c.define.new.pats) rs c.in-Some-Define.id.now text (g.S.Source.left c.define.new.input) g.N.Node g.N.ScriptNode.planned g.D.Disk.seen g.D.Disk.moment g.D.Disk.may_leave g.D.Disk.left_since c.args.disk.now c.define.new.disk (c.define.new.disk ≡ c.args.disk.now) c.define.result status (g.S.Source.left c.args.input.now) is
    c.define.ensures.script (c.define.ensures.defined tells rs stands good) (subst (λ (i : List ℕ). DefinesTo (refusal_of c.define.result (g.P.Patterns.refused c.define.new.pats)) rs i text status) (sym same) to)

pub returns-in-Some-Define-clause-unopened : goal.returns-in-Some-Define-clause-unopened
returns-in-Some-Define-clause-unopened g c = λ reads early. c.define.ensures.unopened early

pub returns-in-Some-Define-clause-define_opened : goal.returns-in-Some-Define-clause-define_opened
returns-in-Some-Define-clause-define_opened g c = λ id asks tells. c.define.ensures.opened tells

pub returns-in-Some-Define-clause-nowhere : goal.returns-in-Some-Define-clause-nowhere
returns-in-Some-Define-clause-nowhere g c = λ part offset changes tells none.
    let asked = rw (c.in-Some-Define.is, c.in-Some-Define.field-0-is) at c.request_in.ensures.request in
    behind_nowhere g.N.Node g.N.ScriptNode.planned (g.P.Patterns.refusals c.args.pats.now) (g.P.Patterns.refusals c.define.new.pats) (g.P.Patterns.refused c.define.new.pats) (Quiet g.D.Disk.seen g.D.Disk.moment g.D.Disk.may_leave g.D.Disk.left_since c.args.disk.now c.define.new.disk) (g.D.Disk.seen c.args.disk.now) part offset none (reads_input (request_in (map string_bytes c.args.words.now)) ≡ true) (sym (ap reads_input asked)) c.define.result
    (c.define.ensures.opened tells)

pub returns-in-Some-Define-clause-read : goal.returns-in-Some-Define-clause-read
returns-in-Some-Define-clause-read g c = λ reads ok. c.define.ensures.read ok

pub returns-in-Some-Define-clause-write_fault : goal.returns-in-Some-Define-clause-write_fault
returns-in-Some-Define-clause-write_fault g c = λ e. absurd (script_not (g.P.Patterns.refused c.define.new.pats) (g.S.Source.left c.args.input.now) (g.S.Source.left c.define.new.input) c.define.result statuses.WriteFault c.define.ensures.script (λ x. x) e)

-- ---- a task is changed

pub returns-in-Some-Change-clause-usage : goal.returns-in-Some-Change-clause-usage
returns-in-Some-Change-clause-usage g c =
    let asked = rw (c.in-Some-Change.is, c.in-Some-Change.field-0-is) at c.request_in.ensures.request in
    record {
      only = λ e. absurd (changes_not c.change.result statuses.Usage c.change.ensures.ends (λ x. x) e);
      always = λ none. absurd (change_not_none c.in-Some-Change.what c.in-Some-Change.id.now (asked ∙ none));
    }

pub returns-in-Some-Change-clause-too_many : goal.returns-in-Some-Change-clause-too_many
returns-in-Some-Change-clause-too_many g c =
    let asked = rw (c.in-Some-Change.is, c.in-Some-Change.field-0-is) at c.request_in.ensures.request in
    λ not. record {
      only = λ e. absurd (changes_not c.change.result statuses.TooManyTasks c.change.ensures.ends (λ x. x) e);
      always = λ many. absurd (change_not_many c.in-Some-Change.what c.in-Some-Change.id.now _ asked many);
    }

pub returns-in-Some-Change-clause-nothing : goal.returns-in-Some-Change-clause-nothing
returns-in-Some-Change-clause-nothing g c = λ not. ⊎_elim
    (λ e. absurd (changes_not c.change.result statuses.Usage c.change.ensures.ends (λ x. x) e))
    (λ e. absurd (changes_not c.change.result statuses.TooManyTasks c.change.ensures.ends (λ x. x) e))

pub returns-in-Some-Change-clause-changed : goal.returns-in-Some-Change-clause-changed
returns-in-Some-Change-clause-changed g c = λ change id rs asks tells stands good.
    let asked = rw (c.in-Some-Change.is, c.in-Some-Change.field-0-is) at c.request_in.ensures.request in
    subst (λ (i : List ℕ). Changes g.N.Node g.N.ScriptNode.planned g.D.Disk.seen g.D.Disk.moment g.D.Disk.may_leave g.D.Disk.left_since rs i (record_of change i) (g.P.Patterns.refusals c.args.pats.now) (g.P.Patterns.refusals c.change.new.pats) c.args.disk.now c.change.new.disk c.change.result) (same_changed c.in-Some-Change.what change c.in-Some-Change.id.now id (asked ∙ asks))
    (subst (λ (w : Change). Changes g.N.Node g.N.ScriptNode.planned g.D.Disk.seen g.D.Disk.moment g.D.Disk.may_leave g.D.Disk.left_since rs c.in-Some-Change.id.now (record_of w c.in-Some-Change.id.now) (g.P.Patterns.refusals c.args.pats.now) (g.P.Patterns.refusals c.change.new.pats) c.args.disk.now c.change.new.disk c.change.result) (same_change c.in-Some-Change.what change c.in-Some-Change.id.now id (asked ∙ asks)) (c.change.ensures.changed tells rs stands good))

pub returns-in-Some-Change-clause-change_status : goal.returns-in-Some-Change-clause-change_status
returns-in-Some-Change-clause-change_status g c = λ change id rs asks tells stands good.
    let asked = rw (c.in-Some-Change.is, c.in-Some-Change.field-0-is) at c.request_in.ensures.request in
    subst (λ (i : List ℕ). IsUnlessDiskFailed c.change.result (change_status (has_task i (held rs).tasks)) ⊎ IsToldRefused (g.P.Patterns.refusals c.args.pats.now) (g.P.Patterns.refusals c.change.new.pats) c.change.result) (same_changed c.in-Some-Change.what change c.in-Some-Change.id.now id (asked ∙ asks))
    (change_answers g.N.Node g.N.ScriptNode.planned rs c.in-Some-Change.id.now (record_of c.in-Some-Change.what c.in-Some-Change.id.now) (g.P.Patterns.refusals c.args.pats.now) (g.P.Patterns.refusals c.change.new.pats) (g.D.Disk.seen c.change.new.disk) (g.D.Disk.may_leave c.change.new.disk) c.change.result (c.change.ensures.changed tells rs stands good).ends)

pub returns-in-Some-Change-clause-change_opened : goal.returns-in-Some-Change-clause-change_opened
returns-in-Some-Change-clause-change_opened g c = λ change id asks tells.
    let asked = rw (c.in-Some-Change.is, c.in-Some-Change.field-0-is) at c.request_in.ensures.request in
    subst (λ (i : List ℕ). OpensToChange g.N.Node g.N.ScriptNode.planned (g.P.Patterns.refusals c.args.pats.now) (g.P.Patterns.refusals c.change.new.pats) (g.P.Patterns.refused c.change.new.pats) (Quiet g.D.Disk.seen g.D.Disk.moment g.D.Disk.may_leave g.D.Disk.left_since c.args.disk.now c.change.new.disk) (g.D.Disk.seen c.args.disk.now) (g.D.Disk.seen c.change.new.disk) i c.change.result)
    (same_changed c.in-Some-Change.what change c.in-Some-Change.id.now id (asked ∙ asks)) (c.change.ensures.opened tells)

pub returns-in-Some-Change-clause-nowhere : goal.returns-in-Some-Change-clause-nowhere
returns-in-Some-Change-clause-nowhere g c = λ part offset changes tells none.
    inr (change_nowhere g.N.Node g.N.ScriptNode.planned (g.P.Patterns.refusals c.args.pats.now) (g.P.Patterns.refusals c.change.new.pats) (g.P.Patterns.refused c.change.new.pats) (Quiet g.D.Disk.seen g.D.Disk.moment g.D.Disk.may_leave g.D.Disk.left_since c.args.disk.now c.change.new.disk) (g.D.Disk.seen c.args.disk.now) part offset none (g.D.Disk.seen c.change.new.disk) c.in-Some-Change.id.now c.change.result (c.change.ensures.opened tells))

pub returns-in-Some-Change-clause-read_fault : goal.returns-in-Some-Change-clause-read_fault
returns-in-Some-Change-clause-read_fault g c = λ e. absurd (changes_not c.change.result statuses.ReadFault c.change.ensures.ends (λ x. x) e)

pub returns-in-Some-Change-clause-write_fault : goal.returns-in-Some-Change-clause-write_fault
returns-in-Some-Change-clause-write_fault g c = λ e. absurd (changes_not c.change.result statuses.WriteFault c.change.ensures.ends (λ x. x) e)

pub returns-in-Some-Change-clause-pattern : goal.returns-in-Some-Change-clause-pattern
returns-in-Some-Change-clause-pattern g c = λ e. absurd (changes_no_pattern c.change.result c.change.ensures.ends e)

-- ---- points are written

pub returns-in-Some-Write-clause-usage : goal.returns-in-Some-Write-clause-usage
returns-in-Some-Write-clause-usage g c =
    let asked = rw (c.in-Some-Write.is, c.in-Some-Write.field-0-is) at c.request_in.ensures.request in
    record {
      only = λ e. absurd (lines_not c.in-Some-Write.db.now c.in-Some-Write.rp.now (modes.Live (unit_of c.in-Some-Write.options) (to_z w64 (of_z w64 c.args.now))) (g.S.Source.left c.args.input.now) (g.S.Source.left c.write.new.input) c.write.result statuses.Usage c.write.ensures.lines (λ x. x) e);
      always = λ none. absurd (write_not_none c.in-Some-Write.options c.in-Some-Write.db.now c.in-Some-Write.rp.now (asked ∙ none));
    }

pub returns-in-Some-Write-clause-too_many : goal.returns-in-Some-Write-clause-too_many
returns-in-Some-Write-clause-too_many g c =
    let asked = rw (c.in-Some-Write.is, c.in-Some-Write.field-0-is) at c.request_in.ensures.request in
    λ not. record {
      only = λ e. absurd (lines_not c.in-Some-Write.db.now c.in-Some-Write.rp.now (modes.Live (unit_of c.in-Some-Write.options) (to_z w64 (of_z w64 c.args.now))) (g.S.Source.left c.args.input.now) (g.S.Source.left c.write.new.input) c.write.result statuses.TooManyTasks c.write.ensures.lines (λ x. x) e);
      always = λ many. absurd (write_not_many c.in-Some-Write.options c.in-Some-Write.db.now c.in-Some-Write.rp.now _ asked many);
    }

pub returns-in-Some-Write-clause-nothing : goal.returns-in-Some-Write-clause-nothing
returns-in-Some-Write-clause-nothing g c = λ not. ⊎_elim
    (λ e. absurd (lines_not c.in-Some-Write.db.now c.in-Some-Write.rp.now (modes.Live (unit_of c.in-Some-Write.options) (to_z w64 (of_z w64 c.args.now))) (g.S.Source.left c.args.input.now) (g.S.Source.left c.write.new.input) c.write.result statuses.Usage c.write.ensures.lines (λ x. x) e))
    (λ e. absurd (lines_not c.in-Some-Write.db.now c.in-Some-Write.rp.now (modes.Live (unit_of c.in-Some-Write.options) (to_z w64 (of_z w64 c.args.now))) (g.S.Source.left c.args.input.now) (g.S.Source.left c.write.new.input) c.write.result statuses.TooManyTasks c.write.ensures.lines (λ x. x) e))

pub returns-in-Some-Write-clause-no_net : goal.returns-in-Some-Write-clause-no_net
returns-in-Some-Write-clause-no_net g c =
    let asked = rw (c.in-Some-Write.is, c.in-Some-Write.field-0-is) at c.request_in.ensures.request in
    λ h. c.write.ensures.none (λ ok. let no : true ≡ false = ap runs_net asked ∙ h ok in absurd cc) ∙ c.requires.none

pub returns-in-Some-Write-clause-lines : goal.returns-in-Some-Write-clause-lines
returns-in-Some-Write-clause-lines g c = λ options db rp asks.
    let asked = rw (c.in-Some-Write.is, c.in-Some-Write.field-0-is) at c.request_in.ensures.request in
    write_as_asked c.in-Some-Write.options options c.in-Some-Write.db.now c.in-Some-Write.rp.now db rp (asked ∙ asks)
    (λ o d r. ReadsLines d r (modes.Live (unit_of o) c.args.now) (g.S.Source.left c.args.input.now) (g.S.Source.left c.write.new.input) c.write.result)
    (subst (λ (t : ℤ). ReadsLines c.in-Some-Write.db.now c.in-Some-Write.rp.now (modes.Live (unit_of c.in-Some-Write.options) t) (g.S.Source.left c.args.input.now) (g.S.Source.left c.write.new.input) c.write.result)
    (to_z-of_z c.ranges.now) c.write.ensures.lines)

pub returns-in-Some-Write-clause-written : goal.returns-in-Some-Write-clause-written
returns-in-Some-Write-clause-written g c = λ options db rp rs good asks tells stands.
    let asked = rw (c.in-Some-Write.is, c.in-Some-Write.field-0-is) at c.request_in.ensures.request in
    write_as_asked c.in-Some-Write.options options c.in-Some-Write.db.now c.in-Some-Write.rp.now db rp (asked ∙ asks)
    (λ o d r. (EndsReading c.write.result × (c.write.new.disk ≡ c.args.disk.now) × (c.write.new.out ≡ c.args.out.now))
    ⊎ Writes g.N.Node g.N.ScriptNode.planned g.D.Disk.seen g.D.Disk.moment g.D.Disk.may_leave g.D.Disk.left_since d r (modes.Live (unit_of o) c.args.now) rs good (g.S.Source.left c.args.input.now) (g.K.Sink.written c.args.out.now) (g.K.Sink.written c.write.new.out) (g.P.Patterns.refusals c.args.pats.now) (g.P.Patterns.refusals c.write.new.pats) c.args.disk.now c.write.new.disk c.write.new.ran c.write.result)
    (subst (λ (t : ℤ). (EndsReading c.write.result × (c.write.new.disk ≡ c.args.disk.now) × (c.write.new.out ≡ c.args.out.now))
    ⊎ Writes g.N.Node g.N.ScriptNode.planned g.D.Disk.seen g.D.Disk.moment g.D.Disk.may_leave g.D.Disk.left_since c.in-Some-Write.db.now c.in-Some-Write.rp.now (modes.Live (unit_of c.in-Some-Write.options) t) rs good (g.S.Source.left c.args.input.now) (g.K.Sink.written c.args.out.now) (g.K.Sink.written c.write.new.out) (g.P.Patterns.refusals c.args.pats.now) (g.P.Patterns.refusals c.write.new.pats) c.args.disk.now c.write.new.disk c.write.new.ran c.write.result)
    (to_z-of_z c.ranges.now) (c.write.ensures.written tells rs good stands))

pub returns-in-Some-Write-clause-write_status : goal.returns-in-Some-Write-clause-write_status
returns-in-Some-Write-clause-write_status g c = λ options db rp body rs status asks tells stands good is to.
    let asked = rw (c.in-Some-Write.is, c.in-Some-Write.field-0-is) at c.request_in.ensures.request in
    write_answers db rp (modes.Live (unit_of options) c.args.now) body (g.P.Patterns.refusals c.args.pats.now) (g.P.Patterns.refusals c.write.new.pats) (g.S.Source.left c.write.new.input) c.write.result status (g.S.Source.left c.args.input.now) is
    (write_rose g.N.Node g.N.ScriptNode.planned g.D.Disk.seen g.D.Disk.moment g.D.Disk.may_leave g.D.Disk.left_since c.in-Some-Write.db.now c.in-Some-Write.rp.now (modes.Live (unit_of c.in-Some-Write.options) (to_z w64 (of_z w64 c.args.now))) rs good (g.S.Source.left c.args.input.now) (g.K.Sink.written c.args.out.now) (g.K.Sink.written c.write.new.out) (g.P.Patterns.refusals c.args.pats.now) (g.P.Patterns.refusals c.write.new.pats) c.args.disk.now c.write.new.disk c.write.new.ran (c.write.new.disk ≡ c.args.disk.now) (c.write.new.out ≡ c.args.out.now) c.write.result (c.write.ensures.written tells rs good stands))
    (returns-in-Some-Write-clause-lines g c options db rp asks) to

pub returns-in-Some-Write-clause-write_kept : goal.returns-in-Some-Write-clause-write_kept
returns-in-Some-Write-clause-write_kept g c = λ options db rp asks not failed. c.write.ensures.unwritten not failed

pub returns-in-Some-Write-clause-unopened : goal.returns-in-Some-Write-clause-unopened
returns-in-Some-Write-clause-unopened g c = λ reads early. (c.write.ensures.unopened early).0

pub returns-in-Some-Write-clause-write_opened : goal.returns-in-Some-Write-clause-write_opened
returns-in-Some-Write-clause-write_opened g c = λ options db rp asks tells. c.write.ensures.opened tells

pub returns-in-Some-Write-clause-nowhere : goal.returns-in-Some-Write-clause-nowhere
returns-in-Some-Write-clause-nowhere g c = λ part offset changes tells none.
    let asked = rw (c.in-Some-Write.is, c.in-Some-Write.field-0-is) at c.request_in.ensures.request in
    behind_nowhere g.N.Node g.N.ScriptNode.planned (g.P.Patterns.refusals c.args.pats.now) (g.P.Patterns.refusals c.write.new.pats) (g.P.Patterns.refused c.write.new.pats) (Quiet g.D.Disk.seen g.D.Disk.moment g.D.Disk.may_leave g.D.Disk.left_since c.args.disk.now c.write.new.disk) (g.D.Disk.seen c.args.disk.now) part offset none (reads_input (request_in (map string_bytes c.args.words.now)) ≡ true) (sym (ap reads_input asked)) c.write.result
    (c.write.ensures.opened tells)

pub returns-in-Some-Write-clause-read : goal.returns-in-Some-Write-clause-read
returns-in-Some-Write-clause-read g c = λ reads ok. c.write.ensures.read ok

pub returns-in-Some-Write-clause-pattern : goal.returns-in-Some-Write-clause-pattern
returns-in-Some-Write-clause-pattern g c = λ e. absurd (lines_no_pattern c.in-Some-Write.db.now c.in-Some-Write.rp.now (modes.Live (unit_of c.in-Some-Write.options) (to_z w64 (of_z w64 c.args.now))) (g.S.Source.left c.args.input.now) (g.S.Source.left c.write.new.input) c.write.result c.write.ensures.lines e)

pub returns-in-Some-Compact-clause-usage : goal.returns-in-Some-Compact-clause-usage
returns-in-Some-Compact-clause-usage g c =
    let asked = rw (c.in-Some-Compact.is, c.in-Some-Compact.field-0-is) at c.request_in.ensures.request in
    record {
      only = λ e. absurd (changes_not c.compact.result statuses.Usage (compacts_changes c.compact.result c.compact.ensures.ends) (λ x. x) e);
      always = λ none. absurd (compact_not_none (asked ∙ none));
    }

pub returns-in-Some-Compact-clause-too_many : goal.returns-in-Some-Compact-clause-too_many
returns-in-Some-Compact-clause-too_many g c =
    let asked = rw (c.in-Some-Compact.is, c.in-Some-Compact.field-0-is) at c.request_in.ensures.request in
    λ not. record {
      only = λ e. absurd (changes_not c.compact.result statuses.TooManyTasks (compacts_changes c.compact.result c.compact.ensures.ends) (λ x. x) e);
      always = λ many. absurd (compact_not_many _ asked many);
    }

pub returns-in-Some-Compact-clause-nothing : goal.returns-in-Some-Compact-clause-nothing
returns-in-Some-Compact-clause-nothing g c = λ not. ⊎_elim
    (λ e. absurd (changes_not c.compact.result statuses.Usage (compacts_changes c.compact.result c.compact.ensures.ends) (λ x. x) e))
    (λ e. absurd (changes_not c.compact.result statuses.TooManyTasks (compacts_changes c.compact.result c.compact.ensures.ends) (λ x. x) e))

pub returns-in-Some-Compact-clause-compacted : goal.returns-in-Some-Compact-clause-compacted
returns-in-Some-Compact-clause-compacted g c = λ rs asks tells stands good. c.compact.ensures.compacted tells rs stands good

pub returns-in-Some-Compact-clause-compact_status : goal.returns-in-Some-Compact-clause-compact_status
returns-in-Some-Compact-clause-compact_status g c = λ rs asks tells stands good.
    compact_answers g.N.Node g.N.ScriptNode.planned rs (g.P.Patterns.refusals c.args.pats.now) (g.P.Patterns.refusals c.compact.new.pats) (g.D.Disk.seen c.compact.new.disk) (g.D.Disk.may_leave c.compact.new.disk) c.compact.result
    (c.compact.ensures.compacted tells rs stands good).ends

pub returns-in-Some-Compact-clause-compact_opened : goal.returns-in-Some-Compact-clause-compact_opened
returns-in-Some-Compact-clause-compact_opened g c = λ asks tells. c.compact.ensures.opened tells

pub returns-in-Some-Compact-clause-nowhere : goal.returns-in-Some-Compact-clause-nowhere
returns-in-Some-Compact-clause-nowhere g c = λ part offset changes tells none.
    inr (compact_nowhere g.N.Node g.N.ScriptNode.planned (g.P.Patterns.refusals c.args.pats.now) (g.P.Patterns.refusals c.compact.new.pats) (g.P.Patterns.refused c.compact.new.pats) (Quiet g.D.Disk.seen g.D.Disk.moment g.D.Disk.may_leave g.D.Disk.left_since c.args.disk.now c.compact.new.disk) (g.D.Disk.seen c.args.disk.now) part offset none c.compact.result
    (c.compact.ensures.opened tells))

pub returns-in-Some-Compact-clause-read_fault : goal.returns-in-Some-Compact-clause-read_fault
returns-in-Some-Compact-clause-read_fault g c = λ e. absurd (changes_not c.compact.result statuses.ReadFault (compacts_changes c.compact.result c.compact.ensures.ends) (λ x. x) e)

pub returns-in-Some-Compact-clause-write_fault : goal.returns-in-Some-Compact-clause-write_fault
returns-in-Some-Compact-clause-write_fault g c = λ e. absurd (changes_not c.compact.result statuses.WriteFault (compacts_changes c.compact.result c.compact.ensures.ends) (λ x. x) e)

pub returns-in-Some-Compact-clause-pattern : goal.returns-in-Some-Compact-clause-pattern
returns-in-Some-Compact-clause-pattern g c = λ e. absurd (changes_no_pattern c.compact.result (compacts_changes c.compact.result c.compact.ensures.ends) e)
