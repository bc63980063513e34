use Rattle.std.proofs.Common.{◌≡◌, ℕ, List, ◌++◌, refl, arith, sym, ap, subst, ◌∙◌, map, length}
use Rattle.std.proofs.lemmas.List.{length-append}
use Rattle.kap_base.specs.Points.{PointValue}
use Rattle.recording_file.specs.Reading.{Fails, GaveAll, ReaderState}
use Rattle.recording_file.proofs.ReadLaws.{read_more}
use Rattle.task_run.specs.Graphs.{Placed}
use Rattle.task_run.specs.PointLaws.{effects_more}
use Rattle.task_run.specs.Plans.{graph_of}
use Rattle.kap_server.specs.declared.reading.Pause.TheVariants as pauses
use Rattle.kap_server.specs.Epochs.{GoesOn, StopsBehind}
use Rattle.kap_server.specs.Nets.{HoldsNet}
use Rattle.kap_server.specs.Runs.{EndsWritten, run_rest, run_text}
use Rattle.kap_server.proofs.EpochLaws.{met_read_fault, not_ahead, risen_since}
use Rattle.kap_server.proofs.ReplayLaws.{cut_off, ended_so, ends_badly, ends_cut, ends_well, ends_with_net, finished, nothing_more, written_none, written_points, written_some}
use Rattle.kap_server.proofs.TellLaws.{grows, text_none}
use Rattle.kap_server.proofs.replaying.replay.Goals as goal

pub replaying-init : goal.replaying-init
replaying-init g c =
    let node = g.N.Node in
    let names = c.args.names.now in
    let lives = map (graph_of node.spec) c.args.plans.items in
    let more = grows node.answer names lives (effects_more node.answer node.life node.number (g.met.N.Node g.world.𝓛 g.world.𝓜 g.world.𝓡 (λ s x. x, λ x. x, λ x. x, λ x. x)).stamped lives) in
    rw (c.in-Ok.ensures.run, c.new-reading.ensures.reader, c.new-reading.ensures.none, c.new-text.ensures) (record {
      kept = refl;
      not_spent = λ _. refl;
      alive = refl;
      lives = refl;
      topics = c.in-Ok.ensures.topics;
      behind = record {
        before = _;
        is_ahead = refl;
        written = written_none (run_text node.answer names lives) (run_rest node.answer c.args.options.counts names lives) (text_none node.answer names lives) more _ _;
        fed = refl;
      };
      reads_later = omega arith;
      writes_later = omega arith;
    })

pub replaying-preserved : goal.replaying-preserved
replaying-preserved g c =
    let node = g.N.Node in
    let names = c.args.names.now in
    let lives = map (graph_of node.spec) c.args.plans.items in
    let none = text_none node.answer names lives in
    let more = grows node.answer names lives (effects_more node.answer node.life node.number (g.met.N.Node g.world.𝓛 g.world.𝓜 g.world.𝓡 (λ s x. x, λ x. x, λ x. x, λ x. x)).stamped lives) in
    let text = run_text node.answer names lives in
    let rest = run_rest node.answer c.args.options.counts names lives in
    let before = c.replaying.invariant in
    let from = before.behind.before in
    let due = c.write_piece.new.text in
    let new = c.in-Ok-next.epoch.points.items in
    let on = written_some text rest none more _ _ _ _ c.replaying.text from before.behind.written due _ c.in-Ok-write_piece.ensures.ok in
    let goes : GoesOn from c.next.new.self.reader _ _ new = rw c.in-More.is at (c.in-Ok-next.ensures.epoch from before.behind.is_ahead).pauses in
    rw c.reuse.ensures (record {
      kept = before.kept;
      not_spent = λ no. ap (λ (r : ReaderState). r.spent) (not_ahead _ _ _ c.in-Ok-tell.ensures.ahead no) ∙ goes.unspent;
      alive = c.in-Ok-tell.ensures.spent;
      lives = c.in-Ok-tell.ensures.lives ∙ before.lives;
      topics = c.in-Ok-tell.ensures.topics;
      behind = record {
        before = c.next.new.self.reader;
        is_ahead = c.in-Ok-tell.ensures.ahead;
        written = written_points text rest none more _ _ _ _ due from on c.next.new.self.reader _ new _ goes.gave (rw (before.lives, before.behind.fed) at c.in-Ok-tell.ensures.text);
        fed = c.in-Ok-tell.ensures.points ∙ ap (λ (l : List PointValue). l ++ new) before.behind.fed ∙ sym goes.gave.given;
      };
      reads_later = grind arith;
      writes_later = grind arith;
    })

pub tell-requires-clause-few : goal.tell-requires-clause-few
tell-requires-clause-few g c κs within = (c.in-Ok-next.ensures.epoch c.replaying.invariant.behind.before c.replaying.invariant.behind.is_ahead).few

pub replaying-smaller : goal.replaying-smaller
replaying-smaller g c =
    let before = c.replaying.invariant in
    let from = before.behind.before in
    let goes : GoesOn from c.next.new.self.reader _ _ c.in-Ok-next.epoch.points.items = rw c.in-More.is at (c.in-Ok-next.ensures.epoch from before.behind.is_ahead).pauses in
    let few = goes.few in
    let some = goes.some in
    let given = ap length goes.gave.given ∙ length-append from.given c.in-Ok-next.epoch.points.items in
    let fed = ap length c.in-Ok-tell.ensures.points ∙ length-append c.replaying.telling.run.points c.in-Ok-next.epoch.points.items in
    let had = ap length before.behind.fed in
    omega (arith, few, some, given, fed, had)

pub returns-in-Fault-clause-read_fault : goal.returns-in-Fault-clause-read_fault
returns-in-Fault-clause-read_fault g c = λ is.
    let before = c.replaying.invariant in
    let rose = (c.in-Ok-next.ensures.epoch before.behind.before before.behind.is_ahead).rose in
    risen_since _ _ _ before.reads_later (rose (c.in-Fault.is ∙ ap pauses.Fault (met_read_fault c.in-Fault.fault c.from.result c.write_rest.result _ _ _ _ _ c.from.ensures c.write_rest.ensures.written is)))

pub returns-in-Err-write_piece-clause-replayed : goal.returns-in-Err-write_piece-clause-replayed
returns-in-Err-write_piece-clause-replayed g c =
    let node = g.N.Node in
    let names = c.args.names.now in
    let lives = map (graph_of node.spec) c.args.plans.items in
    let more = grows node.answer names lives (effects_more node.answer node.life node.number (g.met.N.Node g.world.𝓛 g.world.𝓜 g.world.𝓡 (λ s x. x, λ x. x, λ x. x, λ x. x)).stamped lives) in
    cut_off (run_text node.answer names lives) (run_rest node.answer c.args.options.counts names lives) (text_none node.answer names lives) more _ _ _ _
    c.replaying.text c.replaying.invariant.behind.before c.replaying.invariant.behind.written _ c.in-Err-write_piece.ensures.err

pub returns-in-Err-next-clause-replayed : goal.returns-in-Err-next-clause-replayed
returns-in-Err-next-clause-replayed g c =
    let node = g.N.Node in
    let names = c.args.names.now in
    let lives = map (graph_of node.spec) c.args.plans.items in
    let none = text_none node.answer names lives in
    let more = grows node.answer names lives (effects_more node.answer node.life node.number (g.met.N.Node g.world.𝓛 g.world.𝓜 g.world.𝓡 (λ s x. x, λ x. x, λ x. x, λ x. x)).stamped lives) in
    let text = run_text node.answer names lives in
    let rest = run_rest node.answer c.args.options.counts names lives in
    let due = c.write_piece.new.text in
    let on = written_some text rest none more _ _ _ _ c.replaying.text c.replaying.invariant.behind.before c.replaying.invariant.behind.written due _ c.in-Ok-write_piece.ensures.ok in
    nothing_more text rest none more _ _ _ _ due c.replaying.invariant.behind.before on

pub returns-in-Err-tell-clause-replayed : goal.returns-in-Err-tell-clause-replayed
returns-in-Err-tell-clause-replayed g c =
    let node = g.N.Node in
    let names = c.args.names.now in
    let lives = map (graph_of node.spec) c.args.plans.items in
    let none = text_none node.answer names lives in
    let more = grows node.answer names lives (effects_more node.answer node.life node.number (g.met.N.Node g.world.𝓛 g.world.𝓜 g.world.𝓡 (λ s x. x, λ x. x, λ x. x, λ x. x)).stamped lives) in
    let text = run_text node.answer names lives in
    let rest = run_rest node.answer c.args.options.counts names lives in
    let due = c.write_piece.new.text in
    let on = written_some text rest none more _ _ _ _ c.replaying.text c.replaying.invariant.behind.before c.replaying.invariant.behind.written due _ c.in-Ok-write_piece.ensures.ok in
    nothing_more text rest none more _ _ _ _ due c.replaying.invariant.behind.before on

pub returns-in-End-clause-replayed : goal.returns-in-End-clause-replayed
returns-in-End-clause-replayed g c =
    let node = g.N.Node in
    let names = c.args.names.now in
    let lives = map (graph_of node.spec) c.args.plans.items in
    let none = text_none node.answer names lives in
    let more = grows node.answer names lives (effects_more node.answer node.life node.number (g.met.N.Node g.world.𝓛 g.world.𝓜 g.world.𝓡 (λ s x. x, λ x. x, λ x. x, λ x. x)).stamped lives) in
    let text = run_text node.answer names lives in
    let rest = run_rest node.answer c.args.options.counts names lives in
    let before = c.replaying.invariant in
    let from = before.behind.before in
    let due = c.write_piece.new.text in
    let new = c.in-Ok-next.epoch.points.items in
    let on = written_some text rest none more _ _ _ _ c.replaying.text from before.behind.written due _ c.in-Ok-write_piece.ensures.ok in
    let stops : StopsBehind from c.next.new.self.reader _ _ new GaveAll = rw c.in-End.is at (c.in-Ok-next.ensures.epoch from before.behind.is_ahead).pauses in
    let last = stops.last in
    let told = c.tell.new.text in
    let now = written_points text rest none more _ _ _ _ due from on last stops.left new told stops.gave (rw (before.lives, before.behind.fed) at c.in-Ok-tell.ensures.text) in
    let sink = g.K.Sink in
    let run = c.tell.new.self.run in
    let lives_are : run.lives ≡ lives = c.in-Ok-tell.ensures.lives ∙ before.lives in
    let fed : run.points ≡ last.given = c.in-Ok-tell.ensures.points ∙ ap (λ (l : List PointValue). l ++ new) before.behind.fed ∙ sym stops.gave.given in
    let rest_is : run_rest node.answer c.args.options.counts names run.lives run.points ≡ rest last.given =
    ap (λ (ls : List (List (Placed g.row.N-Spec.Denot))). run_rest node.answer c.args.options.counts names ls run.points) lives_are ∙ ap rest fed in
    ended_so text rest none more c.finish.result _ _ _ _ _ told (rest last.given) _ _
    (subst (λ (r : List ℕ). EndsWritten c.finish.result (sink.written c.write_piece.new.out) (sink.written c.finish.new.out) told r (sink.faults c.write_piece.new.out) (sink.faults c.finish.new.out)) rest_is c.finish.ensures.written)
    (λ q. ends_well text rest none more _ _ _ _ told last now c.next.new.self.reader _ stops.reads _ stops.stops q)
    (λ q. ends_cut text rest none more _ _ _ _ told last now c.next.new.self.reader _ stops.reads _ stops.stops q)

pub returns-in-End-clause-read : goal.returns-in-End-clause-read
returns-in-End-clause-read g c = λ _.
    let before = c.replaying.invariant in
    let from = before.behind.before in
    let stops : StopsBehind from c.next.new.self.reader _ _ c.in-Ok-next.epoch.points.items GaveAll = rw c.in-End.is at (c.in-Ok-next.ensures.epoch from before.behind.is_ahead).pauses in
    (read_more stops.last c.next.new.self.reader _ stops.left _ (stops.gave.read _ c.replaying.invariant.behind.written.read) stops.reads).ends stops.stops.ended

pub returns-in-End-clause-net : goal.returns-in-End-clause-net
returns-in-End-clause-net g c = λ ok.
    let node = g.N.Node in
    let names = c.args.names.now in
    let lives = map (graph_of node.spec) c.args.plans.items in
    let none = text_none node.answer names lives in
    let more = grows node.answer names lives (effects_more node.answer node.life node.number (g.met.N.Node g.world.𝓛 g.world.𝓜 g.world.𝓡 (λ s x. x, λ x. x, λ x. x, λ x. x)).stamped lives) in
    let text = run_text node.answer names lives in
    let rest = run_rest node.answer c.args.options.counts names lives in
    let before = c.replaying.invariant in
    let from = before.behind.before in
    let due = c.write_piece.new.text in
    let new = c.in-Ok-next.epoch.points.items in
    let on = written_some text rest none more _ _ _ _ c.replaying.text from before.behind.written due _ c.in-Ok-write_piece.ensures.ok in
    let stops : StopsBehind from c.next.new.self.reader _ _ new GaveAll = rw c.in-End.is at (c.in-Ok-next.ensures.epoch from before.behind.is_ahead).pauses in
    let last = stops.last in
    let told = c.tell.new.text in
    let now = written_points text rest none more _ _ _ _ due from on last stops.left new told stops.gave (rw (before.lives, before.behind.fed) at c.in-Ok-tell.ensures.text) in
    let run = c.tell.new.self.run in
    let lives_are : run.lives ≡ lives = c.in-Ok-tell.ensures.lives ∙ before.lives in
    let fed : run.points ≡ last.given = c.in-Ok-tell.ensures.points ∙ ap (λ (l : List PointValue). l ++ new) before.behind.fed ∙ sym stops.gave.given in
    ends_with_net text rest none more _ _ _ _ told last now c.next.new.self.reader _ stops.reads node lives c.finish.new.ran stops.stops
    (subst (λ (ls : List (List (Placed g.row.N-Spec.Denot))). HoldsNet node ls last.given c.finish.new.ran) lives_are
    (subst (λ (ps : List PointValue). HoldsNet node run.lives ps c.finish.new.ran) fed (c.finish.ensures.net ok)))

pub returns-in-Fault-clause-replayed : goal.returns-in-Fault-clause-replayed
returns-in-Fault-clause-replayed g c =
    let node = g.N.Node in
    let names = c.args.names.now in
    let lives = map (graph_of node.spec) c.args.plans.items in
    let none = text_none node.answer names lives in
    let more = grows node.answer names lives (effects_more node.answer node.life node.number (g.met.N.Node g.world.𝓛 g.world.𝓜 g.world.𝓡 (λ s x. x, λ x. x, λ x. x, λ x. x)).stamped lives) in
    let text = run_text node.answer names lives in
    let rest = run_rest node.answer c.args.options.counts names lives in
    let before = c.replaying.invariant in
    let from = before.behind.before in
    let due = c.write_piece.new.text in
    let new = c.in-Ok-next.epoch.points.items in
    let on = written_some text rest none more _ _ _ _ c.replaying.text from before.behind.written due _ c.in-Ok-write_piece.ensures.ok in
    let stops : StopsBehind from c.next.new.self.reader _ _ new (λ last after. Fails last after c.in-Fault.fault) = rw c.in-Fault.is at (c.in-Ok-next.ensures.epoch from before.behind.is_ahead).pauses in
    let last = stops.last in
    let told = c.tell.new.text in
    let now = written_points text rest none more _ _ _ _ due from on last stops.left new told stops.gave (rw (before.lives, before.behind.fed) at c.in-Ok-tell.ensures.text) in
    finished text rest none more c.from.result c.write_rest.result _ _ _ _ _ told _ _ c.write_rest.ensures.written
    (λ q. rw c.from.ensures (ends_badly text rest none more _ _ _ _ told last now c.next.new.self.reader _ stops.reads c.in-Fault.fault _ stops.stops q))
    (λ q. cut_off text rest none more _ _ _ _ told last now _ q)

pub returns-in-Err-write_piece-clause-none : goal.returns-in-Err-write_piece-clause-none
returns-in-Err-write_piece-clause-none g c = λ no. c.replaying.invariant.kept

pub returns-in-Err-next-clause-none : goal.returns-in-Err-next-clause-none
returns-in-Err-next-clause-none g c = λ no. c.replaying.invariant.kept

pub returns-in-Err-tell-clause-none : goal.returns-in-Err-tell-clause-none
returns-in-Err-tell-clause-none g c = λ no. c.replaying.invariant.kept

pub returns-in-End-clause-none : goal.returns-in-End-clause-none
returns-in-End-clause-none g c = λ no. c.finish.ensures.none no ∙ c.replaying.invariant.kept

pub returns-in-Fault-clause-none : goal.returns-in-Fault-clause-none
returns-in-Fault-clause-none g c = λ no. c.replaying.invariant.kept
