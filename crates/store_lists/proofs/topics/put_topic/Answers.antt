use Rattle.std.proofs.Common.{Err, ◌++◌, subst}
use Rattle.std.specs.Prelude.{codes}
use Rattle.std.specs.FinMap.{entries}
use Rattle.std.specs.List.{flat_map}
use Rattle.kap_base.specs.declared.items.Level.{Level}
use Rattle.store_lists.specs.Lists.{id_line, level_in, level_line}
use Rattle.store_lists.specs.Writing.{PutsLines}
use Rattle.store_lists.proofs.WriteLaws.{putting_cut, putting_none, puts_then}
use Rattle.store_lists.proofs.topics.put_topic.Goals as goal

pub returns-in-Err-clause-puts : goal.returns-in-Err-clause-puts
returns-in-Err-clause-puts g c =
    let lines = level_line (codes "topic ") c.level_in.result c.args.topic.now in
    let rest = flat_map id_line (entries c.args.ids.now) in
    let w = g.K.Sink.written c.args.out.now in
    let v = g.K.Sink.written c.put_line.new.out in
    subst (λ (level : Level). PutsLines {T = Unit {0}} (Err c.in-Err.fault) (level_line (codes "topic ") level c.args.topic.now ++ rest) c.args.text.now c.put_line.new.text w v) c.level_in.ensures
    (putting_cut c.in-Err.fault c.args.text.now (lines ++ rest) lines rest c.args.text.now c.put_line.new.text c.put_line.new.text w w v (putting_none c.args.text.now (lines ++ rest) w) c.in-Err.ensures.puts)

pub returns-clause-puts : goal.returns-clause-puts
returns-clause-puts g c =
    let lines = level_line (codes "topic ") c.level_in.result c.args.topic.now in
    let rest = flat_map id_line (entries c.args.ids.now) in
    let w = g.K.Sink.written c.args.out.now in
    let v = g.K.Sink.written c.put_line.new.out in
    let x = g.K.Sink.written c.put_ids.new.out in
    subst (λ (level : Level). PutsLines c.put_ids.result (level_line (codes "topic ") level c.args.topic.now ++ rest) c.args.text.now c.put_ids.new.text w x) c.level_in.ensures
    (puts_then c.put_ids.result c.args.text.now lines rest c.put_line.new.text c.put_ids.new.text w v x c.in_default.ensures.puts c.put_ids.ensures.puts)
