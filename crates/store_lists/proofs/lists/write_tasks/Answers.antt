use Rattle.std.proofs.Common.{List, ℕ, ◌++◌, subst}
use Rattle.store_lists.specs.Lists.{tasks_text}
use Rattle.store_lists.specs.Writing.{HasWritten}
use Rattle.store_lists.proofs.WriteLaws.{lists_rest}
use Rattle.store_lists.proofs.lists.write_tasks.Goals as goal

pub returns-clause-lists : goal.returns-clause-lists
returns-clause-lists g c =
    let text = tasks_text c.args.tasks.now in
    let w = g.K.Sink.written c.args.out.now in
    let v = g.K.Sink.written c.put_all.new.out in
    lists_rest c.write_rest.result text c.put_all.new.text w v (g.K.Sink.written c.write_rest.new.out)
    (subst (λ (l : List ℕ). HasWritten (l ++ text) c.put_all.new.text w v) c.new-text.ensures c.in_default.ensures.puts) c.write_rest.ensures.lists
