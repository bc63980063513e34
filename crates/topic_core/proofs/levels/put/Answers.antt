use Rattle.std.proofs.Common.{rules}
use Rattle.topic_core.proofs.TreeLaws.{first_level, level_kept, level_put}
use Rattle.topic_core.proofs.levels.put.Goals as goal

pub returns-in-Some-clause-ok : goal.returns-in-Some-clause-ok
returns-in-Some-clause-ok c = level_put c.args.topics.now.entries (c.get_mut.follows.lender c.insert.new.self).entries c.args.topic.now c.args.id.now c.args.level c.in-Some.ids.now c.insert.new.self c.insert.result
    c.in-Some.ensures.value ((c.get_mut.follows.holds c.insert.new.self).3 (search rules)).0 (search rules)

pub returns-in-Some-clause-err : goal.returns-in-Some-clause-err
returns-in-Some-clause-err c = level_kept c.args.topics.now.entries (c.get_mut.follows.lender c.insert.new.self).entries c.args.topic.now c.args.id.now c.args.level c.in-Some.ids.now c.insert.new.self c.insert.result
    c.in-Some.ensures.value ((c.get_mut.follows.holds c.insert.new.self).3 (search rules)).0 c.insert.ensures.err

pub returns-clause-ok : goal.returns-clause-ok
returns-clause-ok c =
    let put = rw c.get_mut.follows.holds-at-none at c.in_ok-insert.ensures.updates.0 in
    first_level c.args.topics.now.entries c.insert-2.new.self.entries c.args.topic.now c.args.id.now c.in_ok-copy.field-0 c.args.level c.in_ok-ids.ids c.in_ok-copy.ensures.copy (search rules) c.in_default.ensures.value put
