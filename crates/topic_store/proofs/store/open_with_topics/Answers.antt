use Rattle.topic_store.specs.Opening.{IsOnWith}
use Rattle.topic_store.proofs.Found.{opens_as, refuses_at, seen_stands}
use Rattle.topic_store.proofs.store.open_with_topics.Goals as goal

pub returns-clause-opened : goal.returns-clause-opened
returns-clause-opened g c = λ tells rs stands.
    let seen = g.D.Disk.seen c.args.disk.now in
    let left = g.D.Disk.may_leave c.find_store.new.disk in
    opens_as (IsOnWith seen left) seen rs c.find_store.result (λ one opened on. seen_stands seen left one opened.0 on.0) stands (c.find_store.ensures.found tells)

pub returns-clause-refused : goal.returns-clause-refused
returns-clause-refused g c = λ tells part offset none.
    let seen = g.D.Disk.seen c.args.disk.now in
    let left = g.D.Disk.may_leave c.find_store.new.disk in
    refuses_at (IsOnWith seen left) seen part offset c.find_store.result (λ one opened on. seen_stands seen left one opened.0 on.0) none
    (c.find_store.ensures.found tells)
