use Rattle.std.proofs.Common.{List, Ok, Err}
use Rattle.std.proofs.lemmas.Result.{err_from_is_err_and}
use Rattle.store_records.specs.declared.rec.Rec.{Rec}
use Rattle.topic_store.specs.Stores.{IsOn, StoreState}
use Rattle.topic_store.proofs.Found.{opens_as, refuses_at, seen_stands, without_topics}
use Rattle.topic_store.proofs.store.open_store.Goals as goal

pub returns-in_err-store-clause-found : goal.returns-in_err-store-clause-found
returns-in_err-store-clause-found g c = λ tells.
    let p = err_from_is_err_and c.from_residual.result c.from_residual.ensures.1 in
    rw (p.1, p.2) (without_topics (g.D.Disk.seen c.args.disk.now) (g.D.Disk.may_leave c.find_store.new.disk) c.in_err-store.field-0.0
    (c.in_err-store.ensures.found tells))

pub returns-in_err-store-clause-opened : goal.returns-in_err-store-clause-opened
returns-in_err-store-clause-opened g c = λ tells rs stands.
    let p = err_from_is_err_and c.from_residual.result c.from_residual.ensures.1 in
    let seen = g.D.Disk.seen c.args.disk.now in
    let left = g.D.Disk.may_leave c.find_store.new.disk in
    rw (p.1, p.2) (opens_as (λ (one : List Rec) (store : StoreState). IsOn one seen left store) seen rs (Err c.in_err-store.field-0.0)
    (λ one store on. seen_stands seen left one store on) stands
    (without_topics seen left c.in_err-store.field-0.0 (c.in_err-store.ensures.found tells)))

pub returns-in_err-store-clause-refused : goal.returns-in_err-store-clause-refused
returns-in_err-store-clause-refused g c = λ tells part offset none.
    let p = err_from_is_err_and c.from_residual.result c.from_residual.ensures.1 in
    let seen = g.D.Disk.seen c.args.disk.now in
    let left = g.D.Disk.may_leave c.find_store.new.disk in
    rw (p.1, p.2) (refuses_at (λ (one : List Rec) (store : StoreState). IsOn one seen left store) seen part offset (Err c.in_err-store.field-0.0)
    (λ one store on. seen_stands seen left one store on) none
    (without_topics seen left c.in_err-store.field-0.0 (c.in_err-store.ensures.found tells)))

pub returns-clause-found : goal.returns-clause-found
returns-clause-found g c = λ tells.
    let found = c.in_ok-store.ensures.found tells in
    (found.0, found.1.0)

pub returns-clause-opened : goal.returns-clause-opened
returns-clause-opened g c = λ tells rs stands.
    let found = c.in_ok-store.ensures.found tells in
    let seen = g.D.Disk.seen c.args.disk.now in
    let left = g.D.Disk.may_leave c.find_store.new.disk in
    opens_as (λ (one : List Rec) (store : StoreState). IsOn one seen left store) seen rs (Ok _) (λ one store on. seen_stands seen left one store on) stands
    (found.0, found.1.0)

pub returns-clause-refused : goal.returns-clause-refused
returns-clause-refused g c = λ tells part offset none.
    let found = c.in_ok-store.ensures.found tells in
    let seen = g.D.Disk.seen c.args.disk.now in
    let left = g.D.Disk.may_leave c.find_store.new.disk in
    refuses_at (λ (one : List Rec) (store : StoreState). IsOn one seen left store) seen part offset (Ok _) (λ one store on. seen_stands seen left one store on) none
    (found.0, found.1.0)
