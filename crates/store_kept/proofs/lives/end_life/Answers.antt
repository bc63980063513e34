use Rattle.std.proofs.Common.{◌≡◌, false, List, sym, subst}
use Rattle.std.specs.List.{list_any}
use Rattle.store_records.specs.Held.{is_open_of}
use Rattle.store_records.specs.declared.task.Life.{Life}
use Rattle.store_kept.specs.Lives.{StandsLast}
use Rattle.store_kept.proofs.Places.{ended_at, ended_nowhere}
use Rattle.store_kept.proofs.lives.end_life.Goals as goal

pub returns-in-Some-clause-items : goal.returns-in-Some-clause-items
returns-in-Some-clause-items c =
    ended_at c.args.id.now c.args.last c.args.lives.now.items c.in-Some.at c.index_mut.result.now
    (subst (λ (l : List Life). StandsLast c.args.id.now l c.in-Some.at) c.deref.ensures.value c.in-Some.ensures) c.index_mut.ensures.value

pub returns-in-None-clause-items : goal.returns-in-None-clause-items
returns-in-None-clause-items c =
    sym (ended_nowhere c.args.id.now c.args.last c.args.lives.now.items
    (subst (λ (l : List Life). list_any (is_open_of c.args.id.now) l ≡ false) c.deref.ensures.value c.in-None.ensures))
