use Rattle.std.proofs.Common.{List, ℕ, subst, sym, ◌∙◌}
use Rattle.std.specs.Prelude.{Option, Ok}
use Rattle.std.proofs.lemmas.Result.{err_from_is_err_and}
use Rattle.store_records.specs.declared.rec.Rec.{Rec}
use Rattle.store_kept.specs.Keeping.{kept_of}
use Rattle.store_compact.specs.Staying.{staying_of}
use Rattle.topic_store.specs.Rewriting.{StoredOrNot}
use Rattle.topic_store.proofs.Copies.{all_copied, body_is, one_copied, one_left_out, put_quietly, source_elsewhere, source_quietly}
use Rattle.topic_store.proofs.Rereading.{none_of}
use Rattle.topic_store.proofs.copying.copy_record.Goals as goal

pub returns-in_err-body-clause-copied : goal.returns-in_err-body-clause-copied
returns-in_err-body-clause-copied g c = λ tells rs copying.
    let p = err_from_is_err_and c.from_residual.result c.from_residual.ensures.1 in
    rw (p.1, p.2) (c.in_err-body.ensures.found tells rs copying.before copying.behind copying.source.stored copying.source.rests copying.split copying.at_gate)

pub returns-in_default-clause-copied : goal.returns-in_default-clause-copied
returns-in_default-clause-copied g c = λ tells rs copying.
    let none = subst (λ (o : Option (List ℕ × Rec × ℕ)). StoredOrNot (Ok o) copying.before copying.behind) (none_of _ c.in_default.not-Some)
    (c.in_ok-body.ensures.found tells rs copying.before copying.behind copying.source.stored copying.source.rests copying.split copying.at_gate) in
    all_copied rs c.args.gate _ _ _ _ _ _ copying _ _ none
    (put_quietly g.D.Disk.seen g.D.Disk.moment g.D.Disk.may_leave g.D.Disk.left_since c.args.disk.now c.next_stored.new.disk (c.next_stored.ensures.quiet tells)
    (staying_of rs copying.before) c.args.log.now (kept_of c.args.kept.now) copying.put)

pub returns-then-not-is_kept-clause-copied : goal.returns-then-not-is_kept-clause-copied
returns-then-not-is_kept-clause-copied g c = λ tells rs copying.
    let found = subst (λ (o : Option (List ℕ × Rec × ℕ)). StoredOrNot (Ok o) copying.before copying.behind) c.in-Some.is
    (c.in_ok-body.ensures.found tells rs copying.before copying.behind copying.source.stored copying.source.rests copying.split copying.at_gate) in
    let quiet = c.next_stored.ensures.quiet tells in
    one_left_out rs c.args.gate _ _ _ _ _ _ copying c.in-Some.body c.in-Some.rec c.in-Some.next found _ _ (sym c.if-not-is_kept.true ∙ c.is_kept.ensures)
    (source_quietly g.D.Disk.seen g.D.Disk.moment g.D.Disk.may_leave g.D.Disk.left_since c.args.disk.now c.next_stored.new.disk quiet rs c.args.old.now (kept_of c.args.all.now) copying.source)
    (put_quietly g.D.Disk.seen g.D.Disk.moment g.D.Disk.may_leave g.D.Disk.left_since c.args.disk.now c.next_stored.new.disk quiet
    (staying_of rs copying.before) c.args.log.now (kept_of c.args.kept.now) copying.put)

pub returns-clause-copied : goal.returns-clause-copied
returns-clause-copied g c = λ tells rs copying.
    let found = subst (λ (o : Option (List ℕ × Rec × ℕ)). StoredOrNot (Ok o) copying.before copying.behind) c.in-Some.is
    (c.in_ok-body.ensures.found tells rs copying.before copying.behind copying.source.stored copying.source.rests copying.split copying.at_gate) in
    let quiet = c.next_stored.ensures.quiet tells in
    let put = put_quietly g.D.Disk.seen g.D.Disk.moment g.D.Disk.may_leave g.D.Disk.left_since c.args.disk.now c.next_stored.new.disk quiet
    (staying_of rs copying.before) c.args.log.now (kept_of c.args.kept.now) copying.put in
    let source = source_quietly g.D.Disk.seen g.D.Disk.moment g.D.Disk.may_leave g.D.Disk.left_since c.args.disk.now c.next_stored.new.disk quiet rs c.args.old.now (kept_of c.args.all.now) copying.source in
    one_copied rs c.args.gate _ _ _ _ _ _ copying c.in-Some.body c.in-Some.rec c.in-Some.next found _ _ c.put_body.new.log (kept_of c.put_body.new.kept)
    (sym c.if-not-is_kept.false ∙ c.is_kept.ensures)
    (source_elsewhere c.args.log.now.part _ (g.D.Disk.seen c.next_stored.new.disk) (g.D.Disk.seen c.put_body.new.disk) (g.D.Disk.may_leave c.next_stored.new.disk) (g.D.Disk.may_leave c.put_body.new.disk) rs c.args.old.now
    (kept_of c.args.all.now) copying.apart (c.put_body.ensures.elsewhere tells) (c.put_body.ensures.any_moment tells (staying_of rs copying.before) put).now source)
    c.put_body.ensures.part
    (c.in_ok-put_body.ensures.put tells (staying_of rs copying.before)
    (c.as_slice.ensures ∙ body_is rs c.args.gate _ _ _ _ _ _ copying c.in-Some.body c.in-Some.rec c.in-Some.next found) put)
