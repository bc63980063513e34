use Rattle.std.proofs.Common.{true≢false, sym, ◌∙◌, ap, subst, Some}
use Rattle.std.specs.Prelude.{Option, Ok}
use Rattle.store_records.specs.Orders.{DefinesValid}
use Rattle.store_records.specs.Records.{RecordOf}
use Rattle.store_records.specs.declared.rec.Rec.{Rec}
use Rattle.store_kept.proofs.Records.{same_record}
use Rattle.topic_store.proofs.copying.stored_record.Goals as goal

pub returns-then-not-defines_valid-clause-found : goal.returns-then-not-defines_valid-clause-found
returns-then-not-defines_valid-clause-found c = λ r is short valid.
    let read = subst (λ (o : Option Rec). RecordOf c.args.body.now (Ok o)) c.in-Some.is c.in_ok-rec.ensures in
    let same = same_record r c.in-Some.rec c.args.body.now is read in
    absurd (true≢false (sym (c.defines_valid.ensures.whole (subst DefinesValid same valid)) ∙ c.if-not-defines_valid.true))

pub returns-clause-found : goal.returns-clause-found
returns-clause-found c = λ r is short valid.
    let read = subst (λ (o : Option Rec). RecordOf c.args.body.now (Ok o)) c.in-Some.is c.in_ok-rec.ensures in
    ap (λ (x : Rec). Some x) (same_record c.in-Some.rec r c.args.body.now read is)
