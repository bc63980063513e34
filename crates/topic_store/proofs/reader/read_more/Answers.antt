use Rattle.std.proofs.Common.{◌≡◌, ℕ, ◌++◌, List, length, take, drop, ap, ◌∙◌, subst, arith}
use Rattle.kap_base.specs.Points.{PointValue}
use Rattle.std.specs.Prelude.{Option, Ok}
use Rattle.std.proofs.lemmas.Result.{err_from_is_err_and}
use Rattle.store_records.specs.Held.{points_in}
use Rattle.store_records.specs.declared.rec.Rec.{Rec}
use Rattle.topic_store.specs.Points.{state_of}
use Rattle.topic_store.specs.Stored.{RecordOrNot}
use Rattle.topic_store.proofs.PointLaws.{goes_on, more_fault, not_ended}
use Rattle.topic_store.proofs.Rereading.{none_of}
use Rattle.topic_store.proofs.reader.read_more.Goals as goal

pub returns-in_err-rec-clause-found : goal.returns-in_err-rec-clause-found
returns-in_err-rec-clause-found g c = λ tells rs points follow rests stands.
    let p = err_from_is_err_and c.from_residual.result c.from_residual.ensures.1 in
    rw (p.1, p.2) (more_fault rs stands.before stands.behind points c.in_err-rec.field-0.0
    (c.in_err-rec.ensures.found tells rs stands.before stands.behind follow rests stands.split stands.at_gate))

pub returns-in_default-clause-found : goal.returns-in_default-clause-found
returns-in_default-clause-found g c = λ tells rs points follow rests stands.
    absurd (not_ended rs points (state_of c.args.from) stands
    (subst (λ (o : Option (Rec × ℕ)). RecordOrNot (Ok o) stands.before stands.behind) (none_of _ c.in_default.not-Some)
    (c.in_ok-rec.ensures.found tells rs stands.before stands.behind follow rests stands.split stands.at_gate)) c.requires.some)

pub returns-clause-found : goal.returns-clause-found
returns-clause-found g c = λ tells rs points follow rests stands.
    let there = subst (λ (o : Option (Rec × ℕ)). RecordOrNot (Ok o) stands.before stands.behind) c.in-Some.is
    (c.in_ok-rec.ensures.found tells rs stands.before stands.behind follow rests stands.split stands.at_gate) in
    let from = c.args.from in
    let items : c.stored_in-items.result ≡ points_in c.in-Some.rec = c.stored_in-items.ensures in
    let size : length c.stored_in-items.result ≡ length (points_in c.in-Some.rec) = ap (λ (l : List PointValue). length l) items in
    let more : c.put_behind.new.piece.items ≡ take from.left (drop from.skip (points_in c.in-Some.rec)) =
    c.in_ok-put_behind.ensures ∙ ap (λ (l : List PointValue). l ++ take from.left (drop from.skip c.stored_in-items.result)) c.new-points.ensures.items
    ∙ ap (λ (l : List PointValue). take from.left (drop from.skip l)) items in
    goes_on rs points (state_of from) stands c.in-Some.rec c.in-Some.next there c.put_behind.new.piece.items c.put_shared.new.shared.items
    c.saturating_sub.result c.saturating_sub-left.result more c.in_ok-put_shared.ensures
    (omega (arith, c.saturating_sub.ensures, c.len-count.ensures, size))
    (omega (arith, c.saturating_sub-left.ensures, c.len.ensures, c.put_behind.new.piece.ok))
