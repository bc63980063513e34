use Rattle.std.proofs.Common.{◌≡◌, ℕ, ◌+◌, ◌==◌, Bool, if◌then◌else◌, sym, subst, ◌∙◌, arith}
use Rattle.std.proofs.lemmas.Bool.{eqb-true}
use Rattle.reply_bodies.specs.Asks.{IsFailed, change_of}
use Rattle.kap_service.specs.Asks.{fault_of, status_of}
use Rattle.kap_service.specs.Causes.{AreCaused}
use Rattle.kap_service.specs.Kept.{IsTold, posted}
use Rattle.kap_service.specs.Stores.{AreAllBehind}
use Rattle.kap_service.specs.Values.{Decisions}
use Rattle.kap_service.proofs.KeptLaws.{both_true, caused_on, if_ok, not_failed, told_all, told_on}
use Rattle.kap_service.proofs.StoreLaws.{prefix_trans}
use Rattle.kap_service.proofs.state.State.answer.Goals as goal

pub invariant_of-self-2 : goal.invariant_of-self-2
invariant_of-self-2 g c =
    let inv = c.self.invariant in
    let first = c.self.inside.first.total in
    let second = c.self.inside.second.total in
    let ask = c.args.ask.now in
    let status = status_of c.judged-judged.result in
    let same = c.status_in-status.ensures in
    let one : c.enter.new.book.total ≡ first + change_of ask status =
    subst (λ (n : ℕ). c.enter.new.book.total ≡ first + change_of ask n) same
    (subst (λ (b : Bool). c.enter.new.book.total ≡ first + (if b then 1 else 0)) c.changes.ensures
    (subst (λ (t : ℕ). c.enter.new.book.total ≡ t + (if c.changes.result then 1 else 0)) c.audit.ensures.total
    c.enter.ensures.total)) in
    let two : c.enter-2.new.book.total ≡ second + fault_of status =
    subst (λ (n : ℕ). c.enter-2.new.book.total ≡ second + fault_of n) same c.enter-2.ensures.total in
    let shorts = c.is_short-self-inside.ensures in
    let read = c.show-lacks.ensures.read in (
      (let a = c.enter.ensures.count in let b = c.enter.ensures.total in let d = inv.0 in let e = c.audit.ensures.total in omega arith),
      (let a = c.enter-2.ensures.count in let b = c.enter-2.ensures.total in let d = inv.1 in omega arith),
      λ zero calm.
          let s = shorts calm in
          read.spent ∙ c.judged-judged.ensures.usable
          (not_failed second status (sym two ∙ zero)
          (λ e. s.1.0 (same ∙ e))),
      (λ calm. c.show-lacks.ensures.published (shorts calm).1.1),
      λ owned.
          let k = inv.4 owned in
          let right = c.judged-judged.ensures.right k.right_is in
          record {
            right_is = read.stays_right right;
            stores = λ store left.
                let here = read.stores right store left in
                let j = c.judged-judged.ensures.stores k.right_is store here in
                let t = told_on first second c.self.inside.short c.show-lacks.result
                (g.E.Engine.value c.self.inside.engine).spent
                (g.E.Engine.value c.judged-judged.new.engine).spent
                c.is_short-self-inside.result c.self.inside.poster c.show-lacks.new.poster ask status
                (g.E.Engine.value c.judged-judged.new.engine).own j.origin store (k.stores j.origin j.was) j.how
                inv.2 c.judged-judged.ensures.usable
                (λ calm. let s = shorts calm in (s.0, ((λ e. s.1.0 (same ∙ e)), s.1.1)))
                (c.show-lacks.ensures.begun right store here)
                (λ lacks unspent. c.show-lacks.ensures.whole lacks unspent right store here) in
                subst (λ (n : ℕ). IsTold n c.enter-2.new.book.total c.is_short-self-inside.result c.show-lacks.new.poster store)
                (sym one)
                (subst (λ (n : ℕ). IsTold (first + change_of ask status) n c.is_short-self-inside.result c.show-lacks.new.poster store)
                (sym two) t);
            caused =
                let so = c.status_in-status.result == 500 in
                subst (λ (n : ℕ). AreCaused g.L2.Since.before (g.E.Engine.value c.show-lacks.new.engine).faults n)
                (sym c.enter-2.ensures.total)
                (caused_on so g.L2.Since.before (g.E.Engine.value c.self.inside.engine).faults
                (g.E.Engine.value c.judged-judged.new.engine).faults (g.E.Engine.value c.show-lacks.new.engine).faults
                second k.caused c.judged-judged.ensures.later
                (λ e. c.judged-judged.ensures.cause k.right_is (sym same ∙ eqb-true c.status_in-status.result 500 e))
                read.later);
          },
    )

pub returns-clause-shown : goal.returns-clause-shown
returns-clause-shown g c = λ owned is.
    let k = c.self.invariant.4 owned in
    let right = c.judged-judged.ensures.right k.right_is in
    let read = c.show-lacks.ensures.read in
    let engine = c.show-lacks.new.engine in
    let posts = c.show-lacks.new.poster in
    let both = both_true c.hear-heard-2.result c.has_told_all-all.result (sym c.is_shown-shown.ensures ∙ is) in
    let after : ℕ = (g.E.Engine.value c.judged-judged.new.engine).changes in
    if_ok
    (λ (d : Decisions). (IsFailed d.reply.status → ⊥) → after ≡ d.changes + change_of c.args.ask.now d.reply.status)
    (AreAllBehind g.E.Engine.value g.E.Engine.right g.E.Engine.leaves c.args.ask.now c.hear-heard-2.new.kept)
    c.judged-judged.result
    (λ d exact fine. record {
      engine = engine;
      right_is = read.stays_right right;
      unspent = c.has_told_all-all.ensures.unspent both.1;
      changes_are = read.changes ∙ exact fine;
      all = λ store left.
          let here = read.stores right store left in
          let j = c.judged-judged.ensures.stores k.right_is store here in
          let pre = prefix_trans (posted c.self.inside.poster) j.origin.stored store.stored
          (k.stores j.origin j.was).begun j.how.changed.stored in
          c.hear-heard-2.ensures.heard both.0
          ∙ told_all posts store.stored c.tell-told.result (c.show-lacks.ensures.begun right store here pre)
          c.tell-told.ensures (c.has_told_all-all.ensures.all both.1 (read.stays_right right) store left);
    })
    (c.judged-judged.ensures.exact k.right_is)
