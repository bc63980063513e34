use Rattle.std.proofs.Common.{◌≡◌, ◌+◌, ℕ, sym, ◌∙◌, ap, subst}
use Rattle.std.proofs.lemmas.Result.{err_from_is_err_and}
use Rattle.kap_io.specs.Disk.{Image, On}
use Rattle.kap_io.specs.Moments.{Moments}
use Rattle.kap_io.specs.declared.disk.Part.TheVariants.{Head}
use Rattle.gate_log.specs.Head.{IsHead, IsRunOrNext, IsSettledHead}
use Rattle.store_kept.specs.Keeping.{kept_of}
use Rattle.topic_store.specs.Stores.{store_of}
use Rattle.topic_store.proofs.Quietly.{on_quietly}
use Rattle.topic_store.proofs.Rewritten.{no_head, on_other, quiet_first, run_is, same_run, settled, switching_moments, writing_moments}
use Rattle.topic_store.proofs.rewriting.rewrite_store.Goals as goal

pub returns-in_err-log-clause-rewritten : goal.returns-in_err-log-clause-rewritten
returns-in_err-log-clause-rewritten g c = λ tells rs on.
    let p = err_from_is_err_and c.from_residual-in_err-log.result c.from_residual-in_err-log.ensures.1 in
    let store = store_of c.args.old.now (kept_of c.args.all.now) in
    let on0 = on_quietly g.D.Disk.seen g.D.Disk.moment g.D.Disk.may_leave g.D.Disk.left_since c.args.disk.now c.read_run.new.disk rs store (c.read_run.ensures.quiet tells) on in
    rw (p.1, p.2) (c.in_err-log.ensures.written tells rs on0)

pub returns-in_err-log-clause-any_moment : goal.returns-in_err-log-clause-any_moment
returns-in_err-log-clause-any_moment g c = λ tells rs on.
    let store = store_of c.args.old.now (kept_of c.args.all.now) in
    let quiet = c.read_run.ensures.quiet tells in
    let on0 = on_quietly g.D.Disk.seen g.D.Disk.moment g.D.Disk.may_leave g.D.Disk.left_since c.args.disk.now c.read_run.new.disk rs store quiet on in
    quiet_first g.D.Disk.seen g.D.Disk.moment g.D.Disk.may_leave g.D.Disk.left_since rs store c.args.disk.now c.read_run.new.disk c.write_other.new.disk on quiet
    (writing_moments g.D.Disk.moment g.D.Disk.may_leave g.D.Disk.left_since rs g.D.Disk.seen store c.read_run.new.disk c.write_other.new.disk on0 (c.write_other.ensures.any_moment tells rs on0))

pub returns-in-Ok-clause-rewritten : goal.returns-in-Ok-clause-rewritten
returns-in-Ok-clause-rewritten g c = λ tells rs on.
    let store = store_of c.args.old.now (kept_of c.args.all.now) in
    let quiet = c.read_run.ensures.quiet tells in
    let on0 = on_quietly g.D.Disk.seen g.D.Disk.moment g.D.Disk.may_leave g.D.Disk.left_since c.args.disk.now c.read_run.new.disk rs store quiet on in
    let written = c.in_ok-log.ensures.written tells rs on0 in
    let found : c.in_ok-run.run' ≡ on.run = c.in_ok-run.ensures.found tells on.run on.head (c.part.ensures ∙ on.part) in
    let head : g.D.Disk.seen c.write_other.new.disk Head ≡ g.D.Disk.seen c.args.disk.now Head =
    c.write_other.ensures.elsewhere tells Head (no_head rs _ _ store on0) ∙ ap (λ (i : Image). i Head) quiet.reads in
    let same : written.on.run ≡ c.in_ok-run.run' = same_run rs rs _ _ _ _ store store on written.on head ∙ sym found in
    let ready = subst (λ (n : ℕ). IsSettledHead n (g.D.Disk.seen c.write_other.new.disk) (g.D.Disk.may_leave c.write_other.new.disk)) same (settled rs _ _ store written.on) in
    on_other rs (g.D.Disk.seen c.write_other.new.disk) (g.D.Disk.may_leave c.write_other.new.disk) store written.on c.in_ok-log.log (kept_of c.in_ok-log.kept) c.in_ok-log.ensures.log.0 written.put _
    (g.D.Disk.seen c.switch.new.disk) (g.D.Disk.may_leave c.switch.new.disk) (c.switch.ensures.elsewhere tells) (c.switch.ensures.any_moment tells ready).now
    (subst (λ (n : ℕ). IsSettledHead (n + 1) (g.D.Disk.seen c.switch.new.disk) (g.D.Disk.may_leave c.switch.new.disk)) (sym same) (c.in-Ok.ensures.switched tells ready))

pub returns-in-Ok-clause-switched : goal.returns-in-Ok-clause-switched
returns-in-Ok-clause-switched g c = λ tells rs on run head_of.
    let store = store_of c.args.old.now (kept_of c.args.all.now) in
    let quiet = c.read_run.ensures.quiet tells in
    let on0 = on_quietly g.D.Disk.seen g.D.Disk.moment g.D.Disk.may_leave g.D.Disk.left_since c.args.disk.now c.read_run.new.disk rs store quiet on in
    let written = c.in_ok-log.ensures.written tells rs on0 in
    let found : c.in_ok-run.run' ≡ on.run = c.in_ok-run.ensures.found tells on.run on.head (c.part.ensures ∙ on.part) in
    let head : g.D.Disk.seen c.write_other.new.disk Head ≡ g.D.Disk.seen c.args.disk.now Head =
    c.write_other.ensures.elsewhere tells Head (no_head rs _ _ store on0) ∙ ap (λ (i : Image). i Head) quiet.reads in
    let same : written.on.run ≡ c.in_ok-run.run' = same_run rs rs _ _ _ _ store store on written.on head ∙ sym found in
    let ready = subst (λ (n : ℕ). IsSettledHead n (g.D.Disk.seen c.write_other.new.disk) (g.D.Disk.may_leave c.write_other.new.disk)) same (settled rs _ _ store written.on) in
    let is : c.in_ok-run.run' ≡ run = found ∙ run_is on.run run _ on.head head_of in
    subst (λ (n : ℕ). IsHead (n + 1) (g.D.Disk.seen c.switch.new.disk Head)) is (c.in-Ok.ensures.switched tells ready).head

pub returns-in-Ok-clause-any_moment : goal.returns-in-Ok-clause-any_moment
returns-in-Ok-clause-any_moment g c = λ tells rs on.
    let store = store_of c.args.old.now (kept_of c.args.all.now) in
    let quiet = c.read_run.ensures.quiet tells in
    let on0 = on_quietly g.D.Disk.seen g.D.Disk.moment g.D.Disk.may_leave g.D.Disk.left_since c.args.disk.now c.read_run.new.disk rs store quiet on in
    let written = c.in_ok-log.ensures.written tells rs on0 in
    let found : c.in_ok-run.run' ≡ on.run = c.in_ok-run.ensures.found tells on.run on.head (c.part.ensures ∙ on.part) in
    let head : g.D.Disk.seen c.write_other.new.disk Head ≡ g.D.Disk.seen c.args.disk.now Head =
    c.write_other.ensures.elsewhere tells Head (no_head rs _ _ store on0) ∙ ap (λ (i : Image). i Head) quiet.reads in
    let same : written.on.run ≡ c.in_ok-run.run' = same_run rs rs _ _ _ _ store store on written.on head ∙ sym found in
    let ready = subst (λ (n : ℕ). IsSettledHead n (g.D.Disk.seen c.write_other.new.disk) (g.D.Disk.may_leave c.write_other.new.disk)) same (settled rs _ _ store written.on) in
    quiet_first g.D.Disk.seen g.D.Disk.moment g.D.Disk.may_leave g.D.Disk.left_since rs store c.args.disk.now c.read_run.new.disk c.switch.new.disk on quiet
    (switching_moments g.D.Disk.moment g.D.Disk.may_leave g.D.Disk.left_since rs g.D.Disk.seen store c.read_run.new.disk c.write_other.new.disk c.switch.new.disk c.in_ok-log.log (kept_of c.in_ok-log.kept)
    on0 written.on c.in_ok-log.ensures.log.0 written.put (c.write_other.ensures.any_moment tells rs on0)
    (subst (λ (n : ℕ). Moments g.D.Disk.moment g.D.Disk.may_leave g.D.Disk.left_since c.write_other.new.disk c.switch.new.disk (On Head (λ _ file. IsRunOrNext n file))) (sym same)
    (c.switch.ensures.any_moment tells ready)))

pub returns-in-Err-clause-any_moment : goal.returns-in-Err-clause-any_moment
returns-in-Err-clause-any_moment g c = λ tells rs on.
    let store = store_of c.args.old.now (kept_of c.args.all.now) in
    let quiet = c.read_run.ensures.quiet tells in
    let on0 = on_quietly g.D.Disk.seen g.D.Disk.moment g.D.Disk.may_leave g.D.Disk.left_since c.args.disk.now c.read_run.new.disk rs store quiet on in
    let written = c.in_ok-log.ensures.written tells rs on0 in
    let found : c.in_ok-run.run' ≡ on.run = c.in_ok-run.ensures.found tells on.run on.head (c.part.ensures ∙ on.part) in
    let head : g.D.Disk.seen c.write_other.new.disk Head ≡ g.D.Disk.seen c.args.disk.now Head =
    c.write_other.ensures.elsewhere tells Head (no_head rs _ _ store on0) ∙ ap (λ (i : Image). i Head) quiet.reads in
    let same : written.on.run ≡ c.in_ok-run.run' = same_run rs rs _ _ _ _ store store on written.on head ∙ sym found in
    let ready = subst (λ (n : ℕ). IsSettledHead n (g.D.Disk.seen c.write_other.new.disk) (g.D.Disk.may_leave c.write_other.new.disk)) same (settled rs _ _ store written.on) in
    quiet_first g.D.Disk.seen g.D.Disk.moment g.D.Disk.may_leave g.D.Disk.left_since rs store c.args.disk.now c.read_run.new.disk c.switch.new.disk on quiet
    (switching_moments g.D.Disk.moment g.D.Disk.may_leave g.D.Disk.left_since rs g.D.Disk.seen store c.read_run.new.disk c.write_other.new.disk c.switch.new.disk c.in_ok-log.log (kept_of c.in_ok-log.kept)
    on0 written.on c.in_ok-log.ensures.log.0 written.put (c.write_other.ensures.any_moment tells rs on0)
    (subst (λ (n : ℕ). Moments g.D.Disk.moment g.D.Disk.may_leave g.D.Disk.left_since c.write_other.new.disk c.switch.new.disk (On Head (λ _ file. IsRunOrNext n file))) (sym same)
    (c.switch.ensures.any_moment tells ready)))
