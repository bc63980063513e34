use Rattle.std.proofs.Common.{◌≡◌, ◌+◌, length, arith}
use Rattle.kap_service.proofs.PostLaws.{err_begun, ok_begun, own_behind, own_whole}
use Rattle.kap_service.proofs.showing.post_missing.Goals as goal

pub returns-in_err-post_all-clause-begun : goal.returns-in_err-post_all-clause-begun
returns-in_err-post_all-clause-begun g c right store left begun =
    let total = c.count-total.ensures right c.requires.unspent store left in
    let last = c.own-own.ensures.last right c.requires.unspent store left in
    let size : c.count-count.result + length c.own-own.result.now ≡ length store.stored = omega arith in
    let f = own_behind store.stored c.own-own.result.now last.0 c.count-count.result last.1 size in
    err_begun c.args.poster.now c.post_all.new.poster store.stored c.own-own.result.now c.count-count.result begun
    c.count-count.ensures f c.post_all.ensures.published c.in_err-post_all.ensures.err

pub returns-then-count-total-2-clause-begun : goal.returns-then-count-total-2-clause-begun
returns-then-count-total-2-clause-begun g c right store left begun =
    let total = c.count-total.ensures right c.requires.unspent store left in
    let last = c.own-own.ensures.last right c.requires.unspent store left in
    let size : c.count-count.result + length c.own-own.result.now ≡ length store.stored = omega arith in
    let f = own_behind store.stored c.own-own.result.now last.0 c.count-count.result last.1 size in
    ok_begun c.args.poster.now c.post_all.new.poster store.stored c.own-own.result.now c.count-count.result begun
    c.count-count.ensures f c.post_all.ensures.published c.in_ok-post_all.ensures.ok

pub returns-then-count-total-2-clause-ok : goal.returns-then-count-total-2-clause-ok
returns-then-count-total-2-clause-ok g c right store left begun =
    let total = c.count-total.ensures right c.requires.unspent store left in
    let last = c.own-own.ensures.last right c.requires.unspent store left in
    let size : c.count-count.result + length c.own-own.result.now ≡ length store.stored = omega arith in
    own_whole c.args.poster.now c.post_all.new.poster store.stored c.own-own.result.now last.0 c.count-count.result begun
    last.1 c.count-count.ensures size c.post_all.ensures.published c.in_ok-post_all.ensures.ok
