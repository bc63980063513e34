use Rattle.std.proofs.Common.{◌≡◌, ◌<◌, length, sym, arith}
use Rattle.kap_base.proofs.ManyLaws.{put_greater, put_equal}
use Rattle.kap_base.proofs.key_map.put_behind.Goals as goal

pub returns-in_ok-push-in-Greater-clause-ok : goal.returns-in_ok-push-in-Greater-clause-ok
returns-in_ok-push-in-Greater-clause-ok g c =
    let some : 0 < c.len-count.result = omega (arith, c.if-count-eq0.false) in
    let count : c.len-count.result ≡ length c.args.entries.now.items = omega (arith, c.len-count.ensures) in
    rw c.in_ok-push-in-Greater.ensures.items (put_greater c.args.entries.now.items c.len-count.result c.index.result.now c.args.key c.args.value count some c.index.ensures c.requires (sym c.in-Greater.ensures))

pub returns-in-Equal-clause-ok : goal.returns-in-Equal-clause-ok
returns-in-Equal-clause-ok g c =
    let some : 0 < c.len-count.result = omega (arith, c.if-count-eq0.false) in
    let count : c.len-count.result ≡ length c.args.entries.now.items = omega (arith, c.len-count.ensures) in
    put_equal c.args.entries.now.items c.len-count.result c.index.result.now c.index_mut.result.now c.args.key c.args.value count some c.index.ensures c.index_mut.ensures.value c.requires (sym c.in-Equal.ensures)
