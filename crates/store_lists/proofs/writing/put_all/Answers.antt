use Rattle.std.proofs.Common.{List, ℕ, ◌+◌, ◌≤◌, drop, subst, arith}
use Rattle.std.specs.List.{flat_map}
use Rattle.store_lists.proofs.WriteLaws.{IsPutting, lines_next, putting_cut, putting_more, putting_none}
use Rattle.store_lists.proofs.writing.put_all.Goals as goal

pub putting-init : goal.putting-init
putting-init g c = record { so_far = putting_none c.args.text.now (flat_map g.T.Listed.lines c.args.items.now) (g.K.Sink.written c.args.out.now); later = omega arith }

pub returns-in-Err-clause-puts : goal.returns-in-Err-clause-puts
returns-in-Err-clause-puts g c =
    let lines = g.T.Listed.lines in
    let items = c.args.items.now in
    let all = flat_map lines items in
    let rest = flat_map lines (drop (c.putting.item-index + 1) items) in
    let w = g.K.Sink.written c.args.out.now in
    let v = g.K.Sink.written c.putting.out in
    putting_cut c.in-Err.fault c.args.text.now all (lines c.item-item.result) rest c.putting.text c.put_lines.new.text c.put_lines.new.text w v (g.K.Sink.written c.put_lines.new.out)
    (subst (λ (l : List ℕ). IsPutting c.args.text.now all l c.putting.text w v) (lines_next lines items c.putting.item-index c.item-item.result c.putting-test.true c.item-item.is) c.putting.invariant.so_far)
    c.in-Err.ensures.puts

pub putting-preserved : goal.putting-preserved
putting-preserved g c =
    let lines = g.T.Listed.lines in
    let items = c.args.items.now in
    let all = flat_map lines items in
    let rest = flat_map lines (drop (c.putting.item-index + 1) items) in
    let w = g.K.Sink.written c.args.out.now in
    let v = g.K.Sink.written c.putting.out in
    let before : g.K.Sink.faults c.args.out.now ≤ g.K.Sink.faults c.putting.out = c.putting.invariant.later in
    let after : g.K.Sink.faults c.putting.out ≤ g.K.Sink.faults c.put_lines.new.out = c.put_lines.ensures.cause.later in
    record {
      so_far =
          putting_more c.args.text.now all (lines c.item-item.result) rest c.putting.text c.put_lines.new.text w v (g.K.Sink.written c.put_lines.new.out)
          (subst (λ (l : List ℕ). IsPutting c.args.text.now all l c.putting.text w v) (lines_next lines items c.putting.item-index c.item-item.result c.putting-test.true c.item-item.is) c.putting.invariant.so_far)
          c.in_default.ensures.puts;
      later = omega (arith, before, after);
    }
