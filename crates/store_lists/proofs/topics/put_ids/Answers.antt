use Rattle.std.proofs.Common.{◌≡◌, List, ℕ, ◌≤◌, rules, subst, sym, arith}
use Rattle.std.specs.FinMap.{entries}
use Rattle.std.specs.List.{flat_map}
use Rattle.kap_base.specs.declared.items.Level.{Level}
use Rattle.store_lists.specs.Lists.{id_line}
use Rattle.store_lists.proofs.WriteLaws.{IsPutting, putting_cut, putting_more, putting_none}
use Rattle.store_lists.proofs.topics.put_ids.Goals as goal

pub putting-init : goal.putting-init
putting-init g c =
    let old = c.args.text.now in
    let w = g.K.Sink.written c.args.out.now in
    let all = flat_map id_line (entries c.args.ids.now) in
    let same : c.into_iter-id-iterator.result ≡ entries c.args.ids.now = search rules in
    record {
      so_far = subst (λ (l : List (List ℕ × Level)). IsPutting old all (flat_map id_line l) old w w) (sym same) (putting_none old all w);
      later = omega arith;
    }

pub returns-in-Err-clause-puts : goal.returns-in-Err-clause-puts
returns-in-Err-clause-puts g c =
    let old = c.args.text.now in
    let all = flat_map id_line (entries c.args.ids.now) in
    let w = g.K.Sink.written c.args.out.now in
    let v = g.K.Sink.written c.putting.out in
    putting_cut c.in-Err.fault old all (id_line (c.in-Some.id.now, c.in-Some.level.now)) (flat_map id_line c.next.new.self) c.putting.text c.put_line.new.text c.put_line.new.text w v (g.K.Sink.written c.put_line.new.out)
    (subst (λ (l : List (List ℕ × Level)). IsPutting old all (flat_map id_line l) c.putting.text w v) c.in-Some.ensures.steps c.putting.invariant.so_far)
    c.in-Err.ensures.puts

pub putting-preserved : goal.putting-preserved
putting-preserved g c =
    let old = c.args.text.now in
    let all = flat_map id_line (entries c.args.ids.now) in
    let w = g.K.Sink.written c.args.out.now in
    let v = g.K.Sink.written c.putting.out in
    let before : g.K.Sink.faults c.args.out.now ≤ g.K.Sink.faults c.putting.out = c.putting.invariant.later in
    let after : g.K.Sink.faults c.putting.out ≤ g.K.Sink.faults c.put_line.new.out = c.put_line.ensures.cause.later in
    record {
      so_far =
          putting_more old all (id_line (c.in-Some.id.now, c.in-Some.level.now)) (flat_map id_line c.next.new.self) c.putting.text c.put_line.new.text w v (g.K.Sink.written c.put_line.new.out)
          (subst (λ (l : List (List ℕ × Level)). IsPutting old all (flat_map id_line l) c.putting.text w v) c.in-Some.ensures.steps c.putting.invariant.so_far)
          c.in_default.ensures.puts;
      later = omega (arith, before, after);
    }
