use Rattle.std.proofs.Common.{◌≡◌, ◌∙◌, ◌≤◌, List, [], ◌∷◌, length, reverse, refl, sym, ap, subst, arith}
use Rattle.std.proofs.lemmas.List.{reverse-append, reverse-reverse}
use Rattle.kap_base.specs.declared.items.Msg.{Msg}
use Rattle.merge_node.proofs.BufferLaws.{merges-length, put-length}
use Rattle.flow_cells.specs.Handled.{Waits}
use Rattle.flow_cells.proofs.LoadLaws.{Loading, Loading-none, Loading-more}
use Rattle.flow_cells.proofs.OutLaws.{Waits-refl, Waits-trans, zip-refl, zip-trans}
use Rattle.flow_cells.proofs.loads.handle_source.Goals as goal

pub handling-init : goal.handling-init
handling-init g c =
    let source = c.args.source.items in
    let core = c.args.core.now in
    let buffer = c.args.buffer.now in
    let turned : reverse c.reverse.new.self.items ≡ source = ap reverse c.reverse.ensures.items ∙ reverse-reverse source in
    record {
      outs = zip-refl Waits Waits-refl core.outs.items;
      gathered = refl;
      stuck = c.requires.stuck;
      parents = refl;
      ports = c.requires.ports;
      loading = subst (λ (rest : List Msg). Loading g.N.Node source rest core buffer core buffer) (sym turned) (Loading-none g.N.Node source core buffer);
    }

pub handling-preserved : goal.handling-preserved
handling-preserved g c =
    let node = g.N.Node in
    let source = c.args.source.items in
    let core = c.args.core.now in
    let buffer = c.args.buffer.now in
    let msg = c.in-Some.msg in
    let left = c.pop.new.self.items in
    let handles = c.in_ok-handle.ensures.handles in
    let back : reverse c.handling.rest.items ≡ msg ∷ reverse left = ap reverse c.in-Some.ensures.items ∙ reverse-append left (msg ∷ []) in
    let long : length c.handle.new.buffer ≡ length c.handling.buffer = merges-length handles.merged ∙ put-length 0 msg c.handling.buffer in
    let bound : length c.handling.buffer ≤ node.ports (node.spec c.handling.core.node) = c.handling.invariant.ports in
    record {
      outs = zip-trans Waits Waits-trans _ c.handling.core.outs.items _ c.handling.invariant.outs c.in_ok-handle.ensures.outs;
      gathered = c.in_ok-handle.ensures.gathered ∙ c.handling.invariant.gathered;
      stuck = c.in_ok-handle.ensures.stuck;
      parents = long ∙ c.handling.invariant.parents;
      ports = subst (λ p. length c.handle.new.buffer ≤ node.ports p) (sym handles.spec) (omega (arith, long, bound));
      loading = Loading-more node source (reverse left) msg core buffer c.handling.core c.handling.buffer c.handle.new.core c.handle.new.buffer
          (subst (λ (rest : List Msg). Loading node source rest core buffer c.handling.core c.handling.buffer) back c.handling.invariant.loading) handles;
    }
