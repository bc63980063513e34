use Rattle.std.proofs.Common.{sym, subst}
use Rattle.conn_loop.specs.Loops.{IsLoop}
use Rattle.conn_loop.proofs.LoopLaws.{no_links}
use Rattle.conn_loop.proofs.link_loop.Loop.new.Goals as goal

pub invariant_of-result : goal.invariant_of-result
invariant_of-result g c =
    subst (λ slots. IsLoop slots 0 c.args.limit) (sym c.new.ensures.items) (no_links c.args.limit c.requires.most)
