use Rattle.std.proofs.Common.{IsPermutation, subst}
use Rattle.conn_loop.proofs.NumberLaws.{sorted_of}
use Rattle.conn_loop.proofs.numbers.sorted.Goals as goal

pub returns : goal.returns
returns c =
    let moved = subst (λ xs. IsPermutation xs c.sort_unstable.new.self.items) c.in_ok-sorted.ensures.items c.sort_unstable.ensures.permutation in
    sorted_of c.args.numbers.now c.sort_unstable.new.self.items moved c.sort_unstable.ensures.sorted
