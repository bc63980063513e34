use Rattle.std.proofs.Common.{◌+◌, ◌<◌, length, IsTrue, false, inl, refl, sym, subst, ⊎_elim}
use Rattle.std.proofs.lemmas.Bool.{cases_lt}
use Rattle.conn_loop.specs.Loops.{IsFull, IsLoop}
use Rattle.conn_loop.proofs.LoopLaws.{one_more}
use Rattle.conn_loop.proofs.link_loop.Loop.add.Goals as goal

pub invariant_of-self : goal.invariant_of-self
invariant_of-self g c =
    let i = c.self.inside in
    let no : IsFull (record { links = i.slots.items; added = i.added; limit = i.limit }) → IsTrue false = subst (λ loop. IsFull loop → IsTrue false) (sym c.self.view_is) c.if-is_full.ensures.1 in
    let free : length i.slots.items < i.limit = ⊎_elim (λ lt. lt) (λ le. absurd (cc (no (inl le)))) (cases_lt (length i.slots.items) i.limit) in
    subst (λ slots. IsLoop slots (i.added + 1) i.limit) (sym c.in-Ok.ensures.items)
    (one_more i.slots.items _ i.added i.limit c.self.invariant refl free)
