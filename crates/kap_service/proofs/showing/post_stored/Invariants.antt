use Rattle.std.proofs.Common.{◌+◌, ◌-◌, length}
use mathlib.Core.List.{IsPrefix}
use Rattle.kap_service.specs.Kept.{posted}
use Rattle.kap_service.specs.Stores.{HasRead}
use Rattle.kap_service.specs.Values.{Stores}
use Rattle.kap_service.proofs.showing.post_stored.Given as goal

abbrev pub invariant-reading : goal.invariant-reading
invariant-reading g l = record {
  read : HasRead g.E.Engine.value g.E.Engine.right g.E.Engine.leaves l.fn.engine l.engine;
  begun : g.E.Engine.right l.fn.engine → (store : Stores) → g.E.Engine.leaves l.fn.engine store
      → IsPrefix (posted l.fn.poster) store.stored → IsPrefix (posted l.poster) store.stored;
}

abbrev pub decreases-reading : goal.decreases-reading
decreases-reading g l = l.total - (length l.poster.published + length l.poster.pending)
