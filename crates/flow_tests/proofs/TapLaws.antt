-- Nodes that are seated in one life, one behind the other, are numbered so in a graph of them.
use Rattle.std.proofs.Common.{◌≡◌, ℕ, ◌+◌, List, [], ◌∷◌, arith, map, subst, sym, zip}
use Rattle.std.specs.Prelude.{⊤}
use Rattle.node_core.specs.declared.numbered.Seat.{Seat}
use Rattle.task_run.specs.EffectOrder.{NodesNumbered}
use Rattle.flow_core.specs.Gathering.{LivesRise}

-- they are in this life, with numbers from here on
abbrev pub AreSeated : {K : Type 0} → ℕ → ℕ → List (Seat K) → Type 0
AreSeated which at [] = ⊤
AreSeated which at (s ∷ seats) = ((s.life ≡ which) × (s.node ≡ at)) × AreSeated which (at + 1) seats

module _ {N K : Type 0} (spec : N → Seat K) where
  seated-nodes : (which at : ℕ) (nodes : List N) (parents : List (List ℕ)) → AreSeated which at (map spec nodes)
      → NodesNumbered (λ (s : Seat K). s.life) (λ (s : Seat K). s.node) which at (map (λ p. record { spec = spec p.0; parents = p.1 }) (zip nodes parents))
  seated-nodes which at [] parents h = tt
  seated-nodes which at (n ∷ nodes) [] h = tt
  seated-nodes which at (n ∷ nodes) (ps ∷ parents) h = (h.0, seated-nodes which (at + 1) nodes parents h.1)

  -- so a life of them is one whose numbers rise
  pub seats_rise : (which : ℕ) (nodes : List N) (parents : List (List ℕ)) (seats : List (Seat K)) → map spec nodes ≡ seats → AreSeated which 0 seats
      → LivesRise (λ (s : Seat K). s.life) (λ (s : Seat K). s.node) 0 (map (λ p. record { spec = spec p.0; parents = p.1 }) (zip nodes parents) ∷ [])
  seats_rise which nodes parents seats are h = (which, omega arith, seated-nodes which 0 nodes parents (subst (AreSeated which 0) (sym are) h), tt)
