-- The nodes of a plan can be added, one behind the other.
use Rattle.std.proofs.Common.{◌≡◌, ℕ, zero, suc, ◌+◌, ◌<◌, ◌≤◌, max, List, [], ◌∷◌, ◌++◌, length, refl, subst, arith}
use Rattle.std.specs.List.{AllByRecursion as Each, AllZip}
use Rattle.merge_node.specs.declared.TheConstants.{PARENT_LIMIT}
use Rattle.flow_cells.specs.Made.{one_or_more}
use Rattle.node_core.specs.declared.node.Node.{Ghosts}
use Rattle.task_run.specs.Plans.{AreBelow, AreNodesFrom, PlanValue}
use Rattle.flow_core.specs.Making.{AreLivesBehind, CanAdd, CanAddAll}
use Rattle.flow_core.specs.Nets.{IsResting, IsSound, NumberedLife}

module _ {N : Type 0} (ports : N → ℕ) where
  -- without parents left there is no node left
  pub none_left : (at : ℕ) (nodes : List N) (parents : List (List ℕ)) → length parents ≡ 0 → CanAddAll ports at nodes parents → nodes ≡ []
  none_left at [] [] none can = refl
  none_left at [] (ps ∷ parents) none can = absurd can
  none_left at (n ∷ nodes) [] none can = absurd can
  none_left at (n ∷ nodes) (ps ∷ parents) none can = absurd (omega (arith, none))

  -- the first node can be added
  pub can_first : (at : ℕ) (nodes : List N) (parents : List (List ℕ)) (n : N) (rest : List N) (ps : List ℕ) (others : List (List ℕ)) → nodes ≡ n ∷ rest → parents ≡ ps ∷ others → CanAddAll ports at nodes parents → CanAdd at (ports n) ps
  can_first at nodes parents n rest ps others is are can =
      let both : CanAddAll ports at (n ∷ rest) (ps ∷ others) = subst (λ (pss : List (List ℕ)). CanAddAll ports at (n ∷ rest) pss) are (subst (λ (ns : List N). CanAddAll ports at ns parents) is can) in
      both.0

below-each : (n : ℕ) (ps : List ℕ) → AreBelow n ps → Each (λ (p : ℕ). p < n) ps
below-each n [] h = tt
below-each n (p ∷ ps) h = (h.0, below-each n ps h.1)

one-of : (n : ℕ) → one_or_more n ≤ max 1 n
one-of zero = omega arith
one-of (suc n) = omega arith

module _ {N P : Type 0} (spec : N → P) (ports life number : P → ℕ) where
  -- nodes that are planned can be added
  pub plan_can : (which at : ℕ) (nodes : List N) (parents : List (List ℕ)) → AreNodesFrom spec ports life number which at nodes parents → Each (λ (ps : List ℕ). length ps ≤ PARENT_LIMIT) parents → CanAddAll (λ n. ports (spec n)) at nodes parents
  plan_can which at [] [] are few = tt
  plan_can which at [] (ps ∷ parents) are few = absurd are
  plan_can which at (n ∷ nodes) [] are few = absurd are
  plan_can which at (n ∷ nodes) (ps ∷ parents) are few = (
    record {
      earlier = below-each at ps are.0.earlier;
      few = few.0;
      enough = (let same = are.0.ports_are in let one = one-of (length ps) in omega (arith, same, one));
    },
    plan_can which (at + 1) nodes parents are.1 few.1,
  )

-- one more of each
pub zip_push : {A B : Type 0} (R : A → B → Type 0) (xs : List A) (ys : List B) (x : A) (y : B) → AllZip R xs ys → R x y → AllZip R (xs ++ x ∷ []) (ys ++ y ∷ [])
zip_push R [] [] x y z r = (r, tt)
zip_push R [] (b ∷ ys) x y z r = absurd z
zip_push R (a ∷ xs) [] x y z r = absurd z
zip_push R (a ∷ xs) (b ∷ ys) x y z r = (z.0, zip_push R xs ys x y z.1 r)

module _ {N P S : Type 0} (g : Ghosts N P S) where
  -- lives of plans are sound
  pub lives_sound : (stamp : ℕ) (plans : List (PlanValue N)) (lives : List (NumberedLife N)) → AreLivesBehind g stamp plans lives → Each IsSound lives
  lives_sound stamp [] [] z = tt
  lives_sound stamp [] (l ∷ lives) z = absurd z
  lives_sound stamp (p ∷ plans) [] z = absurd z
  lives_sound stamp (p ∷ plans) (l ∷ lives) z = (z.0.sound, lives_sound stamp plans lives z.1)

  -- and at rest
  pub lives_rest : (stamp : ℕ) (plans : List (PlanValue N)) (lives : List (NumberedLife N)) → AreLivesBehind g stamp plans lives → Each IsResting lives
  lives_rest stamp [] [] z = tt
  lives_rest stamp [] (l ∷ lives) z = absurd z
  lives_rest stamp (p ∷ plans) [] z = absurd z
  lives_rest stamp (p ∷ plans) (l ∷ lives) z = (z.0.rest, lives_rest stamp plans lives z.1)
