-- A cell keeps what it keeps where an edge is settled, and where its effects are gathered.
use Rattle.std.proofs.Common.{◌≡◌, ℕ, zero, suc, ◌<◌, Bool, true, false, List, [], ◌∷◌, ◌++◌, length, get_or, set, Some, refl, sym, ap, subst, ◌∙◌}
use Rattle.std.specs.Prelude.{IsFalse, IsTrue, slice_get}
use Rattle.std.specs.List.{AllByRecursion as Each}
use Rattle.kap_base.specs.declared.items.Msg.{Msg}
use Rattle.node_core.specs.declared.node.Node.{Ghosts}
use Rattle.edge_queue.specs.Edges.{sent}
use Rattle.flow_cells.specs.declared.parts.OutEdge.{OutEdge}
use Rattle.flow_cells.specs.declared.parts.Core.{Core}
use Rattle.merge_node.specs.Merge.{Lists}
use Rattle.flow_cells.specs.Kept.{IsGiven, KeptBy, Spells, gathered, run_of}
use Rattle.flow_cells.specs.Moves.{Eases}
use Rattle.flow_cells.proofs.OutLaws.{each-set, each-at}
use Rattle.flow_cells.proofs.MoveLaws.{some-value}

-- what stands at a place
pub got : {A : Type 0} (xs : List A) (i : ℕ) (x d : A) → slice_get xs i ≡ Some x → get_or xs i d ≡ x
got [] i x d e = absurd cc
got (y ∷ xs) zero x d e = some-value y x e
got (y ∷ xs) (suc i) x d e = got xs i x d e

-- a test as a fact
pub is-true : (b : Bool) → IsTrue b → b ≡ true
is-true true h = refl
is-true false h = absurd cc

-- a test that fails, as a fact
pub is-false : (b : Bool) → IsFalse b → b ≡ false
is-false true h = absurd cc
is-false false h = refl

given-eased : (given : List Msg) (a b : OutEdge) → Eases a b → IsGiven given a → IsGiven given b
given-eased given a b s h = ap (λ (l : List Msg). l ++ b.unsent) s.tail.sent ∙ ap (λ (l : List Msg). sent a.tail ++ l) s.unsent ∙ h

-- what was given out at each out, where one was looked at
pub given-set : (given : List Msg) (outs : List OutEdge) (i : ℕ) (a b : OutEdge) → i < length outs → get_or outs i a ≡ a → Eases a b → Each (IsGiven given) outs → Each (IsGiven given) (set outs i b)
given-set given outs i a b lt here e all =
    each-set (IsGiven given) outs i b all (given-eased given a b e (subst (IsGiven given) here (each-at (IsGiven given) outs i a lt all)))

module _ {N P S : Type 0} (g : Ghosts N P S) where
  -- effects that are gathered are still those that were given
  pub kept-gathered : (base : Core N) (lists buffer : Lists) (c c' : Core N) → (k : KeptBy g base lists buffer c) → c'.node ≡ c.node → c'.outs ≡ c.outs → c'.saved ≡ c.saved → c'.passed ≡ c.passed → c'.clean ≡ c.clean → c'.keeps ≡ c.keeps
      → gathered c'.gathered ++ c'.effects ≡ gathered c.gathered ++ c.effects → KeptBy g base lists buffer c'
  kept-gathered base lists buffer c c' k node outs saved passed clean keeps effects = record {
    handled = k.handled;
    merged = k.merged;
    stuck = k.stuck;
    at = record {
      spec = ap g.spec node ∙ k.at.spec;
      state = ap g.state node ∙ k.at.state;
      outs = subst (λ v. Each (IsGiven (run_of g base k.handled).outs) v.items) (sym outs) k.at.outs;
      effects = effects ∙ k.at.effects;
      passed = passed ∙ k.at.passed;
      clean = clean ∙ k.at.clean;
      still = λ is. k.at.still (sym clean ∙ is);
      saved = λ does is. subst (Spells g (g.spec base.node) (run_of g base k.handled).saved) (sym saved) (k.at.saved (sym keeps ∙ does) (sym clean ∙ is));
    };
    ports = k.ports;
    keeps = keeps ∙ k.keeps;
  }
