-- The state at the last barrier, as bytes.
use Rattle.std.proofs.Common.{◌≡◌, ℕ, true, false, List, ◌++◌, sym, ap, subst, ◌∙◌, inl, inr}
use Rattle.node_core.specs.declared.node.Node.{Ghosts}
use Rattle.flow_cells.specs.declared.parts.CellParts.{CellParts}
use Rattle.flow_cells.specs.Kept.{HasKept, Keeps, PutsSaved, Spells, run_of}

module _ {N P S : Type 0} (g : Ghosts N P S) where
  -- where no item came since, it is the node's
  pub saved_clean : (c : CellParts N) (before after : List ℕ) → Keeps g c → c.core.clean ≡ true → after ≡ before ++ g.spell (g.spec c.core.node) (g.state c.core.node) → g.fits (g.spec c.core.node) (g.state c.core.node) → PutsSaved g c before after
  saved_clean c before after k clean is fits =
      let same : g.state c.core.node ≡ (run_of g c.base.value k.handled).saved = k.at.state ∙ sym (k.at.still clean) in
      record {
        bytes = g.spell (g.spec c.core.node) (g.state c.core.node);
        saved = record {
          keeps = k;
          spells = record { is = ap (g.spell (g.spec c.core.node)) same; fits = subst (g.fits (g.spec c.core.node)) same fits };
        };
        is = is;
      }

  -- where one came, it was spelled before
  pub saved_kept : (c : CellParts N) (before after : List ℕ) → Keeps g c → HasKept c → c.core.clean ≡ false → after ≡ before ++ c.core.saved → PutsSaved g c before after
  saved_kept c before after k (inl still) clean is = absurd cc
  saved_kept c before after k (inr keeps) clean is = record {
    bytes = c.core.saved;
    saved = record {
      keeps = k;
      spells = subst (λ (p : P). Spells g p (run_of g c.base.value k.handled).saved c.core.saved) (sym k.at.spec) (k.at.saved keeps clean);
    };
    is = is;
  }
