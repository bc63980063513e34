-- Effects are gathered from a cell.
use Rattle.std.specs.Prelude.{◌≡◌, [], ◌++◌}
use Rattle.flow_cells.specs.declared.parts.CellParts.{CellParts}
use Rattle.flow_cells.specs.Kept.{gathered}

-- the effects of a cell were taken away; all else stays
pub record Gathers {N : Type 0} (c d : CellParts N) : Type 0 where
  pub effects : d.core.effects ≡ []
  pub gathered : gathered d.core.gathered ≡ gathered c.core.gathered ++ c.core.effects
  pub node : d.core.node ≡ c.core.node
  pub outs : d.core.outs ≡ c.core.outs
  pub saved : d.core.saved ≡ c.core.saved
  pub passed : d.core.passed ≡ c.core.passed
  pub clean : d.core.clean ≡ c.core.clean
  pub keeps : d.core.keeps ≡ c.core.keeps
  pub buffer : d.buffer ≡ c.buffer
  pub ins : d.ins ≡ c.ins
  pub base : d.base ≡ c.base
  pub source : d.source ≡ c.source
  pub spent : d.spent ≡ c.spent
