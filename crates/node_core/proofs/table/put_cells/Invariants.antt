use Rattle.std.proofs.Common.{length, map, take}
use Rattle.std.specs.Int.{w32}
use Rattle.std.specs.Map.Iter.{deref_pair}
use Rattle.state_code.specs.Spelling.{FitsBytes, FitsPair, spell_bytes, spell_number, spell_pair}
use Rattle.state_code.proofs.Loops.{Put}
use Rattle.node_core.proofs.table.put_cells.Given as goal

-- the count and the cells that were passed are put
abbrev pub invariant-putting : goal.invariant-putting
invariant-putting g l = Put (FitsPair FitsBytes g.C.Spelled.fits) (spell_pair spell_bytes g.C.Spelled.spell) l.fn.to (spell_number w32 (length l.cells)) (map deref_pair (take l.pair-index l.cells)) l.to
