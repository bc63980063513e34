use Rattle.std.proofs.Common.{◌≡◌, map}
use Rattle.effect_text.specs.Pieces.{AreCut, piece_of, pieces_in}
use Rattle.effect_text.proofs.printing.print_lines.Given as goal

-- the effects that were passed are told, by all bytes
abbrev pub invariant-printing : goal.invariant-printing
invariant-printing l = record {
  cut : AreCut l.lines l.pieces.items;
  told : pieces_in l.lines l.pieces.items ≡ map (piece_of l.tasks) l.yielded;
}
