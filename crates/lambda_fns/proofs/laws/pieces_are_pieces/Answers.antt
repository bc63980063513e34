use Rattle.lambda_fns.proofs.PieceLaws.{pieces_again, pieces_at_most, none_is_left, characters_again}
use Rattle.lambda_fns.proofs.laws.pieces_are_pieces.Goals as goal

pub returns : goal.returns
returns c = record { again = pieces_again; at_most = pieces_at_most; none_is_left = none_is_left; characters = characters_again }
