use Rattle.line_points.specs.Parts.{is_separator}
use Rattle.line_points.proofs.PlaceLaws.{place_boundary, separator-ascii}
use Rattle.line_points.proofs.scanner.Scanner.word.Goals as goal

pub split_at-requires : goal.split_at-requires
split_at-requires c = rw (c.word_len.ensures, c.as_bytes.ensures.value) (place_boundary is_separator c.args.self.now.rest.now separator-ascii)
