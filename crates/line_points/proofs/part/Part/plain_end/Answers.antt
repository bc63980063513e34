use Rattle.std.proofs.Common.{sym}
use Rattle.line_points.specs.Parts.{marks}
use Rattle.line_points.proofs.PlaceLaws.{place_boundary}
use Rattle.line_points.proofs.PartLaws.{marks-ascii, plain_parts}
use Rattle.line_points.proofs.part.Part.plain_end.Goals as goal

pub split_at-requires : goal.split_at-requires
split_at-requires c = rw (c.plain_len-at.ensures, c.as_bytes.ensures.value) (place_boundary (marks c.args.self) c.args.rest.now (marks-ascii c.args.self))

pub returns-clause-boundary : goal.returns-clause-boundary
returns-clause-boundary c = rw (c.plain_len-at.ensures, c.as_bytes.ensures.value) (place_boundary (marks c.args.self) c.args.rest.now (marks-ascii c.args.self))

pub returns-clause-parts : goal.returns-clause-parts
returns-clause-parts c = rw (← c.split_at.ensures.front, ← c.split_at.ensures.back) (plain_parts c.args.self c.args.rest.now c.split_at.result.0.now c.split_at.result.1.now c.plain_len-at.result (rw c.as_bytes.ensures.value at c.plain_len-at.ensures) c.split_at.ensures.front c.split_at.ensures.back (sym (rw c.as_bytes-2.ensures.value at c.if-begins_with.ensures)))
