use Rattle.std.proofs.Common.{◌≡◌, ◌++◌, take}
use Rattle.std.specs.List.{flat_map}
use Rattle.line_points.specs.Print.{tag_text}
use Rattle.line_points.proofs.print.put_tags.Given as goal

abbrev pub invariant-tags : goal.invariant-tags
invariant-tags l = l.out ≡ l.fn.out ++ flat_map tag_text (take l.tag-index l.tags)
