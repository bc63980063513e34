use Rattle.std.proofs.Common.{◌≡◌}
use Rattle.std.specs.List.{flat_map}
use Rattle.basic_nodes.specs.Nodes.{field_named, tag_named}
use Rattle.basic_nodes.proofs.build.deletion_of.Given as goal

abbrev pub invariant-sorting : goal.invariant-sorting
invariant-sorting l = record {
  fields : l.fields.items ≡ flat_map field_named l.yielded;
  tags : l.tags.items ≡ flat_map tag_named l.yielded;
}
