use Rattle.std.proofs.Common.{◌≡◌, map, take}
use Rattle.std.specs.Prelude.{IsTrue}
use Rattle.std.specs.List.{list_all}
use Rattle.std.specs.Str.{is_utf8}
use Rattle.basic_nodes.proofs.dimensions.keys_of.Given as goal

abbrev pub invariant-adding : goal.invariant-adding
invariant-adding g l = record {
  keys : l.names.items ≡ map (λ e. e.0) (take l.entry-index l.entries);
  utf8 : IsTrue (list_all is_utf8 l.names.items);
}
