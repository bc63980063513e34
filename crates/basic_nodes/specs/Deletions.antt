-- `delete`: fields and tags are taken away.
use Rattle.std.specs.Prelude.{ℕ, Bool, not, ◌==◌, if◌then◌else◌, List, filter, bytes_eq}
use Rattle.std.specs.List.{list_any}
use Rattle.std.specs.FinMap.{len, retain_keys}
use Rattle.kap_base.specs.Points.{PointValue}
use Rattle.node_core.specs.declared.said.Said.{Said}
use Rattle.node_core.specs.Meaning.{a_drop, passed}
use Rattle.basic_nodes.specs.declared.deletions.Deletion.{Deletion}

-- the name is none of these
abbrev pub is_left : List (List ℕ) → List ℕ → Bool
is_left taken name = not (list_any (bytes_eq name) taken)

-- the point without these fields and tags; a tag goes from the dimensions too
abbrev pub without : Deletion → PointValue → PointValue
without d p = record p {
  fields = retain_keys p.fields (is_left d.fields);
  tags = retain_keys p.tags (is_left d.tags);
  dims = filter (is_left d.tags) p.dims;
}

-- a point that has no field left is dropped and counted
abbrev pub delete_says : Deletion → PointValue → Said
delete_says d p = if len (retain_keys p.fields (is_left d.fields)) == 0 then a_drop else passed (without d p)
