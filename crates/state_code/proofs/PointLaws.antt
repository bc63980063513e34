-- What the tests that a point or a group passes as it is read say, and that each passes them.
use Rattle.std.proofs.Common.{◌≡◌, ℕ, ℤ, Bool, true, List, Option}
use Rattle.std.specs.Prelude.{◌&&◌, nat_lt, IsTrue}
use Rattle.std.specs.FinMap.{len}
use Rattle.std.specs.Option.{option_map_or}
use Rattle.kap_base.specs.Groups.{IsGroup, are_tag_values}
use Rattle.kap_base.specs.Maps.{KeyMap}
use Rattle.kap_base.specs.Points.{PointValue, IsPoint, is_time, are_dimensions, are_fields}
use Rattle.kap_base.specs.Texts.{is_line, is_measurement}
use Rattle.kap_base.specs.declared.value.Value.{Value}
use Rattle.kap_base.proofs.TestLaws.{first_of, second_of, both}
use Rattle.state_code.specs.Groups.{are_group}
use Rattle.state_code.specs.Points.{are_tags, are_named, are_held, is_point}

is_point-tested : (p : PointValue) → IsTrue (is_point p) → IsPoint p
is_point-tested p e =
    let named = first_of (are_named p.db p.rp p.name) (are_held p.tags p.fields p.dims p.time) e in
    let names = second_of (is_line p.db) (is_line p.rp && is_measurement p.name) named in
    let held = second_of (are_named p.db p.rp p.name) (are_held p.tags p.fields p.dims p.time) e in
    let fields = second_of (are_tags p.tags) (are_fields p.fields && (nat_lt 0 (len p.fields) && (are_dimensions p.dims && is_time p.time))) held in
    let some = second_of (are_fields p.fields) (nat_lt 0 (len p.fields) && (are_dimensions p.dims && is_time p.time)) fields in
    let rest = second_of (nat_lt 0 (len p.fields)) (are_dimensions p.dims && is_time p.time) some in
    record {
      db = first_of (is_line p.db) (is_line p.rp && is_measurement p.name) named;
      rp = first_of (is_line p.rp) (is_measurement p.name) names;
      name = second_of (is_line p.rp) (is_measurement p.name) names;
      tags = first_of (are_tags p.tags) _ held;
      fields = first_of (are_fields p.fields) _ fields;
      some_field = first_of (nat_lt 0 (len p.fields)) _ some;
      dims = first_of (are_dimensions p.dims) (is_time p.time) rest;
      time = second_of (are_dimensions p.dims) (is_time p.time) rest;
    }

pub point_of_tests : (db rp name : List ℕ) (tags : KeyMap (List ℕ)) (fields : KeyMap Value) (dims : List (List ℕ)) (by_name : Bool) (time : ℤ) → are_named db rp name ≡ true → are_held tags fields dims time ≡ true
    → IsPoint (record { db = db; rp = rp; name = name; tags = tags; fields = fields; dims = dims; by_name = by_name; time = time })
point_of_tests db rp name tags fields dims by_name time named held = is_point-tested _ (both (are_named db rp name) (are_held tags fields dims time) named held)

pub tests_of_point : (p : PointValue) → IsPoint p → IsTrue (is_point p)
tests_of_point p h = both (are_named p.db p.rp p.name) (are_held p.tags p.fields p.dims p.time)
    (both (is_line p.db) (is_line p.rp && is_measurement p.name) h.db (both (is_line p.rp) (is_measurement p.name) h.rp h.name))
    (both (are_tags p.tags) (are_fields p.fields && (nat_lt 0 (len p.fields) && (are_dimensions p.dims && is_time p.time))) h.tags
    (both (are_fields p.fields) (nat_lt 0 (len p.fields) && (are_dimensions p.dims && is_time p.time)) h.fields
    (both (nat_lt 0 (len p.fields)) (are_dimensions p.dims && is_time p.time) h.some_field
    (both (are_dimensions p.dims) (is_time p.time) h.dims h.time))))

pub group_of_tests : (name : Option (List ℕ)) (dims values : List (List ℕ)) → are_group name dims values ≡ true → IsGroup (record { name = name; dims = dims; values = values })
group_of_tests name dims values e =
    let rest = second_of (option_map_or is_measurement name true) (are_dimensions dims && are_tag_values dims values) e in
    record {
      name = first_of (option_map_or is_measurement name true) (are_dimensions dims && are_tag_values dims values) e;
      dims = first_of (are_dimensions dims) (are_tag_values dims values) rest;
      values = second_of (are_dimensions dims) (are_tag_values dims values) rest;
    }
