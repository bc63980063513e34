-- A point with one more tag is a point.
use Rattle.std.proofs.Common.{ℕ, Bool, true, List, [], ◌∷◌, refl}
use Rattle.std.specs.Prelude.{◌&&◌, IsTrue}
use Rattle.std.specs.List.{list_all}
use Rattle.std.specs.FinMap.{entries, entries-insert, insert, put}
use Rattle.std.specs.FinMap.Entries.{by_order}
use Rattle.std.specs.declared.cmp.Ordering.TheVariants.{Less, Equal, Greater}
use Rattle.std.proofs.lemmas.Cmp.{nat_list_cmp_total}
use Rattle.kap_base.specs.Maps.{byte_order}
use Rattle.kap_base.specs.Points.{IsPoint, PointValue}
use Rattle.kap_base.specs.Texts.{is_name}
use Rattle.kap_base.proofs.TestLaws.{both, first_of, second_of}

-- a name and a value of a tag
abbrev is_tag : List ℕ × List ℕ → Bool
is_tag e = is_name e.0 && is_name e.1

tags-put : (k v : List ℕ) (es : List (List ℕ × List ℕ)) → IsTrue (is_name k) → IsTrue (is_name v) → IsTrue (list_all is_tag es) → IsTrue (list_all is_tag (put byte_order k v es))
tags-put k v [] hk hv hs = both (is_tag (k, v)) true (both (is_name k) (is_name v) hk hv) refl
tags-put k v (e ∷ es) hk hv hs =
    let here = first_of (is_tag e) (list_all is_tag es) hs in
    let rest = second_of (is_tag e) (list_all is_tag es) hs in
    elim (byte_order k e.0) as (λ o. IsTrue (list_all is_tag (by_order o ((k, v) ∷ e ∷ es) ((e.0, v) ∷ es) (e ∷ put byte_order k v es)))) [
      | Less ↦ both (is_tag (k, v)) (list_all is_tag (e ∷ es)) (both (is_name k) (is_name v) hk hv) hs
      | Equal ↦ both (is_tag (e.0, v)) (list_all is_tag es) (both (is_name e.0) (is_name v) (first_of (is_name e.0) (is_name e.1) here) hv) rest
      | Greater ↦ both (is_tag e) (list_all is_tag (put byte_order k v es)) here (tags-put k v es hk hv rest)
    ]

pub with_tag : (p : PointValue) (k v : List ℕ) → IsPoint p → IsTrue (is_name k) → IsTrue (is_name v) → IsPoint (record p { tags = insert p.tags k v })
with_tag p k v h hk hv = record {
  db = h.db;
  rp = h.rp;
  name = h.name;
  tags = rw (entries-insert nat_list_cmp_total p.tags k v) (tags-put k v (entries p.tags) hk hv h.tags);
  fields = h.fields;
  some_field = h.some_field;
  dims = h.dims;
  time = h.time;
}
