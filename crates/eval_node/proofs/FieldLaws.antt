-- A point with some of its fields is a point.
use Rattle.std.proofs.Common.{arith, ◌≡◌, ℕ, Bool, false, List}
use Rattle.std.specs.Prelude.{◌==◌, nat_lt, IsTrue}
use Rattle.std.specs.FinMap.{entries, len, retain_keys}
use Rattle.std.proofs.lemmas.Bool.Decides.{nat_tests}
use Rattle.kap_base.specs.Maps.{KeyMap}
use Rattle.kap_base.specs.Points.{IsPoint, PointValue}
use Rattle.kap_base.specs.declared.value.Value.{Value}
use Rattle.kap_base.proofs.RetainLaws.{all_left, entries-retained}

-- a point with those of its fields that are kept, where there are any
pub kept_fits : (p : PointValue) (kept : List ℕ → Bool) (fields : KeyMap Value) → fields ≡ retain_keys p.fields kept
    → (len fields == 0) ≡ false → IsPoint p → IsPoint (record p { fields = fields })
kept_fits p kept fields are some h = record {
  db = h.db;
  rp = h.rp;
  name = h.name;
  tags = h.tags;
  fields = rw (are, entries-retained kept p.fields) (all_left _ _ (entries p.fields) h.fields);
  some_field = above_zero (len fields) some;
  dims = h.dims;
  time = h.time;
}
  where
    above_zero : (n : ℕ) → (n == 0) ≡ false → IsTrue (nat_lt 0 n)
    above_zero n e = grind (arith, nat_tests)
