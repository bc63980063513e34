-- `difference`: by how much an integer is more than the one before.
use Rattle.std.specs.Prelude.{◌≡◌, ℕ, ℤ, ◌-ℤ◌, List, [], ◌∷◌, ◌++◌, codes, Option, Some, None}
use Rattle.std.specs.Int.{int_wrap, w64}
use Rattle.std.proofs.Common.{ap, sym}
use Rattle.kap_base.specs.Points.{PointValue}
use Rattle.node_core.specs.declared.said.Said.{Said}
use Rattle.node_core.specs.Groups.{Came, GroupAnswer}
use Rattle.node_core.specs.Meaning.{Turn, a_drop, silence, passed}
use Rattle.task_graph.specs.declared.spec.FieldSpec.{FieldSpec}
use Rattle.state_nodes.specs.Words.{int_at, ints_at, last, last_more, latest, result_name, with_number_alone}

-- The point with the difference as its one field, brought into 64 bits. The first integer gives nothing, and a point
-- without one is dropped and counted.
abbrev pub difference_from : Option (List ℕ) → Option ℤ → Option ℤ → PointValue → Said
difference_from name before None p = a_drop
difference_from name None (Some n) p = silence
difference_from name (Some m) (Some n) p =
    passed (with_number_alone (result_name (codes "difference") name) (int_wrap w64 (n -ℤ m)) p)

-- the last integer at the field in the group
abbrev pub last_int : FieldSpec → List Came → Option ℤ
last_int spec points = last (ints_at spec.field points)

-- what is said of a point, by the points of its group before it
abbrev pub difference_says : FieldSpec → GroupAnswer
difference_says spec before port p = difference_from spec.name (last_int spec before) (int_at spec.field p) p

-- ---- what is kept of a group: its last integer

-- a step, by what is kept
abbrev pub difference_step : FieldSpec → Option ℤ → ℕ → PointValue → Turn (Option ℤ)
difference_step spec before port p =
    record {
      state = latest before (int_at spec.field p);
      said = difference_from spec.name before (int_at spec.field p) p;
    }

made : Said → Option ℤ → Turn (Option ℤ)
made said kept = record { state = kept; said = said }

-- what is kept, and what is said, of one point more
pub difference_goes_on : (spec : FieldSpec) (before : List Came) (port : ℕ) (p : PointValue)
    → difference_step spec (last_int spec before) port p
    ≡ record { state = last_int spec (before ++ (port, p) ∷ []); said = difference_says spec before port p }
unfolding made
difference_goes_on spec before port p =
    ap (made (difference_says spec before port p))
    (sym (last_more (λ (c : Came). int_at spec.field c.1) before (port, p)))
