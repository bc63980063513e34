-- `union`: each point of each parent, in the order in which they come.
use Rattle.std.specs.Prelude.{◌≡◌, ℕ, true, false, if◌then◌else◌, List, [], ◌∷◌, Option, Some, None, option_map, refl}
use Rattle.kap_base.specs.Groups.{GroupValue, group_of}
use Rattle.kap_base.specs.Points.{PointValue}
use Rattle.kap_base.specs.declared.items.Body.{Body}
use Rattle.kap_base.specs.declared.items.Body.TheVariants as bodies
use Rattle.node_core.specs.declared.said.Said.{Said}
use Rattle.node_core.specs.Groups.{is_point}
use Rattle.node_core.specs.Meaning.{silence}

-- the point under another measurement
abbrev pub with_name : List ℕ → PointValue → PointValue
with_name name p = record p { name = name }

-- where one is given
abbrev pub renamed : Option (List ℕ) → PointValue → PointValue
renamed None p = p
renamed (Some name) p = with_name name p

-- each point is given out; of a batch nothing is said
abbrev pub union_says : Option (List ℕ) → ℕ → Body → Said
union_says name port (bodies.Point p) = record { bodies = bodies.Point (renamed name p) ∷ []; deeds = []; drops = 0 }
union_says name port (bodies.Batch b) = silence

-- ---- laws

-- nothing is said of a batch
pub union_silent : (name : Option (List ℕ)) (port : ℕ) (body : Body) → is_point body ≡ false
    → union_says name port body ≡ silence
union_silent name port (bodies.Point p) e = absurd cc
union_silent name port (bodies.Batch b) e = refl

-- the group under another measurement, where it has one
abbrev pub regrouped : List ℕ → GroupValue → GroupValue
regrouped name g = record g { name = option_map (λ old. name) g.name }

-- a point under another measurement is of its group under that measurement
pub group_renamed : (name : List ℕ) (p : PointValue) → group_of (renamed (Some name) p) ≡ regrouped name (group_of p)
group_renamed name p = elim p.by_name as
    (λ b. ◌≡◌ {A = GroupValue}
    (record { name = (if b then Some name else None); dims = (group_of p).dims; values = (group_of p).values })
    (record {
      name = option_map (λ old. name) (if b then Some p.name else None);
      dims = (group_of p).dims;
      values = (group_of p).values;
    })) [
      | true ↦ refl
      | false ↦ refl
    ]
