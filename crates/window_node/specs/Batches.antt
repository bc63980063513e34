-- What a window says of a point.
use Rattle.std.specs.Prelude.{ℕ, ℤ, List, [], ◌∷◌, map, length, drop, ◌-◌}
use Rattle.kap_base.specs.Points.{PointValue}
use Rattle.kap_base.specs.Groups.{GroupValue, group_of}
use Rattle.kap_base.specs.declared.items.Body.TheVariants as bodies
use Rattle.node_core.specs.declared.said.Said.{Said}
use Rattle.node_core.specs.Groups.{Came}

-- the points of a group, in the order in which they came
abbrev pub points_in : List Came → List PointValue
points_in cs = map (λ c. c.1) cs

-- their times
abbrev pub times : List PointValue → List ℤ
times ps = map (λ p. p.time) ps

-- points that are given together, under a measurement and a group
abbrev pub batch_of : List ℕ → GroupValue → ℤ → List PointValue → Said
batch_of name group tmax ps =
    record {
      bodies = bodies.Batch (record { name = name; group = group; tmax = tmax; points = ps }) ∷ [];
      deeds = [];
      drops = 0;
    }

-- the batch that a point causes: it has that point's measurement and its group
abbrev pub batch_at : PointValue → ℤ → List PointValue → Said
batch_at p tmax ps = batch_of p.name (group_of p) tmax ps

-- the last so many of a list, or all where there are no more
abbrev pub last : {A : Type 0} → ℕ → List A → List A
last n xs = drop (length xs - n) xs
