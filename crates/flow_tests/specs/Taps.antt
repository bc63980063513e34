-- A node of the tests, which gives each point on, and may log it.
use Rattle.std.specs.Prelude.{◌≡◌, ℕ, Bool, true, false, [], ◌∷◌, refl}
use Rattle.kap_base.specs.Points.{PointValue}
use Rattle.kap_base.specs.declared.items.Body.{Body}
use Rattle.kap_base.specs.declared.items.Body.TheVariants as bodies
use Rattle.kap_base.specs.declared.items.What.TheVariants.{Line}
use Rattle.node_core.specs.declared.said.Said.{Said}
use Rattle.node_core.specs.declared.numbered.Seat.{Seat}
use Rattle.node_core.specs.Groups.{is_point}
use Rattle.node_core.specs.Meaning.{silence}

-- the point as it came; where it isn't quiet, a line of it and as many drops as its port says
abbrev pub tap_of : Bool → ℕ → PointValue → Said
tap_of true port p = record { bodies = bodies.Point p ∷ []; deeds = []; drops = 0 }
tap_of false port p = record { bodies = bodies.Point p ∷ []; deeds = Line p ∷ []; drops = port }

-- nothing is said of a batch
abbrev pub tap_says : Bool → ℕ → Body → Said
tap_says quiet port (bodies.Point p) = tap_of quiet port p
tap_says quiet port (bodies.Batch b) = silence

pub tap_silent : (quiet : Bool) (port : ℕ) (body : Body) → is_point body ≡ false → tap_says quiet port body ≡ silence
tap_silent quiet port (bodies.Point p) e = absurd cc
tap_silent quiet port (bodies.Batch b) e = refl

-- a kind, the life in which it runs, and its number
abbrev pub seat_of : {K : Type 0} → ℕ → ℕ → K → Seat K
seat_of life node kind = record { life = life; node = node; kind = kind }
