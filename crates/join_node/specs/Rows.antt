-- Examples: what is said of points that come at these times, in milliseconds, from two parents, a and b. Times are
-- rounded to seconds.
use Rattle.std.specs.Prelude.{◌≡◌, ℕ, ◌*◌, pos, false, List, [], ◌∷◌, ◌++◌, Option, Some, None}
use Rattle.std.specs.FinMap.{empty}
use Rattle.kap_base.specs.Points.{PointValue}
use Rattle.kap_base.specs.declared.items.Body.{Body}
use Rattle.node_core.specs.declared.said.Said.{Said}
use Rattle.node_core.specs.Groups.{Came}
use Rattle.node_core.specs.Meaning.{a_drop}
use Rattle.task_graph.specs.declared.spec.Fill.{Fill}
use Rattle.task_graph.specs.declared.spec.Fill.TheVariants as fills
use Rattle.task_graph.specs.declared.spec.JoinSpec.{JoinSpec}
use Rattle.join_node.specs.Joins.{gives, join_says}
use Rattle.join_node.specs.Results.{result_of}

-- two parents, with a tolerance of a second
abbrev pub seconds_joined : Fill → JoinSpec
seconds_joined fill =
    record {
      prefixes = (97 ∷ []) ∷ (98 ∷ []) ∷ [];
      tolerance = 1000000000;
      fill = fill;
      stream_name = None;
      delimiter = None;
    }

-- a point of this time
abbrev pub at : ℕ → PointValue
at millis = record {
  db = [];
  rp = [];
  name = [];
  tags = empty;
  fields = empty;
  dims = [];
  by_name = false;
  time = pos (millis * 1000000);
}

-- of a parent
abbrev pub from_a : ℕ → Came
from_a millis = (0, at millis)

-- of the other parent
abbrev pub from_b : ℕ → Came
from_b millis = (1, at millis)

-- what is said of points that come behind others
abbrev pub said_behind : JoinSpec → List Came → List Came → List Said
said_behind j before [] = []
said_behind j before (c ∷ cs) = join_says j before c.0 c.1 ∷ said_behind j (before ++ c ∷ []) cs

-- what is given for sets of this rounded time, in seconds: of a and of b a point, if it is there
abbrev pub given : JoinSpec → ℕ → List (Option PointValue × Option PointValue) → List Body
given j time [] = []
given j time (s ∷ ss) = result_of j (pos (time * 1000000000)) (s.0 ∷ s.1 ∷ []) ++ given j time ss

-- this is said of these points, one after the other, where sets are filled so
abbrev pub Says : Fill → List Came → List Said → Type 0
Says fill cs said = said_behind (seconds_joined fill) [] cs ≡ said

-- The third point is late, since the second has a greater rounded time. The fourth fills the first set of its second,
-- the last one the next.
abbrev pub LatePoint : Type 0
LatePoint =
    Says fills.None (from_a 499 ∷ from_a 500 ∷ from_b 200 ∷ from_b 1100 ∷ from_a 900 ∷ from_b 1400 ∷ [])
    (gives [] ∷ gives [] ∷ a_drop ∷ gives
    (given (seconds_joined fills.None) 1 ((Some (at 500), Some (at 1100)) ∷ [])) ∷ gives [] ∷ gives
    (given (seconds_joined fills.None) 1 ((Some (at 900), Some (at 1400)) ∷ [])) ∷ [])

-- the sets that aren't full are given at the first point of a later second, in order, and no sooner
abbrev pub OpenSets : Type 0
OpenSets =
    Says fills.Null (from_a 0 ∷ from_b 100 ∷ from_b 200 ∷ from_b 300 ∷ from_a 2000 ∷ [])
    (gives [] ∷ gives (given (seconds_joined fills.Null) 0 ((Some (at 0), Some (at 100)) ∷ [])) ∷ gives [] ∷ gives []
    ∷ gives (given (seconds_joined fills.Null) 0 ((None, Some (at 200)) ∷ (None, Some (at 300)) ∷ [])) ∷ [])

-- without `.fill` they are not given
abbrev pub NoFill : Type 0
NoFill = Says fills.None (from_a 0 ∷ from_b 2000 ∷ []) (gives [] ∷ gives [] ∷ [])
