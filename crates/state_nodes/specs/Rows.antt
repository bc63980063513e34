-- Examples: what nodes say of points of a group.
use Rattle.std.specs.Prelude.{◌≡◌, ℕ, pos, negsuc, false, codes, [], ◌∷◌, Some, None}
use Rattle.std.specs.FinMap.{empty}
use Rattle.kap_base.specs.declared.expr.Lit.TheVariants as lits
use Rattle.kap_base.specs.declared.expr.Op.TheVariants.{Div, Eq, Ne}
use Rattle.kap_base.specs.declared.value.Value.TheVariants as values
use Rattle.kap_base.specs.Points.{PointValue}
use Rattle.kap_base.specs.Tree.{Tree, LitTree, CallTree, BinTree, NoTrees, MoreTrees}
use Rattle.node_core.specs.Groups.{Came}
use Rattle.node_core.specs.Meaning.{a_drop, passed, silence}
use Rattle.task_graph.specs.declared.spec.StateCountSpec.{StateCountSpec}
use Rattle.state_nodes.specs.ChangeDetects.{change_detect_says, is_same}
use Rattle.state_nodes.specs.CumulativeSums.{sum_of, summed}
use Rattle.state_nodes.specs.Differences.{difference_from}
use Rattle.state_nodes.specs.ElapsedTimes.{elapsed_from, units_between}
use Rattle.state_nodes.specs.StateCounts.{state_count_says}
use Rattle.state_nodes.specs.Words.{with_number, with_number_alone}

-- some point
abbrev pub point : PointValue
point = record { db = []; rp = []; name = []; tags = empty; fields = empty; dims = []; by_name = false; time = pos 0 }

-- so it came
abbrev pub came : Came
came = (0, point)

-- ---- `stateCount`

-- an integer of a script
abbrev pub number : ℕ → Tree
number n = LitTree (lits.Int (pos n)) 0

-- the lambda `count()`
abbrev pub count : Tree
count = CallTree (codes "count") NoTrees 0

-- the lambda `if(count() == 3, 1 / 0 == 1, count() != 5)`: it has a fault where it is evaluated for the third time, is
-- false for the fifth time, and else true
abbrev pub condition : Tree
condition = CallTree (codes "if")
    (MoreTrees (BinTree Eq count (number 3) 0)
    (MoreTrees (BinTree Eq (BinTree Div (number 1) (number 0) 0) (number 1) 0)
    (MoreTrees (BinTree Ne count (number 5) 0) NoTrees))) 0

-- a `stateCount` of it
abbrev pub counting : StateCountSpec Tree
counting = record { condition = condition; name = None }

-- the first true point
abbrev pub FirstTrue : Type 0
FirstTrue = state_count_says counting [] 0 point ≡ passed (with_number (codes "state_count") (pos 1) point)

-- the second in a row
abbrev pub SecondTrue : Type 0
SecondTrue = state_count_says counting (came ∷ []) 0 point ≡ passed (with_number (codes "state_count") (pos 2) point)

-- a point at which the condition has a fault is dropped and counted
abbrev pub FaultIsDropped : Type 0
FaultIsDropped = state_count_says counting (came ∷ came ∷ []) 0 point ≡ a_drop

-- and the row goes on behind it; its evaluation counts for `count()`
abbrev pub RowGoesOn : Type 0
RowGoesOn = state_count_says counting (came ∷ came ∷ came ∷ []) 0 point
    ≡ passed (with_number (codes "state_count") (pos 3) point)

-- a false point has -1
abbrev pub FalseEndsARow : Type 0
FalseEndsARow =
    state_count_says counting (came ∷ came ∷ came ∷ came ∷ []) 0 point
    ≡ passed (with_number (codes "state_count") (negsuc 0) point)

-- ---- `changeDetect`

-- the group's first point
abbrev pub FirstIsAChange : Type 0
FirstIsAChange = change_detect_says (codes "x" ∷ []) [] 0 point ≡ passed point

-- values of two kinds are two values
abbrev pub KindsDiffer : Type 0
KindsDiffer = is_same (Some (values.Int (pos 1))) (Some (values.Str (codes "1"))) ≡ false

-- a field that is missing differs from an empty text
abbrev pub MissingDiffers : Type 0
MissingDiffers = is_same None (Some (values.Str [])) ≡ false

-- ---- `difference`

-- the first integer gives nothing, and isn't counted
abbrev pub FirstInteger : Type 0
FirstInteger = difference_from None None (Some (pos 5)) point ≡ silence

-- behind 5, at 3
abbrev pub LessThanBefore : Type 0
LessThanBefore =
    difference_from None (Some (pos 5)) (Some (pos 3)) point
    ≡ passed (with_number_alone (codes "difference") (negsuc 1) point)

-- from the least integer to the greatest the difference wraps
abbrev pub DifferenceWraps : Type 0
DifferenceWraps =
    difference_from None (Some (negsuc 9223372036854775807)) (Some (pos 9223372036854775807)) point
    ≡ passed (with_number_alone (codes "difference") (negsuc 0) point)

-- ---- `cumulativeSum`

-- 1 behind the greatest integer makes the least
abbrev pub SumWraps : Type 0
SumWraps = sum_of (pos 9223372036854775807 ∷ pos 1 ∷ []) ≡ negsuc 9223372036854775807

-- a point without the integer is dropped and counted
abbrev pub NoInteger : Type 0
NoInteger = summed None (pos 1 ∷ []) None point ≡ a_drop

-- ---- `elapsed`

-- a unit that isn't whole doesn't count
abbrev pub WholeUnits : Type 0
WholeUnits = units_between 1000 (pos 0) (pos 1999) ≡ pos 1

-- nor where times fall
abbrev pub FallingTimes : Type 0
FallingTimes = units_between 1000 (pos 5000) (pos 3001) ≡ negsuc 0

-- the first point with the field gives nothing, and isn't counted
abbrev pub FirstWithTheField : Type 0
FirstWithTheField =
    elapsed_from (record { field = codes "x"; unit = 1000; name = None }) None (Some (pos 7)) point ≡ silence
