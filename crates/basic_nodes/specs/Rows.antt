-- Examples: what nodes say of points.
use Rattle.std.specs.Prelude.{◌≡◌, ℕ, pos, true, false, codes, [], ◌∷◌, Some, None}
use Rattle.std.specs.FinMap.{empty}
use Rattle.kap_base.specs.declared.expr.Lit.TheVariants as lits
use Rattle.kap_base.specs.declared.expr.Op.TheVariants.{Div, Eq}
use Rattle.kap_base.specs.Points.{PointValue}
use Rattle.kap_base.specs.Tree.{Tree, LitTree, CallTree, BinTree, NoTrees, MoreTrees}
use Rattle.node_core.specs.Groups.{Came}
use Rattle.node_core.specs.Meaning.{a_drop, passed, silence}
use Rattle.basic_nodes.specs.declared.dimensions.Grouping.TheVariants.{By}
use Rattle.basic_nodes.specs.declared.group_kind.GroupKind.TheVariants.{From, Where, Sample}
use Rattle.basic_nodes.specs.declared.selection.Selection.{Selection}
use Rattle.basic_nodes.specs.Dimensions.{group_by_says}
use Rattle.basic_nodes.specs.GroupKinds.{group_says}
use Rattle.basic_nodes.specs.Shifts.{later}
use Rattle.basic_nodes.specs.Streams.{sees}

-- a point of `cpu`, grouped by its measurement
abbrev pub point : PointValue
point = record {
  db = codes "d";
  rp = codes "r";
  name = codes "cpu";
  tags = empty;
  fields = empty;
  dims = [];
  by_name = true;
  time = pos 0;
}

-- it came
abbrev pub came : Came
came = (0, point)

-- and one of `net`
abbrev pub net : Came
net = (0, record point { name = codes "net" })

-- ---- the stream

-- a task of no database and policy sees each point
abbrev pub SeesAll : Type 0
SeesAll = sees [] point ≡ true

-- one of another policy doesn't
abbrev pub OtherPolicy : Type 0
OtherPolicy = sees (record { db = codes "d"; rp = codes "s" } ∷ []) point ≡ false

-- ---- conditions

-- an integer of a script
abbrev pub number : ℕ → Tree
number n = LitTree (lits.Int (pos n)) 0

-- the lambda `count()`
abbrev pub count : Tree
count = CallTree (codes "count") NoTrees 0

-- the lambda `if(count() == 1, 1 / 0 == 1, count() == 2)`: it has a fault where it is evaluated for the first time in a
-- group, and is true for the second time
abbrev pub true_at_second : Tree
true_at_second =
    CallTree (codes "if")
    (MoreTrees (BinTree Eq count (number 1) 0)
    (MoreTrees (BinTree Eq (BinTree Div (number 1) (number 0) 0) (number 1) 0)
    (MoreTrees (BinTree Eq count (number 2) 0) NoTrees))) 0

-- a fault is dropped and counted
abbrev pub FaultIsDropped : Type 0
FaultIsDropped = group_says (Where true_at_second) [] 0 point ≡ a_drop

-- a true one is passed
abbrev pub TrueIsPassed : Type 0
TrueIsPassed = group_says (Where true_at_second) (came ∷ []) 0 point ≡ passed point

-- what is false gives nothing, and isn't counted
abbrev pub FalseIsSilent : Type 0
FalseIsSilent = group_says (Where true_at_second) (came ∷ came ∷ []) 0 point ≡ silence

-- ---- `from`

-- `from()` without properties
abbrev pub all : Selection
all = record {
  database = None;
  policy = None;
  measurement = None;
  conditions = [];
  grouping = By [];
  by_measurement = false;
}

-- it groups by nothing, whatever the point was grouped by
abbrev pub GroupsAnew : Type 0
GroupsAnew = group_says (From all) [] 0 point ≡ passed (record point { by_name = false })

-- `from().measurement('cpu').where(lambda: count() == 1)`
abbrev pub first_of_cpu : Selection
first_of_cpu = record all { measurement = Some (codes "cpu"); conditions = BinTree Eq count (number 1) 0 ∷ [] }

-- a point of another measurement gives nothing, and isn't evaluated
abbrev pub OtherMeasurement : Type 0
OtherMeasurement = group_says (From first_of_cpu) (net ∷ net ∷ []) 0 point ≡ passed (record point { by_name = false })

-- ---- `groupBy`

-- grouping by the measurement stays as it was
abbrev pub NameStays : Type 0
NameStays = group_by_says (record { grouping = By (codes "host" ∷ []); by_measurement = false }) point
    ≡ passed (record point { dims = codes "host" ∷ [] })

-- ---- `shift`

-- the last time
abbrev pub LastTime : Type 0
LastTime = later (pos 1) (pos 8999999999999999999) ≡ Some (pos 9000000000000000000)

-- none lies behind it
abbrev pub BehindTheLastTime : Type 0
BehindTheLastTime = later (pos 1) (pos 9000000000000000000) ≡ None

-- ---- `sample`

-- of each two points the first
abbrev pub FirstOfTwo : Type 0
FirstOfTwo = group_says (Sample 2) [] 0 point ≡ passed point

-- not the second
abbrev pub SecondOfTwo : Type 0
SecondOfTwo = group_says (Sample 2) (came ∷ []) 0 point ≡ silence

-- and the third
abbrev pub ThirdOfTwo : Type 0
ThirdOfTwo = group_says (Sample 2) (came ∷ came ∷ []) 0 point ≡ passed point
