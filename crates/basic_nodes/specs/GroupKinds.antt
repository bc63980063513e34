-- What is said of a point by how many points of its group came before it.
use Rattle.std.specs.Prelude.{◌≡◌, ℕ, ◌+◌, Bool, true, false, cond, if◌then◌else◌, List, [], ◌∷◌, ◌++◌, length, filter, refl}
use Rattle.std.proofs.Common.{length-append}
use Rattle.kap_base.specs.Points.{PointValue}
use Rattle.node_core.specs.declared.said.Said.{Said}
use Rattle.node_core.specs.Groups.{Came, GroupAnswer}
use Rattle.node_core.specs.Laws.{filter-append}
use Rattle.node_core.specs.Meaning.{Turn}
use Rattle.basic_nodes.specs.declared.group_kind.GroupKind.{GroupKind}
use Rattle.basic_nodes.specs.declared.group_kind.GroupKind.TheVariants.{From, Where, Sample}
use Rattle.basic_nodes.specs.Conditions.{agrees, from_says, where_says}
use Rattle.basic_nodes.specs.Shifts.{sample_says}

-- whether a point is one of those that are counted: `from` counts those that it evaluates, the others count each
abbrev pub is_counted : GroupKind → PointValue → Bool
is_counted (From selection) p = agrees selection p
is_counted (Where condition) p = true
is_counted (Sample n) p = true

-- what is said of a point, where so many points of its group were counted before
abbrev pub says_behind : GroupKind → ℕ → PointValue → Said
says_behind (From selection) k p = from_says selection k p
says_behind (Where condition) k p = where_says condition k p
says_behind (Sample n) k p = sample_says n k p

-- how many of a group's points were counted
abbrev pub count_in : GroupKind → List Came → ℕ
count_in kind before = length (filter (λ c. is_counted kind c.1) before)

-- what is said of a point, by the points of its group before it
abbrev pub group_says : GroupKind → GroupAnswer
group_says kind before port p = says_behind kind (count_in kind before) p

-- ---- the number is what is kept of a group

-- one point more
abbrev pub counted_by : Bool → ℕ → ℕ
counted_by b k = k + (if b then 1 else 0)

-- the same by what is kept of the group: how often its condition was evaluated, or how many points it had
abbrev pub group_step : GroupKind → ℕ → ℕ → PointValue → Turn ℕ
group_step kind k port p = record { state = counted_by (is_counted kind p) k; said = says_behind kind k p }

one_more : (b : Bool) (c : Came) → length (cond b (c ∷ []) []) ≡ cond b 1 0
one_more true c = refl
one_more false c = refl

-- what is kept, and what is said, of one point more
pub group_goes_on : (kind : GroupKind) (before : List Came) (port : ℕ) (p : PointValue)
    → group_step kind (count_in kind before) port p
    ≡ record { state = count_in kind (before ++ (port, p) ∷ []); said = group_says kind before port p }
group_goes_on kind before port p =
    rw (
      filter-append (λ (c : Came). is_counted kind c.1) before ((port, p) ∷ []),
      length-append,
      one_more
          (is_counted kind p) (port, p),
    ) refl
