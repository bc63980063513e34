-- `from` and `where`: the points for which conditions are true.
use Rattle.std.specs.Prelude.{ℕ, Bool, true, ◌&&◌, if◌then◌else◌, List, Option, Some, None, bytes_eq}
use Rattle.kap_base.specs.Points.{PointValue}
use Rattle.kap_base.specs.Tree.{Tree}
use Rattle.lambda_eval.specs.Values.{joined_by_and, val}
use Rattle.lambda_eval.specs.Outcomes.{value_or_none}
use Rattle.node_core.specs.declared.said.Said.{Said}
use Rattle.node_core.specs.Meaning.{silence}
use Rattle.basic_nodes.specs.declared.selection.Selection.{Selection}
use Rattle.basic_nodes.specs.Dimensions.{grouped}
use Rattle.basic_nodes.specs.Words.{passed_where}

-- the text is the one that is asked for, where one is
abbrev pub is_asked : Option (List ℕ) → List ℕ → Bool
is_asked None text = true
is_asked (Some asked) text = bytes_eq asked text

-- the point is of the database, the policy and the measurement that are asked for
abbrev pub agrees : Selection → PointValue → Bool
agrees s p = is_asked s.database p.db && (is_asked s.policy p.rp && is_asked s.measurement p.name)

-- a point that agrees, where so many were evaluated before in the group that it comes in: where all conditions are true
-- it is grouped by the node alone, and given out
abbrev pub chosen_says : Selection → ℕ → PointValue → Said
chosen_says s k p =
    passed_where (value_or_none (val (joined_by_and 0 s.conditions) k p)) (grouped s.grouping s.by_measurement p)

-- `from`: a point that doesn't agree isn't evaluated
abbrev pub from_says : Selection → ℕ → PointValue → Said
from_says s k p = if agrees s p then chosen_says s k p else silence

-- `where`, where so many points of the group were evaluated before
abbrev pub where_says : Tree → ℕ → PointValue → Said
where_says condition k p = passed_where (value_or_none (val condition k p)) p
