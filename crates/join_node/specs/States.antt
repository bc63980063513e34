-- How what is kept of a group is spelled: the greatest rounded time, and the points that wait, parent by parent.
use Rattle.std.specs.Prelude.{ℕ, ℤ, List, IsTrue, FitsSigned, refl}
use Rattle.std.specs.Int.{w64}
use Rattle.kap_base.specs.Points.{is_time}
use Rattle.state_code.specs.Spelling.{Reading, IsSpelling, FitsPair, spell_pair, read_pair, FitsList, spell_list, read_list, read_as, read_where}
use Rattle.state_code.specs.Numbers.{spell_i64, read_i64, i64_spelled}
use Rattle.state_code.specs.Points.{FitsPoint, spell_point, read_point, point_spelled}
use Rattle.state_code.specs.Laws.{pair_spelled, list_spelled, as_parts, tested_by}
use Rattle.join_node.specs.Queues.{JoinKept}
use Rattle.join_node.specs.Sets.{Columns}

-- what is kept as a tuple: the greatest rounded time and the points that wait
abbrev pub kept_parts : JoinKept → ℤ × Columns
kept_parts k = (k.time, k.queues)

-- what is kept, from these parts
abbrev pub kept_from : ℤ × Columns → JoinKept
kept_from p = record { time = p.0; queues = p.1 }

-- its parts have a spelling, and its time is in range
abbrev pub FitsKept : JoinKept → Type 0
FitsKept k = FitsPair (FitsSigned w64) (FitsList (FitsList FitsPoint)) (kept_parts k) × IsTrue (is_time k.time)

-- its parts one behind the other
abbrev pub spell_kept : JoinKept → List ℕ
spell_kept k = spell_pair spell_i64 (spell_list (spell_list spell_point)) (kept_parts k)

-- the parts that stand there, where their time is in range
abbrev pub read_kept : Reading JoinKept
read_kept = read_where (λ k. is_time k.time) (read_as kept_from (read_pair read_i64 (read_list (read_list read_point))))

-- what is spelled is read again, and only that
pub kept_spelled : IsSpelling FitsKept spell_kept read_kept
kept_spelled =
    tested_by (as_parts (pair_spelled i64_spelled (list_spelled (list_spelled point_spelled))) kept_from kept_parts
    (λ k. refl) (λ p. refl))
    (λ k. is_time k.time)
