-- How what is kept of a group is spelled.
use Rattle.std.specs.Prelude.{ℕ, ◌<◌, ◌^◌, ℤ, negsuc, int_le, Bool, List, IsTrue, FitsSigned, refl}
use Rattle.std.specs.Int.{w64, w128}
use Rattle.kap_base.specs.Points.{PointValue, is_time}
use Rattle.state_code.specs.Spelling.{Reading, IsSpelling, FitsPair, spell_pair, read_pair, FitsList, spell_list, read_list, spell_number, read_number, read_as, read_where}
use Rattle.state_code.specs.Numbers.{spell_i64, read_i64, i64_spelled}
use Rattle.state_code.specs.Wide.{spell_i128, read_i128, i128_spelled}
use Rattle.state_code.specs.Points.{FitsPoint, spell_point, read_point, point_spelled}
use Rattle.state_code.specs.Laws.{u64_spelled, pair_spelled, list_spelled, as_parts, tested_by}
use Rattle.window_node.specs.Edges.{EdgeKept}
use Rattle.window_node.specs.Sliding.{SlidingKept}
use Rattle.window_node.specs.Counted.{CountedKept}

-- ---- of a window with edges: the time of the first point, the edge as 16 bytes, and the live points

-- the edge isn't before the least time
abbrev pub is_edge : ℤ → Bool
is_edge edge = int_le (negsuc 8999999999999999999) edge

-- what is kept as a tuple: the first time, the next edge and the live points
abbrev pub edge_parts : EdgeKept → ℤ × (ℤ × List PointValue)
edge_parts k = (k.first, (k.edge, k.live))

-- and what is kept, of such a tuple
abbrev pub edge_from : ℤ × (ℤ × List PointValue) → EdgeKept
edge_from p = record { first = p.0; edge = p.1.0; live = p.1.1 }

-- times of 64 and edges of 128 bits, and fewer than 2^32 points
abbrev pub FitsEdge : EdgeKept → Type 0
FitsEdge k =
    FitsPair (FitsSigned w64) (FitsPair (FitsSigned w128) (FitsList FitsPoint)) (edge_parts k) × IsTrue (is_edge k.edge)

-- the parts one behind the other
abbrev pub spell_edge : EdgeKept → List ℕ
spell_edge k = spell_pair spell_i64 (spell_pair spell_i128 (spell_list spell_point)) (edge_parts k)

-- the parts that stand there
abbrev pub read_edge : Reading EdgeKept
read_edge = read_where (λ k. is_edge k.edge)
    (read_as edge_from (read_pair read_i64 (read_pair read_i128 (read_list read_point))))

-- what is spelled is read again, and only that
pub edge_spelled : IsSpelling FitsEdge spell_edge read_edge
edge_spelled =
    tested_by (as_parts
    (pair_spelled i64_spelled (pair_spelled i128_spelled (list_spelled point_spelled))) edge_from edge_parts (λ k. refl)
    (λ p. refl)) (λ k. is_edge k.edge)

-- ---- of a window that slides: the time of the first point, the greatest time, and the live points

-- what is kept as a tuple: the first time, the greatest time and the live points
abbrev pub sliding_parts : SlidingKept → ℤ × (ℤ × List PointValue)
sliding_parts k = (k.first, (k.high, k.live))

-- and what is kept, of such a tuple
abbrev pub sliding_from : ℤ × (ℤ × List PointValue) → SlidingKept
sliding_from p = record { first = p.0; high = p.1.0; live = p.1.1 }

-- times of 64 bits, and fewer than 2^32 points
abbrev pub FitsSliding : SlidingKept → Type 0
FitsSliding k = FitsPair (FitsSigned w64) (FitsPair (FitsSigned w64) (FitsList FitsPoint)) (sliding_parts k)
    × IsTrue (is_time k.high)

-- the parts one behind the other
abbrev pub spell_sliding : SlidingKept → List ℕ
spell_sliding k = spell_pair spell_i64 (spell_pair spell_i64 (spell_list spell_point)) (sliding_parts k)

-- the parts that stand there
abbrev pub read_sliding : Reading SlidingKept
read_sliding =
    read_where (λ k. is_time k.high)
    (read_as sliding_from (read_pair read_i64 (read_pair read_i64 (read_list read_point))))

-- what is spelled is read again, and only that
pub sliding_spelled : IsSpelling FitsSliding spell_sliding read_sliding
sliding_spelled =
    tested_by (as_parts
    (pair_spelled i64_spelled (pair_spelled i64_spelled (list_spelled point_spelled))) sliding_from sliding_parts
    (λ k. refl) (λ p. refl)) (λ k. is_time k.high)

-- ---- of a window by number: the number of points, and the live points

-- what is kept as a tuple: the number of points and the live ones
abbrev pub counted_parts : CountedKept → ℕ × List PointValue
counted_parts k = (k.seen, k.live)

-- and what is kept, of such a tuple
abbrev pub counted_from : ℕ × List PointValue → CountedKept
counted_from p = record { seen = p.0; live = p.1 }

-- a number of 64 bits, and fewer than 2^32 points
abbrev pub FitsCounted : CountedKept → Type 0
FitsCounted k = FitsPair (λ n. n < 2 ^ 64) (FitsList FitsPoint) (counted_parts k)

-- the parts one behind the other
abbrev pub spell_counted : CountedKept → List ℕ
spell_counted k = spell_pair (spell_number w64) (spell_list spell_point) (counted_parts k)

-- the parts that stand there
abbrev pub read_counted : Reading CountedKept
read_counted = read_as counted_from (read_pair (read_number w64) (read_list read_point))

-- what is spelled is read again, and only that
pub counted_spelled : IsSpelling FitsCounted spell_counted read_counted
counted_spelled =
    as_parts (pair_spelled u64_spelled (list_spelled point_spelled)) counted_from counted_parts (λ k. refl) (λ p. refl)
