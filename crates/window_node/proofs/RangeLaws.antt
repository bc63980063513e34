-- Times and edges in their ranges.
use Rattle.std.proofs.Common.{◌<◌, ◌≤◌, arith}
use Rattle.std.specs.Prelude.{ℤ, pos, negsuc, ◌≤ℤ◌, IsTrue}
use Rattle.std.proofs.lemmas.Int.{ints}
use Rattle.std.proofs.lemmas.Bool.Decides.{nat_tests}
use Rattle.kap_base.specs.Points.{is_time}
use Rattle.window_node.specs.Lists.{le_fact}
use Rattle.window_node.specs.States.{is_edge}

high_time : (t : ℤ) → IsTrue (is_time t) → t ≤ℤ pos 9000000000000000000
high_time (pos n) h = let le : n ≤ 9000000000000000000 = grind (arith, nat_tests) in omega (arith, ints)
high_time (negsuc n) h = omega (arith, ints)

time_between : (t : ℤ) → negsuc 8999999999999999999 ≤ℤ t → t ≤ℤ pos 9000000000000000000 → IsTrue (is_time t)
time_between (pos n) low high = let le : n ≤ 9000000000000000000 = omega (arith, ints) in grind (arith, nat_tests)
time_between (negsuc n) low high = let lt : n < 9000000000000000000 = omega (arith, ints) in grind (arith, nat_tests)

-- an edge that a point passed is a time
pub edge_time : (edge time : ℤ) → IsTrue (is_edge edge) → edge ≤ℤ time → IsTrue (is_time time) → IsTrue (is_time edge)
edge_time edge time low passed h =
    let le = le_fact (negsuc 8999999999999999999) edge low in
    let high = high_time time h in
    time_between edge le (omega (arith, ints, high))
