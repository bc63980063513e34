-- What a window that slides keeps is what its definition asks of the whole list.
use Rattle.std.specs.Prelude.{◌≡◌, ℕ, not, ◌||◌, Bool, true, false, cond, List, [], ◌∷◌, ◌++◌, filter, Option, Some, refl}
use Rattle.std.specs.Prelude.{ℤ, pos, ◌+ℤ◌, ◌-ℤ◌, ◌≤ℤ◌, ◌<ℤ◌, int_le, int_lt}
use Rattle.std.specs.Int.{int_max}
use Rattle.std.specs.List.{fold}
use Rattle.std.proofs.Common.{sym, ap, ◌∙◌, arith}
use Rattle.std.proofs.lemmas.Int.{ints, clamps}
use Rattle.kap_base.specs.Points.{PointValue}
use Rattle.node_core.specs.declared.said.Said.{Said}
use Rattle.node_core.specs.Groups.{Came}
use Rattle.node_core.specs.Laws.{filter-append}
use Rattle.node_core.specs.Meaning.{Turn, silence}
use Rattle.window_node.specs.declared.sliding.SlidingWindow.{SlidingWindow}
use Rattle.window_node.specs.Batches.{points_in, times, batch_at}
use Rattle.window_node.specs.Sliding.{greatest, is_near, is_due, slid, said_behind, sliding_says, reach, SlidingKept, points_kept, sliding_kept, still_near, sliding_step}
use Rattle.window_node.specs.Lists.{le_fact, above_fact, above_test, lt_fact, lt_test, one_of, filter_twice, points_more}

-- ---- the greatest time

max_same : (t : ℤ) → int_max t t ≡ t
max_same t = one_of (λ e. e ≡ t) (int_lt t t) t t refl refl

max_above : (a b : ℤ) → a ≤ℤ int_max a b
max_above a b = omega (arith, ints, clamps)

greatest_from : (high : ℤ) (ps : List PointValue) (p : PointValue)
    → fold int_max high (times (ps ++ p ∷ [])) ≡ int_max (fold int_max high (times ps)) p.time
greatest_from high [] p = refl
greatest_from high (q ∷ ps) p = greatest_from (int_max high q.time) ps p

greatest_more : (first : PointValue) (ps : List PointValue) (p : PointValue)
    → greatest first (ps ++ p ∷ []) ≡ int_max (greatest first ps) p.time
greatest_more first ps p = greatest_from first.time ps p

-- ---- the least greatest time of a batch to come

-- it is none above that of a batch
reach_due : (fill : Bool) (full high next : ℤ) → high ≤ℤ next → (not fill || int_le full next) ≡ true
    → cond (not fill || int_le full high) high full ≤ℤ next
reach_due false full high next le due = le
reach_due true full high next le due = one_of (λ e. e ≤ℤ next) (int_le full high) high full le (le_fact full next due)

-- and where none is emitted it stays
reach_waits : (fill : Bool) (full high next : ℤ) → high ≤ℤ next → (not fill || int_le full next) ≡ false
    → cond (not fill || int_le full high) high full ≡ full
reach_waits false full high next le waits = absurd cc
reach_waits true full high next le waits =
    let below : next <ℤ full = above_fact full next waits in
    let short : int_le full high ≡ false = above_test full high (omega (arith, ints)) in
    ap (λ b. cond b high full) short

-- ---- live points

nearer : (high next period t : ℤ) → high ≤ℤ next → int_lt (next -ℤ period) t ≡ true → int_lt (high -ℤ period) t ≡ true
nearer high next period t le h =
    let f = lt_fact (next -ℤ period) t h in lt_test (high -ℤ period) t (omega (arith, ints))

-- a batch takes of the live points what it takes of all
near_twice : (w : SlidingWindow) (high next : ℤ) → high ≤ℤ next → (before : List PointValue) (p : PointValue)
    → filter (is_near w next) (filter (is_near w high) before ++ p ∷ []) ≡ filter (is_near w next) (before ++ p ∷ [])
near_twice w high next le before p =
    filter-append _ (filter (is_near w high) before) (p ∷ [])
    ∙ ap (λ l. l ++ filter (is_near w next) (p ∷ []))
    (filter_twice _ _ (λ q h. nearer high next (pos w.period) q.time le h) before)
    ∙ sym (filter-append _ before (p ∷ []))

-- a point that a later point can take is kept
pub kept_near : (w : SlidingWindow) (first high next : ℤ) → high ≤ℤ next → (before : List PointValue) (p : PointValue)
    → still_near w first next p (filter (is_near w (reach w first high)) before)
    ≡ filter (is_near w (reach w first next)) (before ++ p ∷ [])
kept_near w first high next le before p =
    let full = first +ℤ pos w.period in
    elim (is_due w first next) as (λ b. is_due w first next ≡ b
    → cond b (filter (is_near w next) (filter (is_near w (reach w first high)) before ++ p ∷ []))
    (filter (is_near w (reach w first high)) before ++ filter (is_near w full) (p ∷ []))
    ≡ filter (is_near w (cond b next full)) (before ++ p ∷ [])) [
      | true ↦ λ due. near_twice w (reach w first high) next (reach_due w.fill_period full high next le due) before p
      | false ↦ λ waits.
          ap (λ (r : ℤ). filter (is_near w r) before ++ filter (is_near w full) (p ∷ []))
          (reach_waits w.fill_period full high next le waits)
          ∙ sym (filter-append _ before (p ∷ []))
    ] refl

-- a point takes none but live points
pub slid_live : (w : SlidingWindow) (first high next : ℤ) → high ≤ℤ next → (before : List PointValue) (p : PointValue)
    → slid w first next p (filter (is_near w (reach w first high)) before ++ p ∷ [])
    ≡ slid w first next p (before ++ p ∷ [])
slid_live w first high next le before p =
    let full = first +ℤ pos w.period in
    elim (is_due w first next) as (λ b. is_due w first next ≡ b
    → cond b (batch_at p next
    (filter (is_near w next) (filter (is_near w (reach w first high)) before ++ p ∷ []))) silence
    ≡ cond b (batch_at p next (filter (is_near w next) (before ++ p ∷ []))) silence) [
      | true ↦ λ due. ap (batch_at p next)
          (near_twice w (reach w first high) next (reach_due w.fill_period full high next le due) before p)
      | false ↦ λ waits. refl
    ] refl

-- ---- the machine goes on as the definition says

-- a turn, by its parts
abbrev turn_to : ℤ → ℤ → List PointValue → Said → Turn (Option SlidingKept)
turn_to first high live said = record { state = Some (record { first = first; high = high; live = live }); said = said }

slides_on : (w : SlidingWindow) (before : List PointValue) (port : ℕ) (p : PointValue)
    → sliding_step w (points_kept w before) port p
    ≡ record { state = points_kept w (before ++ p ∷ []); said = said_behind w p (before ++ p ∷ []) }
slides_on w [] port p =
    let same : p.time ≤ℤ p.time = omega (arith, ints) in
    ap (λ (h : ℤ). turn_to p.time h (still_near w p.time h p []) (slid w p.time h p (p ∷ []))) (max_same p.time)
    ∙ ap (λ (l : List PointValue). turn_to p.time p.time l (slid w p.time p.time p (p ∷ [])))
    (kept_near w p.time p.time p.time same [] p)
slides_on w (q ∷ qs) port p =
    let high = greatest q qs in
    let next = int_max high p.time in
    let live = filter (is_near w (reach w q.time high)) (q ∷ qs) in
    ap (λ (l : List PointValue). turn_to q.time next l (slid w q.time next p (live ++ p ∷ [])))
    (kept_near w q.time high next (max_above high p.time) (q ∷ qs) p)
    ∙ ap (turn_to q.time next (filter (is_near w (reach w q.time next)) (q ∷ (qs ++ p ∷ []))))
    (slid_live w q.time high next (max_above high p.time) (q ∷ qs) p)
    ∙ ap (λ (h : ℤ). turn_to q.time h (filter (is_near w (reach w q.time h)) (q ∷ (qs ++ p ∷ [])))
    (slid w q.time h p (q ∷ (qs ++ p ∷ [])))) (sym (greatest_more q qs p))

-- what is kept, and what is said, of one point more
pub sliding_goes_on : (w : SlidingWindow) (before : List Came) (port : ℕ) (p : PointValue)
    → sliding_step w (sliding_kept w before) port p
    ≡ record { state = sliding_kept w (before ++ (port, p) ∷ []); said = sliding_says w before port p }
sliding_goes_on w before port p = rw (points_more before port p) (slides_on w (points_in before) port p)
