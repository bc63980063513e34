-- What a window by number keeps is what its definition asks of the whole list.
use Rattle.std.specs.Prelude.{◌≡◌, ℕ, zero, suc, ◌+◌, ◌-◌, ◌%◌, ◌==◌, ◌<◌, ◌≤◌, nat_le, nat_lt, ◌&&◌, Bool, true, false, cond, if◌then◌else◌, List, [], ◌∷◌, ◌++◌, length, refl}
use Rattle.std.proofs.Common.{sym, ap, ◌∙◌, arith, length-append}
use Rattle.std.proofs.Common.{inl, inr}
use Rattle.std.proofs.Math.Nat.{suc-mod, mod-eq_of_lt}
use Rattle.std.proofs.lemmas.Bool.{cases_lt}
use Rattle.std.proofs.lemmas.Nat.{mod_below}
use Rattle.std.proofs.lemmas.Bool.Decides.{nat_tests}
use Rattle.kap_base.specs.Points.{PointValue}
use Rattle.node_core.specs.declared.said.Said.{Said}
use Rattle.node_core.specs.Groups.{Came}
use Rattle.node_core.specs.Meaning.{Turn, silence}
use Rattle.window_node.specs.declared.counted.CountedWindow.{CountedWindow}
use Rattle.window_node.specs.Batches.{points_in, batch_at, last}
use Rattle.window_node.specs.Counted.{is_due, counted, points_say, counted_says, to_come, kept_count, CountedKept, points_kept, counted_kept, counted_step}
use Rattle.window_node.specs.Lists.{last_more, points_more}

-- ---- remainders, one number on

-- it grows by one, or a multiple is reached
record NextRemainder (k m : ℕ) : Type 0 where
  less : m - k % m ≤ m - (k + 1) % m + 1
  due : (k + 1) % m ≡ 0 → m - k % m ≤ 1

next_remainder : (k m : ℕ) → NextRemainder k m
next_remainder k zero = record { less = omega arith; due = λ e. omega arith }
next_remainder k (suc d) =
    let m = suc d in
    let below : k % suc d < suc d = mod_below k (suc d) (omega arith) in
    let one : k + 1 ≡ suc k = omega arith in
    let step : (k + 1) % suc d ≡ suc (k % suc d) % suc d = ap (λ (n : ℕ). n % suc d) one ∙ suc-mod k (suc d) in
    elim (cases_lt (suc (k % suc d)) (suc d)) [
      | inl lt ↦
          let is : (k + 1) % suc d ≡ suc (k % suc d) = step ∙ mod-eq_of_lt lt in
          record { less = omega (arith, is); due = λ e. absurd (omega (arith, is, e)) }
      | inr le ↦ record { less = omega (arith, below, le); due = λ e. omega (arith, below, le) }
    ]

-- ---- how many points are to come, one point on

number_at_least : (a b : ℕ) → nat_le a b ≡ true → a ≤ b
number_at_least a b e = grind (arith, nat_tests)

same_number : (a b : ℕ) → (a == b) ≡ true → a ≡ b
same_number a b e = grind (arith, nat_tests)

both : (a b : Bool) → (a && b) ≡ true → (a ≡ true) × (b ≡ true)
both true b e = (refl, e)
both false b e = absurd cc

-- to_come by its parts
abbrev come : Bool → ℕ → ℕ → ℕ → ℕ
come fill n m seen = if fill then (if nat_lt seen n then n - seen else m - (seen - n) % m) else m - seen % m

-- where fewer than n points are there
come_before : (n m seen : ℕ) → seen < n → (b : Bool) → nat_lt (seen + 1) n ≡ b
    → n - seen ≤ cond b (n - (seen + 1)) (m - ((seen + 1) - n) % m) + 1
come_before n m seen lt true e = omega arith
come_before n m seen lt false e = let le : n ≤ seen + 1 = grind (arith, nat_tests) in omega arith

come_behind : (n m seen : ℕ) → n ≤ seen → m - (seen - n) % m ≤ come true n m (seen + 1) + 1
come_behind n m seen le =
    let over : nat_lt (seen + 1) n ≡ false = grind (arith, nat_tests) in
    let same : (seen + 1) - n ≡ (seen - n) + 1 = omega arith in
    rw (over, same) (next_remainder (seen - n) m).less

come_filled : (n m seen : ℕ) (b : Bool) → nat_lt seen n ≡ b
    → cond b (n - seen) (m - (seen - n) % m) ≤ come true n m (seen + 1) + 1
come_filled n m seen true e =
    let lt : seen < n = grind (arith, nat_tests) in come_before n m seen lt (nat_lt (seen + 1) n) refl
come_filled n m seen false e = let le : n ≤ seen = grind (arith, nat_tests) in come_behind n m seen le

-- no more than one fewer is to come
come_less : (fill : Bool) (n m seen : ℕ) → come fill n m seen ≤ come fill n m (seen + 1) + 1
come_less true n m seen = come_filled n m seen (nat_lt seen n) refl
come_less false n m seen = (next_remainder seen m).less

due_filled : (n m seen : ℕ) (b : Bool) → nat_lt seen n ≡ b → n ≤ seen + 1 → ((seen + 1) - n) % m ≡ 0
    → cond b (n - seen) (m - (seen - n) % m) ≤ 1
due_filled n m seen true e le none = omega arith
due_filled n m seen false e le none =
    let within : n ≤ seen = grind (arith, nat_tests) in
    let same : (seen + 1) - n ≡ (seen - n) + 1 = omega arith in
    (next_remainder (seen - n) m).due (ap (λ (k : ℕ). k % m) (sym same) ∙ none)

-- and where a batch is due, none or one
come_due : (fill : Bool) (n m seen : ℕ)
    → (if fill then nat_le n (seen + 1) && (((seen + 1) - n) % m == 0) else (seen + 1) % m == 0) ≡ true
    → come fill n m seen ≤ 1
come_due true n m seen due =
    let two = both (nat_le n (seen + 1)) (((seen + 1) - n) % m == 0) due in
    due_filled n m seen (nat_lt seen n) refl (number_at_least n (seen + 1) two.0)
    (same_number (((seen + 1) - n) % m) 0 two.1)
come_due false n m seen due = (next_remainder seen m).due (same_number ((seen + 1) % m) 0 due)

-- ---- the points that are kept

kept_less : (w : CountedWindow) (seen : ℕ) → kept_count w (seen + 1) ≤ kept_count w seen + 1
kept_less w seen =
    let le : to_come w seen ≤ to_come w (seen + 1) + 1 = come_less w.fill_period w.period_count w.every_count seen in
    omega (arith, le)

kept_due : (w : CountedWindow) (seen : ℕ) → is_due w (seen + 1) ≡ true → w.period_count ≤ kept_count w seen + 1
kept_due w seen due =
    let le : to_come w seen ≤ 1 = come_due w.fill_period w.period_count w.every_count seen due in omega (arith, le)

counted_live : (w : CountedWindow) (before : List PointValue) (p : PointValue)
    → counted w (length before + 1) p (last (kept_count w (length before)) before ++ p ∷ [])
    ≡ counted w (length before + 1) p (before ++ p ∷ [])
counted_live w before p =
    let seen = length before in
    elim (is_due w (seen + 1)) as (λ b. is_due w (seen + 1) ≡ b
    → cond b (batch_at p p.time (last w.period_count (last (kept_count w seen) before ++ p ∷ []))) silence
    ≡ cond b (batch_at p p.time (last w.period_count (before ++ p ∷ []))) silence) [
      | true ↦ λ due. ap (batch_at p p.time)
          (last_more w.period_count (kept_count w seen) before p (kept_due w seen due))
      | false ↦ λ waits. refl
    ] refl

-- ---- the machine goes on as the definition says

-- a turn, by its parts
abbrev turn_to : ℕ → List PointValue → Said → Turn CountedKept
turn_to seen live said = record { state = record { seen = seen; live = live }; said = said }

counts_on : (w : CountedWindow) (before : List PointValue) (port : ℕ) (p : PointValue)
    → counted_step w (points_kept w before) port p
    ≡ record { state = points_kept w (before ++ p ∷ []); said = points_say w before p }
counts_on w before port p =
    let seen = length before in
    let live = last (kept_count w seen) before in
    let all = before ++ p ∷ [] in
    let long : length (before ++ p ∷ []) ≡ length before + 1 = length-append before (p ∷ []) in
    ap (λ (l : List PointValue). turn_to (seen + 1) l (counted w (seen + 1) p (live ++ p ∷ [])))
    (last_more (kept_count w (seen + 1)) (kept_count w seen) before p (kept_less w seen))
    ∙ ap (turn_to (seen + 1) (last (kept_count w (seen + 1)) all)) (counted_live w before p)
    ∙ ap (λ (n : ℕ). turn_to n (last (kept_count w n) all) (points_say w before p)) (sym long)

-- what is kept, and what is said, of one point more
pub counted_goes_on : (w : CountedWindow) (before : List Came) (port : ℕ) (p : PointValue)
    → counted_step w (counted_kept w before) port p
    ≡ record { state = counted_kept w (before ++ (port, p) ∷ []); said = counted_says w before port p }
counted_goes_on w before port p = rw (points_more before port p) (counts_on w (points_in before) port p)
