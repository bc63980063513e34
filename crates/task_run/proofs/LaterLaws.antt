-- What each node of a life gives with later stamps.
use Rattle.std.proofs.Common.{◌≡◌, ℕ, zero, suc, ◌+◌, ◌≤◌, ◌<◌, ◌==◌, false, List, [], ◌∷◌, ◌++◌, map, length, refl, sym, ap, ◌∙◌, append-nil, append_assoc, arith}
use Rattle.std.specs.Prelude.{flat_map}
use Rattle.std.specs.List.{AllByRecursion as Each}
use Rattle.std.proofs.lemmas.Bool.Decides.{nat_tests}
use Rattle.std.proofs.lemmas.List.{append_cancel_left}
use Rattle.std.proofs.lemmas.List.Concat.{flat_map-append}
use Rattle.std.proofs.lemmas.List.Elements.{filter-append}
use Rattle.kap_base.specs.Points.{PointValue}
use Rattle.kap_base.specs.declared.items.Effect.{Effect}
use Rattle.kap_base.specs.declared.items.Item.{Item}
use Rattle.node_core.specs.Meaning.{Answer, Given, Input}
use Rattle.node_core.specs.Cut.{IsStamped}
use Rattle.task_run.specs.Graphs.{Placed, gives_behind, lists_of, node_gives, outs_of, stamped_from}
use Rattle.task_run.specs.Lives.{effects_with}
use Rattle.task_run.specs.Merging.{stamps}
use Rattle.task_run.specs.MoreLaws.{AreParts, Part, olds, wholes}
use Rattle.task_run.proofs.OrderLaws.{given-stream}
use Rattle.task_run.specs.StampLaws.{none_above, none_with, stream_by_stamp}
use Rattle.task_run.specs.Stamps.{IsStream, StampsUpTo, of_effect}
use Rattle.task_run.specs.Courses.{laters}
use Rattle.task_run.proofs.CourseLaws.{new-is, old-is, parts-are, parts-of}
use Rattle.task_run.specs.PointLaws.{length-more}

-- ---- node by node

-- the effects with a stamp of each of these
abbrev pub each_with : ℕ → List Given → List (List Effect)
each_with s gives = map (λ (g : Given). effects_with s g.effects) gives

each-old : (n s : ℕ) (ts : List Part) → s ≤ n → AreParts n ts → each_with s (wholes ts) ≡ each_with s (olds ts)
each-old n s [] le are = refl
each-old n s (t ∷ ts) le are =
    let other : (suc n == s) ≡ false = grind (arith, nat_tests) in
    rw (filter-append, none_with of_effect s (suc n) t.more.effects other are.0.more.effects, append-nil, each-old n s ts le are.1) refl

module _ {P : Type 0} (answer : P → Answer) (life number : P → ℕ) (stamped : (p : P) (before : List Input) (x : Input) → IsStamped (life p) (number p) x.1.stamp.0 (answer p before x)) where
  each-one : (b : ℕ) (ps : List PointValue) (p : PointValue) (nodes : List (Placed P)) (s : ℕ) → s ≤ b + length ps
      → each_with s (gives_behind answer (b + length (ps ++ p ∷ [])) (stamped_from (b + 1) (ps ++ p ∷ [])) [] nodes) ≡ each_with s (gives_behind answer (b + length ps) (stamped_from (b + 1) ps) [] nodes)
  each-one b ps p nodes s le =
      rw (new-is answer life number stamped b ps p nodes, old-is answer life number stamped b ps p nodes) (each-old (b + length ps) s (parts-of answer life number stamped b ps p nodes) le (parts-are answer life number stamped b ps p nodes))

  -- more points leave what each node gave before
  pub each_kept : (b : ℕ) (nodes : List (Placed P)) (s : ℕ) (ps new : List PointValue) → s ≤ b + length ps
      → each_with s (gives_behind answer (b + length (ps ++ new)) (stamped_from (b + 1) (ps ++ new)) [] nodes) ≡ each_with s (gives_behind answer (b + length ps) (stamped_from (b + 1) ps) [] nodes)
  each_kept b nodes s ps [] le = ap (λ (qs : List PointValue). each_with s (gives_behind answer (b + length qs) (stamped_from (b + 1) qs) [] nodes)) (append-nil ps)
  each_kept b nodes s ps (p ∷ new) le =
      let long : length (ps ++ p ∷ []) ≡ suc (length ps) = length-more ps p in
      let low : s ≤ b + length (ps ++ p ∷ []) = omega (arith, long, le) in
      ap (λ (qs : List PointValue). each_with s (gives_behind answer (b + length qs) (stamped_from (b + 1) qs) [] nodes)) (sym (append_assoc ps (p ∷ []) new))
      ∙ each_kept b nodes s (ps ++ p ∷ []) new low
      ∙ each-one b ps p nodes s le

-- ---- stamps of what nodes give

module _ {P : Type 0} (answer : P → Answer) (life number : P → ℕ) (stamped : (p : P) (before : List Input) (x : Input) → IsStamped (life p) (number p) x.1.stamp.0 (answer p before x)) where
  -- the effects of each node have the stamps up to n and stand by stamp
  pub gives_streams : (n : ℕ) (points : List Item) (earlier : List Given) (nodes : List (Placed P)) → Each (λ (g : Given). IsStream of_effect n g.effects) (gives_behind answer n points earlier nodes)
  gives_streams n points earlier [] = tt
  gives_streams n points earlier (d ∷ nodes) = (
    (given-stream (life d.spec) (number d.spec) (answer d.spec) (stamped d.spec) n (lists_of points (outs_of earlier) d.parents)).effects,
    gives_streams n points (earlier ++ node_gives answer n points earlier d ∷ []) nodes,
  )

-- ---- what comes later

-- of these effects those with the k stamps above n, stamp by stamp
abbrev pub later_of : ℕ → ℕ → List Effect → List Effect
later_of n k xs = laters n k (λ s. effects_with s xs)

by-stamps : (n k : ℕ) (xs : List Effect) → flat_map (λ s. effects_with s xs) (stamps (n + k)) ≡ flat_map (λ s. effects_with s xs) (stamps n) ++ later_of n k xs
by-stamps n zero xs = let same : n + 0 ≡ n = omega arith in ap (λ (m : ℕ). flat_map (λ s. effects_with s xs) (stamps m)) same ∙ sym (append-nil _)
by-stamps n (suc k) xs =
    let same : n + suc k ≡ suc (n + k) = omega arith in
    let last = effects_with (suc (n + k)) xs in
    ap (λ (m : ℕ). flat_map (λ s. effects_with s xs) (stamps m)) same
    ∙ flat_map-append (λ s. effects_with s xs) (stamps (n + k)) (suc (n + k) ∷ [])
    ∙ ap (λ (es : List Effect). es ++ (last ++ [])) (by-stamps n k xs)
    ∙ ap (λ (es : List Effect). (flat_map (λ s. effects_with s xs) (stamps n) ++ later_of n k xs) ++ es) (append-nil last)
    ∙ append_assoc (flat_map (λ s. effects_with s xs) (stamps n)) (later_of n k xs) last

low-same : (n : ℕ) (xs ys : List Effect) → ((s : ℕ) → s ≤ n → effects_with s xs ≡ effects_with s ys) → flat_map (λ s. effects_with s xs) (stamps n) ≡ flat_map (λ s. effects_with s ys) (stamps n)
low-same zero xs ys h = refl
low-same (suc n) xs ys h =
    flat_map-append (λ s. effects_with s xs) (stamps n) (suc n ∷ [])
    ∙ ap (λ (es : List Effect). es ++ (effects_with (suc n) xs ++ [])) (low-same n xs ys (λ s le. h s (omega (arith, le))))
    ∙ ap (λ (es : List Effect). flat_map (λ s. effects_with s ys) (stamps n) ++ (es ++ [])) (h (suc n) (omega arith))
    ∙ sym (flat_map-append (λ s. effects_with s ys) (stamps n) (suc n ∷ []))

pub high-same : (n k : ℕ) (old more : List Effect) → StampsUpTo of_effect n old → later_of n k (old ++ more) ≡ later_of n k more
high-same n zero old more h = refl
high-same n (suc k) old more h =
    let above : n < suc (n + k) = omega arith in
    let one : effects_with (suc (n + k)) (old ++ more) ≡ effects_with (suc (n + k)) more =
    filter-append (λ (e : Effect). e.stamp.0 == suc (n + k)) old more ∙ rw (none_above of_effect (suc (n + k)) n old above h) refl in
    rw (high-same n k old more h, one) refl

-- what more points give is what stands with the later stamps, stamp by stamp
pub later_is : (n k : ℕ) (old more : List Effect) → IsStream of_effect n old → IsStream of_effect (n + k) (old ++ more) → ((s : ℕ) → s ≤ n → effects_with s (old ++ more) ≡ effects_with s old) → more ≡ later_of n k more
later_is n k old more low whole same =
    append_cancel_left old more (later_of n k more)
    (sym (stream_by_stamp of_effect (n + k) (old ++ more) whole)
    ∙ by-stamps n k (old ++ more)
    ∙ ap (λ (es : List Effect). es ++ later_of n k (old ++ more)) (low-same n (old ++ more) old same ∙ stream_by_stamp of_effect n old low)
    ∙ ap (λ (es : List Effect). old ++ es) (high-same n k old more low.up_to))
