-- The greatest rounded time of points is that of one of them, and none lies above it.
use Rattle.std.proofs.Common.{◌≡◌, ◌↔◌, Bool, true, false, ◌||◌, List, [], ◌∷◌, Option, Some, None, refl, sym, ap, ◌∙◌, arith, ℤ, pos, ◌-ℤ◌, int_lt}
use Rattle.std.specs.Cmp.{signed_Decides}
use Rattle.std.specs.List.{list_any}
use Rattle.std.specs.Ordering.{int_eq}
use Rattle.std.proofs.lemmas.Int.{ints}
use Rattle.kap_base.proofs.TestLaws.{first_false, second_false}
use Rattle.node_core.specs.Groups.{Came}
use Rattle.task_graph.specs.declared.spec.JoinSpec.{JoinSpec}
use Rattle.join_node.specs.QueueLaws.{no_both}
use Rattle.join_node.specs.JoinLaws.{is_below, latest_tells}
use Rattle.join_node.specs.Joins.{latest, rounded}
use Rattle.join_node.specs.Latest.{IsGreatest}

or_second : (a b : Bool) → b ≡ true → (a || b) ≡ true
or_second true b e = refl
or_second false b e = e

before_itself : (t z : ℤ) → int_eq z t ≡ true → int_lt (t -ℤ pos 1) z ≡ true
before_itself t z e = let is : z ≡ t = (signed_Decides z t).0 e in grind (arith, ints)

at_or_above : (t z : ℤ) → int_lt (t -ℤ pos 1) z ≡ true → int_lt t z ≡ false → int_eq z t ≡ true
at_or_above t z e f = (signed_Decides z t).1 (grind (arith, ints))

module _ (j : JoinSpec) where
  abbrev some_above : ℤ → List Came → Bool
  some_above time cs = list_any (λ c. int_lt time (rounded j c)) cs

  abbrev some_at : ℤ → List Came → Bool
  some_at time cs = list_any (λ c. int_eq (rounded j c) time) cs

  at-above : (t : ℤ) (cs : List Came) → some_at t cs ≡ true → some_above (t -ℤ pos 1) cs ≡ true
  at-above t [] e = absurd cc
  at-above t (c ∷ cs) e =
      elim (int_eq (rounded j c) t) as
      (λ b. int_eq (rounded j c) t ≡ b → (b || some_at t cs) ≡ true → (int_lt (t -ℤ pos 1) (rounded j c) || some_above (t -ℤ pos 1) cs) ≡ true) [
        | true ↦ λ here all. ap (λ (b : Bool). b || some_above (t -ℤ pos 1) cs) (before_itself t (rounded j c) here)
        | false ↦ λ other all. or_second (int_lt (t -ℤ pos 1) (rounded j c)) (some_above (t -ℤ pos 1) cs) (at-above t cs all)
      ] refl e

  above-at : (t : ℤ) (cs : List Came) → some_above (t -ℤ pos 1) cs ≡ true → some_above t cs ≡ false → some_at t cs ≡ true
  above-at t [] e f = absurd cc
  above-at t (c ∷ cs) e f =
      elim (int_lt (t -ℤ pos 1) (rounded j c)) as
      (λ b. int_lt (t -ℤ pos 1) (rounded j c) ≡ b → (b || some_above (t -ℤ pos 1) cs) ≡ true → (int_eq (rounded j c) t || some_at t cs) ≡ true) [
        | true ↦ λ here all. ap (λ (b : Bool). b || some_at t cs) (at_or_above t (rounded j c) here (first_false (int_lt t (rounded j c)) (some_above t cs) f))
        | false ↦ λ other all. or_second (int_eq (rounded j c) t) (some_at t cs) (above-at t cs all (second_false (int_lt t (rounded j c)) (some_above t cs) f))
      ] refl e

  greatest_of : (cs : List Came) (time : ℤ) → latest j cs ≡ Some time → IsGreatest j cs time
  greatest_of cs time e =
      let none : some_above time cs ≡ false = latest_tells j cs time ∙ ap (is_below time) e ∙ not_below time in
      let near : some_above (time -ℤ pos 1) cs ≡ true = latest_tells j cs (time -ℤ pos 1) ∙ ap (is_below (time -ℤ pos 1)) e ∙ just_below time in
      record { there = above-at time cs near none; above = none }
    where
      not_below : (a : ℤ) → int_lt a a ≡ false
      not_below a = grind (arith, ints)

      just_below : (a : ℤ) → int_lt (a -ℤ pos 1) a ≡ true
      just_below a = grind (arith, ints)

  latest_of : (cs : List Came) (time : ℤ) (o : Option ℤ) → latest j cs ≡ o → IsGreatest j cs time → latest j cs ≡ Some time
  latest_of cs time None e g = absurd (no_both (some_above (time -ℤ pos 1) cs) (at-above time cs g.there) (latest_tells j cs (time -ℤ pos 1)
      ∙ ap (is_below (time -ℤ pos 1)) e))
  latest_of cs time (Some t) e g =
      let low : int_lt time t ≡ false = sym (latest_tells j cs time ∙ ap (is_below time) e) ∙ g.above in
      let high : int_lt (time -ℤ pos 1) t ≡ true = sym (latest_tells j cs (time -ℤ pos 1) ∙ ap (is_below (time -ℤ pos 1)) e) ∙ at-above time cs g.there in
      e ∙ ap Some (between time t low high)
    where
      between : (a b : ℤ) → int_lt a b ≡ false → int_lt (a -ℤ pos 1) b ≡ true → b ≡ a
      between a b e f = grind (arith, ints)

pub latest_is_greatest : (j : JoinSpec) (cs : List Came) (time : ℤ) → (latest j cs ≡ Some time) ↔ IsGreatest j cs time
latest_is_greatest j cs time = (greatest_of j cs time, latest_of j cs time (latest j cs) refl)
