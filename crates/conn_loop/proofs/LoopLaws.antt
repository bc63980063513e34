-- The numbers of the open links.
use Rattle.std.proofs.Common.{◌≡◌, ℕ, ◌+◌, ◌<◌, ◌≤◌, List, [], ◌∷◌, ◌++◌, length, sym, ap, subst, arith, inl, inr, All, length-append}
use Rattle.std.proofs.lemmas.List.Elements.{All-cons, All-head, All-nil, All-push, All-tail, All-weaker}
use Rattle.http_dialog.proofs.NumberLaws.{Told}
use Rattle.conn_loop.specs.declared.finished.Finished.{Finished}
use Rattle.conn_loop.specs.declared.slot.Slot.{Slot}
use Rattle.conn_loop.specs.Links.{Telling}
use Rattle.conn_loop.specs.Loops.{AreAbove, AreBelow, AreRising, IsLoop}
use Rattle.conn_loop.specs.Turns.{Turned}

module _ {L : Type 0} where
  pub no_links : (limit : ℕ) → limit ≤ 1024 → IsLoop {L = L} [] 0 limit
  unfolding AreRising
  no_links limit most = record { rising = tt; below = All-nil (λ (s : Slot L). s.number < 0); most = omega arith; bound = most }

  rising_push : (slots : List (Slot L)) (s : Slot L) → AreRising slots → AreBelow s.number slots → AreRising (slots ++ s ∷ [])
  unfolding AreRising
  rising_push [] s up below = (All-nil (λ (x : Slot L). s.number < x.number), tt)
  rising_push (x ∷ slots) s up below =
      let P = λ (y : Slot L). x.number < y.number in
      let Q = λ (y : Slot L). y.number < s.number in
      (All-push P slots s up.0 (All-head Q x slots below), rising_push slots s up.1 (All-tail Q x slots below))

  pub one_more : (slots : List (Slot L)) (s : Slot L) (added limit : ℕ) → IsLoop slots added limit → s.number ≡ added
      → length slots < limit → IsLoop (slots ++ s ∷ []) (added + 1) limit
  one_more slots s added limit is number free = record {
    rising = rising_push slots s is.rising (subst (λ (n : ℕ). AreBelow n slots) (sym number) is.below);
    below = All-push (λ (x : Slot L). x.number < added + 1) slots s
        (All-weaker (λ (x : Slot L). x.number < added) (λ (x : Slot L). x.number < added + 1) (λ x lt. omega arith) slots is.below)
        (omega (arith, number));
    most = (let size = length-append slots (s ∷ []) in omega arith);
    bound = is.bound;
  }

  module _ (of : Telling L) (ready : List ℕ) (s t : Told) where
    -- a turn leaves no other numbers
    turned_all : (P : ℕ → Type 0) (olds still : List (Slot L)) (finished : List (Finished L)) → Turned of ready s t olds still finished
        → All (λ x. P x.number) olds → All (λ x. P x.number) still
    unfolding Turned
    turned_all P [] still finished turned all = subst (λ (xs : List (Slot L)). All (λ x. P x.number) xs) (sym turned.0) (All-nil (λ (x : Slot L). P x.number))
    turned_all P (o ∷ olds) still finished (inl (new, rest, is, stays, turned)) all =
        let Q = λ (x : Slot L). P x.number in
        subst (λ (xs : List (Slot L)). All Q xs) (sym is)
        (All-cons Q new rest (subst P (sym stays.number) (All-head Q o olds all)) (turned_all P olds rest finished turned (All-tail Q o olds all)))
    turned_all P (o ∷ olds) still finished (inr (now, rest, is, ends, turned)) all =
        turned_all P olds still rest turned (All-tail (λ (x : Slot L). P x.number) o olds all)

    turned_rising : (olds still : List (Slot L)) (finished : List (Finished L)) → Turned of ready s t olds still finished
        → AreRising olds → AreRising still
    unfolding Turned AreRising
    turned_rising [] still finished turned up = subst (λ (xs : List (Slot L)). AreRising xs) (sym turned.0) tt
    turned_rising (o ∷ olds) still finished (inl (new, rest, is, stays, turned)) up =
        subst (λ (xs : List (Slot L)). AreRising xs) (sym is) (
          subst (λ (n : ℕ). AreAbove n rest) (sym stays.number) (turned_all (λ n. o.number < n) olds rest finished turned up.0),
          turned_rising olds rest finished turned up.1,
        )
    turned_rising (o ∷ olds) still finished (inr (now, rest, is, ends, turned)) up = turned_rising olds still rest turned up.1

    turned_size : (olds still : List (Slot L)) (finished : List (Finished L)) → Turned of ready s t olds still finished
        → length still ≤ length olds
    unfolding Turned
    turned_size [] still finished turned = let none = ap (λ (xs : List (Slot L)). length xs) turned.0 in omega arith
    turned_size (o ∷ olds) still finished (inl (new, rest, is, stays, turned)) =
        let size = ap (λ (xs : List (Slot L)). length xs) is in let less = turned_size olds rest finished turned in omega arith
    turned_size (o ∷ olds) still finished (inr (now, rest, is, ends, turned)) =
        let less = turned_size olds still rest turned in omega arith

    pub turned_loop : (olds still : List (Slot L)) (finished : List (Finished L)) (added limit : ℕ)
        → Turned of ready s t olds still finished → IsLoop olds added limit → IsLoop still added limit
    turned_loop olds still finished added limit turned is = record {
      rising = turned_rising olds still finished turned is.rising;
      below = turned_all (λ n. n < added) olds still finished turned is.below;
      most = (let less = turned_size olds still finished turned in let most = is.most in omega arith);
      bound = is.bound;
    }
