-- What a node gives out over a merged list is in order, has the barriers of the list and one behind each item.
use Rattle.std.proofs.Common.{◌≡◌, ℕ, ◌+◌, ◌*◌, ◌≤◌, ◌<◌, List, [], ◌∷◌, ◌++◌, refl, sym, ap, subst, ◌∙◌, append-nil, append_assoc, ⊎_elim, arith}
use Rattle.std.specs.Prelude.{◌≢◌}
use Rattle.std.proofs.lemmas.List.{append_cancel_left}
use Rattle.kap_base.specs.declared.items.Item.{Item}
use Rattle.kap_base.specs.declared.items.Msg.{Msg}
use Rattle.kap_base.specs.declared.items.Msg.TheVariants as messages
use Rattle.kap_base.specs.declared.items.Stamp.{Stamp}
use Rattle.node_core.specs.Meaning.{Answer, Given, Input, Move, also, fold, given, given_after}
use Rattle.node_core.specs.Cut.{AreStamped, IsStamped}
use Rattle.node_core.specs.Laws.{also-nothing, given-append}
use Rattle.merge_node.specs.Merge.{AreOrdered, Entry, IsClosed, PrecedesAll, RisesFrom, barriers, rank}
use Rattle.merge_node.proofs.RankLaws.{AllAbove, rises-less}
use Rattle.merge_node.proofs.ClosingLaws.{EntriesClosed, entry_barriers}
use Rattle.flow_cells.specs.Outs.{item_msgs}
use Rattle.flow_cells.specs.Runs.{Run, reacted, run}
use Rattle.task_run.specs.MoreLaws.{fold-append}
use Rattle.task_run.specs.MoreLaws.{same-given}

-- ---- what a machine gives behind other inputs

same-rest : (a b c : Given) → also a b ≡ also a c → b ≡ c
same-rest a b c e =
    let items : b.items ≡ c.items = append_cancel_left a.items b.items c.items (ap (λ (g : Given). g.items) e) in
    let effects : b.effects ≡ c.effects = append_cancel_left a.effects b.effects c.effects (ap (λ (g : Given). g.effects) e) in
    let sums : a.drops + b.drops ≡ a.drops + c.drops = ap (λ (g : Given). g.drops) e in
    let drops : b.drops ≡ c.drops = omega arith in
    same-given b c items effects drops

module _ {S : Type 0} (step : S → Input → Move S) (first : S) (answer : Answer) (folds : (xs : List Input) → (fold step first xs).given ≡ given answer xs) where
  -- fed further inputs, it gives what the node gives for them behind the others
  pub given_behind : (xs ys : List Input) → (fold step (fold step first xs).state ys).given ≡ given_after answer xs ys
  given_behind xs ys =
      let one : also (fold step first xs).given (fold step (fold step first xs).state ys).given ≡ given answer (xs ++ ys) = ap (λ (m : Move S). m.given) (sym (fold-append step first xs ys)) ∙ folds (xs ++ ys) in
      let other : given answer (xs ++ ys) ≡ also (given answer xs) (given_after answer xs ys) = given-append answer [] xs ys in
      same-rest (given answer xs) _ _ (ap (λ (g : Given). also g (fold step (fold step first xs).state ys).given) (sym (folds xs)) ∙ one ∙ other)

-- ---- what is given out

module _ {S : Type 0} (step : S → Input → Move S) where
  -- what is given out from a state on
  abbrev pub said : S → List Entry → List Msg
  said s [] = []
  said s ((k, messages.Item x) ∷ xs) = let m = step s (k, x) in item_msgs m.given.items ++ said m.state xs
  said s ((k, messages.Barrier b) ∷ xs) = messages.Barrier b ∷ said s xs

  -- the run gives out just this
  pub run_said : (r : Run S) (xs : List Entry) → (run step r xs).outs ≡ r.outs ++ said r.state xs
  run_said r [] = sym (append-nil r.outs)
  run_said r ((k, messages.Item x) ∷ xs) =
      let m = step r.state (k, x) in
      run_said (reacted step r k (messages.Item x)) xs ∙ append_assoc r.outs (item_msgs m.given.items) (said m.state xs)
  run_said r ((k, messages.Barrier b) ∷ xs) = run_said (reacted step r k (messages.Barrier b)) xs ∙ append_assoc r.outs (messages.Barrier b ∷ []) (said r.state xs)

  items-barriers : (xs : List Item) (l : List Msg) → barriers (item_msgs xs ++ l) ≡ barriers l
  items-barriers [] l = refl
  items-barriers (x ∷ xs) l = items-barriers xs l

  -- the barriers are those of the list
  pub said_barriers : (s : S) (xs : List Entry) → barriers (said s xs) ≡ entry_barriers xs
  said_barriers s [] = refl
  said_barriers s ((k, messages.Item x) ∷ xs) = let m = step s (k, x) in items-barriers m.given.items (said m.state xs) ∙ said_barriers m.state xs
  said_barriers s ((k, messages.Barrier b) ∷ xs) = ap (λ (l : List Stamp). b ∷ l) (said_barriers s xs)

  items-closed : (xs : List Item) (l : List Msg) → (barriers l ≢ []) → IsClosed l → IsClosed (item_msgs xs ++ l)
  items-closed [] l some h = h
  items-closed (x ∷ xs) l some h = ((λ e. some (sym (items-barriers xs l) ∙ e)), items-closed xs l some h)

  -- where one stands behind each item of the list, one does behind each item given out
  pub said_closed : (s : S) (xs : List Entry) → EntriesClosed xs → IsClosed (said s xs)
  said_closed s [] h = tt
  said_closed s ((k, messages.Item x) ∷ xs) h =
      let m = step s (k, x) in
      items-closed m.given.items (said m.state xs) (λ e. h.0 (sym (said_barriers m.state xs) ∙ e)) (said_closed m.state xs h.1)
  said_closed s ((k, messages.Barrier b) ∷ xs) h = said_closed s xs h

  items-rise : (r t : ℕ) (xs : List Item) (l : List Msg) → r ≤ 2 * t → AreStamped t xs → RisesFrom (2 * t) l → RisesFrom r (item_msgs xs ++ l)
  items-rise r t [] l le at rises = rises-less r (2 * t) l le rises
  items-rise r t (x ∷ xs) l le at rises =
      let same : x.stamp.0 ≡ t = at.0 in
      (omega arith, items-rise (2 * x.stamp.0) t xs l (omega arith) at.1 rises)

  above-of : (x : Entry) (xs : List Entry) → PrecedesAll x xs → AllAbove (rank x.1) xs
  above-of x [] h = tt
  above-of x (y ∷ xs) h = (
    ⊎_elim (λ (lt : rank x.1 < rank y.1). omega arith) (λ (same : (rank x.1 ≡ rank y.1) × (x.0 ≤ y.0)). let e : rank x.1 ≡ rank y.1 = same.0 in omega arith) h.0,
    above-of x xs h.1,
  )

  module _ (life node : ℕ) (answer : Answer) (stamped : (before : List Input) (x : Input) → IsStamped life node x.1.stamp.0 (answer before x)) (first : S)
      (folds : (xs : List Input) → (fold step first xs).given ≡ given answer xs) where
    -- what a node gives at an input has its stamp
    step-stamped : (before : List Input) (s : S) (x : Input) → s ≡ (fold step first before).state → AreStamped x.1.stamp.0 (step s x).given.items
    step-stamped before s x is =
        let one : (step (fold step first before).state x).given ≡ answer before x =
        sym (also-nothing (step (fold step first before).state x).given) ∙ given_behind step first answer folds before (x ∷ []) ∙ also-nothing (answer before x) in
        subst (λ (g : Given). AreStamped x.1.stamp.0 g.items) (sym (ap (λ (q : S). (step q x).given) is ∙ one)) (stamped before x).items

    step-state : (before : List Input) (s : S) (x : Input) → s ≡ (fold step first before).state → (step s x).state ≡ (fold step first (before ++ x ∷ [])).state
    step-state before s x is = ap (λ (q : S). (step q x).state) is ∙ sym (ap (λ (m : Move S). m.state) (fold-append step first before (x ∷ [])))

    -- what is given out over a list in order is in order
    pub said_rises : (r : ℕ) (before : List Input) (s : S) (xs : List Entry) → s ≡ (fold step first before).state → AllAbove r xs → AreOrdered xs → RisesFrom r (said s xs)
    said_rises r before s [] is above ordered = tt
    said_rises r before s ((k, messages.Item x) ∷ xs) is above ordered =
        items-rise r x.stamp.0 (step s (k, x)).given.items (said (step s (k, x)).state xs) above.0 (step-stamped before s (k, x) is)
        (said_rises (2 * x.stamp.0) (before ++ (k, x) ∷ []) (step s (k, x)).state xs (step-state before s (k, x) is) (above-of (k, messages.Item x) xs ordered.0) ordered.1)
    said_rises r before s ((k, messages.Barrier b) ∷ xs) is above ordered =
        (above.0, said_rises (2 * b.0 + 1) before s xs is (above-of (k, messages.Barrier b) xs ordered.0) ordered.1)
