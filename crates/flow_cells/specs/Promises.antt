-- What a run with barriers inside says in the words of the node's fold.
use Rattle.std.proofs.Common.{◌≡◌, ℕ, List, [], ◌∷◌, ◌++◌, Option, Some, None, refl, sym, ap, ◌∙◌, append-nil, append_assoc}
use Rattle.std.proofs.lemmas.List.{map-append}
use Rattle.kap_base.specs.declared.items.Item.{Item}
use Rattle.kap_base.specs.declared.items.Msg.{Msg}
use Rattle.kap_base.specs.declared.items.Msg.TheVariants as messages
use Rattle.kap_base.specs.declared.items.Stamp.{Stamp}
use Rattle.node_core.specs.Meaning.{Input, Move, fold}
use Rattle.merge_node.specs.Merge.{Entry, items}
use Rattle.flow_cells.specs.Outs.{item_msgs}
use Rattle.flow_cells.specs.Runs.{Run, reacted, run, inputs, before_last, longer}
use Rattle.flow_cells.specs.HandledLaws.{run-append}

items-append : (xs ys : List Msg) → items (xs ++ ys) ≡ items xs ++ items ys
items-append [] ys = refl
items-append (messages.Item x ∷ xs) ys = ap (λ (l : List Msg). messages.Item x ∷ l) (items-append xs ys)
items-append (messages.Barrier b ∷ xs) ys = items-append xs ys

items-msgs : (xs : List Item) → items (item_msgs xs) ≡ item_msgs xs
items-msgs [] = refl
items-msgs (x ∷ xs) = ap (λ (l : List Msg). messages.Item x ∷ l) (items-msgs xs)

-- the state at the last barrier, or the saved one where there is none
abbrev pub state_at : {S : Type 0} → (S → Input → Move S) → Run S → Option (List Entry) → S
state_at step r None = r.saved
state_at step r (Some xs) = (fold step r.state (inputs xs)).state

module _ {S : Type 0} (step : S → Input → Move S) where
  -- the state is the fold's
  pub run_state : (r : Run S) (xs : List Entry) → (run step r xs).state ≡ (fold step r.state (inputs xs)).state
  run_state r [] = refl
  run_state r ((k, messages.Item x) ∷ xs) = run_state (reacted step r k (messages.Item x)) xs
  run_state r ((k, messages.Barrier b) ∷ xs) = run_state (reacted step r k (messages.Barrier b)) xs

  -- the effects are the fold's
  pub run_effects : (r : Run S) (xs : List Entry) → (run step r xs).effects ≡ r.effects
      ++ (fold step r.state (inputs xs)).given.effects
  run_effects r [] = sym (append-nil r.effects)
  run_effects r ((k, messages.Item x) ∷ xs) =
      let m = step r.state (k, x) in
      run_effects (reacted step r k (messages.Item x)) xs
      ∙ append_assoc r.effects m.given.effects (fold step m.state (inputs xs)).given.effects
  run_effects r ((k, messages.Barrier b) ∷ xs) = run_effects (reacted step r k (messages.Barrier b)) xs

  -- the items given out are the fold's
  pub run_items : (r : Run S) (xs : List Entry) → items (run step r xs).outs ≡ items r.outs
      ++ item_msgs (fold step r.state (inputs xs)).given.items
  run_items r [] = sym (append-nil (items r.outs))
  run_items r ((k, messages.Item x) ∷ xs) =
      let m = step r.state (k, x) in
      let rest = (fold step m.state (inputs xs)).given.items in
      run_items (reacted step r k (messages.Item x)) xs
      ∙ ap (λ (l : List Msg). l ++ item_msgs rest) (items-append r.outs (item_msgs m.given.items)
      ∙ ap (λ (l : List Msg). items r.outs ++ l) (items-msgs m.given.items))
      ∙ append_assoc (items r.outs) (item_msgs m.given.items) (item_msgs rest)
      ∙ ap (λ (l : List Msg). items r.outs ++ l) (sym (map-append (λ (y : Item). messages.Item y) m.given.items rest))
  run_items r ((k, messages.Barrier b) ∷ xs) =
      run_items (reacted step r k (messages.Barrier b)) xs
      ∙ ap (λ (l : List Msg). l ++ item_msgs (fold step r.state (inputs xs)).given.items)
      (items-append r.outs (messages.Barrier b ∷ []) ∙ append-nil (items r.outs))

  -- a barrier goes on behind what the items up to it gave
  pub run_barrier : (r : Run S) (xs : List Entry) (k : ℕ) (b : Stamp)
      → (run step r (xs ++ (k, messages.Barrier b) ∷ [])).outs ≡ (run step r xs).outs ++ messages.Barrier b ∷ []
  run_barrier r xs k b = ap (λ (q : Run S). q.outs) (run-append step r xs ((k, messages.Barrier b) ∷ []))

  saved-item : (r : Run S) (k : ℕ) (x : Item) (o : Option (List Entry))
      → state_at step (reacted step r k (messages.Item x)) o ≡ state_at step r (longer k (messages.Item x) o)
  saved-item r k x None = refl
  saved-item r k x (Some l) = refl

  saved-barrier : (r : Run S) (k : ℕ) (b : Stamp) (o : Option (List Entry))
      → state_at step (reacted step r k (messages.Barrier b)) o ≡ state_at step r (longer k (messages.Barrier b) o)
  saved-barrier r k b None = refl
  saved-barrier r k b (Some l) = refl

  -- the saved state is the fold's at the last barrier
  pub run_saved : (r : Run S) (xs : List Entry) → (run step r xs).saved ≡ state_at step r (before_last xs)
  run_saved r [] = refl
  run_saved r ((k, messages.Item x) ∷ xs) =
      run_saved (reacted step r k (messages.Item x)) xs ∙ saved-item r k x (before_last xs)
  run_saved r ((k, messages.Barrier b) ∷ xs) =
      run_saved (reacted step r k (messages.Barrier b)) xs ∙ saved-barrier r k b (before_last xs)
