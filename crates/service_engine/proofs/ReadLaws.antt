-- What reading a store leaves.
use Rattle.std.proofs.Common.{◌≡◌, ℕ, suc, Bool, false, List, [], ◌∷◌, ◌++◌, length, take, drop, Option, Some, None, Result, Ok, Err, refl, sym, ap, subst, ◌∙◌, take-append-drop}
use Rattle.std.specs.Prelude.{IfOk}
use Rattle.kap_io.specs.Disk.{Image}
use Rattle.kap_io.specs.Moments.{Quiet, quiet_images}
use Rattle.node_core.specs.declared.node.Node.{Ghosts}
use Rattle.node_set.specs.Tasks.{Planned}
use Rattle.store_records.specs.Histories.{held}
use Rattle.topic_core.specs.declared.transition.Transition.{Transition}
use Rattle.topic_store.specs.Pieces.{piece_behind}
use Rattle.topic_store.proofs.Quietly.{on_quietly}
use Rattle.kap_engine.specs.Engines.{EngineValue}
use Rattle.kap_service.specs.Stores.{AreBehind}
use Rattle.kap_service.specs.Values.{Stores}
use Rattle.service_engine.specs.Engines.{IsOver, IsOverSome, IsRight, Leaves, count_of, is_spent, own_of}
use Rattle.service_engine.specs.StoreLaws.{over_is}

-- a piece behind so many is none only where there are no more
pub piece_is_behind : (stored : List Transition) (after : ℕ) (some : List Transition)
    → some ≡ piece_behind after stored → AreBehind stored after some
piece_is_behind stored after some is = record {
  rest = drop 4096 (drop after stored);
  behind = sym (take-append-drop 4096 (drop after stored)) ∙ ap (λ (l : List Transition). l ++ drop 4096 (drop after stored)) (sym is);
  none = λ e. none_left 4095 (drop after stored) (sym is ∙ e);
}
  where
    none_left : (n : ℕ) (l : List Transition) → take (suc n) l ≡ [] → drop (suc n) l ≡ []
    none_left n [] e = refl
    none_left n (x ∷ xs) e = absurd (cc e)

module _ {N P S D : Type 0} (g : Ghosts N P S) (planned : Planned P) (tells : Bool) (seen : D → Image) (moment : D → ℕ)
    (may_leave : D → Image → Type 0) (left_since : D → ℕ → Image → Type 0) (old new : D)
    (quiet : Quiet seen moment may_leave left_since old new) where
  -- an engine stands over the same records
  over_quiet : (e : EngineValue N) → IsOver g planned (seen old) (may_leave old) e
      → IsOver g planned (seen new) (may_leave new) e
  over_quiet e o = record {
    records = o.records;
    engine = record {
      on = on_quietly seen moment may_leave left_since old new o.records e.store quiet o.engine.on;
      full = o.engine.full;
      runs = o.engine.runs;
      numbered = o.engine.numbered;
    };
    before = o.before;
    last = o.last;
  }

  some_quiet : (e : Option (EngineValue N)) → IsOverSome g planned (seen old) (may_leave old) e
      → IsOverSome g planned (seen new) (may_leave new) e
  some_quiet (Some e) over = λ unspent. over_quiet e (over unspent)
  some_quiet None over = tt

  -- a right engine is right behind quiet calls
  pub right_quiet : (e : Option (EngineValue N)) → IsRight g planned tells (seen old) (may_leave old) e
      → IsRight g planned tells (seen new) (may_leave new) e
  right_quiet e r = record {
    told = r.told;
    each = λ files left. r.each files (quiet_images seen moment may_leave left_since old new quiet files left);
    over = some_quiet e r.over;
  }

  -- and what is left was left before
  pub leaves_quiet : (store : Stores) → Leaves (may_leave new) store → Leaves (may_leave old) store
  leaves_quiet store l = record {
    files = l.files;
    left = quiet_images seen moment may_leave left_since old new quiet l.files l.left;
    records = l.records;
    stands = l.stands;
    is = l.is;
  }

module _ {N P S : Type 0} (g : Ghosts N P S) (planned : Planned P) (tells : Bool) (seen : Image) (images : Image → Type 0)
  where
    -- an engine counts the transitions of each store that is left
    pub counts_stored : (e : Option (EngineValue N)) → IsRight g planned tells seen images e → is_spent e ≡ false
        → (store : Stores) → Leaves images store → (count : ℕ) → count ≡ count_of e → count ≡ length store.stored
    counts_stored (Some e) r unspent store l count is =
        let o = r.over unspent in
        is ∙ o.engine.on.kept.keeps.transitions
        ∙ ap (λ (s : Stores). length s.stored) (sym (over_is g planned tells seen images e o store l))
    counts_stored None r unspent store l count is = absurd (cc unspent)

    -- what is read of its store is of each store that is left
    pub read_of_each : {E : Type 0} (result : Result (List Transition) E) (e : EngineValue N) (o : IsOver g planned seen images e)
        (after : ℕ)
        → IfOk result (AreBehind (held o.records).transitions after) → (store : Stores) → Leaves images store
        → IfOk result (AreBehind store.stored after)
    read_of_each (Ok some) e o after behind store l =
        subst (λ (s : Stores). AreBehind s.stored after some) (sym (over_is g planned tells seen images e o store l)) behind
    read_of_each (Err fault) e o after behind store l = tt

    -- what its last change stored are the last of each
    pub own_last : (e : Option (EngineValue N)) → IsRight g planned tells seen images e → is_spent e ≡ false
        → (store : Stores) → Leaves images store → (own : List Transition) → own ≡ own_of e
        → (before : List Transition) × (store.stored ≡ before ++ own)
    own_last (Some e) r unspent store l own is =
        let o = r.over unspent in (
          o.before,
          ap (λ (s : Stores). s.stored) (over_is g planned tells seen images e o store l) ∙ o.last
              ∙ ap (λ (t : List Transition). o.before ++ t) (sym is),
        )
    own_last None r unspent store l own is = absurd (cc unspent)
