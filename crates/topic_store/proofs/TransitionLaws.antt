-- The topics behind some of a store's transitions.
use Rattle.std.proofs.Common.{◌≡◌, ℕ, ◌+◌, ◌-◌, ◌<◌, ◌≤◌, min, Bool, true, false, ◌&&◌, List, [], ◌∷◌, ◌++◌, length, map, take, drop, refl, sym, ap, ◌∙◌, subst, arith, append_assoc, take-append-drop, take-take, true≢false, Err}
use Rattle.std.proofs.Math.Seq.{take-add}
use Rattle.std.proofs.lemmas.List.{append-nil, length-drop, length-take}
use Rattle.kap_base.proofs.TestLaws.{both, first_of, second_of}
use Rattle.topic_core.specs.Topics.{StandsFor, TopicsValue, event_of}
use Rattle.topic_core.specs.declared.transition.Transition.{Transition}
use Rattle.store_records.specs.Held.{Held, MayFollow, after, are_next, is_next, nothing, transitions_in}
use Rattle.store_records.specs.Histories.{Follow, FollowFrom, first_gate, held, held_from, next_gate}
use Rattle.store_records.specs.declared.rec.Rec.{Rec}
use Rattle.store_records.specs.declared.rec.Rec.TheVariants as kinds
use Rattle.topic_store.specs.Behind.{AreBehind, TakesMoreOrNot}
use Rattle.topic_store.specs.Pieces.{PieceOrNot, piece_behind}
use Rattle.topic_store.specs.declared.fault.StoreFault.{StoreFault}
use Rattle.topic_store.specs.declared.fault.StoreFault.TheVariants.{NotStore, DiskFault, Long, NoMemory}

-- ---- each transition goes on from those before it

-- in two lists, one behind the other
are_both : (before a b : List Transition) → are_next before (a ++ b) ≡ (are_next before a && are_next (before ++ a) b)
are_both before [] b = ap (λ (l : List Transition). are_next l b) (sym (append-nil before))
are_both before (t ∷ a) b =
    let more = are_both (before ++ t ∷ []) a b in
    let assoc = append_assoc before (t ∷ []) a in
    ap (λ (c : Bool). is_next before t && c) (more ∙ ap (λ (l : List Transition). are_next (before ++ t ∷ []) a && are_next l b) assoc)
    ∙ turned (is_next before t) (are_next (before ++ t ∷ []) a) (are_next (before ++ (t ∷ a)) b)
  where
    turned : (x y z : Bool) → (x && (y && z)) ≡ ((x && y) && z)
    turned true y z = refl
    turned false y z = refl

front_next : (before a b : List Transition) → are_next before (a ++ b) ≡ true → are_next before a ≡ true
front_next before a b all = first_of (are_next before a) (are_next (before ++ a) b) (sym (are_both before a b) ∙ all)

behind_next : (before a b : List Transition) → are_next before (a ++ b) ≡ true → are_next (before ++ a) b ≡ true
behind_next before a b all = second_of (are_next before a) (are_next (before ++ a) b) (sym (are_both before a b) ∙ all)

none_more : (ts : List Transition) → are_next [] ts ≡ true → are_next [] (ts ++ []) ≡ true
none_more ts all = subst (λ (l : List Transition). are_next [] l ≡ true) (sym (append-nil ts)) all

-- behind one more record
next_after : (h : Held) (r : Rec) → MayFollow h r → are_next [] h.transitions ≡ true → are_next [] (h.transitions ++ transitions_in r) ≡ true
next_after h (kinds.Define id script enabled) may all = none_more h.transitions all
next_after h (kinds.Enable id) may all = none_more h.transitions all
next_after h (kinds.Disable id) may all = none_more h.transitions all
next_after h (kinds.Delete id) may all = none_more h.transitions all
next_after h (kinds.Batch db rp points) may all = none_more h.transitions all
next_after h (kinds.Trans transitions) may all =
    are_both [] h.transitions transitions ∙ both (are_next [] h.transitions) (are_next h.transitions transitions) all may
next_after h (kinds.Snap points trans states) may all = none_more h.transitions all

next_from : (h : Held) (at : ℕ) (rs : List Rec) → FollowFrom h at rs → are_next [] h.transitions ≡ true → are_next [] (held_from h at rs).transitions ≡ true
next_from h at [] follow all = all
next_from h at (r ∷ rs) follow all = next_from (after h at r) (next_gate at r) rs follow.2 (next_after h r follow.1 all)

-- in a store
pub all_next : (rs : List Rec) → Follow rs → are_next [] (held rs).transitions ≡ true
all_next rs follow = next_from nothing first_gate rs follow refl

-- ---- a piece that is taken

module _ (ts : List Transition) (taken wanted : ℕ) (piece : List Transition) (is : piece ≡ piece_behind taken ts) (more : taken < wanted)
    (enough : wanted ≤ length ts) (count : ℕ) (is_count : count ≡ min (length piece) (wanted - taken)) where
  size : length piece ≡ min 4096 (length ts - taken)
  size = ap (λ (l : List Transition). length l) is ∙ omega (arith, length-take 4096 (drop taken ts), length-drop taken ts)

  -- it isn't empty
  pub some : count ≡ 0 → ⊥
  some none = omega (arith, none, is_count, size, more, enough)

  first_is : take count piece ≡ take count (drop taken ts)
  first_is = ap (λ (l : List Transition). take count l) is ∙ take-take count 4096 (drop taken ts) (omega (arith, is_count, size))

  -- behind it
  pub together : take taken ts ++ take count piece ≡ take (taken + count) ts
  together = ap (λ (l : List Transition). take taken ts ++ l) first_is ∙ sym (take-add taken count ts)

  -- it goes on
  pub piece_next : are_next [] ts ≡ true → are_next (take taken ts) (take count piece) ≡ true
  piece_next all =
      let whole : ts ≡ (take taken ts ++ take count piece) ++ drop (taken + count) ts =
      sym (take-append-drop (taken + count) ts) ∙ ap (λ (l : List Transition). l ++ drop (taken + count) ts) (sym together) in
      behind_next [] (take taken ts) (take count piece)
      (front_next [] (take taken ts ++ take count piece) (drop (taken + count) ts) (subst (λ (l : List Transition). are_next [] l ≡ true) whole all))

  module _ (first : List Transition) (is_first : first ≡ take count piece) where
    -- so many are taken before it
    pub taken_is : taken ≡ length (take taken ts)
    taken_is = omega (arith, length-take taken ts, more, enough)

    -- that it doesn't go on can't be
    pub not_stopped : are_next [] ts ≡ true → (next : Bool) → next ≡ are_next (take taken ts) first → next ≡ false → ⊥
    not_stopped all next is_next stopped =
        let here : are_next (take taken ts) first ≡ true = subst (λ (l : List Transition). are_next (take taken ts) l ≡ true) (sym is_first) (piece_next all) in
        true≢false (sym here ∙ sym is_next ∙ stopped)

    -- the topics are then those of as many more
    pub takes : (topics : TopicsValue) (now : ℕ) → now ≡ taken + count → StandsFor (map event_of (take taken ts ++ first)) topics → AreBehind ts topics now
    takes topics now is_now stands =
        let whole : take taken ts ++ first ≡ take now ts =
        ap (λ (l : List Transition). take taken ts ++ l) is_first ∙ together ∙ ap (λ (n : ℕ). take n ts) (sym is_now) in
        subst (λ (l : List Transition). StandsFor (map event_of l) topics) whole stands

-- ---- faults

pub taken_fault : (ts piece : List Transition) (topics : TopicsValue) (fault : StoreFault) → PieceOrNot piece (Err fault) → TakesMoreOrNot ts topics (Err fault)
taken_fault ts piece topics (NotStore part offset) found = found
taken_fault ts piece topics DiskFault found = tt
taken_fault ts piece topics Long found = found
taken_fault ts piece topics NoMemory found = tt
