-- A node follows what it says.
use Rattle.std.proofs.Common.{◌≡◌, ℕ, ◌+◌, List, [], ◌∷◌, ◌++◌, map, length, refl, sym, ap, ◌∙◌, append_assoc, append-nil, add-zero}
use Rattle.std.proofs.lemmas.List.{map-append}
use Rattle.kap_base.specs.declared.items.Body.{Body}
use Rattle.kap_base.specs.declared.items.Stamp.{Stamp}
use Rattle.kap_base.specs.declared.items.What.{What}
use Rattle.node_core.specs.declared.running.Tally.{Tally}
use Rattle.node_core.specs.declared.running.Running.{Running}
use Rattle.node_core.specs.Meaning.{Arrival, Saying, Turn, Input, Answer, Follows, silence, stay, given, fold}
use Rattle.node_core.specs.Laws.{given-append, fold-given, fold-state}
use Rattle.node_core.specs.Numbering.{arrival, items_at, effects_from, counted, no_tally, tally_after, stamped, running_step, running_first, KeptRunning}
use Rattle.node_core.specs.Cut.{IsStamped, AreStamped, AreEffectsOf}

tally-more : (saying : Saying) (t : Tally) (before xs : List Input) (x : Input)
    → tally_after saying t before (xs ++ x ∷ [])
    ≡ counted (tally_after saying t before xs) x.1.stamp.0
    (length (saying (map arrival (before ++ xs)) (arrival x)).deeds)
tally-more saying t before [] x = rw append-nil refl
tally-more saying t before (y ∷ xs) x =
    tally-more saying (counted t y.1.stamp.0 (length (saying (map arrival before) (arrival y)).deeds)) (before
    ++ y ∷ []) xs x ∙ rw append_assoc refl

drops-more : (answer : Answer) (before : List Input) (x : Input)
    → (given answer (before ++ x ∷ [])).drops ≡ (given answer before).drops + (answer before x).drops
drops-more answer before x = ap (λ g. g.drops) (given-append answer [] before (x ∷ [])) ∙ rw add-zero refl

module _ {S : Type 0} (life node : ℕ) (saying : Saying) (step : S → Arrival → Turn S) (first : S) (Kept : List Arrival
    → S → Type 0) (begins : Kept [] first)
    (goes_on : (before : List Arrival) (s : S) (x : Arrival) → Kept before s → Kept (before ++ x ∷ []) (step s x).state)
    (says : (before : List Arrival) (s : S) (x : Arrival) → Kept before s → (step s x).said ≡ saying before x) where
  follows : Follows (running_step life node step) (stamped life node saying) (KeptRunning life node saying Kept)
  follows = record {
    state = λ before s x k. record {
      tally = rw (says (map arrival before) s.inner (arrival x) k.inner, k.tally)
          (sym (tally-more saying no_tally [] before x));
      dropped = rw (says (map arrival before) s.inner (arrival x) k.inner, k.dropped)
          (sym (drops-more (stamped life node saying) before x));
      inner = rw map-append (goes_on (map arrival before) s.inner (arrival x) k.inner);
    };
    given = λ before s x k. rw (says (map arrival before) s.inner (arrival x) k.inner, k.tally) refl;
  }

  kept_first : KeptRunning life node saying Kept [] (running_first first)
  kept_first = record { tally = refl; dropped = refl; inner = begins }

  -- fed a list, the machine gives what is said, with stamps and numbers
  pub folds : (xs : List Input)
      → (fold (running_step life node step) (running_first first) xs).given ≡ given (stamped life node saying) xs
  folds xs = fold-given follows [] (running_first first) xs kept_first

  -- and has counted what was dropped
  pub counts : (xs : List Input)
      → (fold (running_step life node step) (running_first first) xs).state.dropped
      ≡ (given (stamped life node saying) xs).drops
  counts xs = (fold-state follows [] (running_first first) xs kept_first).dropped

items_stamped : (stamp : Stamp) (bodies : List Body) → AreStamped stamp.0 (items_at stamp bodies)
items_stamped stamp [] = tt
items_stamped stamp (b ∷ bodies) = (refl, items_stamped stamp bodies)

effects_stamped : (life node : ℕ) (stamp : Stamp) (seq : ℕ) (whats : List What)
    → AreEffectsOf life node stamp.0 (effects_from life node stamp seq whats)
effects_stamped life node stamp seq [] = tt
effects_stamped life node stamp seq (w ∷ whats) =
    (record { life_is = refl; node_is = refl; stamp_is = refl }, effects_stamped life node stamp (seq + 1) whats)

-- what is given has the input's stamp, the life and the node
pub is_stamped : (life node : ℕ) (saying : Saying) (before : List Input) (x : Input)
    → IsStamped life node x.1.stamp.0 (stamped life node saying before x)
is_stamped life node saying before x =
    let said = saying (map arrival before) (arrival x) in
    record { items = items_stamped x.1.stamp said.bodies; effects = effects_stamped life node x.1.stamp _ said.deeds }

-- where a kind says nothing and changes nothing, so does its node
pub running_stays : {S : Type 0} (life node : ℕ) (step : S → Arrival → Turn S) (s : Running S) (x : Input)
    → step s.inner (arrival x) ≡ record { state = s.inner; said = silence } → running_step life node step s x ≡ stay s
running_stays life node step s x e = rw (e, add-zero) refl
