-- Each step that can be made is among all steps, and where none of them can be made lives are at rest.
use Rattle.std.proofs.Common.{◌≡◌, ℕ, suc, ◌+◌, ◌-◌, ◌<◌, ◌≤◌, List, [], ◌∷◌, ◌++◌, get_or, length, take, refl, sym, ap, subst, ◌∙◌, inl, inr, ⊎_elim, arith}
use Rattle.std.specs.Prelude.{◌⊎◌, Contains}
use Rattle.std.specs.List.{All, AllByRecursion as Each}
use Rattle.std.proofs.lemmas.List.Elements.{All-append, All-contains, All-more, All-weaker, Contains-append_left, Contains-append_right}
use Rattle.kap_base.specs.declared.items.Effect.{Effect}
use Rattle.node_core.specs.declared.node.Node.{Ghosts}
use Rattle.flow_cells.specs.declared.parts.CellParts.{CellParts}
use Rattle.flow_life.specs.declared.steps.Step.{Step}
use Rattle.flow_life.specs.declared.steps.Step.TheVariants as steps
use Rattle.flow_life.proofs.AliveLaws.{rest-or-alive}
use Rattle.flow_life.specs.Listing.{ends_of, steps_from}
use Rattle.flow_life.proofs.ListingLaws.{put-listed, take-listed}
use Rattle.flow_life.specs.Steps.{AreQuiet, IsEnabled, SomeEnabled}
use Rattle.flow_life.specs.Trying.{SameEnabled}
use Rattle.flow_core.proofs.DoneLaws.{gathers_then}
use Rattle.flow_core.proofs.LivesLaws.{some_here, some_later}
use Rattle.flow_core.specs.Nets.{EnabledIn, IsLifeIn, IsResting, NumberedLife, SomeEnabledIn, cell_of, here, later, step_before, step_behind}
use Rattle.flow_core.specs.Running.{AreOff, GoesOn, IsOff, SameEnabledIn, ends_in, left_in, steps_of, steps_onward}

-- ---- numbers of steps

-- behind some lives and then before these and others is before the others
before-behind : (n len : ℕ) (next : Step) → len ≤ cell_of next → step_before (n + len) (step_behind len next) ≡ step_before n next
before-behind n len (steps.Take cell input) le = let same : cell - len + (n + len) ≡ cell + n = omega (arith, le) in ap (λ (k : ℕ). steps.Take k input) same
before-behind n len (steps.Put cell out) le = let same : cell - len + (n + len) ≡ cell + n = omega (arith, le) in ap (λ (k : ℕ). steps.Put k out) same

before-none : (next : Step) → step_before 0 next ≡ next
before-none (steps.Take cell input) = let same : cell + 0 ≡ cell = omega arith in ap (λ (k : ℕ). steps.Take k input) same
before-none (steps.Put cell out) = let same : cell + 0 ≡ cell = omega arith in ap (λ (k : ℕ). steps.Put k out) same

module _ {N : Type 0} where
  count-ends : (cells : List (CellParts N)) → length (ends_of cells) ≡ length cells
  count-ends [] = refl
  count-ends (c ∷ cells) = ap suc (count-ends cells)

  -- as many cells have ends as there are
  pub ends_count : (cells cells' : List (CellParts N)) → ends_of cells' ≡ ends_of cells → length cells' ≡ length cells
  ends_count cells cells' e = sym (count-ends cells') ∙ ap length e ∙ count-ends cells

  -- ---- a step is among all

  listed-here : (n : ℕ) (cells : List (CellParts N)) (next : Step) → IsEnabled cells next → Contains (steps_from n (ends_of cells)) (step_before n next)
  listed-here n cells (steps.Take cell input) e = take-listed n cells cell input e
  listed-here n cells (steps.Put cell out) e = put-listed n cells cell out e

  listed-from : (n : ℕ) (lives : List (NumberedLife N)) (next : Step) → EnabledIn lives next → Contains (steps_onward n (ends_in lives)) (step_before n next)
  listed-from n [] next e = elim e [ ]
  listed-from n (l ∷ lives) next (here lt e) =
      Contains-append_left (steps_from n (ends_of l.life.cells)) (steps_onward (n + length (ends_of l.life.cells)) (ends_in lives)) (step_before n next) (listed-here n l.life.cells next e)
  listed-from n (l ∷ lives) next (later le e) =
      let ends = ends_of l.life.cells in
      let len = length l.life.cells in
      let more : Contains (steps_onward (n + len) (ends_in lives)) (step_before (n + len) (step_behind len next)) = listed-from (n + len) lives (step_behind len next) e in
      let said : Contains (steps_onward (n + len) (ends_in lives)) (step_before n next) = subst (λ (s : Step). Contains (steps_onward (n + len) (ends_in lives)) s) (before-behind n len next le) more in
      Contains-append_right (steps_from n ends) (steps_onward (n + length ends) (ends_in lives)) (step_before n next)
      (subst (λ (k : ℕ). Contains (steps_onward (n + k) (ends_in lives)) (step_before n next)) (sym (count-ends l.life.cells)) said)

  -- each step that can be made is among all
  pub step_listed : (lives : List (NumberedLife N)) (next : Step) → EnabledIn lives next → Contains (steps_of lives) next
  step_listed lives next e = subst (λ (s : Step). Contains (steps_of lives) s) (before-none next) (listed-from 0 lives next e)

  -- ---- what can be made stays

  moved-here : (l l' : NumberedLife N) (others : List (NumberedLife N)) (next : Step) → length l'.life.cells ≡ length l.life.cells → (IsEnabled l.life.cells next → IsEnabled l'.life.cells next) → EnabledIn (l ∷ others) next → EnabledIn (l' ∷ others) next
  moved-here l l' others next len f (here lt e) = here (subst (λ (n : ℕ). cell_of next < n) (sym len) lt) (f e)
  moved-here l l' others next len f (later le e) = later (subst (λ (n : ℕ). n ≤ cell_of next) (sym len) le) (subst (λ (n : ℕ). EnabledIn others (step_behind n next)) (sym len) e)

  moved-behind : (l : NumberedLife N) (others others' : List (NumberedLife N)) (next : Step) → ((s : Step) → EnabledIn others s → EnabledIn others' s) → EnabledIn (l ∷ others) next → EnabledIn (l ∷ others') next
  moved-behind l others others' next f (here lt e) = here lt e
  moved-behind l others others' next f (later le e) = later le (f (step_behind (length l.life.cells) next) e)

  -- where the first life can make the same steps
  pub same_here : (lives : List (NumberedLife N)) (l l' : NumberedLife N) (others : List (NumberedLife N)) → lives ≡ l ∷ others → ends_of l'.life.cells ≡ ends_of l.life.cells → SameEnabled l.life.cells l'.life.cells → SameEnabledIn lives (l' ∷ others)
  same_here lives l l' others is ends same =
      let len : length l'.life.cells ≡ length l.life.cells = ends_count l.life.cells l'.life.cells ends in
      subst (λ (ls : List (NumberedLife N)). SameEnabledIn ls (l' ∷ others)) (sym is)
      (record {
        forth = λ next e. moved-here l l' others next len (same.forth next) e;
        back = λ next e. moved-here l' l others next (sym len) (same.back next) e;
      })

  -- where the others can
  pub same_behind : (lives : List (NumberedLife N)) (l : NumberedLife N) (others others' : List (NumberedLife N)) → lives ≡ l ∷ others → SameEnabledIn others others' → SameEnabledIn lives (l ∷ others')
  same_behind lives l others others' is same =
      subst (λ (ls : List (NumberedLife N)). SameEnabledIn ls (l ∷ others')) (sym is)
      (record {
        forth = λ next e. moved-behind l others others' next same.forth e;
        back = λ next e. moved-behind l others' others next same.back e;
      })

  -- and the same again
  pub same_then : (a b c : List (NumberedLife N)) → SameEnabledIn a b → SameEnabledIn b c → SameEnabledIn a c
  same_then a b c p q = record { forth = λ next e. q.forth next (p.forth next e); back = λ next e. p.back next (q.back next e) }

  -- a step more that can't be made, as lives are now, where the same steps can be made as before
  pub off_more : (lives now : List (NumberedLife N)) (steps : List Step) (i : ℕ) (next d : Step) → i < length steps → next ≡ get_or steps i d → SameEnabledIn lives now → IsOff now next → AreOff lives (take i steps) → AreOff lives (take (i + 1) steps)
  off_more lives now steps i next d lt is same off before = record {
    off = All-more (IsOff lives) steps i d lt before.off (subst (λ (s : Step). IsOff lives s) is (λ e. off (same.forth next e)));
  }

  -- what couldn't be made can't now, where the same steps can be made
  pub off_now : (lives now : List (NumberedLife N)) (steps : List Step) → SameEnabledIn lives now → AreOff lives steps → AreOff now steps
  off_now lives now steps same before = record { off = All-weaker (IsOff lives) (IsOff now) (λ s h e. h (same.back s e)) steps before.off }

  -- none of the first steps and none of the others
  pub off_both : (lives now : List (NumberedLife N)) (all first others : List Step) → all ≡ first ++ others → SameEnabledIn lives now → AreOff lives others → AreOff now first → AreOff now all
  off_both lives now all first others is same p q = record {
    off = subst (λ (l : List Step). All (IsOff now) l) (sym is) (All-append (IsOff now) first others q.off (off_now lives now others same p).off);
  }

module _ {N P S : Type 0} (g : Ghosts N P S) where
  -- ---- lives go on

  -- some steps, and then more
  pub goes_then : (a b c : List (NumberedLife N)) (x y z : List Effect) → GoesOn g a b x y → GoesOn g b c y z → GoesOn g a c x z
  goes_then a b c x y z p q =
      let first : left_in g b ≤ left_in g a = p.left in
      let more : left_in g c ≤ left_in g b = q.left in
      record {
        numbers = q.numbers ∙ p.numbers;
        plans = q.plans ∙ p.plans;
        specs = q.specs ∙ p.specs;
        rooms = q.rooms ∙ p.rooms;
        ends = q.ends ∙ p.ends;
        left = omega (arith, first, more);
        keeps = λ all. q.keeps (p.keeps all);
        gathers = gathers_then _ _ _ x y z p.gathers q.gathers;
      }

  -- ---- rest

  rest-or-some : (lives : List (NumberedLife N)) → Each (IsLifeIn g) lives → Each IsResting lives ⊎ SomeEnabledIn lives
  rest-or-some [] keeps = inl tt
  rest-or-some (l ∷ lives) keeps = ⊎_elim
      (λ (quiet : AreQuiet l.life.cells). ⊎_elim (λ all. inl (quiet, all)) (λ s. inr (some_later (l ∷ lives) l lives refl s)) (rest-or-some lives keeps.1))
      (λ (s : SomeEnabled l.life.cells). inr (some_here (l ∷ lives) l lives refl s))
      (rest-or-alive l.life.cells keeps.0.ready.wired)

  -- where no step of all can be made, lives are at rest
  pub rests : (lives lives' : List (NumberedLife N)) (all : List Step) → Each (IsLifeIn g) lives' → all ≡ steps_of lives → ends_in lives' ≡ ends_in lives → AreOff lives' all → Each IsResting lives'
  rests lives lives' all keeps listed ends off =
      ⊎_elim (λ r. r)
      (λ (s : SomeEnabledIn lives').
      let same : all ≡ steps_of lives' = listed ∙ ap (steps_onward 0) (sym ends) in
      absurd (All-contains (IsOff lives') all s.step off.off (subst (λ (l : List Step). Contains l s.step) (sym same) (step_listed lives' s.step s.enabled)) s.enabled))
      (rest-or-some lives' keeps)
