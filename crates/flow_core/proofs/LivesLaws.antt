-- What steps of lives make of a net, and that some step can be made while it isn't at rest.
use Rattle.std.proofs.Common.{◌≡◌, ℕ, zero, suc, ◌+◌, ◌-◌, ◌<◌, ◌≤◌, List, [], ◌∷◌, Option, Some, Result, Ok, Err, false, IfOk, length, refl, sym, ap, subst, ◌∙◌, arith}
use Rattle.std.specs.Prelude.{OnOk, slice_get}
use Rattle.std.specs.List.{AllByRecursion as Each, AllZip}
use Rattle.node_core.specs.declared.node.Node.{Ghosts}
use Rattle.flow_cells.specs.Gathers.{Gathers}
use Rattle.flow_cells.specs.declared.parts.OutEdge.{OutEdge}
use Rattle.flow_cells.specs.declared.parts.InEdge.{InEdge}
use Rattle.flow_cells.specs.declared.parts.CellParts.{CellParts}
use Rattle.flow_life.specs.declared.steps.Step.{Step}
use Rattle.flow_life.specs.declared.steps.Step.TheVariants as steps
use Rattle.flow_life.specs.Lives.{IsLife}
use Rattle.flow_life.specs.Places.{Both, in_of, out_of}
use Rattle.flow_life.specs.Settling.{Grows, SameReceived, SameSent}
use Rattle.flow_life.specs.Steps.{IsEnabled, SomeEnabled, moves_of}
use Rattle.flow_life.specs.Streams.{stream_length}
use Rattle.flow_life.specs.Wired.{parents_of, sum_of_all}
use Rattle.flow_life.proofs.StreamLaws.{carries_prefixes}
use Rattle.flow_core.specs.Nets.{EnabledIn, GrowsIn, HasCell, HasMovedTwice, HasPrefixes, HaveMovedTwice, IsLifeIn, IsSound, NumberedLife, SomeEnabledIn, after, behind, cell_of, here, in_it, later, moves_in, own, step_before, step_behind, streams_length}

-- ---- results and steps

-- where it is Ok, what holds of the value gives what else holds
pub if_ok : {T E : Type 0} {A B : T → Type 0} (r : Result T E) → ((x : T) → A x → B x) → IfOk r A → IfOk r B
if_ok (Ok x) f a = f x a
if_ok (Err e) f a = a

-- and with what holds whatever the value
pub if_ok_with : {T E A : Type 0} {B C : T → Type 0} (r : Result T E) → ((x : T) → A → B x → C x) → OnOk r A → IfOk r B → IfOk r C
if_ok_with (Ok x) f a b = f x a b
if_ok_with (Err e) f a b = a

-- and two facts of the value
pub if_ok_both : {T E : Type 0} {A B C : T → Type 0} (r : Result T E) → ((x : T) → A x → B x → C x) → IfOk r A → IfOk r B → IfOk r C
if_ok_both (Ok x) f a b = f x a b
if_ok_both (Err e) f a b = a

behind-before : (n : ℕ) (next : Step) → step_behind n (step_before n next) ≡ next
behind-before n (steps.Take cell input) = let same : cell + n - n ≡ cell = omega arith in ap (λ (k : ℕ). steps.Take k input) same
behind-before n (steps.Put cell out) = let same : cell + n - n ≡ cell = omega arith in ap (λ (k : ℕ). steps.Put k out) same

before-high : (n : ℕ) (next : Step) → n ≤ cell_of (step_before n next)
before-high n (steps.Take cell input) = omega arith
before-high n (steps.Put cell out) = omega arith

-- ---- effects are gathered

module _ {N : Type 0} where
  in-gathered : (cells cells' : List (CellParts N)) (j k : ℕ) → AllZip Gathers cells cells' → in_of cells' j k ≡ in_of cells j k
  in-gathered [] [] j k z = refl
  in-gathered [] (d ∷ ds) j k z = absurd z
  in-gathered (c ∷ cs) [] j k z = absurd z
  in-gathered (c ∷ cs) (d ∷ ds) zero k z = ap (λ ins. slice_get ins.items k) z.0.ins
  in-gathered (c ∷ cs) (d ∷ ds) (suc j) k z = in-gathered cs ds j k z.1

  out-gathered : (cells cells' : List (CellParts N)) (j i : ℕ) → AllZip Gathers cells cells' → out_of cells' j i ≡ out_of cells j i
  out-gathered [] [] j i z = refl
  out-gathered [] (d ∷ ds) j i z = absurd z
  out-gathered (c ∷ cs) [] j i z = absurd z
  out-gathered (c ∷ cs) (d ∷ ds) zero i z = ap (λ outs. slice_get outs.items i) z.0.outs
  out-gathered (c ∷ cs) (d ∷ ds) (suc j) i z = out-gathered cs ds j i z.1

  -- gathering changes nothing of what was sent and received
  pub grows_gathered : (next : Step) (old mid new : List (CellParts N)) → AllZip Gathers mid new → Grows next old mid → Grows next old new
  grows_gathered (steps.Take cell input) old mid new z r = record {
    msg = r.msg;
    old = r.old;
    new = r.new;
    at = r.at;
    at' = in-gathered mid new cell input z ∙ r.at';
    one = r.one;
    ins = λ j k other. in-gathered mid new j k z ∙ r.ins j k other;
    outs = λ j i. subst (λ (o : Option OutEdge). Both SameSent (out_of old j i) o) (sym (out-gathered mid new j i z)) (r.outs j i);
  }
  grows_gathered (steps.Put cell out) old mid new z r = record {
    msg = r.msg;
    old = r.old;
    new = r.new;
    at = r.at;
    at' = out-gathered mid new cell out z ∙ r.at';
    one = r.one;
    ins = λ j k. subst (λ (o : Option InEdge). Both SameReceived (in_of old j k) o) (sym (in-gathered mid new j k z)) (r.ins j k);
    outs = λ j i other. subst (λ (o : Option OutEdge). Both SameSent (out_of old j i) o) (sym (out-gathered mid new j i z)) (r.outs j i other);
  }

  -- ---- which steps can be made

  -- a step that the first life can make
  pub enabled_here : (lives : List (NumberedLife N)) (l : NumberedLife N) (others : List (NumberedLife N)) (next : Step) → lives ≡ l ∷ others → cell_of next < length l.life.cells → IsEnabled l.life.cells next → EnabledIn lives next
  enabled_here lives l others next is lt e = subst (λ (ls : List (NumberedLife N)). EnabledIn ls next) (sym is) (here lt e)

  -- a step that a later life can make
  pub enabled_later : (lives : List (NumberedLife N)) (l : NumberedLife N) (others : List (NumberedLife N)) (next : Step) → lives ≡ l ∷ others → length l.life.cells ≤ cell_of next → EnabledIn others (step_behind (length l.life.cells) next) → EnabledIn lives next
  enabled_later lives l others next is le e = subst (λ (ls : List (NumberedLife N)). EnabledIn ls next) (sym is) (later le e)

  only-here : (l : NumberedLife N) (others : List (NumberedLife N)) (next : Step) → cell_of next < length l.life.cells → EnabledIn (l ∷ others) next → IsEnabled l.life.cells next
  only-here l others next lt (here small e) = e
  only-here l others next lt (later large e) = absurd (omega (arith, lt, large))

  -- a step that is for the first life, which can't make it
  pub never_here : (lives : List (NumberedLife N)) (l : NumberedLife N) (others : List (NumberedLife N)) (next : Step) → lives ≡ l ∷ others → cell_of next < length l.life.cells → (IsEnabled l.life.cells next → ⊥) → EnabledIn lives next → ⊥
  never_here lives l others next is lt never e = never (only-here l others next lt (subst (λ (ls : List (NumberedLife N)). EnabledIn ls next) is e))

  -- the same of a step that is said anew for the lives behind
  pub enabled_behind : (lives : List (NumberedLife N)) (l : NumberedLife N) (others : List (NumberedLife N)) (next q : Step) (n : ℕ) → lives ≡ l ∷ others → n ≡ length l.life.cells → q ≡ step_behind n next → n ≤ cell_of next → EnabledIn others q → EnabledIn lives next
  enabled_behind lives l others next q n is long same le e =
      enabled_later lives l others next is (subst (λ (k : ℕ). k ≤ cell_of next) long le) (subst (λ (k : ℕ). EnabledIn others (step_behind k next)) long (subst (λ (s : Step). EnabledIn others s) same e))

  -- ---- one list grows

  -- a list of the first life grew
  pub grows_here : (lives : List (NumberedLife N)) (l l' : NumberedLife N) (others : List (NumberedLife N)) (next : Step) → lives ≡ l ∷ others → Grows next l.life.cells l'.life.cells → GrowsIn next lives (l' ∷ others)
  grows_here lives l l' others next is e = subst (λ (ls : List (NumberedLife N)). GrowsIn next ls (l' ∷ others)) (sym is) (in_it e)

  -- a list of a later life grew
  pub grows_behind : (lives : List (NumberedLife N)) (l : NumberedLife N) (others others' : List (NumberedLife N)) (next q : Step) (n : ℕ) → lives ≡ l ∷ others → n ≡ length l.life.cells → q ≡ step_behind n next → n ≤ cell_of next → GrowsIn q others others' → GrowsIn next lives (l ∷ others')
  grows_behind lives l others others' next q n is long same le e =
      subst (λ (ls : List (NumberedLife N)). GrowsIn next ls (l ∷ others')) (sym is) (behind (subst (λ (k : ℕ). k ≤ cell_of next) long le) (subst (λ (k : ℕ). GrowsIn (step_behind k next) others others') long (subst (λ (s : Step). GrowsIn s others others') same e)))

  -- ---- some step can be made

  there : (cells : List (CellParts N)) (j : ℕ) (c : CellParts N) → slice_get cells j ≡ Some c → j < length cells
  there [] j c e = absurd cc
  there (x ∷ cells) zero c e = omega arith
  there (x ∷ cells) (suc j) c e = let lt = there cells j c e in omega (arith, lt)

  out-there : (cells : List (CellParts N)) (j i : ℕ) (o : OutEdge) → out_of cells j i ≡ Some o → j < length cells
  out-there [] j i o e = absurd cc
  out-there (x ∷ cells) zero i o e = omega arith
  out-there (x ∷ cells) (suc j) i o e = let lt = out-there cells j i o e in omega (arith, lt)

  enabled-there : (cells : List (CellParts N)) (next : Step) → IsEnabled cells next → cell_of next < length cells
  enabled-there cells (steps.Take cell input) e = there cells cell e.parts e.at
  enabled-there cells (steps.Put cell out) e = out-there cells cell out e.edge e.at

  -- the first life can make a step
  pub some_here : (lives : List (NumberedLife N)) (l : NumberedLife N) (others : List (NumberedLife N)) → lives ≡ l ∷ others → SomeEnabled l.life.cells → SomeEnabledIn lives
  some_here lives l others is s = record { step = s.step; enabled = enabled_here lives l others s.step is (enabled-there l.life.cells s.step s.enabled) s.enabled }

  -- a later life can
  pub some_later : (lives : List (NumberedLife N)) (l : NumberedLife N) (others : List (NumberedLife N)) → lives ≡ l ∷ others → SomeEnabledIn others → SomeEnabledIn lives
  some_later lives l others is s =
      let n = length l.life.cells in
      record {
        step = step_before n s.step;
        enabled = enabled_later lives l others (step_before n s.step) is (before-high n s.step) (subst (λ (q : Step). EnabledIn others q) (sym (behind-before n s.step)) s.enabled);
      }

  -- ---- a cell by its number

  own-only : (l : NumberedLife N) (others : List (NumberedLife N)) (cell : ℕ) (c : CellParts N) → cell < length l.life.cells → HasCell (l ∷ others) cell c → slice_get l.life.cells cell ≡ Some c
  own-only l others cell c lt (own at) = at
  own-only l others cell c lt (after large h) = absurd (omega (arith, lt, large))

  -- a cell of the first life
  pub cell_own : (lives : List (NumberedLife N)) (l : NumberedLife N) (others : List (NumberedLife N)) (cell : ℕ) (c : CellParts N) → lives ≡ l ∷ others → cell < length l.life.cells → HasCell lives cell c → slice_get l.life.cells cell ≡ Some c
  cell_own lives l others cell c is lt h = own-only l others cell c lt (subst (λ (ls : List (NumberedLife N)). HasCell ls cell c) is h)

  after-only : (l : NumberedLife N) (others : List (NumberedLife N)) (cell : ℕ) (c : CellParts N) → length l.life.cells ≤ cell → HasCell (l ∷ others) cell c → HasCell others (cell - length l.life.cells) c
  after-only l others cell c le (own at) = let lt = there l.life.cells cell c at in absurd (omega (arith, le, lt))
  after-only l others cell c le (after large h) = h

  -- a cell of a later life
  pub cell_after : (lives : List (NumberedLife N)) (l : NumberedLife N) (others : List (NumberedLife N)) (cell n : ℕ) (c : CellParts N) → lives ≡ l ∷ others → n ≡ length l.life.cells → n ≤ cell → HasCell lives cell c → HasCell others (cell - n) c
  cell_after lives l others cell n c is long le h =
      subst (λ (k : ℕ). HasCell others (cell - k) c) (sym long) (after-only l others cell c (subst (λ (k : ℕ). k ≤ cell) long le) (subst (λ (ls : List (NumberedLife N)). HasCell ls cell c) is h))

-- ---- prefixes

module _ {N P S : Type 0} (g : Ghosts N P S) where
  -- what the first life keeps and what the others keep is what all keep
  pub lives_more : (lives : List (NumberedLife N)) (l : NumberedLife N) (others : List (NumberedLife N)) → lives ≡ l ∷ others → Each IsSound lives → (l.life.spent ≡ false → IsLife g l.life.cells) → Each (IsLifeIn g) others → Each (IsLifeIn g) lives
  lives_more lives l others is sound keeps rest =
      let sounds : Each IsSound (l ∷ others) = subst (λ (ls : List (NumberedLife N)). Each IsSound ls) is sound in
      subst (λ (ls : List (NumberedLife N)). Each (IsLifeIn g) ls) (sym is) (keeps sounds.0.unspent, rest)

  -- and so where that is known of the others as far as no call on them failed
  pub lives_behind : (lives : List (NumberedLife N)) (l : NumberedLife N) (others : List (NumberedLife N)) → lives ≡ l ∷ others → (l.life.spent ≡ false → IsLife g l.life.cells)
      → (Each IsSound others → Each (IsLifeIn g) others) → Each IsSound lives → Each (IsLifeIn g) lives
  lives_behind lives l others is keeps rest sound =
      lives_more lives l others is sound keeps (rest (subst (λ (ls : List (NumberedLife N)). Each IsSound ls) is sound).1)

  -- where the first life moved
  pub kept_here : (lives : List (NumberedLife N)) (l l' : NumberedLife N) (others : List (NumberedLife N)) → lives ≡ l ∷ others → IsLifeIn g l' → Each (IsLifeIn g) lives → Each (IsLifeIn g) (l' ∷ others)
  kept_here lives l l' others is keeps all = (keeps, (subst (λ (ls : List (NumberedLife N)). Each (IsLifeIn g) ls) is all).1)

  -- and where one of the others did
  pub kept_behind : (lives : List (NumberedLife N)) (l : NumberedLife N) (others others' : List (NumberedLife N)) → lives ≡ l ∷ others → (Each (IsLifeIn g) others → Each (IsLifeIn g) others') → Each (IsLifeIn g) lives → Each (IsLifeIn g) (l ∷ others')
  kept_behind lives l others others' is keeps all =
      let split : Each (IsLifeIn g) (l ∷ others) = subst (λ (ls : List (NumberedLife N)). Each (IsLifeIn g) ls) is all in
      (split.0, keeps split.1)

  -- what a life keeps says that its edges have carried prefixes
  pub prefixes_more : (lives : List (NumberedLife N)) (l : NumberedLife N) (others : List (NumberedLife N)) → lives ≡ l ∷ others → Each IsSound lives → (l.life.spent ≡ false → IsLife g l.life.cells) → Each (HasPrefixes g) others → Each (HasPrefixes g) lives
  prefixes_more lives l others is sound keeps rest =
      let sounds : Each IsSound (l ∷ others) = subst (λ (ls : List (NumberedLife N)). Each IsSound ls) is sound in
      let life : IsLife g l.life.cells = keeps sounds.0.unspent in
      subst (λ (ls : List (NumberedLife N)). Each (HasPrefixes g) ls) (sym is) (carries_prefixes g l.life.cells life.ready, rest)

-- ---- sums

module _ {N P S : Type 0} (g : Ghosts N P S) where
  -- what each life has moved, added up
  pub moved_twice : (lives : List (NumberedLife N)) → Each (HasMovedTwice g) lives → HaveMovedTwice g lives
  moved_twice [] each [] are = refl
  moved_twice [] each (s ∷ all) are = absurd are
  moved_twice (l ∷ lives) each [] are = absurd are
  moved_twice (l ∷ lives) each (s ∷ all) are =
      let a : moves_of l.life.cells ≡ sum_of_all (stream_length s) (parents_of l.life.cells) + sum_of_all (stream_length s) (parents_of l.life.cells) = each.0 s are.0 in
      let b : moves_in lives ≡ streams_length lives all + streams_length lives all = moved_twice lives each.1 all are.1 in
      omega (arith, a, b)
