-- What a turn makes of the open links.
use Rattle.std.proofs.Common.{◌≡◌, ◌≢◌, ℕ, ◌-◌, ◌<◌, ◌==◌, Bool, true, ◌||◌, List, [], ◌∷◌, ◌++◌, length, refl, sym, ap, subst, ◌∙◌, arith, inl, inr, Some, None, All, MatchBool, append_assoc, append-nil}
use Rattle.std.proofs.lemmas.List.Elements.{All-append, All-cons, All-head, All-nil, All-tail, All-weaker}
use Rattle.std.specs.List.{list_any}
use Rattle.kap_base.specs.Words.{HasRisen}
use Rattle.kap_http.specs.Calls.{Call, AddsCalls}
use Rattle.http_dialog.specs.declared.ending.LinkEnd.{LinkEnd}
use Rattle.http_dialog.specs.Dialogs.{DialogValue, IsOf}
use Rattle.http_dialog.specs.Driving.{ComesOn, ComesTo}
use Rattle.http_dialog.specs.Links.{Connected}
use Rattle.http_dialog.specs.Numbers.{AddsOnly}
use Rattle.http_dialog.proofs.NumberLaws.{Told, adds_others, calls_none}
use Rattle.http_dialog.proofs.DriveLaws.{Known, others_on}
use Rattle.conn_loop.specs.declared.finished.Finished.{Finished}
use Rattle.conn_loop.specs.declared.slot.Slot.{Slot}
use Rattle.conn_loop.specs.Links.{Telling}
use Rattle.conn_loop.specs.Loops.{AreAbove, AreBelow, AreRising, is_due}
use Rattle.conn_loop.specs.Passes.{EndsSo, HasPassed, IsMoved, IsPassed}
use Rattle.conn_loop.specs.Turns.{AddsAmong, HasFinished, IsOfSome, IsPolled, StaysOpen, Turned}

-- ---- what is told of a connection while others are served

pub on_others : (n : ℕ) (a b : Known) (s t u : Told) (v w : Known) (old new : DialogValue) (more : List Call)
    → ComesOn n a b s t v w old new → AddsCalls t u more → All (λ k. k.number ≢ n) more → ComesOn n a b s u v w old new
on_others n a b s t u v w old new more came told others l x s0 g =
    others_on n l b x w s0 t u new more (came l x s0 g) told others

connected_others : (n : ℕ) (l b : Known) (s t u : Told) (x w : Known) (ending : LinkEnd) (more : List Call)
    → Connected n l b s t x w ending → AddsCalls t u more → All (λ k. k.number ≢ n) more
    → Connected n l b s u x w ending
connected_others n l b s t u x w ending more k told others = record {
  past = k.past;
  told = record {
    consumed = k.told.consumed;
    at_end = k.told.at_end;
    told = adds_others n s t u k.past.calls more k.told.told told others;
    wrote = k.told.wrote;
  };
  numbers = k.numbers;
  fate = k.fate;
}

pub to_others : (n : ℕ) (a b : Known) (s t u : Told) (v w : Known) (old : DialogValue) (ending : LinkEnd) (more : List Call)
    → ComesTo n a b s t v w old ending → AddsCalls t u more → All (λ k. k.number ≢ n) more → ComesTo n a b s u v w old ending
to_others n a b s t u v w old ending more came told others l x s0 g =
    connected_others n l b s0 t u x w ending more (came l x s0 g) told others

-- a connection stands while others are served, and then comes on, or to its end
pub stood_on : (n : ℕ) (a b : Known) (s t u : Told) (v w : Known) (old new : DialogValue) (more : List Call)
    → AddsCalls s t more → All (λ k. k.number ≢ n) more → ComesOn n a b t u v w old new → ComesOn n a b s u v w old new
stood_on n a b s t u v w old new more told others came l x s0 g =
    came l x s0 (others_on n l a x v s0 s t old more g told others)

pub stood_to : (n : ℕ) (a b : Known) (s t u : Told) (v w : Known) (old : DialogValue) (ending : LinkEnd) (more : List Call)
    → AddsCalls s t more → All (λ k. k.number ≢ n) more → ComesTo n a b t u v w old ending → ComesTo n a b s u v w old ending
stood_to n a b s t u v w old ending more told others came l x s0 g =
    came l x s0 (others_on n l a x v s0 s t old more g told others)

-- ---- numbers

calls_more : (a b c : Told) (x y : List Call) → AddsCalls a b x → AddsCalls b c y → AddsCalls a c (x ++ y)
calls_more None b c x y p q = tt
calls_more (Some xs) None c x y p q = absurd p
calls_more (Some xs) (Some ys) None x y p q = absurd q
calls_more (Some xs) (Some ys) (Some zs) x y p q = q ∙ ap (λ (s : List Call). s ++ y) p ∙ append_assoc xs x y

is_other : (m n : ℕ) → m < n → m ≢ n
is_other m n lt = omega arith

is_other_too : (k m n : ℕ) → k ≡ n → m < n → k ≢ m
is_other_too k m n e lt = omega arith

module _ {L : Type 0} where
  -- a call of one of some links is of no later one
  some_other : (n : ℕ) (slots : List (Slot L)) (c : Call) → AreBelow n slots → IsOfSome slots c → c.number ≢ n
  unfolding IsOfSome
  some_other n [] c below of = absurd of
  some_other n (s ∷ slots) c below (inl of) =
      subst (λ (k : ℕ). k ≢ n) (sym of) (is_other s.number n (All-head (λ (s : Slot L). s.number < n) s slots below))
  some_other n (s ∷ slots) c below (inr of) = some_other n slots c (All-tail (λ (s : Slot L). s.number < n) s slots below) of

  pub some_others : (n : ℕ) (slots : List (Slot L)) (calls : List Call) → AreBelow n slots → All (IsOfSome slots) calls
      → All (λ k. k.number ≢ n) calls
  some_others n slots calls below all =
      All-weaker (IsOfSome slots) (λ k. k.number ≢ n) (λ c of. some_other n slots c below of) calls all

  some_left : (xs ys : List (Slot L)) (c : Call) → IsOfSome xs c → IsOfSome (xs ++ ys) c
  unfolding IsOfSome
  some_left [] ys c of = absurd of
  some_left (x ∷ xs) ys c (inl of) = inl of
  some_left (x ∷ xs) ys c (inr of) = inr (some_left xs ys c of)

  some_last : (xs : List (Slot L)) (y : Slot L) (c : Call) → IsOf y.number c → IsOfSome (xs ++ y ∷ []) c
  unfolding IsOfSome
  some_last [] y c of = inl of
  some_last (x ∷ xs) y c of = inr (some_last xs y c of)

  pub among_more : (s t u : Told) (xs : List (Slot L)) (y : Slot L) → AddsAmong xs s t → AddsOnly y.number t u
      → AddsAmong (xs ++ y ∷ []) s u
  among_more s t u xs y p q = (
    p.0 ++ q.0,
    calls_more s t u p.0 q.0 p.1 q.1,
    All-append (IsOfSome (xs ++ y ∷ [])) p.0 q.0
        (All-weaker (IsOfSome xs) (IsOfSome (xs ++ y ∷ [])) (λ c of. some_left xs (y ∷ []) c of) p.0 p.2)
        (All-weaker (IsOf y.number) (IsOfSome (xs ++ y ∷ [])) (λ c of. some_last xs y c of) q.0 q.2),
  )

  -- those before a link have smaller numbers
  pub rising_below : (done todo : List (Slot L)) (o : Slot L) → AreRising (done ++ o ∷ todo) → AreBelow o.number done
  unfolding AreRising
  rising_below [] todo o up = All-nil (λ (s : Slot L). s.number < o.number)
  rising_below (d ∷ done) todo o up =
      All-cons (λ (s : Slot L). s.number < o.number) d done (above_at d.number done todo o up.0) (rising_below done todo o up.1)
    where
      above_at : (n : ℕ) (xs ys : List (Slot L)) (y : Slot L) → AreAbove n (xs ++ y ∷ ys) → n < y.number
      above_at n [] ys y all = All-head (λ (s : Slot L). n < s.number) y ys all
      above_at n (x ∷ xs) ys y all = above_at n xs ys y (All-tail (λ (s : Slot L). n < s.number) x (xs ++ y ∷ ys) all)

-- ---- turns

module _ {L : Type 0} (of : Telling L) (ready : List ℕ) where
  -- while a later link is served, what came of those before stands
  pub turned_on : (s t u : Told) (n : ℕ) (more : List Call) (olds still : List (Slot L)) (finished : List (Finished L))
      → AddsCalls t u more → All (IsOf n) more → AreBelow n olds → Turned of ready s t olds still finished
      → Turned of ready s u olds still finished
  unfolding Turned
  turned_on s t u n more [] still finished told own below turned = turned
  turned_on s t u n more (o ∷ olds) still finished told own below (inl (new, rest, is, stays, turned)) =
      inl (
        new,
        rest,
        is,
        open_on o new stays (others o olds below),
        turned_on s t u n more olds rest finished told own (All-tail (λ (s : Slot L). s.number < n) o olds below) turned,
      )
    where
      others : (o : Slot L) (olds : List (Slot L)) → AreBelow n (o ∷ olds) → All (λ k. k.number ≢ o.number) more
      others o olds below = All-weaker (IsOf n) (λ k. k.number ≢ o.number)
          (λ k e. is_other_too k.number o.number n e (All-head (λ (s : Slot L). s.number < n) o olds below)) more own

      open_on : (o new : Slot L) → StaysOpen of ready s t o new → All (λ k. k.number ≢ o.number) more → StaysOpen of ready s u o new
      open_on o new p all = record {
        number = p.number;
        came = on_others o.number (of.left o.link) (of.left new.link) s t u (of.written o.link) (of.written new.link)
            o.dialog new.dialog more p.came told all;
        polled = p.polled;
      }
  turned_on s t u n more (o ∷ olds) still finished told own below (inr (now, rest, is, ends, turned)) =
      inr (
        now,
        rest,
        is,
        end_on o now ends (others o olds below),
        turned_on s t u n more olds still rest told own (All-tail (λ (s : Slot L). s.number < n) o olds below) turned,
      )
    where
      others : (o : Slot L) (olds : List (Slot L)) → AreBelow n (o ∷ olds) → All (λ k. k.number ≢ o.number) more
      others o olds below = All-weaker (IsOf n) (λ k. k.number ≢ o.number)
          (λ k e. is_other_too k.number o.number n e (All-head (λ (s : Slot L). s.number < n) o olds below)) more own

      end_on : (o : Slot L) (now : Finished L) → HasFinished of ready s t o now → All (λ k. k.number ≢ o.number) more
          → HasFinished of ready s u o now
      end_on o now p all = record {
        due = p.due;
        number = p.number;
        came = to_others o.number (of.left o.link) (of.left now.link) s t u (of.written o.link) (of.written now.link)
            o.dialog now.«end» more p.came told all;
        read_cause = p.read_cause;
        write_cause = p.write_cause;
      }

  pub turned_open : (s t : Told) (olds still : List (Slot L)) (finished : List (Finished L)) (o new : Slot L)
      → Turned of ready s t olds still finished → StaysOpen of ready s t o new
      → Turned of ready s t (olds ++ o ∷ []) (still ++ new ∷ []) finished
  unfolding Turned
  turned_open s t [] still finished o new turned stays =
      inl (new, [], ap (λ (x : List (Slot L)). x ++ new ∷ []) turned.0, stays, (refl, turned.1))
  turned_open s t (x ∷ olds) still finished o new (inl (y, rest, is, one, turned)) stays =
      inl (y, rest ++ new ∷ [], ap (λ (z : List (Slot L)). z ++ new ∷ []) is, one, turned_open s t olds rest finished o new turned stays)
  turned_open s t (x ∷ olds) still finished o new (inr (y, rest, is, one, turned)) stays =
      inr (y, rest, is, one, turned_open s t olds still rest o new turned stays)

  pub turned_end : (s t : Told) (olds still : List (Slot L)) (finished : List (Finished L)) (o : Slot L) (now : Finished L)
      → Turned of ready s t olds still finished → HasFinished of ready s t o now
      → Turned of ready s t (olds ++ o ∷ []) still (finished ++ now ∷ [])
  unfolding Turned
  turned_end s t [] still finished o now turned ends =
      inr (now, [], ap (λ (x : List (Finished L)). x ++ now ∷ []) turned.1, ends, (turned.0, refl))
  turned_end s t (x ∷ olds) still finished o now (inl (y, rest, is, one, turned)) ends =
      inl (y, rest, is, one, turned_end s t olds rest finished o now turned ends)
  turned_end s t (x ∷ olds) still finished o now (inr (y, rest, is, one, turned)) ends =
      inr (y, rest ++ now ∷ [], ap (λ (z : List (Finished L)). z ++ now ∷ []) is, one, turned_end s t olds still rest o now turned ends)

-- ---- a turn, link by link

first_is : {X : Type 0} (x y : X) (xs ys : List X) → x ∷ xs ≡ y ∷ ys → x ≡ y
first_is x y xs ys e = cc e

rest_is : {X : Type 0} (x y : X) (xs ys : List X) → x ∷ xs ≡ y ∷ ys → xs ≡ ys
rest_is x y xs ys e = cc e

module _ {L : Type 0} (of : Telling L) (ready : List ℕ) where
  pub none_passed : (s : Told) (olds : List (Slot L)) (finished : List (Finished L)) (left : ℕ) → finished ≡ []
      → left ≡ length olds → HasPassed of ready s s olds olds finished left
  unfolding Turned
  none_passed s olds finished left none count = record {
    done = [];
    todo = olds;
    kept = [];
    whole = refl;
    now = sym (append-nil olds);
    count = count;
    turned = (refl, none);
    among = ([], calls_none s, All-nil (IsOfSome []));
  }

  -- of the link that is taken next, wherever it stood while the others were served
  passed_open : (s t u : Told) (done : List (Slot L)) (o new : Slot L) → AddsAmong done s t → AreBelow o.number done
      → StaysOpen of ready t u o new → StaysOpen of ready s u o new
  passed_open s t u done o new among below p = record {
    number = p.number;
    came = stood_on o.number (of.left o.link) (of.left new.link) s t u (of.written o.link) (of.written new.link)
        o.dialog new.dialog among.0 among.1 (some_others o.number done among.0 below among.2) p.came;
    polled = p.polled;
  }

  passed_end : (s t u : Told) (done : List (Slot L)) (o : Slot L) (now : Finished L) → AddsAmong done s t → AreBelow o.number done
      → HasFinished of ready t u o now → HasFinished of ready s u o now
  passed_end s t u done o now among below p = record {
    due = p.due;
    number = p.number;
    came = stood_to o.number (of.left o.link) (of.left now.link) s t u (of.written o.link) (of.written now.link)
        o.dialog now.«end» among.0 among.1 (some_others o.number done among.0 below among.2) p.came;
    read_cause = p.read_cause;
    write_cause = p.write_cause;
  }

  pub one_passed : (s t u : Told) (olds slots after : List (Slot L)) (before finished : List (Finished L)) (left : ℕ)
      → 0 < left → AreRising olds → HasPassed of ready s t olds slots before left
      → IsPassed of ready t u slots after before finished → HasPassed of ready s u olds after finished (left - 1)
  one_passed s t u olds slots after before finished left some up has p = go has.todo has.whole has.now has.count
    where
      go : (todo : List (Slot L)) → olds ≡ has.done ++ todo → slots ≡ todo ++ has.kept → left ≡ length todo
          → HasPassed of ready s u olds after finished (left - 1)
      go [] whole now count = absurd (omega (arith, count, some))
      go (o ∷ todo) whole now count = moved p.moved
        where
          same : o ≡ p.first
          same = first_is o p.first (todo ++ has.kept) p.rest (sym now ∙ p.whole)

          rest : todo ++ has.kept ≡ p.rest
          rest = rest_is o p.first (todo ++ has.kept) p.rest (sym now ∙ p.whole)

          below : AreBelow o.number has.done
          below = rising_below has.done todo o (subst (λ (x : List (Slot L)). AreRising x) whole up)

          only : AddsOnly o.number t u
          only = subst (λ (x : Slot L). AddsOnly x.number t u) (sym same) p.only

          on : Turned of ready s u has.done has.kept before
          on = turned_on of ready s t u o.number only.0 has.done has.kept before only.1 only.2 below has.turned

          whole_now : olds ≡ (has.done ++ o ∷ []) ++ todo
          whole_now = whole ∙ sym (append_assoc has.done (o ∷ []) todo)

          moved : IsMoved of ready t u p.first p.rest after before finished → HasPassed of ready s u olds after finished (left - 1)
          moved (inl (new, is, none, stays)) = record {
            done = has.done ++ o ∷ [];
            todo = todo;
            kept = has.kept ++ new ∷ [];
            whole = whole_now;
            now = is ∙ ap (λ (x : List (Slot L)). x ++ new ∷ []) (sym rest) ∙ append_assoc todo has.kept (new ∷ []);
            count = omega (arith, count);
            turned = subst (λ (x : List (Finished L)). Turned of ready s u (has.done ++ o ∷ []) (has.kept ++ new ∷ []) x) (sym none)
                (turned_open of ready s u has.done has.kept before o new on
                (passed_open s t u has.done o new has.among below
                (subst (λ (x : Slot L). StaysOpen of ready t u x new) (sym same) stays)));
            among = among_more s t u has.done o has.among only;
          }
          moved (inr (gone, is, more, ends)) = record {
            done = has.done ++ o ∷ [];
            todo = todo;
            kept = has.kept;
            whole = whole_now;
            now = is ∙ sym rest;
            count = omega (arith, count);
            turned = subst (λ (x : List (Finished L)). Turned of ready s u (has.done ++ o ∷ []) has.kept x) (sym more)
                (turned_end of ready s u has.done has.kept before o gone on
                (passed_end s t u has.done o gone has.among below
                (subst (λ (x : Slot L). HasFinished of ready t u x gone) (sym same) ends)));
            among = among_more s t u has.done o has.among only;
          }

  -- behind the last link
  pub all_passed : (s t : Told) (olds slots : List (Slot L)) (finished : List (Finished L)) (left : ℕ) → left ≡ 0
      → HasPassed of ready s t olds slots finished left
      → Turned of ready s t olds slots finished × AddsAmong olds s t
  all_passed s t olds slots finished left none has = go has.todo has.whole has.now has.count
    where
      go : (todo : List (Slot L)) → olds ≡ has.done ++ todo → slots ≡ todo ++ has.kept → left ≡ length todo
          → Turned of ready s t olds slots finished × AddsAmong olds s t
      go [] whole now count =
          let all : has.done ≡ olds = sym (whole ∙ append-nil has.done) in (
            subst (λ (x : List (Slot L)). Turned of ready s t x slots finished) all
                (subst (λ (x : List (Slot L)). Turned of ready s t has.done x finished) (sym now) has.turned),
            subst (λ (x : List (Slot L)). AddsAmong x s t) all has.among,
          )
      go (o ∷ todo) whole now count = absurd (omega (arith, count, none))

  -- a turn of other numbers by which the same links are due
  pub turned_same : (other : List ℕ) (s t : Told) (olds still : List (Slot L)) (finished : List (Finished L))
      → ((n : ℕ) → list_any (λ k. k == n) ready ≡ list_any (λ k. k == n) other)
      → Turned of ready s t olds still finished → Turned of other s t olds still finished
  unfolding Turned
  turned_same other s t [] still finished same turned = turned
  turned_same other s t (o ∷ olds) still finished same (inl (new, rest, is, stays, turned)) =
      inl (
        new,
        rest,
        is,
        record {
          number = stays.number;
          came = stays.came;
          polled = subst (λ (b : Bool). MatchBool b (IsPolled of o new) (new ≡ o)) (ap (λ (b : Bool). o.woken || b) (same o.number)) stays.polled;
        },
        turned_same other s t olds rest finished same turned,
      )
  turned_same other s t (o ∷ olds) still finished same (inr (now, rest, is, ends, turned)) =
      inr (
        now,
        rest,
        is,
        record {
          due = sym (ap (λ (b : Bool). o.woken || b) (same o.number)) ∙ ends.due;
          number = ends.number;
          came = ends.came;
          read_cause = ends.read_cause;
          write_cause = ends.write_cause;
        },
        turned_same other s t olds still rest same turned,
      )

  pub finished_so : (s t : Told) (old new : Slot L) (ending : LinkEnd) (now : Finished L) → EndsSo of s t old new ending
      → is_due ready old ≡ true → new.number ≡ old.number → now.number ≡ new.number → now.link ≡ new.link
      → now.«end» ≡ ending → HasFinished of ready s t old now
  finished_so s t old new ending now p due number same link ends = record {
    due = due;
    number = same ∙ number;
    came = subst (λ (x : L). ComesTo old.number (of.left old.link) (of.left x) s t (of.written old.link) (of.written x) old.dialog now.«end»)
        (sym link)
        (subst (λ (x : LinkEnd). ComesTo old.number (of.left old.link) (of.left new.link) s t (of.written old.link) (of.written new.link) old.dialog x)
        (sym ends) p.came);
    read_cause = λ is. subst (λ (x : L). HasRisen (of.read_faults old.link) (of.read_faults x)) (sym link) (p.read_cause (sym ends ∙ is));
    write_cause = λ is. subst (λ (x : L). HasRisen (of.write_faults old.link) (of.write_faults x)) (sym link) (p.write_cause (sym ends ∙ is));
  }
