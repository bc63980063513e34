-- Why serving ends.
use Rattle.std.proofs.Common.{◌≡◌, ℕ, ◌+◌, ◌≤◌, Bool, false, arith, Option, Some, None, Result, Ok, Err, sym, subst, ◌∙◌}
use Rattle.kap_base.specs.Words.{HasRisen}
use Rattle.kap_io.specs.Doors.{Admits}
use Rattle.kap_io.specs.declared.try_link.Stop.{Stop}
use Rattle.conn_loop.specs.declared.single.SingleEnd.{SingleEnd}
use Rattle.conn_loop.specs.declared.single.SingleEnd.TheVariants as ends
use Rattle.conn_loop.specs.Serving.{Counts, EndsBy, HaveCome, MayEnd}

risen_behind : (a b c : ℕ) → a ≤ b → HasRisen b c → HasRisen a c
risen_behind a b c le risen = omega arith

ends_behind : {T : Type 0} (a b d r s t links count : ℕ) (closed : Bool) (result : Result T SingleEnd) → a ≤ b → r ≤ s
    → EndsBy b d s t links count closed result → EndsBy a d r t links count closed result
ends_behind a b d r s t links count closed (Ok x) le le' p = p
ends_behind a b d r s t links count closed (Err ends.Closed) le le' p = p
ends_behind a b d r s t links count closed (Err ends.Spent) le le' p = p
ends_behind a b d r s t links count closed (Err ends.ReadyFailed) le le' p = risen_behind r s t le' p
ends_behind a b d r s t links count closed (Err ends.DoorFailed) le le' p = risen_behind a b d le p
ends_behind a b d r s t links count closed (Err ends.NoMemory) le le' p = p

-- what may end behind calls of which no count fell
pub may_behind : {T : Type 0} (a b d r s t links count : ℕ) (closed : Bool) (result : Result T SingleEnd) → a ≤ b → r ≤ s
    → MayEnd b d s t links count closed result → MayEnd a d r t links count closed result
may_behind a b d r s t links count closed result le le' p = record {
  later = (let more = p.later in omega arith);
  ready_later = (let more = p.ready_later in omega arith);
  cause = ends_behind a b d r s t links count closed result le le' p.cause;
}

-- no link has come yet
pub none_came : (left : Option ℕ) → HaveCome left left 0
none_came None = tt
none_came (Some n) = omega arith

came_one : {L : Type 0} (first left now : Option ℕ) (link : L) (links : ℕ)
    → Admits {L = L} {E = Stop} left now (Ok (Some link)) → HaveCome first left links → HaveCome first now (links + 1)
came_one None left now link links admits came = tt
came_one (Some n) None now link links admits came = absurd came
came_one (Some n) (Some k) now link links (m, is, one) came =
    subst (λ (o : Option ℕ). HaveCome (Some n) o (links + 1)) (sym is) (omega arith)

-- a link that came at a door that wasn't found closed
pub one_came : {L : Type 0} (first left now : Option ℕ) (link : L) (links : ℕ) (closed : Bool)
    → Admits {L = L} {E = Stop} left now (Ok (Some link)) → closed ≡ false → Counts first left links closed
    → Counts first now (links + 1) closed
one_came first left now link links closed admits is counts = record {
  came = came_one first left now link links admits counts.came;
  shut = λ yes. absurd (cc (sym yes ∙ is));
}

ends_again : (T U : Type 0) (b d s t links count : ℕ) (closed : Bool) (e : SingleEnd)
    → EndsBy {T = T} b d s t links count closed (Err e) → EndsBy {T = U} b d s t links count closed (Err e)
ends_again T U b d s t links count closed ends.Closed p = p
ends_again T U b d s t links count closed ends.Spent p = p
ends_again T U b d s t links count closed ends.ReadyFailed p = p
ends_again T U b d s t links count closed ends.DoorFailed p = p
ends_again T U b d s t links count closed ends.NoMemory p = p

-- a fault that is handed on, behind a call of which the door's count didn't fall
pub handed_on : {T U : Type 0} (a b s t links count : ℕ) (closed : Bool) (e : SingleEnd) → a ≤ b
    → MayEnd {T = T} b b s t links count closed (Err e) → MayEnd {T = U} a b s t links count closed (Err e)
handed_on {T} {U} a b s t links count closed e le p = record {
  later = le;
  ready_later = p.ready_later;
  cause = ends_again T U a b s t links count closed e (ends_behind {T = T} a b b s s t links count closed (Err e) le (omega arith) p.cause);
}
