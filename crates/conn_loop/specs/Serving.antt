-- Serving at a door on one thread.
use Rattle.std.specs.Prelude.{◌≡◌, ℕ, ◌+◌, ◌≤◌, ⊤, Bool, true, length, Option, Some, None, Result, Ok, Err, OnOk}
use Rattle.kap_base.specs.Words.{HasRisen}
use Rattle.conn_loop.specs.declared.serving.Serving.{Serving}
use Rattle.conn_loop.specs.declared.single.SingleEnd.{SingleEnd}
use Rattle.conn_loop.specs.declared.single.SingleEnd.TheVariants as ends

-- so many links came: that many fewer are left, where the door tells
abbrev pub HaveCome : Option ℕ → Option ℕ → ℕ → Type 0
HaveCome None now links = ⊤
HaveCome (Some n) None links = ⊥
HaveCome (Some n) (Some m) links = n ≡ m + links

-- no link is left, where the door told
abbrev pub IsClosed : Option ℕ → Option ℕ → Type 0
IsClosed None now = ⊤
IsClosed (Some n) now = now ≡ Some 0

-- so many links came, and where the door was found closed none is left
pub record Counts (left now : Option ℕ) (links : ℕ) (closed : Bool) : Type 0 where
  pub came : HaveCome left now links
  pub shut : closed ≡ true → IsClosed left now

-- Why serving ends: no more links come, or as many came as there are numbers, and so many are open, none. A failure
-- comes only where that count rose.
abbrev pub EndsBy : {T : Type 0} → ℕ → ℕ → ℕ → ℕ → ℕ → ℕ → Bool → Result T SingleEnd → Type 0
EndsBy door now_door ready now_ready links count closed (Ok x) = ⊤
EndsBy door now_door ready now_ready links count closed (Err ends.Closed) = (closed ≡ true) × (count ≡ 0)
EndsBy door now_door ready now_ready links count closed (Err ends.Spent) = (links ≡ 4294967295) × (count ≡ 0)
EndsBy door now_door ready now_ready links count closed (Err ends.ReadyFailed) = HasRisen ready now_ready
EndsBy door now_door ready now_ready links count closed (Err ends.DoorFailed) = HasRisen door now_door
EndsBy door now_door ready now_ready links count closed (Err ends.NoMemory) = ⊤

-- the same, and no count falls
pub record MayEnd {T : Type 0} (door now_door ready now_ready links count : ℕ) (closed : Bool) (result : Result T SingleEnd)
    : Type 0 where
  pub later : door ≤ now_door
  pub ready_later : ready ≤ now_ready
  pub cause : EndsBy door now_door ready now_ready links count closed result

-- Whatever came and is open, serving may end so: what tells which links may go on has failed, or memory ran out.
abbrev pub MayFail : {T : Type 0} → ℕ → ℕ → Result T SingleEnd → Type 0
MayFail ready now_ready result =
    (door links count : ℕ) (closed : Bool) → MayEnd door door ready now_ready links count closed result

-- A step of serving: each link that came was added, unless serving ends. The links that came are counted, by what the
-- door has less, and where the door was found closed it has none left. Where serving ends, it may end so.
pub record ServesOn {L T : Type 0} (left now_left : Option ℕ) (door now_door ready now_ready : ℕ) (old new : Serving L)
    (result : Result T SingleEnd) : Type 0 where
  pub added : OnOk result (new.links ≡ new.open.added)
  pub counts : (first : Option ℕ) → Counts first left old.links old.closed → Counts first now_left new.links new.closed
  pub cause : MayEnd door now_door ready now_ready new.links (length new.open.links) new.closed result
