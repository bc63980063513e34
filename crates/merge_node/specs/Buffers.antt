-- What waits for each parent, which message is next, and what calls make of it.
use Rattle.std.specs.Prelude.{◌≡◌, ℕ, ◌+◌, ⊤, Bool, true, false, nat_lt, if◌then◌else◌, List, [], ◌∷◌, ◌++◌, map, drop, replicate, Option, Some, None, slice_get, slice_index_or, slice_set}
use mathlib.Core.List.{IsPrefix}
use Rattle.kap_base.specs.declared.items.Msg.{Msg}
use Rattle.kap_base.specs.declared.items.Msg.TheVariants as messages
use Rattle.merge_node.specs.Merge.{Lists, Entry}
use Rattle.merge_node.specs.declared.fronts.Front.{Front}

-- a parent has nothing buffered
abbrev pub has_empty : Lists → Bool
has_empty [] = false
has_empty ([] ∷ ls) = true
has_empty ((m ∷ l) ∷ ls) = has_empty ls

-- a front, where it is an item
abbrev pub item_front : ℕ → Msg → Option Front
item_front k (messages.Item x) = Some (record { parent = k; stamp = x.stamp })
item_front k (messages.Barrier b) = None

-- the one with the lower stamp, and the first where they are equal
abbrev pub lower : Option Front → Option Front → Option Front
lower None g = g
lower (Some f) None = Some f
lower (Some f) (Some g) = if nat_lt g.stamp.0 f.stamp.0 then Some g else Some f

-- the item least by stamp and parent among the fronts of parents that are numbered from here on, if some front is an
-- item
abbrev pub least : ℕ → Lists → Option Front
least k [] = None
least k ([] ∷ ls) = least (k + 1) ls
least k ((m ∷ l) ∷ ls) = lower (item_front k m) (least (k + 1) ls)

-- the front of a parent
abbrev pub front : ℕ → Lists → Option Msg
front k ls = slice_get (slice_index_or ls k []) 0

-- without it
abbrev pub without_front : ℕ → Lists → Lists
without_front k ls = slice_set ls k (drop 1 (slice_index_or ls k []))

-- without the front of each parent
abbrev pub without_fronts : Lists → Lists
without_fronts ls = map (λ l. drop 1 l) ls

-- a message that is taken, its parent, and what is left
pub record Taken : Type 0 where
  pub parent : ℕ
  pub msg : Msg
  pub rest : Lists

-- a message of a parent and what is left, where there is one
abbrev pub taken : ℕ → Option Msg → Lists → Option Taken
taken k None rest = None
taken k (Some m) rest = Some (record { parent = k; msg = m; rest = rest })

-- the least item, or else the barrier of all
abbrev pub next_by : Option Front → Lists → Option Taken
next_by (Some f) ls = taken f.parent (front f.parent ls) (without_front f.parent ls)
next_by None ls = taken 0 (front 0 ls) (without_fronts ls)

-- The message that is next. It is determined where each parent has one buffered: it is the item least by stamp and
-- parent among the fronts, or where all of them are barriers, that of parent 0, and one is taken from each.
unfoldable pub next : Lists → Option Taken
next ls = if has_empty ls then None else next_by (least 0 ls) ls

-- what is said of it, and what is left
abbrev pub said : Option Taken → Option Entry
said None = None
said (Some t) = Some (t.parent, t.msg)

-- what is left behind a message that is next, or everything where none is
abbrev pub left_of : Option Taken → Lists → Lists
left_of None ls = ls
left_of (Some t) ls = t.rest

-- one message more, behind the others of its parent
abbrev pub put : ℕ → Msg → Lists → Lists
put k m ls = slice_set ls k (slice_index_or ls k [] ++ m ∷ [])

-- what is given of buffers, message by message, and what is left
pub data Merges : Lists → List Entry → Lists → Type 0 where
  done : {ls : Lists} → Merges ls [] ls
  more : {ls rest : Lists} {ms : List Entry} (t : Taken) → next ls ≡ Some t → Merges t.rest ms rest
      → Merges ls ((t.parent, t.msg) ∷ ms) rest

-- what calls of `put` and `next` in any order make: what was put for each parent, what was given, and what is buffered
pub data Calls : Lists → List Entry → Lists → Type 0 where
  start : (parents : ℕ) → Calls (replicate parents []) [] (replicate parents [])
  putting : {all buffered : Lists} {given : List Entry} (k : ℕ) (m : Msg) → Calls all given buffered
      → Calls (put k m all) given (put k m buffered)
  taking : {all buffered : Lists} {given : List Entry} (t : Taken) → next buffered ≡ Some t → Calls all given buffered
      → Calls all (given ++ (t.parent, t.msg) ∷ []) t.rest

-- each list is the front of another
abbrev pub AreFronts : Lists → Lists → Type 0
AreFronts [] [] = ⊤
AreFronts [] (l ∷ ls) = ⊥
AreFronts (l ∷ ls) [] = ⊥
AreFronts (l ∷ ls) (w ∷ ws) = IsPrefix l w × AreFronts ls ws
