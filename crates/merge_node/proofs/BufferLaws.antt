-- What comes later changes no message that is next: what is given of buffers goes on, whatever is put when.
use Rattle.std.proofs.Common.{◌≡◌, ℕ, zero, suc, ◌+◌, ◌<◌, ◌≤◌, Bool, true, false, cond, List, [], ◌∷◌, ◌++◌, length, drop, replicate, Option, Some, None, refl, sym, ap, subst, ◌∙◌, append-nil, arith}
use Rattle.kap_base.specs.declared.items.Msg.{Msg}
use Rattle.kap_base.specs.declared.items.Msg.TheVariants as messages
use Rattle.merge_node.specs.Merge.{Lists, Entry}
use Rattle.merge_node.specs.declared.fronts.Front.{Front}
use Rattle.merge_node.specs.Buffers.{has_empty, item_front, lower, least, front, without_front, without_fronts, Taken, taken, next_by, next, said, left_of, put, Merges, done, more, Calls, start, putting, taking}

-- each list with what came later
abbrev pub join : Lists → Lists → Lists
join [] ys = []
join (l ∷ ls) [] = l ∷ ls
join (l ∷ ls) (y ∷ ys) = (l ++ y) ∷ join ls ys

-- ---- what is next

-- where two messages taken are both the one that is next, they are the same
pub some-same : (s t : Taken) → ◌≡◌ {A = Option Taken} (Some s) (Some t) → s ≡ t
some-same s t e = cc

full-of : (b : Bool) (o : Option Taken) (t : Taken) → cond b None o ≡ Some t → b ≡ false
full-of true o t e = absurd cc
full-of false o t e = refl

by-of : (b : Bool) (o : Option Taken) (t : Taken) → cond b None o ≡ Some t → o ≡ Some t
by-of true o t e = absurd cc
by-of false o t e = e

from-of : (b : Bool) (o : Option Taken) (t : Taken) → b ≡ false → o ≡ Some t → cond b None o ≡ Some t
from-of true o t h e = absurd cc
from-of false o t h e = e

-- where a message is next, each parent has one buffered
pub next-full : (ls : Lists) (t : Taken) → next ls ≡ Some t → has_empty ls ≡ false
unfolding next
next-full ls t e = full-of (has_empty ls) (next_by (least 0 ls) ls) t e

-- a message that is next is the least item among the fronts, or else the barrier of all
pub next-by : (ls : Lists) (t : Taken) → next ls ≡ Some t → next_by (least 0 ls) ls ≡ Some t
unfolding next
next-by ls t e = by-of (has_empty ls) (next_by (least 0 ls) ls) t e

-- where each parent has one buffered, the least item, or else the barrier of all, is next
pub next-from : (ls : Lists) (t : Taken) → has_empty ls ≡ false → next_by (least 0 ls) ls ≡ Some t → next ls ≡ Some t
unfolding next
next-from ls t h e = from-of (has_empty ls) (next_by (least 0 ls) ls) t h e

-- the only message of one parent alone is next, and leaves nothing
pub next-alone : (m : Msg) → next ((m ∷ []) ∷ []) ≡ Some (record { parent = 0; msg = m; rest = [] ∷ [] })
unfolding next
next-alone (messages.Item x) = refl
next-alone (messages.Barrier b) = refl

-- ---- more behind each list

has_empty-join : (ls ys : Lists) → has_empty ls ≡ false → has_empty (join ls ys) ≡ false
has_empty-join [] ys h = refl
has_empty-join (l ∷ ls) [] h = h
has_empty-join ([] ∷ ls) (y ∷ ys) h = absurd cc
has_empty-join ((m ∷ l) ∷ ls) (y ∷ ys) h = has_empty-join ls ys h

least-join : (k : ℕ) (ls ys : Lists) → has_empty ls ≡ false → least k (join ls ys) ≡ least k ls
least-join k [] ys h = refl
least-join k (l ∷ ls) [] h = refl
least-join k ([] ∷ ls) (y ∷ ys) h = absurd cc
least-join k ((m ∷ l) ∷ ls) (y ∷ ys) h = ap (lower (item_front k m)) (least-join (k + 1) ls ys h)

front-join : (k : ℕ) (ls ys : Lists) → has_empty ls ≡ false → front k (join ls ys) ≡ front k ls
front-join k [] ys h = refl
front-join k (l ∷ ls) [] h = refl
front-join k ([] ∷ ls) (y ∷ ys) h = absurd cc
front-join zero ((m ∷ l) ∷ ls) (y ∷ ys) h = refl
front-join (suc k) ((m ∷ l) ∷ ls) (y ∷ ys) h = front-join k ls ys h

without_front-join : (k : ℕ) (ls ys : Lists) → has_empty ls ≡ false → without_front k (join ls ys) ≡ join (without_front k ls) ys
without_front-join k [] ys h = refl
without_front-join zero (l ∷ ls) [] h = refl
without_front-join (suc k) (l ∷ ls) [] h = refl
without_front-join k ([] ∷ ls) (y ∷ ys) h = absurd cc
without_front-join zero ((m ∷ l) ∷ ls) (y ∷ ys) h = refl
without_front-join (suc k) ((m ∷ l) ∷ ls) (y ∷ ys) h = ap (λ (r : Lists). (m ∷ l ++ y) ∷ r) (without_front-join k ls ys h)

without_fronts-join : (ls ys : Lists) → has_empty ls ≡ false → without_fronts (join ls ys) ≡ join (without_fronts ls) ys
without_fronts-join [] ys h = refl
without_fronts-join (l ∷ ls) [] h = refl
without_fronts-join ([] ∷ ls) (y ∷ ys) h = absurd cc
without_fronts-join ((m ∷ l) ∷ ls) (y ∷ ys) h = ap (λ (r : Lists). (l ++ y) ∷ r) (without_fronts-join ls ys h)

-- what is left, with what came later
abbrev later_too : Taken → Lists → Taken
later_too t ys = record { parent = t.parent; msg = t.msg; rest = join t.rest ys }

abbrev joined : Option Taken → Lists → Option Taken
joined None ys = None
joined (Some t) ys = Some (later_too t ys)

taken-join : (k : ℕ) (o : Option Msg) (rest ys : Lists) (t : Taken) → taken k o rest ≡ Some t → taken k o (join rest ys) ≡ Some (later_too t ys)
taken-join k None rest ys t e = absurd cc
taken-join k (Some m) rest ys t e = subst (λ (o : Option Taken). taken k (Some m) (join rest ys) ≡ joined o ys) e refl

next_by-join : (ls ys : Lists) (o : Option Front) (t : Taken) → has_empty ls ≡ false → next_by o ls ≡ Some t → next_by o (join ls ys) ≡ Some (later_too t ys)
next_by-join ls ys None t h e = rw (front-join 0 ls ys h, without_fronts-join ls ys h) (taken-join 0 (front 0 ls) (without_fronts ls) ys t e)
next_by-join ls ys (Some f) t h e =
    rw (front-join f.parent ls ys h, without_front-join f.parent ls ys h) (taken-join f.parent (front f.parent ls) (without_front f.parent ls) ys t e)

-- a message that is next stays next
pub next-join : (ls ys : Lists) (t : Taken) → next ls ≡ Some t → next (join ls ys) ≡ Some (record { parent = t.parent; msg = t.msg; rest = join t.rest ys })
next-join ls ys t e =
    let full : has_empty ls ≡ false = next-full ls t e in
    let by : next_by (least 0 ls) (join ls ys) ≡ Some (later_too t ys) = next_by-join ls ys (least 0 ls) t full (next-by ls t e) in
    next-from (join ls ys) (later_too t ys) (has_empty-join ls ys full) (ap (λ (o : Option Front). next_by o (join ls ys)) (least-join 0 ls ys full) ∙ by)

-- ---- one list after the other

-- what is given of buffers is given of them with more behind each, and what is left has it too
pub merges-join : {ls rest : Lists} {ms : List Entry} (ys : Lists) → Merges ls ms rest → Merges (join ls ys) ms (join rest ys)
merges-join ys done = done
merges-join ys (more t e h) = more (record { parent = t.parent; msg = t.msg; rest = join t.rest ys }) (next-join _ ys t e) (merges-join ys h)

-- what is given of buffers, and then of what is left of them, is given one behind the other
pub merges-trans : {a b c : Lists} {ms ns : List Entry} → Merges a ms b → Merges b ns c → Merges a (ms ++ ns) c
merges-trans done h = h
merges-trans (more t e g) h = more t e (merges-trans g h)

abbrev entry : Taken → Entry
entry t = (t.parent, t.msg)

-- what is given in the end goes on behind what is given so far, and is merged of what is left of it
pub record Ahead (b c : Lists) (ms ns : List Entry) : Type 0 where
  pub later : List Entry
  pub whole : ns ≡ ms ++ later
  pub merged : Merges b later c

-- what is given goes on to what is given in the end
pub merges-ahead : {a b c : Lists} {ms ns : List Entry} → Merges a ms b → Merges a ns c → next c ≡ None → Ahead b c ms ns
merges-ahead {ns = ns} done h e = record { later = ns; whole = refl; merged = h }
merges-ahead (more t e g) done stuck = absurd cc
merges-ahead {c = c} (more {rest = b} {ms = ms} t e g) (more {ms = ns} s d h) stuck =
    let same : s ≡ t = some-same s t (sym d ∙ e) in
    let h' : Merges t.rest ns c = subst (λ (x : Taken). Merges x.rest ns c) same h in
    let r : Ahead b c ms ns = merges-ahead g h' stuck in
    record { later = r.later; whole = ap (λ (x : Taken). entry x ∷ ns) same ∙ ap (λ (l : List Entry). entry t ∷ l) r.whole; merged = r.merged }

-- all that is determined is one list
pub merges-same : {a b c : Lists} {ms ns : List Entry} → Merges a ms b → next b ≡ None → Merges a ns c → next c ≡ None → ms ≡ ns
merges-same done stuck done stuck2 = refl
merges-same done stuck (more t e h) stuck2 = absurd cc
merges-same (more t e h) stuck done stuck2 = absurd cc
merges-same {c = c} (more {ms = ms} t e g) stuck (more {ms = ns} s d h) stuck2 =
    let same : s ≡ t = some-same s t (sym d ∙ e) in
    let h' : Merges t.rest ns c = subst (λ (x : Taken). Merges x.rest ns c) same h in
    ap (λ (l : List Entry). entry t ∷ l) (merges-same g stuck h' stuck2) ∙ sym (ap (λ (x : Taken). entry x ∷ ns) same)

-- ---- how much is left

without_front-length : (k : ℕ) (ls : Lists) → length (without_front k ls) ≡ length ls
without_front-length k [] = refl
without_front-length zero (l ∷ ls) = refl
without_front-length (suc k) (l ∷ ls) = ap suc (without_front-length k ls)

without_fronts-length : (ls : Lists) → length (without_fronts ls) ≡ length ls
without_fronts-length [] = refl
without_fronts-length (l ∷ ls) = ap suc (without_fronts-length ls)

-- putting a message keeps the number of parents
pub put-length : (k : ℕ) (m : Msg) (ls : Lists) → length (put k m ls) ≡ length ls
put-length k m [] = refl
put-length zero m (l ∷ ls) = refl
put-length (suc k) m (l ∷ ls) = ap suc (put-length k m ls)

-- how many messages are buffered
abbrev pub total : Lists → ℕ
total [] = 0
total (l ∷ ls) = length l + total ls

front-within : (k : ℕ) (ls : Lists) (m : Msg) → front k ls ≡ Some m → k < length ls
front-within k [] m e = absurd cc
front-within zero (l ∷ ls) m e = omega arith
front-within (suc k) (l ∷ ls) m e = let h : k < length ls = front-within k ls m e in omega arith

without_front-total : (k : ℕ) (ls : Lists) (m : Msg) → front k ls ≡ Some m → total (without_front k ls) < total ls
without_front-total k [] m e = absurd cc
without_front-total zero ([] ∷ ls) m e = absurd cc
without_front-total zero ((x ∷ l) ∷ ls) m e = omega arith
without_front-total (suc k) (l ∷ ls) m e = let h : total (without_front k ls) < total ls = without_front-total k ls m e in omega arith

drop-le : (l : List Msg) → length (drop 1 l) ≤ length l
drop-le [] = omega arith
drop-le (x ∷ l) = omega arith

without_fronts-le : (ls : Lists) → total (without_fronts ls) ≤ total ls
without_fronts-le [] = omega arith
without_fronts-le (l ∷ ls) =
    let h : total (without_fronts ls) ≤ total ls = without_fronts-le ls in
    let k : length (drop 1 l) ≤ length l = drop-le l in omega (arith, h, k)

without_fronts-total : (ls : Lists) (m : Msg) → front 0 ls ≡ Some m → total (without_fronts ls) < total ls
without_fronts-total [] m e = absurd cc
without_fronts-total ([] ∷ ls) m e = absurd cc
without_fronts-total ((x ∷ l) ∷ ls) m e = let h : total (without_fronts ls) ≤ total ls = without_fronts-le ls in omega arith

-- the message is of one of the parents, as many parents are left, and fewer messages
pub record Less (ls : Lists) (t : Taken) : Type 0 where
  pub within : t.parent < length ls
  pub parents : length t.rest ≡ length ls
  pub fewer : total t.rest < total ls

taken-less : (k : ℕ) (o : Option Msg) (rest ls : Lists) (t : Taken) → ((m : Msg) → o ≡ Some m → (k < length ls) × (total rest < total ls)) → length rest ≡ length ls → taken k o rest ≡ Some t → Less ls t
taken-less k None rest ls t h len e = absurd cc
taken-less k (Some m) rest ls t h len e =
    let same : t ≡ record { parent = k; msg = m; rest = rest } = some-same t (record { parent = k; msg = m; rest = rest }) (sym e) in
    let b = h m refl in
    subst (λ (x : Taken). Less ls x) (sym same) (record { within = b.0; parents = len; fewer = b.1 })

next_by-less : (ls : Lists) (o : Option Front) (t : Taken) → next_by o ls ≡ Some t → Less ls t
next_by-less ls None t e =
    taken-less 0 (front 0 ls) (without_fronts ls) ls t (λ m g. (front-within 0 ls m g, without_fronts-total ls m g)) (without_fronts-length ls) e
next_by-less ls (Some f) t e =
    taken-less f.parent (front f.parent ls) (without_front f.parent ls) ls t (λ m g. (front-within f.parent ls m g, without_front-total f.parent ls m g)) (without_front-length f.parent ls) e

-- the message that is next is of one of the parents, and leaves fewer messages
pub next-less : (ls : Lists) (t : Taken) → next ls ≡ Some t → Less ls t
next-less ls t e = next_by-less ls (least 0 ls) t (next-by ls t e)

-- giving messages keeps the number of parents
pub merges-length : {a b : Lists} {ms : List Entry} → Merges a ms b → length b ≡ length a
merges-length done = refl
merges-length (more {ls = ls} t e h) = merges-length h ∙ (next-less ls t e).parents

-- ---- what is put

-- one message, behind the others of its parent
pub lone : ℕ → Msg → ℕ → Lists
lone k m zero = []
lone zero m (suc n) = (m ∷ []) ∷ replicate n []
lone (suc k) m (suc n) = [] ∷ lone k m n

-- buffers with nothing behind each are the same buffers
pub join-nothing : (ls : Lists) → join ls (replicate (length ls) []) ≡ ls
join-nothing [] = refl
join-nothing (l ∷ ls) = rw (append-nil l, join-nothing ls) refl

-- putting a message joins it behind the others of its parent
pub put-join : (k : ℕ) (m : Msg) (ls : Lists) → put k m ls ≡ join ls (lone k m (length ls))
unfolding lone
put-join k m [] = refl
put-join zero m (l ∷ ls) = ap (λ (r : Lists). (l ++ m ∷ []) ∷ r) (sym (join-nothing ls))
put-join (suc k) m (l ∷ ls) = rw append-nil (ap (λ (r : Lists). l ∷ r) (put-join k m ls))

-- a message that is put changes nothing that is determined
pub merges-put : {a b : Lists} {ms : List Entry} (k : ℕ) (m : Msg) → Merges a ms b → Merges (put k m a) ms (put k m b)
merges-put {a = a} {b = b} {ms = ms} k m h =
    rw (put-join k m a, put-join k m b, merges-length h) (merges-join (lone k m (length a)) h)

-- in whatever order calls are made, what was given and what is buffered are what was put
pub calls-merge : {all buffered : Lists} {given : List Entry} → Calls all given buffered → Merges all given buffered
calls-merge (start parents) = done
calls-merge (putting k m h) = merges-put k m (calls-merge h)
calls-merge (taking t e h) = merges-trans (calls-merge h) (more t e done)

-- ---- what the answer of a call says

pair-same : (x y : Entry) → ◌≡◌ {A = Option Entry} (Some x) (Some y) → x ≡ y
pair-same x y e = cc

said-some : (o : Option Taken) (ls rest : Lists) (parent : ℕ) (m : Msg) → Some (parent, m) ≡ said o → rest ≡ left_of o ls → o ≡ Some (record { parent = parent; msg = m; rest = rest })
said-some None ls rest parent m e h = absurd cc
said-some (Some t) ls rest parent m e h =
    let both : ◌≡◌ {A = Entry} (t.parent, t.msg) (parent, m) = pair-same (t.parent, t.msg) (parent, m) (sym e) in
    let p : t.parent ≡ parent = ap (λ (x : Entry). x.0) both in
    let q : t.msg ≡ m = ap (λ (x : Entry). x.1) both in
    rw (← p, ← q, h) refl

-- the answer of a call tells which message is next, and what is left
pub next-some : (ls rest : Lists) (parent : ℕ) (m : Msg) → Some (parent, m) ≡ said (next ls) → rest ≡ left_of (next ls) ls → next ls ≡ Some (record { parent = parent; msg = m; rest = rest })
next-some ls rest parent m e h = said-some (next ls) ls rest parent m e h

said-none : (o : Option Taken) → None ≡ said o → o ≡ None
said-none None e = refl
said-none (Some t) e = absurd cc

-- where the answer of a call tells of no message, none is next
pub next-none : (ls : Lists) → None ≡ said (next ls) → next ls ≡ None
next-none ls e = said-none (next ls) e
