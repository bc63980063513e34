-- What looks at the fronts of buffers find.
use Rattle.std.proofs.Common.{◌≡◌, ℕ, zero, suc, ◌+◌, ◌<◌, Bool, true, false, cond, ltb, [], ◌∷◌, length, Option, Some, None, refl, sym, ap, ◌∙◌, inl, inr, ⊎_elim, arith, rules}
use Rattle.std.specs.Prelude.{◌⊎◌, ◌↔◌, is_some, IsNone, IsTrue}
use Rattle.kap_base.specs.declared.items.Msg.{Msg}
use Rattle.kap_base.specs.declared.items.Msg.TheVariants as messages
use Rattle.merge_node.specs.Merge.{Lists}
use Rattle.merge_node.specs.declared.fronts.Front.{Front}
use Rattle.merge_node.specs.Buffers.{has_empty, lower, least, front, without_front, without_fronts, Taken, taken, next_by, next, said, left_of}
use Rattle.merge_node.specs.Looking.{looked}

-- ---- what is taken where each parent has a front

full-front : (k : ℕ) (ls : Lists) → has_empty ls ≡ false → k < length ls → is_some (front k ls) ≡ true
full-front k [] h lt = absurd (omega arith)
full-front k ([] ∷ ls) h lt = absurd cc
full-front zero ((m ∷ l) ∷ ls) h lt = refl
full-front (suc k) ((m ∷ l) ∷ ls) h lt = full-front k ls h (omega arith)

left-some : (k : ℕ) (o : Option Msg) (rest ls : Lists) → is_some o ≡ true → left_of (taken k o rest) ls ≡ rest
left-some k None rest ls h = absurd cc
left-some k (Some m) rest ls h = refl

-- the front of a parent is taken
pub left_at : (k : ℕ) (ls : Lists) → has_empty ls ≡ false → k < length ls → left_of (taken k (front k ls) (without_front k ls)) ls ≡ without_front k ls
left_at k ls h lt = left-some k (front k ls) (without_front k ls) ls (full-front k ls h lt)

-- the front of each parent is taken
pub left_all : (ls : Lists) → has_empty ls ≡ false → left_of (taken 0 (front 0 ls) (without_fronts ls)) ls ≡ without_fronts ls
left_all [] h = refl
left_all ([] ∷ ls) h = absurd cc
left_all ((m ∷ l) ∷ ls) h = refl

-- ---- what a look finds

lower-cases : (a : Front) (o : Option Front) (f : Front) → lower (Some a) o ≡ Some f → (f ≡ a) ⊎ (o ≡ Some f)
lower-cases a None f e = inl (sym cc)
lower-cases a (Some b) f e = elim (ltb b.stamp.0 a.stamp.0) as (λ t. cond t (Some b) (Some a) ≡ Some f → (f ≡ a) ⊎ (Some b ≡ Some f)) [
  | true ↦ λ h. inr h
  | false ↦ λ h. inl (sym cc)
] e

least-within : (k : ℕ) (ls : Lists) (f : Front) → least k ls ≡ Some f → f.parent < k + length ls
least-within k [] f e = absurd cc
least-within k ([] ∷ ls) f e = let h : f.parent < k + 1 + length ls = least-within (k + 1) ls f e in omega (arith, h)
least-within k ((messages.Barrier b ∷ l) ∷ ls) f e = let h : f.parent < k + 1 + length ls = least-within (k + 1) ls f e in omega (arith, h)
least-within k ((messages.Item x ∷ l) ∷ ls) f e = ⊎_elim
    (λ same. let h : f.parent ≡ k = ap (λ (y : Front). y.parent) same in omega (arith, h))
    (λ rest. let h : f.parent < k + 1 + length ls = least-within (k + 1) ls f rest in omega (arith, h))
    (lower-cases (record { parent = k; stamp = x.stamp }) (least (k + 1) ls) f e)

looked-none : (b : Bool) (o : Option Front) (t : Option Taken) → None ≡ cond b None (Some o) → cond b None t ≡ None
looked-none true o t e = refl
looked-none false o t e = absurd cc

-- a parent has nothing buffered
pub looked_empty : (ls : Lists) → None ≡ looked ls → next ls ≡ None
unfolding next
looked_empty ls e = looked-none (has_empty ls) (least 0 ls) (next_by (least 0 ls) ls) e

-- each has something
pub record Full (ls : Lists) (best : Option Front) : Type 0 where
  pub full : has_empty ls ≡ false
  pub within : (f : Front) → best ≡ Some f → f.parent < length ls
  pub next : next ls ≡ next_by best ls

full-by : (ls : Lists) (best : Option Front) (b : Bool) → has_empty ls ≡ b → Some best ≡ cond b None (Some (least 0 ls)) → Full ls best
unfolding next
full-by ls best true h e = absurd cc
full-by ls best false h e =
    let same : least 0 ls ≡ best = sym cc in
    record {
      full = h;
      within = λ f is. let lt : f.parent < 0 + length ls = least-within 0 ls f (same ∙ is) in omega (arith, lt);
      next = ap (λ (b : Bool). cond b None (next_by (least 0 ls) ls)) h ∙ ap (λ (o : Option Front). next_by o ls) same;
    }

-- where a look finds something, each parent has something, and the look is of what is next
pub looked_full : (ls : Lists) (best : Option Front) → Some best ≡ looked ls → Full ls best
looked_full ls best e = full-by ls best (has_empty ls) refl e

-- ---- when nothing is next

taken-some : (k : ℕ) (o : Option Msg) (rest : Lists) → is_some o ≡ true → is_some (said (taken k o rest)) ≡ true
taken-some k None rest h = absurd cc
taken-some k (Some m) rest h = refl

by-some : (ls : Lists) (best : Option Front) → has_empty ls ≡ false → 0 < length ls → least 0 ls ≡ best → is_some (said (next_by best ls)) ≡ true
by-some ls None h lt e = taken-some 0 (front 0 ls) (without_fronts ls) (full-front 0 ls h lt)
by-some ls (Some f) h lt e =
    let within : f.parent < 0 + length ls = least-within 0 ls f e in
    taken-some f.parent (front f.parent ls) (without_front f.parent ls) (full-front f.parent ls h (omega (arith, within)))

none-else : (o : Option Taken) → is_some (said o) ≡ true → IsNone (said o) ↔ IsTrue false
none-else None h = absurd cc
none-else (Some t) h = search rules

none-iff : (b : Bool) (o : Option Taken) → (b ≡ false → is_some (said o) ≡ true) → IsNone (said (cond b None o)) ↔ IsTrue b
none-iff true o h = search rules
none-iff false o h = none-else o (h refl)

-- nothing is next exactly where some parent has nothing buffered
pub none_where_empty : (ls : Lists) → 0 < length ls → IsNone (said (next ls)) ↔ IsTrue (has_empty ls)
unfolding next
none_where_empty ls lt = none-iff (has_empty ls) (next_by (least 0 ls) ls) (λ h. by-some ls (least 0 ls) h lt refl)

empty-by : (ls : Lists) (b : Bool) → has_empty ls ≡ b → next ls ≡ None → 0 < length ls → has_empty ls ≡ true
unfolding next
empty-by ls true h e lt = h
empty-by ls false h e lt =
    let some : is_some (said (next_by (least 0 ls) ls)) ≡ true = by-some ls (least 0 ls) h lt refl in
    let none : next_by (least 0 ls) ls ≡ None = sym (ap (λ (b : Bool). cond b None (next_by (least 0 ls) ls)) h) ∙ e in
    let both : is_some (said None) ≡ true = sym (ap (λ (o : Option Taken). is_some (said o)) none) ∙ some in
    absurd cc

-- where nothing is next, some parent has nothing buffered
pub empty-none : (ls : Lists) → next ls ≡ None → 0 < length ls → has_empty ls ≡ true
empty-none ls e lt = empty-by ls (has_empty ls) refl e lt
