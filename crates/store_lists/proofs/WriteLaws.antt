-- Lines that are written in pieces, one behind the other.
use Rattle.std.proofs.Common.{◌≡◌, ℕ, zero, suc, ◌+◌, ◌-◌, ◌^◌, ◌<◌, ◌≤◌, List, [], ◌∷◌, ◌++◌, drop, get_or, length, min, take, Option, Ok, Err, refl, sym, ap, subst, ◌∙◌, append-nil, append_assoc, length-append, arith}
use Rattle.std.specs.Prelude.{Result}
use Rattle.std.specs.List.{flat_map}
use Rattle.std.specs.Io.KnownBytes.{Appends}
use Rattle.std.proofs.KnownBytes.{Appends-nil, Appends-trans}
use Rattle.std.proofs.lemmas.List.{take-append-le}
use Rattle.std.proofs.Math.Seq.{take-append-add}
use Rattle.kap_base.specs.Words.{HasRisen}
use Rattle.kap_io.specs.Pieces.{AppendsPrefix}
use Rattle.store_lists.specs.Writing.{HasWritten, Lists, PutsLines}
use Rattle.store_lists.specs.declared.fault.ListFault.{ListFault}
use Rattle.store_lists.specs.declared.fault.ListFault.TheVariants.{NotStore, DiskFault, WriteFault, NoMemory}

-- a front was written, and then a prefix of what comes behind it
prefix-of : (w v x : Option (List ℕ)) (front due more : List ℕ) → Appends w v front → AppendsPrefix v x due → AppendsPrefix w x (front ++ (due ++ more))
prefix-of w v x front due more p q =
    let taken : take (length front + q.0) (front ++ (due ++ more)) ≡ front ++ take q.0 due = take-append-add front (due ++ more) q.0 ∙ ap (λ (l : List ℕ). front ++ l) (take-append-le q.0 due more q.1) in
    (length front + q.0, let bound = q.1 in omega (arith, length-append front (due ++ more), length-append due more), subst (Appends w x) (sym taken) (Appends-trans w v x front (take q.0 due) p q.2))

-- nothing was written yet
pub written_none : (text : List ℕ) (w : Option (List ℕ)) → HasWritten text text w w
written_none text w = record { front = []; written = Appends-nil w; split = refl }

-- some lines, and then more
pub written_then : (text due lines due' : List ℕ) (w v x : Option (List ℕ)) → HasWritten text due w v → HasWritten (due ++ lines) due' v x → HasWritten (text ++ lines) due' w x
written_then text due lines due' w v x a b = record {
  front = a.front ++ b.front;
  written = Appends-trans w v x a.front b.front a.written b.written;
  split =
      ap (λ (l : List ℕ). l ++ lines) a.split ∙ append_assoc a.front due lines
      ∙ ap (λ (l : List ℕ). a.front ++ l) b.split ∙ sym (append_assoc a.front b.front due');
}

-- a prefix of the next lines, which stand before others
pub written_cut : (text due lines more : List ℕ) (w v x : Option (List ℕ)) → HasWritten text due w v → AppendsPrefix v x (due ++ lines) → AppendsPrefix w x (text ++ (lines ++ more))
written_cut text due lines more w v x a p =
    subst (AppendsPrefix w x) (ap (λ (l : List ℕ). a.front ++ l) (append_assoc due lines more) ∙ sym (append_assoc a.front due (lines ++ more)) ∙ ap (λ (l : List ℕ). l ++ (lines ++ more)) (sym a.split))
    (prefix-of w v x a.front (due ++ lines) more a.written p)

-- a prefix of the rest that is due
pub written_rest : (text due : List ℕ) (w v x : Option (List ℕ)) → HasWritten text due w v → AppendsPrefix v x due → AppendsPrefix w x text
written_rest text due w v x a p =
    subst (AppendsPrefix w x) (ap (λ (l : List ℕ). a.front ++ l) (append-nil due) ∙ sym a.split)
    (prefix-of w v x a.front due [] a.written p)

-- so far a prefix of it all
pub written_prefix : (text due more : List ℕ) (w v : Option (List ℕ)) → HasWritten text due w v → AppendsPrefix w v (text ++ more)
written_prefix text due more w v a = written_cut text due [] more w v v a (0, omega arith, Appends-nil v)

-- the rest, to the end
pub written_all : (text due : List ℕ) (w v x : Option (List ℕ)) → HasWritten text due w v → Appends v x due → Appends w x text
written_all text due w v x a p = subst (Appends w x) (sym a.split) (Appends-trans w v x a.front due a.written p)

-- ---- lines that are put behind a text, one by one

-- Of lines behind an old text those so far were put, and the rest are still to be put.
pub record IsPutting (old all rest due : List ℕ) (w v : Option (List ℕ)) : Type 0 where
  pub so_far : List ℕ
  pub split : old ++ all ≡ so_far ++ rest
  pub written : HasWritten so_far due w v

pub putting_none : (old all : List ℕ) (w : Option (List ℕ)) → IsPutting old all all old w w
putting_none old all w = record { so_far = old; split = refl; written = written_none old w }

pub putting_more : (old all lines rest due due' : List ℕ) (w v x : Option (List ℕ)) → IsPutting old all (lines ++ rest) due w v → HasWritten (due ++ lines) due' v x → IsPutting old all rest due' w x
putting_more old all lines rest due due' w v x p h = record {
  so_far = p.so_far ++ lines;
  split = p.split ∙ sym (append_assoc p.so_far lines rest);
  written = written_then p.so_far due lines due' w v x p.written h;
}

pub putting_done : (old all due : List ℕ) (w v : Option (List ℕ)) → IsPutting old all [] due w v → HasWritten (old ++ all) due w v
putting_done old all due w v p = subst (λ (l : List ℕ). HasWritten l due w v) (sym (p.split ∙ append-nil p.so_far)) p.written

-- what is told of some lines is told of them all
pub putting_cut : (fault : ListFault) (old all lines rest due due' due'' : List ℕ) (w v x : Option (List ℕ)) → IsPutting old all (lines ++ rest) due w v → PutsLines {T = Unit {0}} (Err fault) lines due due' v x
    → PutsLines {T = Unit {0}} (Err fault) all old due'' w x
putting_cut (NotStore part offset) old all lines rest due due' due'' w v x p h = absurd h
putting_cut DiskFault old all lines rest due due' due'' w v x p h = absurd h
putting_cut WriteFault old all lines rest due due' due'' w v x p h = subst (AppendsPrefix w x) (sym p.split) (written_cut p.so_far due lines rest w v x p.written h)
putting_cut NoMemory old all lines rest due due' due'' w v x p h = subst (AppendsPrefix w x) (sym p.split) (written_cut p.so_far due lines rest w v x p.written h)

behind : (old lines rest due : List ℕ) (w v x : Option (List ℕ)) → HasWritten (old ++ lines) due w v → AppendsPrefix v x (due ++ rest) → AppendsPrefix w x (old ++ (lines ++ rest))
behind old lines rest due w v x a p =
    subst (AppendsPrefix w x) (append_assoc old lines (rest ++ []) ∙ ap (λ (l : List ℕ). old ++ (lines ++ l)) (append-nil rest)) (written_cut (old ++ lines) due rest [] w v x a p)

-- some lines, and then what is told of more
pub puts_then : {T : Type 0} (result : Result T ListFault) (old lines rest due due' : List ℕ) (w v x : Option (List ℕ)) → HasWritten (old ++ lines) due w v → PutsLines result rest due due' v x → PutsLines result (lines ++ rest) old due' w x
puts_then (Ok done) old lines rest due due' w v x a p = subst (λ (l : List ℕ). HasWritten l due' w x) (append_assoc old lines rest) (written_then (old ++ lines) due rest due' w v x a p)
puts_then (Err (NotStore part offset)) old lines rest due due' w v x a p = p
puts_then (Err DiskFault) old lines rest due due' w v x a p = p
puts_then (Err WriteFault) old lines rest due due' w v x a p = behind old lines rest due w v x a p
puts_then (Err NoMemory) old lines rest due due' w v x a p = behind old lines rest due w v x a p

-- ---- a whole list

-- a fault at lines that come behind none before is that of the list
pub lists_cut : (fault : ListFault) (all due' : List ℕ) (w v : Option (List ℕ)) → PutsLines {T = Unit {0}} (Err fault) all [] due' w v → Lists {T = Unit {0}} (Err fault) all w v
lists_cut (NotStore part offset) all due' w v h = absurd h
lists_cut DiskFault all due' w v h = absurd h
lists_cut WriteFault all due' w v h = h
lists_cut NoMemory all due' w v h = h

-- the rest of a list, to its end
pub lists_rest : {T : Type 0} (result : Result T ListFault) (text due : List ℕ) (w v x : Option (List ℕ)) → HasWritten text due w v → Lists result due v x → Lists result text w x
lists_rest (Ok done) text due w v x a p = written_all text due w v x a p
lists_rest (Err (NotStore part offset)) text due w v x a p = p
lists_rest (Err DiskFault) text due w v x a p = written_rest text due w v x a p
lists_rest (Err WriteFault) text due w v x a p = written_rest text due w v x a p
lists_rest (Err NoMemory) text due w v x a p = written_rest text due w v x a p

-- ---- causes

pub risen_later : (old mid new : ℕ) → old ≤ mid → HasRisen mid new → HasRisen old new
risen_later old mid new le rose = let r : min (mid + 1) (2 ^ 64 - 1) ≤ new = rose in omega (arith, le, r)

-- ---- items

lines-suc : {A : Type 0} (f : A → List ℕ) (xs : List A) (i : ℕ) (x : A) → i < length xs → x ≡ get_or xs i x → flat_map f (drop i xs) ≡ f x ++ flat_map f (drop (suc i) xs)
lines-suc f [] i x lt is = absurd (omega (arith, lt))
lines-suc f (y ∷ xs) zero x lt is = ap (λ z. f z ++ flat_map f xs) (sym is)
lines-suc f (y ∷ xs) (suc i) x lt is = lines-suc f xs i x (omega (arith, lt)) is

-- the lines of the next item, and of those behind it
pub lines_next : {A : Type 0} (f : A → List ℕ) (xs : List A) (i : ℕ) (x : A) → i < length xs → x ≡ get_or xs i x → flat_map f (drop i xs) ≡ f x ++ flat_map f (drop (i + 1) xs)
lines_next f xs i x lt is = let one : suc i ≡ i + 1 = omega arith in lines-suc f xs i x lt is ∙ ap (λ (n : ℕ). f x ++ flat_map f (drop n xs)) one
