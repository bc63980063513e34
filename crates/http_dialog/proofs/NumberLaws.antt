-- Calls by their number.
use Rattle.std.proofs.Common.{◌≡◌, ◌≢◌, ℕ, true, false, ◌==◌, List, [], ◌∷◌, ◌++◌, refl, sym, ap, ◌∙◌, arith, Option, Some, None, All, append_assoc, append-nil}
use Rattle.std.proofs.lemmas.Bool.Decides.{nat_tests}
use Rattle.std.proofs.lemmas.List.Elements.{All-nil, All-append, All-head, All-tail, filter-append}
use Rattle.kap_http.specs.Calls.{Call, AddsCalls}
use Rattle.http_dialog.specs.Dialogs.{IsOf}
use Rattle.http_dialog.specs.Numbers.{calls_of, AddsOf, AddsOnly}

abbrev pub Told : Type 0
Told = Option (List Call)

is_own : (number : ℕ) (c : Call) → c.number ≡ number → (c.number == number) ≡ true
is_own number c e = grind (arith, nat_tests)

is_other : (number : ℕ) (c : Call) → c.number ≢ number → (c.number == number) ≡ false
is_other number c e = grind (arith, nat_tests)

own_calls : (number : ℕ) (calls : List Call) → All (IsOf number) calls → calls_of number calls ≡ calls
own_calls number [] all = refl
own_calls number (c ∷ calls) all =
    rw (is_own number c (All-head (IsOf number) c calls all)) (ap (λ (cs : List Call). c ∷ cs) (own_calls number calls (All-tail (IsOf number) c calls all)))

other_calls : (number : ℕ) (calls : List Call) → All (λ c. c.number ≢ number) calls → calls_of number calls ≡ []
other_calls number [] all = refl
other_calls number (c ∷ calls) all =
    rw (is_other number c (All-head (λ (k : Call). k.number ≢ number) c calls all)) (other_calls number calls (All-tail (λ (k : Call). k.number ≢ number) c calls all))

pub adds_none : (number : ℕ) (a : Told) → AddsOf number a a []
adds_none number None = tt
adds_none number (Some xs) = sym (append-nil (calls_of number xs))

pub adds_own : (number : ℕ) (a b c : Told) (calls more : List Call) → AddsOf number a b calls → AddsCalls b c more → All (IsOf number) more → AddsOf number a c (calls ++ more)
adds_own number None b c calls more p q all = tt
adds_own number (Some xs) None c calls more p q all = absurd p
adds_own number (Some xs) (Some ys) None calls more p q all = absurd q
adds_own number (Some xs) (Some ys) (Some zs) calls more p q all =
    ap (λ (cs : List Call). calls_of number cs) q ∙ filter-append (λ (k : Call). k.number == number) ys more ∙ ap (λ (cs : List Call). calls_of number ys ++ cs) (own_calls number more all)
    ∙ ap (λ (cs : List Call). cs ++ more) p ∙ append_assoc (calls_of number xs) calls more

pub adds_others : (number : ℕ) (a b c : Told) (calls more : List Call) → AddsOf number a b calls → AddsCalls b c more → All (λ k. k.number ≢ number) more → AddsOf number a c calls
adds_others number None b c calls more p q all = tt
adds_others number (Some xs) None c calls more p q all = absurd p
adds_others number (Some xs) (Some ys) None calls more p q all = absurd q
adds_others number (Some xs) (Some ys) (Some zs) calls more p q all =
    ap (λ (cs : List Call). calls_of number cs) q ∙ filter-append (λ (k : Call). k.number == number) ys more ∙ ap (λ (cs : List Call). calls_of number ys ++ cs) (other_calls number more all)
    ∙ append-nil (calls_of number ys) ∙ p

-- ---- calls of one number alone

pub calls_none : (a : Told) → AddsCalls a a []
calls_none None = tt
calls_none (Some xs) = sym (append-nil xs)

calls_more : (a b c : Told) (x y : List Call) → AddsCalls a b x → AddsCalls b c y → AddsCalls a c (x ++ y)
calls_more None b c x y p q = tt
calls_more (Some xs) None c x y p q = absurd p
calls_more (Some xs) (Some ys) None x y p q = absurd q
calls_more (Some xs) (Some ys) (Some zs) x y p q = q ∙ ap (λ (s : List Call). s ++ y) p ∙ append_assoc xs x y

pub only_none : (number : ℕ) (a : Told) → AddsOnly number a a
only_none number a = ([], calls_none a, All-nil (IsOf number))

pub only_more : (number : ℕ) (a b c : Told) (calls : List Call) → AddsOnly number a b → AddsCalls b c calls → All (IsOf number) calls → AddsOnly number a c
only_more number a b c calls p q all = (p.0 ++ calls, calls_more a b c p.0 calls p.1 q, All-append (IsOf number) p.0 calls p.2 all)
