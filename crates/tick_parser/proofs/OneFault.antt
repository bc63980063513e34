-- Tokens are refused at one place, for one reason.
use Rattle.std.proofs.Common.{◌≡◌, ◌⊎◌, inl, inr, ℕ, List, [], ◌∷◌, ◌++◌, length, refl, sym, ap, ◌∙◌, subst, ⊎_elim}
use Rattle.std.specs.Prelude.{pos}
use Rattle.kap_base.specs.declared.expr.Lit.TheVariants.{Int}
use Rattle.tick_lexer.specs.declared.token.Kind.{Kind}
use Rattle.tick_lexer.specs.declared.token.Kind.TheVariants.{Ident, Literal, Operator, Not, OpenParen, CloseParen, Dot, Assign, Var}
use Rattle.tick_lexer.specs.declared.token.Token.{Token}
use Rattle.tick_parser.specs.declared.fault.Want.{Want}
use Rattle.tick_parser.specs.declared.fault.Want.TheVariants.{Statement, Name, Equal, Value, Open as WantOpen, Close as WantClose, Ref, Dot as WantDot, Operand}
use Rattle.tick_parser.specs.declared.fault.ParseFault.{ParseFault}
use Rattle.tick_parser.specs.declared.fault.ParseFault.TheVariants.{Expected, Deep, TooMany, NoMemory}
use Rattle.tick_parser.specs.Refusal.{Can, Only, IsIdent, IsReference, IsAssign, IsOpen, IsDot, IsWhole, Needs, IsOpening, IsStart, Ends, Stops, Lacks, Refused}
use Rattle.tick_parser.proofs.Viable.{sample}
use Rattle.tick_parser.proofs.Reading.{fills_begins}

-- two cuts of the same tokens
compare : (a b x y : List Token) (t u : Token) → a ++ t ∷ x ≡ b ++ u ∷ y → ((a ≡ b) × (t ≡ u)) ⊎ (((rest : List Token) × (b ≡ a ++ t ∷ rest)) ⊎ ((rest : List Token) × (a ≡ b ++ u ∷ rest)))
compare [] [] x y t u e = inl (refl, cc)
compare [] (v ∷ b) x y t u e = let same : t ≡ v = cc in inr (inl (b, ap (λ (z : Token). z ∷ b) (sym same)))
compare (v ∷ a) [] x y t u e = let same : v ≡ u = cc in inr (inr (a, ap (λ (z : Token). z ∷ a) same))
compare (v ∷ a) (z ∷ b) x y t u e =
    let same : v ≡ z = cc in
    let rest : a ++ t ∷ x ≡ b ++ u ∷ y = cc in
    ⊎_elim
    (λ (q : (a ≡ b) × (t ≡ u)). inl (let k = q.0 in cc, q.1))
    (λ (q : ((rest : List Token) × (b ≡ a ++ t ∷ rest)) ⊎ ((rest : List Token) × (a ≡ b ++ u ∷ rest))).
    ⊎_elim
    (λ (r : (rest : List Token) × (b ≡ a ++ t ∷ rest)). inr (inl (r.0, let k = r.1 in cc)))
    (λ (r : (rest : List Token) × (a ≡ b ++ u ∷ rest)). inr (inr (r.0, let k = r.1 in cc)))
    q)
    (compare a b x y t u rest)

-- behind a whole script another statement may begin
whole_var : (tokens : List Token) → IsWhole tokens → Can Var tokens
whole_var tokens h = fills_begins (length h.0) tokens (sample Var) tt (h.0, h.1, refl)

apart : (P Q : Kind → Type 0) (tokens : List Token) → ((kind : Kind) → P kind → Q kind → ⊥) → Only P tokens → Only Q tokens → ⊥
apart P Q tokens h x y = let one = x.0 in h one.0 one.1 (y.1 one.0 one.2)

ident_assign : (kind : Kind) → IsIdent kind → IsAssign kind → ⊥
ident_assign (Ident name) h k = k
ident_assign _ h k = h

ident_open : (kind : Kind) → IsIdent kind → IsOpen kind → ⊥
ident_open (Ident name) h k = k
ident_open _ h k = h

ident_dot : (kind : Kind) → IsIdent kind → IsDot kind → ⊥
ident_dot (Ident name) h k = k
ident_dot _ h k = h

ident_reference : (kind : Kind) → IsIdent kind → IsReference kind → ⊥
ident_reference (Ident name) h k = k
ident_reference _ h k = h

assign_open : (kind : Kind) → IsAssign kind → IsOpen kind → ⊥
assign_open Assign h k = k
assign_open _ h k = h

assign_dot : (kind : Kind) → IsAssign kind → IsDot kind → ⊥
assign_dot Assign h k = k
assign_dot _ h k = h

assign_reference : (kind : Kind) → IsAssign kind → IsReference kind → ⊥
assign_reference Assign h k = k
assign_reference _ h k = h

open_dot : (kind : Kind) → IsOpen kind → IsDot kind → ⊥
open_dot OpenParen h k = k
open_dot _ h k = h

open_reference : (kind : Kind) → IsOpen kind → IsReference kind → ⊥
open_reference OpenParen h k = k
open_reference _ h k = h

dot_reference : (kind : Kind) → IsDot kind → IsReference kind → ⊥
dot_reference Dot h k = k
dot_reference _ h k = h

-- the grammar needs one thing behind tokens
wants_same : (tokens : List Token) (a b : Want) → Needs a tokens → Needs b tokens → a ≡ b
wants_same tokens Name Name x y = refl
wants_same tokens Name Equal x y = absurd (apart IsIdent IsAssign tokens ident_assign x y)
wants_same tokens Name WantOpen x y = absurd (apart IsIdent IsOpen tokens ident_open x y)
wants_same tokens Name WantDot x y = absurd (apart IsIdent IsDot tokens ident_dot x y)
wants_same tokens Name Ref x y = absurd (apart IsIdent IsReference tokens ident_reference x y)
wants_same tokens Name Value x y = absurd (x.1 (Literal (Int (pos 0))) y.0)
wants_same tokens Name Operand x y = absurd (x.1 (Literal (Int (pos 0))) y.0)
wants_same tokens Name WantClose x y = absurd (x.1 CloseParen y.0)
wants_same tokens Name Statement x y = absurd (x.1 Var (whole_var tokens y))
wants_same tokens Equal Name x y = absurd (apart IsIdent IsAssign tokens ident_assign y x)
wants_same tokens Equal Equal x y = refl
wants_same tokens Equal WantOpen x y = absurd (apart IsAssign IsOpen tokens assign_open x y)
wants_same tokens Equal WantDot x y = absurd (apart IsAssign IsDot tokens assign_dot x y)
wants_same tokens Equal Ref x y = absurd (apart IsAssign IsReference tokens assign_reference x y)
wants_same tokens Equal Value x y = absurd (x.1 (Literal (Int (pos 0))) y.0)
wants_same tokens Equal Operand x y = absurd (x.1 (Literal (Int (pos 0))) y.0)
wants_same tokens Equal WantClose x y = absurd (x.1 CloseParen y.0)
wants_same tokens Equal Statement x y = absurd (x.1 Var (whole_var tokens y))
wants_same tokens WantOpen Name x y = absurd (apart IsIdent IsOpen tokens ident_open y x)
wants_same tokens WantOpen Equal x y = absurd (apart IsAssign IsOpen tokens assign_open y x)
wants_same tokens WantOpen WantOpen x y = refl
wants_same tokens WantOpen WantDot x y = absurd (apart IsOpen IsDot tokens open_dot x y)
wants_same tokens WantOpen Ref x y = absurd (apart IsOpen IsReference tokens open_reference x y)
wants_same tokens WantOpen Value x y = absurd (x.1 (Literal (Int (pos 0))) y.0)
wants_same tokens WantOpen Operand x y = absurd (x.1 (Literal (Int (pos 0))) y.0)
wants_same tokens WantOpen WantClose x y = absurd (x.1 CloseParen y.0)
wants_same tokens WantOpen Statement x y = absurd (x.1 Var (whole_var tokens y))
wants_same tokens WantDot Name x y = absurd (apart IsIdent IsDot tokens ident_dot y x)
wants_same tokens WantDot Equal x y = absurd (apart IsAssign IsDot tokens assign_dot y x)
wants_same tokens WantDot WantOpen x y = absurd (apart IsOpen IsDot tokens open_dot y x)
wants_same tokens WantDot WantDot x y = refl
wants_same tokens WantDot Ref x y = absurd (apart IsDot IsReference tokens dot_reference x y)
wants_same tokens WantDot Value x y = absurd (x.1 (Literal (Int (pos 0))) y.0)
wants_same tokens WantDot Operand x y = absurd (x.1 (Literal (Int (pos 0))) y.0)
wants_same tokens WantDot WantClose x y = absurd (x.1 CloseParen y.0)
wants_same tokens WantDot Statement x y = absurd (x.1 Var (whole_var tokens y))
wants_same tokens Ref Name x y = absurd (apart IsIdent IsReference tokens ident_reference y x)
wants_same tokens Ref Equal x y = absurd (apart IsAssign IsReference tokens assign_reference y x)
wants_same tokens Ref WantOpen x y = absurd (apart IsOpen IsReference tokens open_reference y x)
wants_same tokens Ref WantDot x y = absurd (apart IsDot IsReference tokens dot_reference y x)
wants_same tokens Ref Ref x y = refl
wants_same tokens Ref Value x y = absurd (x.1 (Literal (Int (pos 0))) y.0)
wants_same tokens Ref Operand x y = absurd (x.1 (Literal (Int (pos 0))) y.0)
wants_same tokens Ref WantClose x y = absurd (x.1 CloseParen y.0)
wants_same tokens Ref Statement x y = absurd (x.1 Var (whole_var tokens y))
wants_same tokens Value Name x y = absurd (y.1 (Literal (Int (pos 0))) x.0)
wants_same tokens Value Equal x y = absurd (y.1 (Literal (Int (pos 0))) x.0)
wants_same tokens Value WantOpen x y = absurd (y.1 (Literal (Int (pos 0))) x.0)
wants_same tokens Value WantDot x y = absurd (y.1 (Literal (Int (pos 0))) x.0)
wants_same tokens Value Ref x y = absurd (y.1 (Literal (Int (pos 0))) x.0)
wants_same tokens Value Value x y = refl
wants_same tokens Value Operand x y = absurd (x.1 y.1)
wants_same tokens Value WantClose x y = absurd (y.1 x.0)
wants_same tokens Value Statement x y = absurd (x.2 (whole_var tokens y))
wants_same tokens Operand Name x y = absurd (y.1 (Literal (Int (pos 0))) x.0)
wants_same tokens Operand Equal x y = absurd (y.1 (Literal (Int (pos 0))) x.0)
wants_same tokens Operand WantOpen x y = absurd (y.1 (Literal (Int (pos 0))) x.0)
wants_same tokens Operand WantDot x y = absurd (y.1 (Literal (Int (pos 0))) x.0)
wants_same tokens Operand Ref x y = absurd (y.1 (Literal (Int (pos 0))) x.0)
wants_same tokens Operand Value x y = absurd (y.1 x.1)
wants_same tokens Operand Operand x y = refl
wants_same tokens Operand WantClose x y = absurd (y.1 x.0)
wants_same tokens Operand Statement x y = absurd (x.2 (whole_var tokens y))
wants_same tokens WantClose Name x y = absurd (y.1 CloseParen x.0)
wants_same tokens WantClose Equal x y = absurd (y.1 CloseParen x.0)
wants_same tokens WantClose WantOpen x y = absurd (y.1 CloseParen x.0)
wants_same tokens WantClose WantDot x y = absurd (y.1 CloseParen x.0)
wants_same tokens WantClose Ref x y = absurd (y.1 CloseParen x.0)
wants_same tokens WantClose Value x y = absurd (x.1 y.0)
wants_same tokens WantClose Operand x y = absurd (x.1 y.0)
wants_same tokens WantClose WantClose x y = refl
wants_same tokens WantClose Statement x y = absurd (x.2 (whole_var tokens y))
wants_same tokens Statement Name x y = absurd (y.1 Var (whole_var tokens x))
wants_same tokens Statement Equal x y = absurd (y.1 Var (whole_var tokens x))
wants_same tokens Statement WantOpen x y = absurd (y.1 Var (whole_var tokens x))
wants_same tokens Statement WantDot x y = absurd (y.1 Var (whole_var tokens x))
wants_same tokens Statement Ref x y = absurd (y.1 Var (whole_var tokens x))
wants_same tokens Statement Value x y = absurd (y.2 (whole_var tokens x))
wants_same tokens Statement Operand x y = absurd (y.2 (whole_var tokens x))
wants_same tokens Statement WantClose x y = absurd (y.2 (whole_var tokens x))
wants_same tokens Statement Statement x y = refl

opening_start : (kind : Kind) → IsOpening kind → IsStart kind → ⊥
opening_start OpenParen h k = k
opening_start Not h k = k
opening_start (Operator op) h k = k
opening_start _ h k = h

ends_same : (d w m : ℕ) (before : List Token) (token : Token) (f g : ParseFault) → Ends d w m before token f → Ends d w m before token g → f ≡ g
ends_same d w m before token (Expected a at) (Expected b place) x y = let same = wants_same before a b x.2 y.2 in let p = x.0 in let q = y.0 in cc
ends_same d w m before token (Expected a at) (Deep place) x y = absurd (x.1 y.2)
ends_same d w m before token (Expected a at) (TooMany place) x y = absurd (x.1 y.2)
ends_same d w m before token (Expected a at) NoMemory x y = absurd y
ends_same d w m before token (Deep at) (Expected b place) x y = absurd (y.1 x.2)
ends_same d w m before token (Deep at) (Deep place) x y = let p = x.0 in let q = y.0 in cc
ends_same d w m before token (Deep at) (TooMany place) x y = absurd (opening_start token.kind x.1 y.1)
ends_same d w m before token (Deep at) NoMemory x y = absurd y
ends_same d w m before token (TooMany at) (Expected b place) x y = absurd (y.1 x.2)
ends_same d w m before token (TooMany at) (Deep place) x y = absurd (opening_start token.kind y.1 x.1)
ends_same d w m before token (TooMany at) (TooMany place) x y = let p = x.0 in let q = y.0 in cc
ends_same d w m before token (TooMany at) NoMemory x y = absurd y
ends_same d w m before token NoMemory g x y = absurd x

stops_same : (d w m : ℕ) (tokens : List Token) (f g : ParseFault) → Stops d w m tokens f → Stops d w m tokens g → f ≡ g
stops_same d w m tokens f g x y =
    let on_x = x.goes_on in
    let on_y = y.goes_on in
    ⊎_elim
    (λ (q : (x.before ≡ y.before) × (x.token ≡ y.token)).
    let one : Ends d w m y.before x.token f = subst (λ (l : List Token). Ends d w m l x.token f) q.0 x.ends in
    let two : Ends d w m y.before y.token f = subst (λ (t : Token). Ends d w m y.before t f) q.1 one in
    ends_same d w m y.before y.token f g two y.ends)
    (λ (q : ((rest : List Token) × (y.before ≡ x.before ++ x.token ∷ rest)) ⊎ ((rest : List Token) × (x.before ≡ y.before ++ y.token ∷ rest))).
    ⊎_elim
    (λ (r : (rest : List Token) × (y.before ≡ x.before ++ x.token ∷ rest)). absurd (on_y.1 x.before r.0 x.token f r.1 x.ends))
    (λ (r : (rest : List Token) × (x.before ≡ y.before ++ y.token ∷ rest)). absurd (on_x.1 y.before r.0 y.token g r.1 y.ends))
    q)
    (compare x.before y.before x.after y.after x.token y.token (sym x.joined ∙ y.joined))

stops_lacks : (d w m : ℕ) (tokens : List Token) (f g : ParseFault) → Stops d w m tokens f → Lacks d w m tokens g → ⊥
stops_lacks d w m tokens f (Expected want at) x y = let on = y.1 in on.1 x.before x.after x.token f x.joined x.ends
stops_lacks d w m tokens f _ x y = y

lacks_same : (d w m : ℕ) (tokens : List Token) (f g : ParseFault) → Lacks d w m tokens f → Lacks d w m tokens g → f ≡ g
lacks_same d w m tokens (Expected a at) (Expected b place) x y = let same = wants_same tokens a b x.3 y.3 in let p = x.0 in let q = y.0 in cc
lacks_same d w m tokens (Expected a at) _ x y = absurd y
lacks_same d w m tokens _ g x y = absurd x

pub one_fault : (d w m : ℕ) (tokens : List Token) (f g : ParseFault) → Refused d w m tokens f → Refused d w m tokens g → f ≡ g
one_fault d w m tokens f g (inl x) (inl y) = stops_same d w m tokens f g x y
one_fault d w m tokens f g (inl x) (inr y) = absurd (stops_lacks d w m tokens f g x y)
one_fault d w m tokens f g (inr x) (inl y) = absurd (stops_lacks d w m tokens g f y x)
one_fault d w m tokens f g (inr x) (inr y) = lacks_same d w m tokens f g x y
