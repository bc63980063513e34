-- Tokens that a text has are spelled, and stand where they may; taken apart by the marks that they agree with.
use Rattle.std.proofs.Common.{◌≡◌, ℕ, Bool, List, [], ◌∷◌, ◌++◌, subst}
use Rattle.tick_lexer.specs.declared.token.Kind.{Kind}
use Rattle.tick_lexer.specs.declared.token.Token.{Token}
use Rattle.tick_lexer.specs.Spelling.{Spelled, IsAllowed, takes_pattern}
use Rattle.tick_lexer.specs.Script.{Whole, ContinuesWith}
use Rattle.tick_parser.specs.Grammar.{Mark, At, Free, Is, Agree}
use Rattle.tick_parser.proofs.Agreeing.{IsSingle, first, split}

-- each token is spelled somehow, and is a pattern only where one may stand
abbrev pub Spelt : Bool → List Token → Type 0
Spelt pattern [] = Unit {0}
Spelt pattern (t ∷ ts) = ((s : List ℕ) × Spelled t.kind s) × IsAllowed pattern t.kind × Spelt (takes_pattern t.kind) ts

pub all_spelt : (ts : List Token) (pattern : Bool) (at : ℕ) (text : List ℕ) → ContinuesWith ts Whole pattern at text → Spelt pattern ts
all_spelt [] pattern at text h = tt
all_spelt (t ∷ ts) pattern at text h =
    let next = h.1 in
    ((next.bytes, next.spelled), next.allowed, all_spelt ts (takes_pattern t.kind) t.«end» h.0 h.2)

pub record Cut (pattern : Bool) (a b : List Token) : Type 0 where
  pub flag : Bool
  pub front : Spelt pattern a
  pub back : Spelt flag b

pub cut : (a b : List Token) (pattern : Bool) → Spelt pattern (a ++ b) → Cut pattern a b
cut [] b pattern h = record { flag = pattern; front = tt; back = h }
cut (t ∷ a) b pattern h =
    let c = cut a b (takes_pattern t.kind) h.2 in
    record { flag = c.flag; front = (h.0, h.1, c.front); back = c.back }

-- the tokens of two lists of marks
pub record Parts (pattern : Bool) (a b : List Mark) : Type 0 where
  pub front : List Token
  pub back : List Token
  pub flag : Bool
  pub front_agrees : Agree front a
  pub front_spelt : Spelt pattern front
  pub back_agrees : Agree back b
  pub back_spelt : Spelt flag back

pub parts : (a b : List Mark) (ts : List Token) (pattern : Bool) → Agree ts (a ++ b) → Spelt pattern ts → Parts pattern a b
parts a b ts pattern h s =
    let p = split a b ts h in
    let c = cut p.front p.back pattern (subst (λ (l : List Token). Spelt pattern l) p.joined s) in
    record { front = p.front; back = p.back; flag = c.flag; front_agrees = p.front_agrees; front_spelt = c.front; back_agrees = p.back_agrees; back_spelt = c.back }

-- a token of this kind, and the tokens of marks behind it
pub record Leads (pattern : Bool) (kind : Kind) (ms : List Mark) : Type 0 where
  pub bytes : List ℕ
  pub rest : List Token
  pub spelled : Spelled kind bytes
  pub allowed : IsAllowed pattern kind
  pub agrees : Agree rest ms
  pub spelt : Spelt (takes_pattern kind) rest

lead : (kind : Kind) (m : Mark) (ms : List Mark) (ts : List Token) (pattern : Bool) → IsSingle m → ((t : Token) → Is (t ∷ []) m → t.kind ≡ kind) → Agree ts (m ∷ ms) → Spelt pattern ts → Leads pattern kind ms
lead kind m ms ts pattern single says h s =
    let f = first m ms ts single h in
    let token = f.token in
    let same : token.kind ≡ kind = says f.token f.is in
    let all = subst (λ (l : List Token). Spelt pattern l) f.joined s in
    let one = all.0 in
    record {
      bytes = one.0;
      rest = f.rest;
      spelled = subst (λ (k : Kind). Spelled k one.0) same one.1;
      allowed = subst (λ (k : Kind). IsAllowed pattern k) same all.1;
      agrees = f.rest_agrees;
      spelt = subst (λ (k : Kind). Spelt (takes_pattern k) f.rest) same all.2;
    }

pub lead_at : (kind : Kind) (place : ℕ) (ms : List Mark) (ts : List Token) (pattern : Bool) → Agree ts (At kind place ∷ ms) → Spelt pattern ts → Leads pattern kind ms
lead_at kind place ms ts pattern h s = lead kind (At kind place) ms ts pattern tt (λ t i. i.0) h s

pub lead_free : (kind : Kind) (ms : List Mark) (ts : List Token) (pattern : Bool) → Agree ts (Free kind ∷ ms) → Spelt pattern ts → Leads pattern kind ms
lead_free kind ms ts pattern h s = lead kind (Free kind) ms ts pattern tt (λ t i. i) h s
