-- What is found at the front of a text: a token that stands there, or a fault that begins there.
use Rattle.std.proofs.Common.{◌≡◌, ℕ, Bool, List, subst}
use Rattle.tick_lexer.specs.declared.token.Kind.{Kind}
use Rattle.tick_lexer.specs.declared.token.LexFault.{LexFault}
use Rattle.tick_lexer.specs.Front.{Found, Took, Bad}
use Rattle.tick_lexer.specs.Script.{BeginsBadToken, place_of}
use Rattle.tick_lexer.proofs.Words.{Lexeme, lexeme_is}

-- this fault begins at this place
pub record Failure (pattern : Bool) (at : ℕ) (text : List ℕ) (fault : LexFault) : Type 0 where
  pub begins : BeginsBadToken pattern fault text
  pub place : place_of fault ≡ at

pub record Sound (pattern : Bool) (at : ℕ) (text : List ℕ) (found : Found) : Type 0 where
  pub took : (kind : Kind) (n : ℕ) → found ≡ Took kind n → Lexeme pattern kind n text
  pub bad : (fault : LexFault) → found ≡ Bad fault → Failure pattern at text fault

pub sound_took : (pattern : Bool) (at : ℕ) (text : List ℕ) (kind : Kind) (n : ℕ) → Lexeme pattern kind n text → Sound pattern at text (Took kind n)
sound_took pattern at text kind n l = record {
  took = λ k m h. lexeme_is pattern k m text kind n l h;
  bad = λ fault (h : Took kind n ≡ Bad fault). absurd (cc);
}

pub sound_bad : (pattern : Bool) (at : ℕ) (text : List ℕ) (fault : LexFault) → BeginsBadToken pattern fault text → place_of fault ≡ at → Sound pattern at text (Bad fault)
sound_bad pattern at text fault b p = record {
  took = λ k m (h : Bad fault ≡ Took k m). absurd (cc);
  bad = λ f (h : Bad fault ≡ Bad f).
      let same : fault ≡ f = cc in
      let P : LexFault → Type 0 = λ x. Failure pattern at text x in
      let it : P fault = record { begins = b; place = p } in
      subst P same it;
}
