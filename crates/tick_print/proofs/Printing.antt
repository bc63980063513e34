-- The text of an expression is read as that expression, places aside.
use Rattle.std.proofs.Common.{◌≡◌, ◌⊎◌, inl, inr, ⊎_elim, ℕ, ◌+◌, ◌<◌, Bool, true, false, cond, eqb, ◌&&◌, List, [], ◌∷◌, ◌++◌, refl, sym, ap, ◌∙◌, subst, arith, codes}
use Rattle.std.proofs.lemmas.Bool.Decides.{nat_tests}
use Rattle.std.specs.Char.{digit_value}
use Rattle.std.specs.Str.Parse.{IsNumeral}
use Rattle.kap_base.specs.declared.expr.Lit.{Lit}
use Rattle.kap_base.specs.declared.expr.Lit.TheVariants.{Int, Dur, Str, Bool as Truth, Regex}
use Rattle.kap_base.specs.declared.expr.Op.{Op}
use Rattle.kap_base.specs.declared.expr.Op.TheVariants.{Or, And, Eq, Ne, Match, NoMatch, Lt, Le, Gt, Ge, Add, Sub, Mul, Div, Rem}
use Rattle.kap_base.specs.Tree.{Tree, LitTree, RefTree, NameTree, CallTree, GroupTree, NegTree, NotTree, BinTree, Trees, NoTrees, MoreTrees}
use Rattle.tick_lexer.specs.declared.token.Kind.TheVariants.{Ident, Literal, Reference, Operator, Not, OpenParen, CloseParen, Comma}
use Rattle.tick_lexer.specs.Bytes.{is_letter, is_digit, is_word, NotFirst, starts_micro}
use Rattle.tick_lexer.specs.Spelling.{IsName, IsDuration, unit_bytes, operator_bytes, Quoted, Tripled, Spelled, is_dot, is_colon, is_single_quote, is_equals, is_tilde, EndsToken, IsAllowed, takes_pattern}
use Rattle.tick_parser.specs.Grammar.{Fits, AllFit, level, Mark, At, Free, spell, spell_args, spell_rest}
use Rattle.tick_print.specs.Print.{in_quotes, lit_text, tree_text, args_text, further_text}
use Rattle.tick_print.specs.Places.{bare, bare_all}
use Rattle.tick_print.proofs.Printable.{CanPrint, CanPrintAll}
use Rattle.tick_print.proofs.Written.{Written, at_one, free_one, at_name, both, white}

-- what may stand behind a value: nothing, a space, `)`, a comma, a line feed
abbrev pub Follows : List ℕ → Type 0
Follows [] = Unit {0}
Follows (b ∷ bs) = (b ≡ 32) ⊎ ((b ≡ 41) ⊎ ((b ≡ 44) ⊎ (b ≡ 10)))

pub not_first : (p : ℕ → Bool) (rest : List ℕ) → p 32 ≡ false → p 41 ≡ false → p 44 ≡ false → p 10 ≡ false → Follows rest → NotFirst p rest
not_first p [] w x y z h = refl
not_first p (b ∷ rest) w x y z h =
    ⊎_elim
    (λ (q : b ≡ 32). ap p q ∙ w)
    (λ (q : (b ≡ 41) ⊎ ((b ≡ 44) ⊎ (b ≡ 10))).
    ⊎_elim
    (λ (r : b ≡ 41). ap p r ∙ x)
    (λ (r : (b ≡ 44) ⊎ (b ≡ 10)). ⊎_elim (λ (s : b ≡ 44). ap p s ∙ y) (λ (s : b ≡ 10). ap p s ∙ z) r)
    q)
    h

abbrev is_micro : ℕ → Bool
is_micro b = eqb b 194

no_micro : (rest : List ℕ) → NotFirst is_micro rest → starts_micro rest ≡ false
no_micro [] h = refl
no_micro (b ∷ []) h = refl
no_micro (b ∷ c ∷ rest) h = ap (λ (t : Bool). t && eqb c 181) h

pub lit_ends : (lit : Lit) (s rest : List ℕ) → Follows rest → EndsToken (Literal lit) s rest
lit_ends (Int n) s rest h = (not_first is_word rest refl refl refl refl h, not_first is_dot rest refl refl refl refl h, no_micro rest (not_first is_micro rest refl refl refl refl h))
lit_ends (Dur n) s rest h = not_first is_word rest refl refl refl refl h
lit_ends (Str text) s rest h = λ e. not_first is_single_quote rest refl refl refl refl h
lit_ends (Truth b) s rest h = not_first is_word rest refl refl refl refl h
lit_ends (Regex text) s rest h = tt

pub name_ends : (rest : List ℕ) → Follows rest → NotFirst is_word rest × NotFirst is_colon rest
name_ends rest h = (not_first is_word rest refl refl refl refl h, not_first is_colon rest refl refl refl refl h)

sign_ends : (op : Op) (s rest : List ℕ) → EndsToken (Operator op) s (32 ∷ rest)
sign_ends Or s rest = refl
sign_ends And s rest = refl
sign_ends Eq s rest = tt
sign_ends Ne s rest = tt
sign_ends Match s rest = tt
sign_ends NoMatch s rest = tt
sign_ends Lt s rest = refl
sign_ends Le s rest = tt
sign_ends Gt s rest = refl
sign_ends Ge s rest = tt
sign_ends Add s rest = tt
sign_ends Sub s rest = tt
sign_ends Mul s rest = tt
sign_ends Div s rest = refl
sign_ends Rem s rest = tt

sign_allowed : (op : Op) → IsAllowed false (Operator op)
sign_allowed Div = refl
sign_allowed _ = tt

-- the first byte is neither `=` nor `~`
abbrev Starts : List ℕ → Type 0
Starts [] = ⊥
Starts (b ∷ bs) = (is_equals b ≡ false) × (is_tilde b ≡ false)

starts_append : (a b : List ℕ) → Starts a → Starts (a ++ b)
starts_append [] b h = elim h [ ]
starts_append (x ∷ a) b h = h

letter_starts : (b : ℕ) → is_letter b ≡ true → (is_equals b ≡ false) × (is_tilde b ≡ false)
letter_starts b h = (grind (arith, nat_tests), grind (arith, nat_tests))

digit_starts : (b : ℕ) → is_digit b ≡ true → (is_equals b ≡ false) × (is_tilde b ≡ false)
digit_starts b h = (grind (arith, nat_tests), grind (arith, nat_tests))

passes : (b : ℕ) → digit_value b < 10 → is_digit b ≡ true
passes b h = grind arith

name_starts : (name : List ℕ) → IsName name → Starts name
name_starts [] h = elim h [ ]
name_starts (b ∷ bs) h = letter_starts b h.0

numeral_starts : (s : List ℕ) → IsNumeral 10 s → Starts s
numeral_starts [] h = let e = h.0 in absurd (omega arith)
numeral_starts (b ∷ bs) h = let all = h.1 in digit_starts b (passes b all.0)

duration_starts : (nanos : ℕ) (s : List ℕ) → IsDuration nanos s → Starts s
duration_starts nanos s h =
    let plain = h.plain in
    subst (λ (l : List ℕ). Starts l) (sym h.joined) (starts_append h.digits (unit_bytes h.unit) (numeral_starts h.digits plain.0))

truth_starts : (b : Bool) (s : List ℕ) → s ≡ cond b (codes "TRUE") (codes "FALSE") → Starts s
truth_starts true s h = subst (λ (l : List ℕ). Starts l) (sym h) (refl, refl)
truth_starts false s h = subst (λ (l : List ℕ). Starts l) (sym h) (refl, refl)

lit_starts : (lit : Lit) (s : List ℕ) → Spelled (Literal lit) s → Starts s
lit_starts (Int n) s h = let plain = h.0 in numeral_starts s plain.0
lit_starts (Dur n) s h = duration_starts h.0 s h.2
lit_starts (Str text) s h =
    ⊎_elim
    (λ (q : Quoted 39 text s). subst (λ (l : List ℕ). Starts l) (sym q.0) (refl, refl))
    (λ (q : Tripled text s). subst (λ (l : List ℕ). Starts l) (sym q.0) (refl, refl))
    h
lit_starts (Truth b) s h = truth_starts b s h
lit_starts (Regex text) s h = let q = h.0 in subst (λ (l : List ℕ). Starts l) (sym q.0) (refl, refl)

text_starts : (tree : Tree) (pattern : Bool) → CanPrint pattern tree → Starts (tree_text tree)
text_starts (LitTree lit at) pattern h = lit_starts lit (lit_text lit) h.0
text_starts (RefTree name at) pattern h = (refl, refl)
text_starts (NameTree name at) pattern h = name_starts name h.0
text_starts (CallTree name args at) pattern h = let n = h.0 in starts_append name (codes "(" ++ args_text args) (name_starts name n.0)
text_starts (GroupTree inner at) pattern h = (refl, refl)
text_starts (NegTree operand at) pattern h = (refl, refl)
text_starts (NotTree operand at) pattern h = (refl, refl)
text_starts (BinTree op left right at) pattern h = starts_append (tree_text left) (codes " " ++ (operator_bytes op ++ (codes " " ++ tree_text right))) (text_starts left pattern h.0)

no_second : (text : List ℕ) → Starts text → NotFirst is_equals text × NotFirst is_tilde text
no_second [] h = elim h [ ]
no_second (b ∷ bs) h = h

-- the text of an expression, before this rest
pub record Printed (tree : Tree) (pattern : Bool) (at : ℕ) (rest : List ℕ) : Type 0 where
  pub again : Tree
  pub same : bare again ≡ bare tree
  pub fits : (n : ℕ) → Fits n tree → Fits n again
  pub written : Written (tree_text tree) (spell again) pattern false at rest

-- the same of arguments, with marks and a text of theirs
pub record AllPrinted (args : Trees) (marks : Trees → List Mark) (text : List ℕ) (pattern : Bool) (at : ℕ) (rest : List ℕ) : Type 0 where
  pub again : Trees
  pub same : bare_all again ≡ bare_all args
  pub fits : AllFit args → AllFit again
  pub written : Written text (marks again) pattern false at rest

rest_follows : (args : Trees) (rest : List ℕ) → Follows (further_text args ++ rest)
rest_follows NoTrees rest = inr (inl refl)
rest_follows (MoreTrees one others) rest = inr (inr (inl refl))

mutual
  pub printed : (tree : Tree) (pattern : Bool) (at : ℕ) (rest : List ℕ) → CanPrint pattern tree → Follows rest → Printed tree pattern at rest
  printed (LitTree lit place) pattern at rest h f = record {
    again = LitTree lit at;
    same = refl;
    fits = λ n x. tt;
    written = at_one (Literal lit) (lit_text lit) rest pattern at h.0 (lit_ends lit (lit_text lit) rest f) h.1;
  }
  printed (RefTree name place) pattern at rest h f = record {
    again = RefTree name at;
    same = refl;
    fits = λ n x. tt;
    written = at_one (Reference name) (in_quotes 34 name) rest pattern at (refl, h) tt tt;
  }
  printed (NameTree name place) pattern at rest h f = record {
    again = NameTree name at;
    same = refl;
    fits = λ n x. tt;
    written = at_name name rest pattern at h (name_ends rest f);
  }
  printed (CallTree name args place) pattern at rest h f =
      let n = at_name name ((codes "(" ++ args_text args) ++ rest) pattern at h.0 (refl, refl) in
      let o = free_one OpenParen (codes "(") (args_text args ++ rest) false n.stop refl tt tt in
      let a = printed_args args o.stop rest h.1 in
      record {
        again = CallTree name a.again at;
        same = ap (λ (x : Trees). CallTree name x 0) a.same;
        fits = λ n x. a.fits x;
        written =
            both name (codes "(" ++ args_text args) (At (Ident name) at ∷ []) (Free OpenParen ∷ spell_args a.again) pattern false false at rest n
            (both (codes "(") (args_text args) (Free OpenParen ∷ []) (spell_args a.again) false true false n.stop rest o a.written);
      }
  printed (GroupTree inner place) pattern at rest h f =
      let o = at_one OpenParen (codes "(") ((tree_text inner ++ codes ")") ++ rest) pattern at refl tt tt in
      let i = printed inner true o.stop (codes ")" ++ rest) h (inr (inl refl)) in
      let w = i.written in
      let c = free_one CloseParen (codes ")") rest false w.stop refl tt tt in
      record {
        again = GroupTree i.again at;
        same = ap (λ (x : Tree). GroupTree x 0) i.same;
        fits = λ n x. i.fits 0 x;
        written =
            both (codes "(") (tree_text inner ++ codes ")") (At OpenParen at ∷ []) (spell i.again ++ Free CloseParen ∷ []) pattern true false at rest o
            (both (tree_text inner) (codes ")") (spell i.again) (Free CloseParen ∷ []) true false false o.stop rest w c);
      }
  printed (NegTree inner place) pattern at rest h f =
      let m = at_one (Operator Sub) (codes "-") (tree_text inner ++ rest) pattern at refl tt tt in
      let i = printed inner false m.stop rest h f in
      record {
        again = NegTree i.again at;
        same = ap (λ (x : Tree). NegTree x 0) i.same;
        fits = λ n x. i.fits 6 x;
        written = both (codes "-") (tree_text inner) (At (Operator Sub) at ∷ []) (spell i.again) pattern false false at rest m i.written;
      }
  printed (NotTree inner place) pattern at rest h f =
      let ends = no_second (tree_text inner ++ rest) (starts_append (tree_text inner) rest (text_starts inner false h)) in
      let m = at_one Not (codes "!") (tree_text inner ++ rest) pattern at refl ends tt in
      let i = printed inner false m.stop rest h f in
      record {
        again = NotTree i.again at;
        same = ap (λ (x : Tree). NotTree x 0) i.same;
        fits = λ n x. i.fits 6 x;
        written = both (codes "!") (tree_text inner) (At Not at ∷ []) (spell i.again) pattern false false at rest m i.written;
      }
  printed (BinTree op left right place) pattern at rest h f =
      let right_text = codes " " ++ tree_text right in
      let tail = operator_bytes op ++ right_text in
      let l = printed left pattern at ((codes " " ++ tail) ++ rest) h.0 (inl refl) in
      let w = l.written in
      let sign_at = w.stop + 1 in
      let t = at_one (Operator op) (operator_bytes op) (right_text ++ rest) false sign_at refl (sign_ends op (operator_bytes op) (tree_text right ++ rest)) (sign_allowed op) in
      let r = printed right (takes_pattern (Operator op)) (t.stop + 1) rest h.1 f in
      let behind = white 32 (tree_text right) (spell r.again) (takes_pattern (Operator op)) false t.stop rest refl r.written in
      let signed = both (operator_bytes op) right_text (At (Operator op) sign_at ∷ []) (spell r.again) false (takes_pattern (Operator op)) false sign_at rest t behind in
      record {
        again = BinTree op l.again r.again sign_at;
        same = ap (λ (x : Tree). BinTree op x (bare r.again) 0) l.same ∙ ap (λ (x : Tree). BinTree op (bare left) x 0) r.same;
        fits = λ n x. (x.0, l.fits (level op) x.1, r.fits (level op + 1) x.2);
        written =
            both (tree_text left) (codes " " ++ tail) (spell l.again) (At (Operator op) sign_at ∷ spell r.again) pattern false false at rest w
            (white 32 tail (At (Operator op) sign_at ∷ spell r.again) false false w.stop rest refl signed);
      }

  pub printed_args : (args : Trees) (at : ℕ) (rest : List ℕ) → CanPrintAll args → AllPrinted args spell_args (args_text args) true at rest
  printed_args NoTrees at rest h = record {
    again = NoTrees;
    same = refl;
    fits = λ x. tt;
    written = free_one CloseParen (codes ")") rest true at refl tt tt;
  }
  printed_args (MoreTrees one others) at rest h =
      let a = printed one true at (further_text others ++ rest) h.0 (rest_follows others rest) in
      let w = a.written in
      let b = printed_rest others w.stop rest h.1 in
      record {
        again = MoreTrees a.again b.again;
        same = ap (λ (x : Tree). MoreTrees x (bare_all b.again)) a.same ∙ ap (λ (x : Trees). MoreTrees (bare one) x) b.same;
        fits = λ x. (a.fits 0 x.0, b.fits x.1);
        written = both (tree_text one) (further_text others) (spell a.again) (spell_rest b.again) true false false at rest w b.written;
      }

  pub printed_rest : (args : Trees) (at : ℕ) (rest : List ℕ) → CanPrintAll args → AllPrinted args spell_rest (further_text args) false at rest
  printed_rest NoTrees at rest h = record {
    again = NoTrees;
    same = refl;
    fits = λ x. tt;
    written = free_one CloseParen (codes ")") rest false at refl tt tt;
  }
  printed_rest (MoreTrees one others) at rest h =
      let both_text = tree_text one ++ further_text others in
      let c = free_one Comma (codes ",") ((codes " " ++ both_text) ++ rest) false at refl tt tt in
      let a = printed one true (c.stop + 1) (further_text others ++ rest) h.0 (rest_follows others rest) in
      let w = a.written in
      let b = printed_rest others w.stop rest h.1 in
      let inner = both (tree_text one) (further_text others) (spell a.again) (spell_rest b.again) true false false (c.stop + 1) rest w b.written in
      record {
        again = MoreTrees a.again b.again;
        same = ap (λ (x : Tree). MoreTrees x (bare_all b.again)) a.same ∙ ap (λ (x : Trees). MoreTrees (bare one) x) b.same;
        fits = λ x. (a.fits 0 x.0, b.fits x.1);
        written =
            both (codes ",") (codes " " ++ both_text) (Free Comma ∷ []) (spell a.again ++ spell_rest b.again) false true false at rest c
            (white 32 both_text (spell a.again ++ spell_rest b.again) true false c.stop rest refl inner);
      }
