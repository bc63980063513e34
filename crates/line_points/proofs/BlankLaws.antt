-- Which lines are blank.
use Rattle.std.proofs.Common.{◌≡◌, ℕ, Bool, true, false, cond, ◌&&◌, Some, None, List, [], ◌∷◌, ◌++◌, length, Ok, Err, refl, sym, ap, subst, ◌∙◌, ltb}
use Rattle.std.specs.Prelude.{Result}
use Rattle.std.proofs.lemmas.Bool.{eqb-true}
use Rattle.std.proofs.lemmas.List.{append-nil}
use Rattle.kap_base.specs.Words.{◌>>=◌}
use Rattle.kap_base.specs.Texts.{number_sign}
use Rattle.kap_base.specs.Points.{PointValue}
use Rattle.line_points.specs.declared.line.TheConstants.{LINE_LIMIT}
use Rattle.line_points.specs.declared.fault.LineFault.{LineFault}
use Rattle.line_points.specs.declared.fault.LineFault.TheVariants as faults
use Rattle.line_points.specs.declared.mode.Mode.{Mode}
use Rattle.line_points.specs.declared.mode.Mode.TheVariants.{Live, Recording}
use Rattle.line_points.specs.Parts.{without_spaces}
use Rattle.line_points.specs.Line.{Blank, stored_of, line_of, is_live, is_blank}
use Rattle.line_points.specs.Grammar.{spaces, IsBlank, only_spaces, comment}
use Rattle.kap_base.proofs.TestLaws.{first_of, second_of}
use Rattle.line_points.proofs.SpaceLaws.{after_spaces, spaces_skipped, only_spaces as none_behind}

-- ---- blank lines

skipped : (a b : Bool) (r : Result PointValue LineFault) → cond a (Ok None) (cond b (Err faults.Long) (r >>= λ p. Ok (Some p))) ≡ Ok None → a ≡ true
skipped true b r e = refl
skipped false true r e = absurd cc
skipped false false (Ok p) e = absurd cc
skipped false false (Err f) e = absurd cc

live_blank : (mode : Mode) (line : List ℕ) (n : ℕ) (rest : List ℕ) → is_live mode ≡ true → line ≡ spaces n ++ rest → is_blank rest ≡ true → IsBlank mode line
live_blank Recording line n rest live is blank = absurd cc
live_blank (Live unit now) line n [] live is blank = subst (IsBlank (Live unit now)) (sym (is ∙ append-nil (spaces n))) (only_spaces unit now n)
live_blank (Live unit now) line n (b ∷ rest) live is blank =
    let same : b ≡ number_sign = eqb-true _ _ blank in
    subst (IsBlank (Live unit now)) (sym (is ∙ ap (λ (x : ℕ). spaces n ++ x ∷ rest) same)) (comment unit now n rest)

pub blank_is : (db rp line : List ℕ) (mode : Mode) → Blank db rp mode line → IsBlank mode line
unfolding line_of
blank_is db rp line mode e =
    let found = skipped (is_live mode && is_blank (without_spaces line)) (ltb LINE_LIMIT (length line)) (stored_of db rp mode line) e in
    let s = after_spaces line in
    live_blank mode line s.count (without_spaces line) (first_of (is_live mode) _ found) s.is (second_of (is_live mode) _ found)

pub is_blank_line : (db rp line : List ℕ) (mode : Mode) → IsBlank mode line → Blank db rp mode line
unfolding line_of
is_blank_line db rp _ _ (only_spaces unit now n) = rw (none_behind n) refl
is_blank_line db rp _ _ (comment unit now n rest) = rw (spaces_skipped n (number_sign ∷ rest) refl) refl
