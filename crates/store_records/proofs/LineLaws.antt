-- Points of a database and policy, by their canonical lines.
use Rattle.std.proofs.Common.{◌≡◌, ℕ, Bool, true, false, not, ◌&&◌, List, [], ◌∷◌, length, refl, sym, ap, ◌∙◌, subst, arith}
use Rattle.std.proofs.lemmas.Bool.{eqb-true}
use Rattle.std.specs.Prelude.{◌==◌, Ok, bytes_eq}
use Rattle.std.specs.Str.{is_utf8}
use Rattle.std.specs.Cmp.Lexicographic.{bytes_decides}
use Rattle.kap_base.specs.Points.{PointValue}
use Rattle.kap_base.specs.Texts.{has_line_feed, is_line}
use Rattle.kap_base.proofs.TestLaws.{first_of, not_true, second_of}
use Rattle.line_points.specs.Line.{stored_of}
use Rattle.line_points.specs.Print.{Print, without_grouping}
use Rattle.line_points.specs.declared.mode.Mode.TheVariants.{Recording}
use Rattle.state_code.specs.Spelling.{FitsBytes}
use Rattle.store_records.specs.Lines.{FitsPoint, is_of}

none : (xs : List (List ℕ)) → (length xs == 0) ≡ true → xs ≡ []
none [] e = refl
none (x ∷ xs) e = let long : length (x ∷ xs) ≡ 0 = eqb-true _ _ e in absurd (omega arith)

module _ (db rp : List ℕ) (p : PointValue) (of : is_of db rp p ≡ true) where
  rest_of : (bytes_eq p.rp rp && (length p.dims == 0 && not p.by_name)) ≡ true
  rest_of = second_of (bytes_eq p.db db) _ of

  ungrouped : (length p.dims == 0 && not p.by_name) ≡ true
  ungrouped = second_of (bytes_eq p.rp rp) _ rest_of

  db_is : p.db ≡ db
  db_is = (bytes_decides p.db db).0 (first_of (bytes_eq p.db db) _ of)

  rp_is : p.rp ≡ rp
  rp_is = (bytes_decides p.rp rp).0 (first_of (bytes_eq p.rp rp) _ rest_of)

  dims_are : p.dims ≡ []
  dims_are = none p.dims (first_of (length p.dims == 0) (not p.by_name) ungrouped)

  by_name_is : p.by_name ≡ false
  by_name_is = not_true p.by_name (second_of (length p.dims == 0) (not p.by_name) ungrouped)

  same : without_grouping p ≡ p
  same = ap (λ (d : List (List ℕ)). let q : PointValue = record p { dims = d; by_name = false } in q) (sym dims_are)
      ∙ ap (λ (b : Bool). let q : PointValue = record p { dims = p.dims; by_name = b } in q) (sym by_name_is)

  -- the canonical line of such a point
  pub line_fits : (line : List ℕ) → line ≡ Print p → is_line line ≡ true → FitsBytes line → stored_of p.db p.rp Recording line ≡ Ok (without_grouping p) → FitsPoint db rp p
  line_fits line is one_line fits again = record {
    text = (subst FitsBytes is fits, subst (λ (x : List ℕ). is_utf8 x ≡ true) is (second_of (not (has_line_feed line)) (is_utf8 line) one_line));
    line = subst (λ (x : List ℕ). is_line x ≡ true) is one_line;
    reads =
        subst (λ (x : List ℕ). stored_of x rp Recording (Print p) ≡ Ok p) db_is
        (subst (λ (x : List ℕ). stored_of p.db x Recording (Print p) ≡ Ok p) rp_is
        (subst (λ (x : List ℕ). stored_of p.db p.rp Recording x ≡ Ok p) is (again ∙ ap (λ (q : PointValue). Ok q) same)));
  }
