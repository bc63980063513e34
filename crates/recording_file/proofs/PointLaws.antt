-- What the lines of a group give.
use Rattle.std.proofs.Common.{◌≡◌, ℕ, ◌≤◌, Bool, true, false, cond, None, Some, Ok, Err, List, length, refl, sym, ap, ◌∙◌, subst, arith}
use Rattle.std.specs.Prelude.{Result, IsUtf8, OnOk, IfOk, IfErr}
use Rattle.std.specs.Str.{is_utf8}
use Rattle.std.proofs.lemmas.Bool.Decides.{nat_tests}
use Rattle.std.proofs.lemmas.Str.{IsUtf8-from_is_utf8, is_utf8-from_IsUtf8}
use Rattle.kap_base.specs.Words.{◌>>=◌}
use Rattle.kap_base.specs.Points.{PointValue}
use Rattle.line_points.specs.declared.fault.LineFault.{LineFault}
use Rattle.line_points.specs.declared.fault.LineFault.TheVariants as faults
use Rattle.line_points.specs.declared.mode.Mode.TheVariants.{Recording}
use Rattle.line_points.specs.Line.{stored_of, line_of}
use Rattle.recording_file.specs.Lines.{is_long}
use Rattle.recording_file.specs.Recording.{name_of_line}

named_by : (line : List ℕ) → length line ≤ 65536 → (b : Bool) → is_utf8 line ≡ b → name_of_line line ≡ cond b (Ok line) (Err faults.NotUtf8)
named_by line h b is =
    let short : is_long line ≡ false = grind (arith, nat_tests) in
    ap (λ t. cond t (Err faults.Long) (cond (is_utf8 line) (Ok line) (Err faults.NotUtf8))) short ∙ ap (λ t. cond t (Ok line) (Err faults.NotUtf8)) is

pub named_text : (line text : List ℕ) → length line ≤ 65536 → IsUtf8 text → text ≡ line → name_of_line line ≡ Ok text
named_text line text h utf8 is = named_by line h true (is_utf8-from_IsUtf8 line (subst IsUtf8 is utf8)) ∙ ap Ok (sym is)

pub named_not : (line : List ℕ) → length line ≤ 65536 → (IsUtf8 line → ⊥) → name_of_line line ≡ Err faults.NotUtf8
named_not line h no_text = elim (is_utf8 line) as (λ b. is_utf8 line ≡ b → name_of_line line ≡ Err faults.NotUtf8) [
  | true ↦ λ e. absurd (no_text (IsUtf8-from_is_utf8 line e))
  | false ↦ λ e. named_by line h false e
] refl

-- a line of a recording gives a point or a fault, and never nothing
never_blank : (b : Bool) (r : Result PointValue LineFault) → cond b (Err faults.Long) (r >>= λ p. Ok (Some p)) ≡ Ok None → ⊥
never_blank true r e = cc
never_blank false (Ok p) e = cc
never_blank false (Err f) e = cc

pub not_blank : (db rp line : List ℕ) → line_of db rp Recording line ≡ Ok None → ⊥
unfolding line_of
not_blank db rp line is = never_blank _ (stored_of db rp Recording line) is

pub ok_at : {T E : Type 0} (P : Type 0) (r : Result T E) (x : T) → OnOk r P → r ≡ Ok x → P
ok_at P r x h is = subst (λ s. OnOk s P) is h

pub value_at : {T E : Type 0} (P : T → Type 0) (r : Result T E) (x : T) → IfOk r P → r ≡ Ok x → P x
value_at P r x h is = subst (λ s. IfOk s P) is h

pub err_at : {T E : Type 0} (P : E → Type 0) (r : Result T E) (e : E) → IfErr r P → r ≡ Err e → P e
err_at P r e h is = subst (λ s. IfErr s P) is h

pub value_map : {T E : Type 0} (P Q : T → Type 0) (r : Result T E) → ((x : T) → P x → Q x) → IfOk r P → IfOk r Q
value_map P Q (Ok x) f h = f x h
value_map P Q (Err e) f h = tt

pub err_map : {T E : Type 0} (P Q : E → Type 0) (r : Result T E) → ((e : E) → P e → Q e) → IfErr r P → IfErr r Q
err_map P Q (Ok x) f h = tt
err_map P Q (Err e) f h = f e h
