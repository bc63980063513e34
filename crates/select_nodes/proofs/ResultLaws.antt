-- What a result can be: its tags, its field and its name.
use Rattle.std.proofs.Common.{◌≡◌, ℕ, true, false, not, cond, ◌&&◌, ◌||◌, List, [], ◌∷◌, Result, Ok, Err, IfOk, IsUtf8, refl, sym, ap, ◌∙◌}
use Rattle.std.specs.Prelude.{IsTrue, nat_lt}
use Rattle.std.specs.FinMap.{empty, entries, insert, len}
use Rattle.std.specs.List.{list_all}
use Rattle.std.specs.Str.{is_utf8}
use Rattle.std.proofs.lemmas.Str.{is_utf8-from_IsUtf8}
use Rattle.kap_base.specs.Groups.{are_tag_values, is_tag_value}
use Rattle.kap_base.specs.Maps.{KeyMap, with_entries}
use Rattle.kap_base.specs.Points.{are_fields, is_value}
use Rattle.kap_base.specs.Texts.{has_line_feed, is_empty, is_line, is_name, is_plain}
use Rattle.kap_base.specs.declared.memory.NoMemory.{NoMemory}
use Rattle.kap_base.specs.declared.value.Value.{Value}
use Rattle.kap_base.proofs.EntryLaws.{all-entries, some_entry}
use Rattle.kap_base.proofs.TestLaws.{both, first_of, second_of}
use Rattle.task_graph.specs.declared.spec.Select.{Select}
use Rattle.task_graph.specs.declared.spec.Select.TheVariants.{Sum, Count, Min, Max, First, Last, Spread, Distinct, Top, Bottom}
use Rattle.select_nodes.specs.Results.{node_name, valued}

-- ---- one field

pub one_fits : (fields : KeyMap Value) (name : List ℕ) (v : Value) → fields ≡ insert empty name v → IsTrue (is_name name) → IsTrue (is_value v)
    → IsTrue (are_fields fields)
one_fits fields name v is named valued = rw is (all-entries is_name is_value ((name, v) ∷ [])
    (both (is_name name && is_value v) true (both (is_name name) (is_value v) named valued) refl))

pub one_is_some : (fields : KeyMap Value) (name : List ℕ) (v : Value) → fields ≡ insert empty name v → IsTrue (nat_lt 0 (len fields))
one_is_some fields name v is = rw is (some_entry (name, v) [])

-- ---- tags

name_of_value : (dim value : List ℕ) → is_empty value ≡ false → is_tag_value dim value ≡ true → (is_name dim && is_name value) ≡ true
name_of_value dim value some e = ap (λ b. b || (is_name dim && is_name value)) (sym some) ∙ e

valued_names : (dims values : List (List ℕ)) → are_tag_values dims values ≡ true → list_all (λ e. is_name e.0 && is_name e.1) (valued dims values) ≡ true
valued_names [] values e = refl
valued_names (d ∷ ds) [] e = refl
valued_names (d ∷ ds) (v ∷ vs) e =
    let here : is_tag_value d v ≡ true = first_of (is_tag_value d v) (are_tag_values ds vs) e in
    let rest = valued_names ds vs (second_of (is_tag_value d v) (are_tag_values ds vs) e) in
    elim (is_empty v) as (λ b. is_empty v ≡ b → list_all (λ e. is_name e.0 && is_name e.1) (cond (not b) ((d, v) ∷ valued ds vs) (valued ds vs)) ≡ true) [
      | true ↦ λ none. rest
      | false ↦ λ some. both (is_name d && is_name v) (list_all (λ e. is_name e.0 && is_name e.1) (valued ds vs)) (name_of_value d v some here) rest
    ] refl

pub tags_are_names : (dims values : List (List ℕ)) → IsTrue (are_tag_values dims values)
    → IsTrue (list_all (λ e. is_name e.0 && is_name e.1) (entries (with_entries empty (valued dims values))))
tags_are_names dims values h = all-entries is_name is_name (valued dims values) (valued_names dims values h)

-- ---- names of nodes

pub plain_names : (s : Select) → is_plain (node_name s) ≡ true
plain_names Sum = refl
plain_names Count = refl
plain_names Min = refl
plain_names Max = refl
plain_names First = refl
plain_names Last = refl
plain_names Spread = refl
plain_names Distinct = refl
plain_names (Top n) = refl
plain_names (Bottom n) = refl

-- ---- what a call gives

pub empty_line : (t : List ℕ) → t ≡ [] → IsUtf8 t → IsTrue (is_line t)
empty_line t none utf8 = both (not (has_line_feed t)) (is_utf8 t) (ap (λ (l : List ℕ). not (has_line_feed l)) none) (is_utf8-from_IsUtf8 t utf8)

pub tags_named : (r : Result (KeyMap (List ℕ)) NoMemory) (es : List (List ℕ × List ℕ)) (dims values : List (List ℕ))
    → IfOk r (λ m. m ≡ with_entries empty es) → es ≡ valued dims values → IsTrue (are_tag_values dims values)
    → IfOk r (λ m. IsTrue (list_all (λ e. is_name e.0 && is_name e.1) (entries m)))
tags_named (Err e) es dims values same are named = tt
tags_named (Ok m) es dims values same are named = rw (same, are) (tags_are_names dims values named)
