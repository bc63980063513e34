-- What each function gives of values: a value, Range, or Kind where the values aren't of its types.
use Rattle.std.specs.Prelude.{ℕ, pos, if◌then◌else◌, nat_eq, nat_le, List, [], ◌∷◌, Option, Some, None, Result, Ok, Err, length, map, is_some}
use Rattle.std.specs.Char.{to_ascii_lowercase, to_ascii_uppercase}
use Rattle.std.specs.Fmt.{signed_decimal}
use Rattle.std.specs.List.{starts_with, ends_with}
use Rattle.kap_base.specs.declared.fun.Fun.{Fun}
use Rattle.kap_base.specs.declared.fun.Fun.TheVariants as funs
use Rattle.kap_base.specs.declared.value.Value.{Value}
use Rattle.kap_base.specs.declared.value.Value.TheVariants.{Int as Number, Bool as Truth, Str}
use Rattle.lambda_fns.specs.declared.fault.EvalFault.{EvalFault}
use Rattle.lambda_fns.specs.declared.fault.EvalFault.TheVariants.{Kind, Range}
use Rattle.lambda_fns.specs.declared.replace.TheConstants.{TEXT_LIMIT}
use Rattle.lambda_fns.specs.Texts.{first_place, index_of, replaced, trimmed, part_of}
use Rattle.lambda_fns.specs.Numbers.{number_in, truth_in, truth_of, truth_text}

-- a value, or Range where there is none
abbrev pub in_range : {A : Type 0} → ℕ → (A → Value) → Option A → Result Value EvalFault
in_range at make None = Err (Range at)
in_range at make (Some x) = Ok (make x)

-- a text that was made, or Range where it is longer than a text may be made
abbrev pub within_limit : ℕ → List ℕ → Result Value EvalFault
within_limit at text = if nat_le (length text) TEXT_LIMIT then Ok (Str text) else Err (Range at)

-- `int(x)`
abbrev pub int_value : ℕ → List Value → Result Value EvalFault
int_value at (Number n ∷ []) = Ok (Number n)
int_value at (Truth b ∷ []) = Ok (Number (if b then pos 1 else pos 0))
int_value at (Str s ∷ []) = in_range at Number (number_in s)
int_value at _ = Err (Kind at)

-- `bool(x)`
abbrev pub bool_value : ℕ → List Value → Result Value EvalFault
bool_value at (Number n ∷ []) = in_range at Truth (truth_of n)
bool_value at (Truth b ∷ []) = Ok (Truth b)
bool_value at (Str s ∷ []) = in_range at Truth (truth_in s)
bool_value at _ = Err (Kind at)

-- `string(x)`
abbrev pub string_value : ℕ → List Value → Result Value EvalFault
string_value at (Number n ∷ []) = Ok (Str (signed_decimal n))
string_value at (Truth b ∷ []) = Ok (Str (truth_text b))
string_value at (Str s ∷ []) = Ok (Str s)
string_value at _ = Err (Kind at)

-- a function of one text
abbrev pub of_text : (List ℕ → Value) → ℕ → List Value → Result Value EvalFault
of_text f at (Str s ∷ []) = Ok (f s)
of_text f at _ = Err (Kind at)

-- a function of two texts
abbrev pub of_texts : (List ℕ → List ℕ → Value) → ℕ → List Value → Result Value EvalFault
of_texts f at (Str s ∷ Str t ∷ []) = Ok (f s t)
of_texts f at _ = Err (Kind at)

-- `strReplace(s, a, b, n)`
abbrev pub replace_value : ℕ → List Value → Result Value EvalFault
replace_value at (Str s ∷ Str a ∷ Str b ∷ Number n ∷ []) = within_limit at (replaced s a b n)
replace_value at _ = Err (Kind at)

-- `strSubstring(s, i, j)`
abbrev pub substring_value : ℕ → List Value → Result Value EvalFault
substring_value at (Str s ∷ Number i ∷ Number j ∷ []) = in_range at Str (part_of s i j)
substring_value at _ = Err (Kind at)

-- each function, called at this place with these values
abbrev pub fun_value : Fun → List Value → ℕ → Result Value EvalFault
fun_value funs.Int args at = int_value at args
fun_value funs.Bool args at = bool_value at args
fun_value funs.String args at = string_value at args
fun_value funs.StrLength args at = of_text (λ s. Number (pos (length s))) at args
fun_value funs.StrContains args at = of_texts (λ s t. Truth (is_some (first_place t s))) at args
fun_value funs.StrHasPrefix args at = of_texts (λ s t. Truth (starts_with nat_eq s t)) at args
fun_value funs.StrHasSuffix args at = of_texts (λ s t. Truth (ends_with nat_eq s t)) at args
fun_value funs.StrIndex args at = of_texts (λ s t. Number (index_of s t)) at args
fun_value funs.StrToLower args at = of_text (λ s. Str (map to_ascii_lowercase s)) at args
fun_value funs.StrToUpper args at = of_text (λ s. Str (map to_ascii_uppercase s)) at args
fun_value funs.StrTrimSpace args at = of_text (λ s. Str (trimmed s)) at args
fun_value funs.StrReplace args at = replace_value at args
fun_value funs.StrSubstring args at = substring_value at args
