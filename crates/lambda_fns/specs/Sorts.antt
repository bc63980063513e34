-- Of which types each function takes values, and of which it gives one.
use Rattle.std.specs.Prelude.{◌≡◌, ℕ, Bool, true, false, List, [], ◌∷◌, Result, MatchResult}
use Rattle.kap_base.specs.declared.fun.Fun.{Fun}
use Rattle.kap_base.specs.declared.fun.Fun.TheVariants as funs
use Rattle.kap_base.specs.declared.value.Value.{Value}
use Rattle.kap_base.specs.declared.value.Value.TheVariants.{Int as Number, Bool as Truth, Str}
use Rattle.lambda_fns.specs.declared.fault.EvalFault.{EvalFault}
use Rattle.lambda_fns.specs.declared.fault.EvalFault.TheVariants.{Range}

-- the types of values
pub data Sort : Type 0 where
  number : Sort
  truth : Sort
  text : Sort

-- the type of a value
abbrev pub sort_of : Value → Sort
sort_of (Number n) = number
sort_of (Truth b) = truth
sort_of (Str t) = text

-- one value of any type
abbrev pub is_one : List Sort → Bool
is_one (s ∷ []) = true
is_one _ = false

-- one text
abbrev pub is_text : List Sort → Bool
is_text (text ∷ []) = true
is_text _ = false

-- two texts
abbrev pub are_texts : List Sort → Bool
are_texts (text ∷ text ∷ []) = true
are_texts _ = false

-- a text, the text to replace, the text in its place, and how often
abbrev pub are_replacements : List Sort → Bool
are_replacements (text ∷ text ∷ text ∷ number ∷ []) = true
are_replacements _ = false

-- a text and two places
abbrev pub are_places : List Sort → Bool
are_places (text ∷ number ∷ number ∷ []) = true
are_places _ = false

-- the function takes values of these types
abbrev pub takes : Fun → List Sort → Bool
takes funs.Int sorts = is_one sorts
takes funs.Bool sorts = is_one sorts
takes funs.String sorts = is_one sorts
takes funs.StrLength sorts = is_text sorts
takes funs.StrContains sorts = are_texts sorts
takes funs.StrHasPrefix sorts = are_texts sorts
takes funs.StrHasSuffix sorts = are_texts sorts
takes funs.StrIndex sorts = are_texts sorts
takes funs.StrToLower sorts = is_text sorts
takes funs.StrToUpper sorts = is_text sorts
takes funs.StrTrimSpace sorts = is_text sorts
takes funs.StrReplace sorts = are_replacements sorts
takes funs.StrSubstring sorts = are_places sorts

-- and gives a value of this type
abbrev pub fun_sort : Fun → Sort
fun_sort funs.Int = number
fun_sort funs.Bool = truth
fun_sort funs.String = text
fun_sort funs.StrLength = number
fun_sort funs.StrContains = truth
fun_sort funs.StrHasPrefix = truth
fun_sort funs.StrHasSuffix = truth
fun_sort funs.StrIndex = number
fun_sort funs.StrToLower = text
fun_sort funs.StrToUpper = text
fun_sort funs.StrTrimSpace = text
fun_sort funs.StrReplace = text
fun_sort funs.StrSubstring = text

-- a value of this type, or Range
abbrev pub IsTyped : Sort → ℕ → Result Value EvalFault → Type 0
IsTyped sort at answer = MatchResult answer (λ v. sort_of v ≡ sort) (λ e. e ≡ Range at)
