-- A function gives a value of its type, or Range, of values of its types, and Kind of others.
use Rattle.std.proofs.Common.{◌≡◌, ℕ, Bool, true, false, cond, List, [], ◌∷◌, map, length, Option, None, Some, Ok, Err, refl}
use Rattle.std.specs.Prelude.{nat_le}
use Rattle.kap_base.specs.declared.fun.Fun.{Fun}
use Rattle.kap_base.specs.declared.fun.Fun.TheVariants as funs
use Rattle.kap_base.specs.declared.value.Value.{Value}
use Rattle.kap_base.specs.declared.value.Value.TheVariants.{Int as Number, Bool as Truth, Str}
use Rattle.lambda_fns.specs.declared.fault.EvalFault.TheVariants.{Kind, Range}
use Rattle.lambda_fns.specs.Calls.{in_range, within_limit, fun_value, int_value, bool_value, string_value, of_text, of_texts, replace_value, substring_value}
use Rattle.lambda_fns.specs.Numbers.{number_in, truth_in, truth_of}
use Rattle.lambda_fns.specs.Sorts.{Sort, number, truth, text, sort_of, is_one, is_text, are_texts, are_replacements, are_places, takes, fun_sort, IsTyped}
use Rattle.lambda_fns.specs.declared.replace.TheConstants.{TEXT_LIMIT}
use Rattle.lambda_fns.specs.Texts.{replaced, part_of}

ranged : {A : Type 0} (at : ℕ) (sort : Sort) (make : A → Value) → ((x : A) → sort_of (make x) ≡ sort) → (o : Option A) → IsTyped sort at (in_range at make o)
ranged at sort make typed None = refl
ranged at sort make typed (Some x) = typed x

limited : (at : ℕ) (t : List ℕ) → IsTyped text at (within_limit at t)
limited at t = go (nat_le (length t) TEXT_LIMIT)
  where
    go : (b : Bool) → IsTyped text at (cond b (Ok (Str t)) (Err (Range at)))
    go true = refl
    go false = refl

int_typed : (args : List Value) (at : ℕ) → is_one (map sort_of args) ≡ true → IsTyped number at (int_value at args)
int_typed (Number n ∷ []) at h = refl
int_typed (Truth b ∷ []) at h = refl
int_typed (Str s ∷ []) at h = ranged at number Number (λ _. refl) (number_in s)
int_typed _ at h = absurd cc

bool_typed : (args : List Value) (at : ℕ) → is_one (map sort_of args) ≡ true → IsTyped truth at (bool_value at args)
bool_typed (Number n ∷ []) at h = ranged at truth Truth (λ _. refl) (truth_of n)
bool_typed (Truth b ∷ []) at h = refl
bool_typed (Str s ∷ []) at h = ranged at truth Truth (λ _. refl) (truth_in s)
bool_typed _ at h = absurd cc

string_typed : (args : List Value) (at : ℕ) → is_one (map sort_of args) ≡ true → IsTyped text at (string_value at args)
string_typed (Number n ∷ []) at h = refl
string_typed (Truth b ∷ []) at h = refl
string_typed (Str s ∷ []) at h = refl
string_typed _ at h = absurd cc

text_typed : (f : List ℕ → Value) (sort : Sort) → ((s : List ℕ) → sort_of (f s) ≡ sort) → (args : List Value) (at : ℕ) → is_text (map sort_of args) ≡ true → IsTyped sort at (of_text f at args)
text_typed f sort typed (Str s ∷ []) at h = typed s
text_typed f sort typed _ at h = absurd cc

texts_typed : (f : List ℕ → List ℕ → Value) (sort : Sort) → ((s t : List ℕ) → sort_of (f s t) ≡ sort) → (args : List Value) (at : ℕ) → are_texts (map sort_of args) ≡ true → IsTyped sort at (of_texts f at args)
texts_typed f sort typed (Str s ∷ Str t ∷ []) at h = typed s t
texts_typed f sort typed _ at h = absurd cc

replace_typed : (args : List Value) (at : ℕ) → are_replacements (map sort_of args) ≡ true → IsTyped text at (replace_value at args)
replace_typed (Str s ∷ Str a ∷ Str b ∷ Number n ∷ []) at h = limited at (replaced s a b n)
replace_typed _ at h = absurd cc

substring_typed : (args : List Value) (at : ℕ) → are_places (map sort_of args) ≡ true → IsTyped text at (substring_value at args)
substring_typed (Str s ∷ Number i ∷ Number j ∷ []) at h = ranged at text Str (λ _. refl) (part_of s i j)
substring_typed _ at h = absurd cc

pub call_typed : (fun : Fun) (args : List Value) (at : ℕ) → takes fun (map sort_of args) ≡ true → IsTyped (fun_sort fun) at (fun_value fun args at)
call_typed funs.Int args at h = int_typed args at h
call_typed funs.Bool args at h = bool_typed args at h
call_typed funs.String args at h = string_typed args at h
call_typed funs.StrLength args at h = text_typed _ number (λ s. refl) args at h
call_typed funs.StrContains args at h = texts_typed _ truth (λ s t. refl) args at h
call_typed funs.StrHasPrefix args at h = texts_typed _ truth (λ s t. refl) args at h
call_typed funs.StrHasSuffix args at h = texts_typed _ truth (λ s t. refl) args at h
call_typed funs.StrIndex args at h = texts_typed _ number (λ s t. refl) args at h
call_typed funs.StrToLower args at h = text_typed _ text (λ s. refl) args at h
call_typed funs.StrToUpper args at h = text_typed _ text (λ s. refl) args at h
call_typed funs.StrTrimSpace args at h = text_typed _ text (λ s. refl) args at h
call_typed funs.StrReplace args at h = replace_typed args at h
call_typed funs.StrSubstring args at h = substring_typed args at h

int_kind : (args : List Value) (at : ℕ) → is_one (map sort_of args) ≡ false → int_value at args ≡ Err (Kind at)
int_kind (Number n ∷ []) at h = absurd cc
int_kind (Truth b ∷ []) at h = absurd cc
int_kind (Str s ∷ []) at h = absurd cc
int_kind _ at h = refl

bool_kind : (args : List Value) (at : ℕ) → is_one (map sort_of args) ≡ false → bool_value at args ≡ Err (Kind at)
bool_kind (Number n ∷ []) at h = absurd cc
bool_kind (Truth b ∷ []) at h = absurd cc
bool_kind (Str s ∷ []) at h = absurd cc
bool_kind _ at h = refl

string_kind : (args : List Value) (at : ℕ) → is_one (map sort_of args) ≡ false → string_value at args ≡ Err (Kind at)
string_kind (Number n ∷ []) at h = absurd cc
string_kind (Truth b ∷ []) at h = absurd cc
string_kind (Str s ∷ []) at h = absurd cc
string_kind _ at h = refl

text_kind : (f : List ℕ → Value) (args : List Value) (at : ℕ) → is_text (map sort_of args) ≡ false → of_text f at args ≡ Err (Kind at)
text_kind f (Str s ∷ []) at h = absurd cc
text_kind f _ at h = refl

texts_kind : (f : List ℕ → List ℕ → Value) (args : List Value) (at : ℕ) → are_texts (map sort_of args) ≡ false → of_texts f at args ≡ Err (Kind at)
texts_kind f (Str s ∷ Str t ∷ []) at h = absurd cc
texts_kind f _ at h = refl

replace_kind : (args : List Value) (at : ℕ) → are_replacements (map sort_of args) ≡ false → replace_value at args ≡ Err (Kind at)
replace_kind (Str s ∷ Str a ∷ Str b ∷ Number n ∷ []) at h = absurd cc
replace_kind _ at h = refl

substring_kind : (args : List Value) (at : ℕ) → are_places (map sort_of args) ≡ false → substring_value at args ≡ Err (Kind at)
substring_kind (Str s ∷ Number i ∷ Number j ∷ []) at h = absurd cc
substring_kind _ at h = refl

pub call_kind : (fun : Fun) (args : List Value) (at : ℕ) → takes fun (map sort_of args) ≡ false → fun_value fun args at ≡ Err (Kind at)
call_kind funs.Int args at h = int_kind args at h
call_kind funs.Bool args at h = bool_kind args at h
call_kind funs.String args at h = string_kind args at h
call_kind funs.StrLength args at h = text_kind _ args at h
call_kind funs.StrContains args at h = texts_kind _ args at h
call_kind funs.StrHasPrefix args at h = texts_kind _ args at h
call_kind funs.StrHasSuffix args at h = texts_kind _ args at h
call_kind funs.StrIndex args at h = texts_kind _ args at h
call_kind funs.StrToLower args at h = text_kind _ args at h
call_kind funs.StrToUpper args at h = text_kind _ args at h
call_kind funs.StrTrimSpace args at h = text_kind _ args at h
call_kind funs.StrReplace args at h = replace_kind args at h
call_kind funs.StrSubstring args at h = substring_kind args at h
