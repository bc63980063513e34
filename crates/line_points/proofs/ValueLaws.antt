-- Values that are read are spelled so, and values that are spelled are read.
use Rattle.std.proofs.Common.{◌≡◌, ℕ, ◌+◌, Bool, true, false, not, cond, ◌&&◌, ◌||◌, Option, Some, None, List, [], ◌∷◌, ◌++◌, drop, Ok, Err, refl, sym, ap, subst, ◌∙◌, append_assoc, arith, eqb}
use Rattle.std.specs.Prelude.{codes, bytes_eq, option_and_then}
use Rattle.std.specs.Char.{is_ascii_digit}
use Rattle.std.specs.List.{list_all, list_any, AllByRecursion, before_first, position_or_len}
use Rattle.std.specs.Option.{option_map, option_map_or}
use Rattle.std.specs.Str.Parse.{digits_value}
use Rattle.std.proofs.lemmas.Bool.{eqb-true}
use Rattle.std.proofs.lemmas.Bool.Decides.{nat_tests}
use Rattle.std.proofs.lemmas.List.{take-append-drop}
use Rattle.std.proofs.lemmas.Option.{cond_some}
use Rattle.std.proofs.lemmas.Slice.Eq.{bytes_eq-Decides}
use Rattle.kap_base.specs.Texts.{begins_with}
use Rattle.kap_base.specs.declared.value.Value.{Value}
use Rattle.kap_base.specs.declared.value.Value.TheVariants as values
use Rattle.line_points.specs.declared.fault.LineFault.{LineFault}
use Rattle.line_points.specs.declared.fault.LineFault.TheVariants as faults
use Rattle.line_points.specs.declared.part.Part.TheVariants as parts
use Rattle.line_points.specs.Parts.{quote, begins, is_separator, text_at, is_at_separator}
use Rattle.line_points.specs.Numbers.{is_digits, is_minus, number_from, number_of, with_sign, fits, before_last_byte, true_words, false_words, is_true, is_false}
use Rattle.line_points.specs.Words.{int_value, other_value, word_value, is_float, is_unsigned}
use Rattle.line_points.specs.Line.{quoted_at, word_at, value_at}
use Rattle.line_points.specs.Grammar.{Spells, minus, SpellsValue, integer_word, true_word, false_word, quoted_text}
use Rattle.kap_base.proofs.TestLaws.{first_of, second_of, ok_is, bind_ok, guard_ok}
use Rattle.line_points.proofs.NumberLaws.{before_last_byte-last}
use Rattle.line_points.proofs.PlaceLaws.{drop_more, word_ends}
use Rattle.line_points.proofs.SpellLaws.{text_taken, spelling_again}
use Rattle.line_points.proofs.TagLaws.{begins_some, behind_first}

-- ---- numbers

-- the bytes are a minus, perhaps, and digits
pub record NumberIs (bytes : List ℕ) (number : Bool × ℕ) : Type 0 where
  pub digits : List ℕ
  pub is : bytes ≡ minus number.0 ++ digits
  pub all : is_digits digits ≡ true
  pub value : (number.0, digits_value 10 digits) ≡ number

number_from_is : (negative : Bool) (bytes digits : List ℕ) (number : Bool × ℕ) → bytes ≡ minus negative ++ digits → number_from negative digits ≡ Some number → NumberIs bytes number
number_from_is negative bytes digits number is e =
    let c = cond_some (is_digits digits) (negative, digits_value 10 digits) number e in
    let made : NumberIs bytes (negative, digits_value 10 digits) = record { digits = digits; is = is; all = c.0; value = refl } in
    subst (NumberIs bytes) c.1 made

pub number_taken : (bytes : List ℕ) (number : Bool × ℕ) → number_of bytes ≡ Some number → NumberIs bytes number
number_taken [] number e = number_from_is false [] [] number refl e
number_taken (b ∷ bs) number e =
    elim (is_minus b) as (λ m. is_minus b ≡ m → cond m (number_from true bs) (number_from false (b ∷ bs)) ≡ Some number → NumberIs (b ∷ bs) number) [
      | true ↦ λ m e. number_from_is true (b ∷ bs) bs number (let same : b ≡ 45 = eqb-true _ _ m in ap (λ (x : ℕ). x ∷ bs) same) e
      | false ↦ λ _ e. number_from_is false (b ∷ bs) (b ∷ bs) number refl e
    ] refl e

no_minus : (digits : List ℕ) → is_digits digits ≡ true → begins is_minus digits ≡ false
no_minus [] all = refl
no_minus (d ∷ digits) all = grind (arith, nat_tests)

pub number_again : (negative : Bool) (digits : List ℕ) → is_digits digits ≡ true → number_of (minus negative ++ digits) ≡ Some (negative, digits_value 10 digits)
number_again true digits all = rw all refl
number_again false digits all = rw (no_minus digits all, all) refl

-- ---- words

pub last_byte : (b : ℕ) (word front : List ℕ) → before_last_byte b word ≡ Some front → word ≡ front ++ b ∷ []
last_byte b [] front e = absurd cc
last_byte b (x ∷ []) front e =
    let c = cond_some (eqb x b) [] front e in
    let same : x ≡ b = eqb-true _ _ c.0 in
    rw (← c.1) (ap (λ (y : ℕ). y ∷ []) same)
last_byte b (x ∷ y ∷ word) front e = longer b x (y ∷ word) front (before_last_byte b (y ∷ word)) (λ f read. last_byte b (y ∷ word) f read) refl e
  where
    longer : (b x : ℕ) (word front : List ℕ) (o : Option (List ℕ)) → ((f : List ℕ) → before_last_byte b word ≡ Some f → word ≡ f ++ b ∷ []) → before_last_byte b word ≡ o → option_map (λ f. x ∷ f) o ≡ Some front → x ∷ word ≡ front ++ b ∷ []
    longer b x word front (Some f) more read e =
        let is : x ∷ f ≡ front = cc in
        ap (λ (w : List ℕ). x ∷ w) (more f read) ∙ ap (λ (w : List ℕ). w ++ b ∷ []) is
    longer b x word front None more read e = absurd cc

int_taken : (word front : List ℕ) (number : Bool × ℕ) (v : Value) → word ≡ front ++ 105 ∷ [] → number_of front ≡ Some number → int_value number ≡ Ok v → SpellsValue v word
int_taken word front number v word_is read e =
    let n = number_taken front number read in
    let g = guard_ok (fits number) faults.Field (values.Int (with_sign number)) v e in
    let fit : fits (number.0, digits_value 10 n.digits) ≡ true = ap fits n.value ∙ g.0 in
    let is : word ≡ minus number.0 ++ (n.digits ++ codes "i") = word_is ∙ ap (λ (x : List ℕ). x ++ 105 ∷ []) n.is ∙ append_assoc (minus number.0) n.digits (105 ∷ []) in
    let value : values.Int (with_sign (number.0, digits_value 10 n.digits)) ≡ v = ap (λ (x : Bool × ℕ). values.Int (with_sign x)) n.value ∙ g.1 in
    subst (SpellsValue v) (sym is) (subst (λ (x : Value). SpellsValue x (minus number.0 ++ (n.digits ++ codes "i"))) value (integer_word number.0 n.digits n.all fit))

other_taken : (word : List ℕ) (v : Value) → other_value word ≡ Ok v → SpellsValue v word
other_taken word v e = by_test word v (is_true word) (is_false word) (is_float word) (is_unsigned word) refl refl e
  where
    by_test : (word : List ℕ) (v : Value) (a b c d : Bool) → is_true word ≡ a → is_false word ≡ b → cond a (Ok (values.Bool true)) (cond b (Ok (values.Bool false)) (cond c (Err faults.FloatField) (cond d (Err faults.UnsignedField) (Err faults.Field)))) ≡ Ok v → SpellsValue v word
    by_test word v true b c d is_yes is_other e = subst (λ (x : Value). SpellsValue x word) (ok_is {E = LineFault} (values.Bool true) v e) (true_word word is_yes)
    by_test word v false true c d is_yes is_other e = subst (λ (x : Value). SpellsValue x word) (ok_is {E = LineFault} (values.Bool false) v e) (false_word word is_other)
    by_test word v false false true d is_yes is_other e = absurd cc
    by_test word v false false false true is_yes is_other e = absurd cc
    by_test word v false false false false is_yes is_other e = absurd cc

pub word_taken : (word : List ℕ) (v : Value) → word_value word ≡ Ok v → SpellsValue v word
word_taken word v e = by_front word v (before_last_byte 105 word) refl e
  where
    by_number : (word front : List ℕ) (v : Value) (o : Option (Bool × ℕ)) → word ≡ front ++ 105 ∷ [] → number_of front ≡ o → option_map_or int_value o (other_value word) ≡ Ok v → SpellsValue v word
    by_number word front v (Some number) is read e = int_taken word front number v is read e
    by_number word front v None is read e = other_taken word v e

    by_front : (word : List ℕ) (v : Value) (o : Option (List ℕ)) → before_last_byte 105 word ≡ o → option_map_or int_value (option_and_then number_of o) (other_value word) ≡ Ok v → SpellsValue v word
    by_front word v (Some front) read e = by_number word front v (number_of front) (last_byte 105 word front read) refl e
    by_front word v None read e = other_taken word v e

-- ---- a word and what stands behind it

abbrev pub no_separator : List ℕ → Bool
no_separator word = list_all (λ b. not (is_separator b)) word

pub next_word : (bytes : List ℕ) → is_at_separator (drop (position_or_len is_separator bytes) bytes) ≡ true
next_word [] = refl
next_word (b ∷ bs) =
    elim (is_separator b) as (λ s. is_separator b ≡ s → is_at_separator (drop (cond (not s) (1 + position_or_len is_separator bs) 0) (b ∷ bs)) ≡ true) [
      | true ↦ λ s. s
      | false ↦ λ _. ap is_at_separator (drop_more (position_or_len is_separator bs) b bs) ∙ next_word bs
    ] refl

pub place_end : (rest : List ℕ) → is_at_separator rest ≡ true → position_or_len is_separator rest ≡ 0
place_end [] next = refl
place_end (b ∷ bs) next = rw next refl

-- ---- what is read is spelled so

-- the bytes begin with a spelling of the value
pub record ValueTaken (bytes : List ℕ) (v : Value) (rest : List ℕ) : Type 0 where
  pub front : List ℕ
  pub is : bytes ≡ front ++ rest
  pub spells : SpellsValue v front
  pub next : is_at_separator rest ≡ true

quoted_taken : (bytes : List ℕ) (v : Value) (rest : List ℕ) → quoted_at bytes ≡ Ok (v, rest) → ValueTaken (quote ∷ bytes) v rest
unfolding quoted_at
quoted_taken bytes v rest e =
    let text = text_at parts.Quoted bytes in
    let g = guard_ok (begins_with quote text.1 && is_at_separator (drop 1 text.1)) faults.Field (values.Str text.0, drop 1 text.1) (v, rest) e in
    let found : begins_with quote text.1 ≡ true = first_of _ (is_at_separator (drop 1 text.1)) g.0 in
    let t = text_taken parts.Quoted bytes (begins_some quote text.1 found) in
    let made : ValueTaken (quote ∷ bytes) (values.Str text.0) (drop 1 text.1) = record {
      front = quote ∷ (t.spelling ++ quote ∷ []);
      is = ap (λ (x : List ℕ). quote ∷ x) (t.is ∙ ap (λ (x : List ℕ). t.spelling ++ x) (behind_first quote text.1 found) ∙ sym (append_assoc t.spelling (quote ∷ []) (drop 1 text.1)));
      spells = quoted_text text.0 t.spelling t.spells;
      next = second_of (begins_with quote text.1) _ g.0;
    } in
    subst (λ (x : Value × List ℕ). ValueTaken (quote ∷ bytes) x.0 x.1) g.1 made

unquoted_taken : (bytes : List ℕ) (v : Value) (rest : List ℕ) → word_at bytes ≡ Ok (v, rest) → ValueTaken bytes v rest
unfolding word_at
unquoted_taken bytes v rest e =
    let w = bind_ok (word_value (before_first is_separator bytes)) (λ x. Ok (x, drop (position_or_len is_separator bytes) bytes)) (v, rest) e in
    let made : ValueTaken bytes w.0 (drop (position_or_len is_separator bytes) bytes) = record {
      front = before_first is_separator bytes;
      is = sym (take-append-drop (position_or_len is_separator bytes) bytes);
      spells = word_taken (before_first is_separator bytes) w.0 w.1;
      next = next_word bytes;
    } in
    subst (λ (x : Value × List ℕ). ValueTaken bytes x.0 x.1) (ok_is {E = LineFault} (w.0, drop (position_or_len is_separator bytes) bytes) (v, rest) w.2) made

pub value_taken : (bytes : List ℕ) (v : Value) (rest : List ℕ) → value_at bytes ≡ Ok (v, rest) → ValueTaken bytes v rest
value_taken bytes v rest e =
    elim (begins_with quote bytes) as (λ b. begins_with quote bytes ≡ b → cond b (quoted_at (drop 1 bytes)) (word_at bytes) ≡ Ok (v, rest) → ValueTaken bytes v rest) [
      | true ↦ λ found e. subst (λ (x : List ℕ). ValueTaken x v rest) (sym (behind_first quote bytes found)) (quoted_taken (drop 1 bytes) v rest e)
      | false ↦ λ _ e. unquoted_taken bytes v rest e
    ] refl e

-- ---- what is spelled is read

-- a word of a value: no separator in it, and no quote at its front
record IsWord (v : Value) (word : List ℕ) : Type 0 where
  whole : no_separator word ≡ true
  plain : (rest : List ℕ) → is_at_separator rest ≡ true → begins_with quote (word ++ rest) ≡ false
  value : word_value word ≡ Ok v

word_again : (word rest : List ℕ) (v : Value) → IsWord v word → is_at_separator rest ≡ true → value_at (word ++ rest) ≡ Ok (v, rest)
unfolding word_at
word_again word rest v w next =
    let ends = word_ends is_separator word rest w.whole (place_end rest next) in
    rw (w.plain rest next, ends.before, ends.behind, w.value) refl

digits_whole : (digits : List ℕ) → list_all is_ascii_digit digits ≡ true → no_separator (digits ++ codes "i") ≡ true
digits_whole [] all = refl
digits_whole (d ∷ digits) all =
    let here : not (is_separator d) ≡ true = grind (arith, nat_tests) in
    rw here (digits_whole digits (second_of _ _ all))

int_whole : (negative : Bool) (digits : List ℕ) → is_digits digits ≡ true → no_separator (minus negative ++ (digits ++ codes "i")) ≡ true
int_whole true digits all = digits_whole digits (second_of _ _ all)
int_whole false digits all = digits_whole digits (second_of _ _ all)

int_plain : (negative : Bool) (digits rest : List ℕ) → is_digits digits ≡ true → begins_with quote ((minus negative ++ (digits ++ codes "i")) ++ rest) ≡ false
int_plain true digits rest all = refl
int_plain false [] rest all = refl
int_plain false (d ∷ digits) rest all = grind (arith, nat_tests)

int_read : (negative : Bool) (digits : List ℕ) → is_digits digits ≡ true → fits (negative, digits_value 10 digits) ≡ true → word_value (minus negative ++ (digits ++ codes "i")) ≡ Ok (values.Int (with_sign (negative, digits_value 10 digits)))
int_read negative digits all fit =
    ap word_value (sym (append_assoc (minus negative) digits (codes "i")))
    ∙ rw (before_last_byte-last 105 (minus negative ++ digits) 105, number_again negative digits all, fit) refl

same_bytes : (xs ys : List ℕ) → bytes_eq xs ys ≡ true → xs ≡ ys
same_bytes xs ys h = (bytes_eq-Decides xs ys).0 h

-- what holds of each of some words
pub one_of : (P : List ℕ → Type 0) (word : List ℕ) (words : List (List ℕ)) → list_any (bytes_eq word) words ≡ true → AllByRecursion P words → P word
one_of P word [] h all = absurd cc
one_of P word (w ∷ words) h all =
    elim (bytes_eq word w) as (λ b. bytes_eq word w ≡ b → (b || list_any (bytes_eq word) words) ≡ true → P word) [
      | true ↦ λ b _. subst P (sym (same_bytes word w b)) all.0
      | false ↦ λ _ h. one_of P word words h all.1
    ] refl h

true_read : (word : List ℕ) → is_true word ≡ true → IsWord (values.Bool true) word
true_read word h = one_of (IsWord (values.Bool true)) word true_words h
    (record { whole = refl; plain = λ _ _. refl; value = refl }, (record { whole = refl; plain = λ _ _. refl; value = refl }, (record { whole = refl; plain = λ _ _. refl; value = refl }, (record { whole = refl; plain = λ _ _. refl; value = refl }, (record { whole = refl; plain = λ _ _. refl; value = refl }, tt)))))

false_read : (word : List ℕ) → is_false word ≡ true → IsWord (values.Bool false) word
false_read word h = one_of (IsWord (values.Bool false)) word false_words h
    (record { whole = refl; plain = λ _ _. refl; value = refl }, (record { whole = refl; plain = λ _ _. refl; value = refl }, (record { whole = refl; plain = λ _ _. refl; value = refl }, (record { whole = refl; plain = λ _ _. refl; value = refl }, (record { whole = refl; plain = λ _ _. refl; value = refl }, tt)))))

quoted_again : (text bytes rest : List ℕ) → Spells parts.Quoted text bytes → is_at_separator rest ≡ true → quoted_at (bytes ++ (quote ∷ rest)) ≡ Ok (values.Str text, rest)
unfolding quoted_at
quoted_again text bytes rest spells next = rw (spelling_again spells (quote ∷ rest) refl, next) refl

pub value_again : {v : Value} {front : List ℕ} → SpellsValue v front → (rest : List ℕ) → is_at_separator rest ≡ true → value_at (front ++ rest) ≡ Ok (v, rest)
value_again (integer_word negative digits all fit) rest next =
    word_again (minus negative ++ (digits ++ codes "i")) rest _ (record { whole = int_whole negative digits all; plain = λ rest _. int_plain negative digits rest all; value = int_read negative digits all fit }) next
value_again (true_word word h) rest next = word_again word rest (values.Bool true) (true_read word h) next
value_again (false_word word h) rest next = word_again word rest (values.Bool false) (false_read word h) next
value_again (quoted_text text bytes spells) rest next =
    ap quoted_at (append_assoc bytes (quote ∷ []) rest) ∙ quoted_again text bytes rest spells next
