-- A text stays on one line where a function takes parts of it, changes letters, or puts another such text in.
use Rattle.std.proofs.Common.{◌≡◌, ℕ, zero, suc, ◌+◌, ◌-◌, ◌<◌, ◌^◌, Bool, true, false, List, [], ◌∷◌, ◌++◌, length, take, drop, map, Option, None, Some, Result, Ok, Err, refl, sym, ap, ◌∙◌, arith, ℤ, pos, negsuc, w64}
use Rattle.std.specs.Prelude.{IfOk, IsTrue, IsUtf8, ◌&&◌, ◌||◌, not, ◌==◌, ⊤, slice_range, FitsSigned}
use Rattle.std.specs.Char.{encode_utf8, to_ascii_lowercase, to_ascii_uppercase, digit_value}
use Rattle.std.specs.Fmt.{decimal, signed_decimal}
use Rattle.std.specs.List.{flat_map}
use Rattle.std.specs.Option.{option_map_or}
use Rattle.std.specs.Str.{chars, encode_utf8_all, is_utf8, IsTrim}
use Rattle.std.specs.Str.Parse.{AllDigits}
use Rattle.std.proofs.lemmas.Bool.Decides.{nat_tests}
use Rattle.std.proofs.lemmas.Fmt.{decimal_is_IsNumeral}
use Rattle.std.proofs.lemmas.Int.{ints}
use Rattle.std.proofs.lemmas.List.{take-append-drop}
use Rattle.std.proofs.lemmas.List.Folds.{list_any-append}
use Rattle.std.proofs.lemmas.Str.{encodes-chars, IsUtf8-from_is_utf8, is_utf8-from_IsUtf8}
use Rattle.kap_base.specs.Texts.{has_line_feed, is_line}
use Rattle.lambda_fns.specs.Numbers.{truth_text}
use Rattle.lambda_fns.specs.Texts.{first_place, text_of_pieces, pieces, pieces_behind, pieces_between, most, replaced}

-- no line feed stands in it
abbrev Clear : List ℕ → Type 0
Clear bytes = has_line_feed bytes ≡ false

first_of : (a b : Bool) → (not a && b) ≡ true → a ≡ false
first_of true b e = absurd cc
first_of false b e = refl

second_of : (a b : Bool) → (a && b) ≡ true → b ≡ true
second_of true b e = e
second_of false b e = absurd cc

pub line_clear : (s : List ℕ) → IsTrue (is_line s) → Clear s
line_clear s h = first_of (has_line_feed s) (is_utf8 s) h

line_utf8 : (s : List ℕ) → IsTrue (is_line s) → IsUtf8 s
line_utf8 s h = IsUtf8-from_is_utf8 s (second_of (not (has_line_feed s)) (is_utf8 s) h)

pub line_is : (s : List ℕ) → Clear s → IsUtf8 s → IsTrue (is_line s)
line_is s clear utf8 = rw (clear, is_utf8-from_IsUtf8 s utf8) refl

neither : (a b : Bool) → (a || b) ≡ false → (a ≡ false) × (b ≡ false)
neither true b e = absurd cc
neither false b e = (refl, e)

clear-append : (xs ys : List ℕ) → Clear xs → Clear ys → Clear (xs ++ ys)
clear-append xs ys hx hy = list_any-append (λ b. b == 10) xs ys ∙ rw (hx, hy) refl

clear_parts : (xs ys : List ℕ) → Clear (xs ++ ys) → Clear xs × Clear ys
clear_parts xs ys h = neither (has_line_feed xs) (has_line_feed ys) (sym (list_any-append (λ b. b == 10) xs ys) ∙ h)

clear-take : (i : ℕ) (s : List ℕ) → Clear s → Clear (take i s)
clear-take i s h = (clear_parts (take i s) (drop i s) (ap has_line_feed (take-append-drop i s) ∙ h)).0

clear-drop : (i : ℕ) (s : List ℕ) → Clear s → Clear (drop i s)
clear-drop i s h = (clear_parts (take i s) (drop i s) (ap has_line_feed (take-append-drop i s) ∙ h)).1

-- what is left between two ends that were taken off
pub trim_line : (s r : List ℕ) → IsTrim s r → IsUtf8 r → IsTrue (is_line s) → IsTrue (is_line r)
trim_line s r trim utf8 h = line_is r (rw trim.2 (clear-take trim.1 (drop trim.0 s) (clear-drop trim.0 s (line_clear s h)))) utf8

-- a part
pub range_line : (s r : List ℕ) (i j : ℕ) → r ≡ slice_range s i j → IsUtf8 r → IsTrue (is_line s) → IsTrue (is_line r)
range_line s r i j e utf8 h = line_is r (rw e (clear-take (j - i) (drop i s) (clear-drop i s (line_clear s h)))) utf8

other_lower : (c : ℕ) → (to_ascii_lowercase c == 10) ≡ (c == 10)
other_lower c = grind (arith, nat_tests)

other_upper : (c : ℕ) → (to_ascii_uppercase c == 10) ≡ (c == 10)
other_upper c = grind (arith, nat_tests)

clear-lower : (s : List ℕ) → has_line_feed (map to_ascii_lowercase s) ≡ has_line_feed s
clear-lower [] = refl
clear-lower (c ∷ cs) = rw (other_lower c, clear-lower cs) refl

clear-upper : (s : List ℕ) → has_line_feed (map to_ascii_uppercase s) ≡ has_line_feed s
clear-upper [] = refl
clear-upper (c ∷ cs) = rw (other_upper c, clear-upper cs) refl

pub lower_line : (s r : List ℕ) → r ≡ map to_ascii_lowercase s → IsUtf8 r → IsTrue (is_line s) → IsTrue (is_line r)
lower_line s r e utf8 h = line_is r (rw e (clear-lower s ∙ line_clear s h)) utf8

pub upper_line : (s r : List ℕ) → r ≡ map to_ascii_uppercase s → IsUtf8 r → IsTrue (is_line s) → IsTrue (is_line r)
upper_line s r e utf8 h = line_is r (rw e (clear-upper s ∙ line_clear s h)) utf8

-- ---- numbers

digit_clear : (c : ℕ) → digit_value c < 10 → (c == 10) ≡ false
digit_clear c h = grind (arith, nat_tests)

digits_clear : (ds : List ℕ) → AllDigits 10 ds → Clear ds
digits_clear [] all = refl
digits_clear (c ∷ cs) all = rw (digit_clear c all.0, digits_clear cs all.1) refl

decimal_clear : (n : ℕ) → n < 2 ^ 64 → Clear (decimal n)
decimal_clear n lt = digits_clear (decimal n) (decimal_is_IsNumeral n lt).0.1

-- ---- replacing

abbrev AllClear : List (List ℕ) → Type 0
AllClear [] = ⊤
AllClear (p ∷ ps) = Clear p × AllClear ps

clear_behind : (b : List ℕ) (ps : List (List ℕ)) → Clear b → AllClear ps → Clear (flat_map (λ q. b ++ q) ps)
clear_behind b [] hb h = refl
clear_behind b (p ∷ ps) hb h = clear-append (b ++ p) (flat_map (λ q. b ++ q) ps) (clear-append b p hb h.0) (clear_behind b ps hb h.1)

clear-text_of_pieces : (b : List ℕ) (ps : List (List ℕ)) → Clear b → AllClear ps → Clear (text_of_pieces b ps)
clear-text_of_pieces b [] hb h = refl
clear-text_of_pieces b (p ∷ ps) hb h = clear-append p (flat_map (λ q. b ++ q) ps) h.0 (clear_behind b ps hb h.1)

clear-pieces : (n : ℕ) (a s : List ℕ) → Clear s → AllClear (pieces n a s)
unfolding pieces
clear-pieces zero a s h = (h, tt)
clear-pieces (suc n) a s h = go (λ i. clear-pieces n a (drop (i + length a) s) (clear-drop (i + length a) s h)) (first_place a s)
  where
    go : ((i : ℕ) → AllClear (pieces n a (drop (i + length a) s))) → (o : Option ℕ) → AllClear (option_map_or (λ i. take i s ∷ pieces n a (drop (i + length a) s)) o (s ∷ []))
    go others None = (h, tt)
    go others (Some i) = (clear-take i s h, others i)

clear-pieces_behind : (n : ℕ) (cs : List ℕ) → Clear (encode_utf8_all cs) → AllClear (pieces_behind n cs)
unfolding pieces_behind
clear-pieces_behind zero cs h = (h, tt)
clear-pieces_behind (suc n) [] h = (refl, tt)
clear-pieces_behind (suc n) (c ∷ cs) h = let parts = clear_parts (encode_utf8 c) (encode_utf8_all cs) h in (parts.0, clear-pieces_behind n cs parts.1)

clear-pieces_between : (n : ℕ) (cs : List ℕ) → Clear (encode_utf8_all cs) → AllClear (pieces_between n cs)
clear-pieces_between zero cs h = (h, tt)
clear-pieces_between (suc n) cs h = (refl, clear-pieces_behind n cs h)

clear-replaced : (s a b : List ℕ) (n : ℤ) → IsUtf8 s → Clear s → Clear b → Clear (replaced s a b n)
clear-replaced s [] b n utf8 hs hb = clear-text_of_pieces b (pieces_between (most n s) (chars s)) hb (clear-pieces_between (most n s) (chars s) (rw (encodes-chars s utf8) hs))
clear-replaced s (x ∷ xs) b n utf8 hs hb = clear-text_of_pieces b (pieces (most n s) (x ∷ xs) s) hb (clear-pieces (most n s) (x ∷ xs) s hs)

pub replaced_line : (s a b r : List ℕ) (n : ℤ) → r ≡ replaced s a b n → IsUtf8 r → IsTrue (is_line s) → IsTrue (is_line b) → IsTrue (is_line r)
replaced_line s a b r n e utf8 hs hb = line_is r (rw e (clear-replaced s a b n (line_utf8 s hs) (line_clear s hs) (line_clear b hb))) utf8

pub decimal_line : (n : ℤ) (r : List ℕ) → r ≡ signed_decimal n → IsUtf8 r → FitsSigned w64 n → IsTrue (is_line r)
decimal_line (pos n) r e utf8 fits = line_is r (rw e (decimal_clear n (omega (arith, ints)))) utf8
decimal_line (negsuc n) r e utf8 fits = line_is r (rw e (decimal_clear (suc n) (omega (arith, ints)))) utf8

truth_clear : (b : Bool) → Clear (truth_text b)
truth_clear true = refl
truth_clear false = refl

pub truth_line : {E : Type 0} (b : Bool) (r : Result (List ℕ) E) → IfOk r (λ t. t ≡ truth_text b) → IfOk r (λ t. IsUtf8 t) → IfOk r (λ t. IsTrue (is_line t))
truth_line b (Ok t) e utf8 = line_is t (rw e (truth_clear b)) utf8
truth_line b (Err e) _ _ = tt
