-- What the functions on texts give. A text is a list of bytes that is UTF-8, and a place in it is a number of bytes.
use Rattle.std.specs.Prelude.{◌≡◌, ℕ, zero, suc, ◌+◌, ◌<◌, ◌≤◌, Bool, true, false, if◌then◌else◌, ◌||◌, ◌&&◌, ◌==◌, nat_le, nat_eq, List, [], ◌∷◌, ◌++◌, length, take, drop, Option, Some, None, option_map, ℤ, pos, negsuc, int_le, unsigned_abs, slice_range}
use Rattle.std.specs.Option.{option_map_or}
use Rattle.std.specs.Char.{encode_utf8}
use Rattle.std.specs.Str.{chars, encode_utf8_all, is_utf8}
use Rattle.std.specs.List.{flat_map, starts_with}
use Rattle.lambda_fns.specs.declared.replace.TheConstants.{TEXT_LIMIT}

-- the first place of a in s
unfoldable pub first_place : List ℕ → List ℕ → Option ℕ
first_place a [] = if starts_with nat_eq [] a then Some 0 else None
first_place a (c ∷ cs) = if starts_with nat_eq (c ∷ cs) a then Some 0 else option_map (λ i. i + 1) (first_place a cs)

-- a stands in s at i
abbrev pub stands_at : List ℕ → List ℕ → ℕ → Bool
stands_at a s i = starts_with nat_eq (drop i s) a

-- a stands in s at i, and at no place before
pub record IsFirst (a s : List ℕ) (i : ℕ) : Type 0 where
  pub within : i ≤ length s
  pub here : stands_at a s i ≡ true
  pub before : (k : ℕ) → k < i → stands_at a s k ≡ false

-- a stands nowhere in s
abbrev pub IsNowhere : List ℕ → List ℕ → Type 0
IsNowhere a s = (i : ℕ) → i ≤ length s → stands_at a s i ≡ false

-- `strIndex`: the first place of a in s, or -1 where there is none
abbrev pub index_of : List ℕ → List ℕ → ℤ
index_of s a = option_map_or (λ i. pos i) (first_place a s) (negsuc 0)

-- the first piece, and for each further one b and the piece
abbrev pub text_of_pieces : List ℕ → List (List ℕ) → List ℕ
text_of_pieces b [] = []
text_of_pieces b (p ∷ ps) = p ++ flat_map (λ q. b ++ q) ps

-- the last of the pieces, and nothing where there are none
abbrev pub last_piece : List (List ℕ) → List ℕ
last_piece [] = []
last_piece (p ∷ []) = p
last_piece (p ∷ q ∷ ps) = last_piece (q ∷ ps)

-- s, cut where a stands: at the first n places from the left, each behind the end of the one before
unfoldable pub pieces : ℕ → List ℕ → List ℕ → List (List ℕ)
pieces zero a s = s ∷ []
pieces (suc n) a s = option_map_or (λ i. take i s ∷ pieces n a (drop (i + length a) s)) (first_place a s) (s ∷ [])

-- characters, cut after each of the first n
unfoldable pub pieces_behind : ℕ → List ℕ → List (List ℕ)
pieces_behind zero cs = encode_utf8_all cs ∷ []
pieces_behind (suc n) [] = [] ∷ []
pieces_behind (suc n) (c ∷ cs) = encode_utf8 c ∷ pieces_behind n cs

-- characters, cut at the first n of these places: one at the start, and one after each character
abbrev pub pieces_between : ℕ → List ℕ → List (List ℕ)
pieces_between zero cs = encode_utf8_all cs ∷ []
pieces_between (suc n) cs = [] ∷ pieces_behind n cs

-- b, where a place is left
abbrev pub piece : ℕ → List ℕ → List ℕ
piece zero b = []
piece (suc n) b = b

-- how many places at most: all where the number is negative, and a text has no more places than bytes and one
abbrev pub most : ℤ → List ℕ → ℕ
most (pos n) s = n
most (negsuc n) s = length s + 1

-- `strReplace`: s, cut at the first n places of a, with b between the pieces. An empty a has a place at the start of s
-- and one after each of its characters.
abbrev pub replaced : List ℕ → List ℕ → List ℕ → ℤ → List ℕ
replaced s [] b n = text_of_pieces b (pieces_between (most n s) (chars s))
replaced s (a ∷ more) b n = text_of_pieces b (pieces (most n s) (a ∷ more) s)

-- a text of at most so many bytes is given, and a longer one is not
abbrev pub IsGiven : {T : Type 0} → (T → List ℕ) → List ℕ → Option T → Type 0
IsGiven bytes whole (Some text) = (bytes text ≡ whole) × (length whole ≤ TEXT_LIMIT)
IsGiven bytes whole None = TEXT_LIMIT < length whole

-- white space, by the number of the character
abbrev pub is_space : ℕ → Bool
is_space c =
    (nat_le 0x9 c && nat_le c 0xD) || c == 0x20 || c == 0x85 || c == 0xA0 || c == 0x1680
    || (nat_le 0x2000 c && nat_le c 0x200A)
    || c == 0x2028 || c == 0x2029 || c == 0x202F || c == 0x205F || c == 0x3000

-- characters without the white space at their start
abbrev pub past_spaces : List ℕ → List ℕ
past_spaces [] = []
past_spaces (c ∷ cs) = if is_space c then past_spaces cs else c ∷ cs

-- characters without the white space at their end
abbrev pub up_to_spaces : List ℕ → List ℕ
up_to_spaces [] = []
up_to_spaces (c ∷ cs) = if is_space c && length (up_to_spaces cs) == 0 then [] else c ∷ up_to_spaces cs

-- `strTrimSpace`: the text without white space at its start, and that without white space at its end
abbrev pub trimmed : List ℕ → List ℕ
trimmed s = encode_utf8_all (up_to_spaces (chars (encode_utf8_all (past_spaces (chars s)))))

-- the text may be cut at i: it isn't behind the end, and what follows it is a text
abbrev pub is_border : List ℕ → ℕ → Bool
is_border s i = nat_le i (length s) && is_utf8 (drop i s)

-- 0 <= i <= j <= length, at character borders
abbrev pub is_cut : List ℕ → ℤ → ℤ → Bool
is_cut s i j = int_le (pos 0) i && int_le i j && is_border s (unsigned_abs i) && is_border s (unsigned_abs j)

-- `strSubstring`: the bytes from i to before j, where the text may be cut there
abbrev pub part_of : List ℕ → ℤ → ℤ → Option (List ℕ)
part_of s i j = if is_cut s i j then Some (slice_range s (unsigned_abs i) (unsigned_abs j)) else None
