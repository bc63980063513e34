-- Bytes that are due, in two parts.
use Rattle.std.proofs.Common.{◌≡◌, ◌≢◌, ℕ, ◌+◌, ◌-◌, ◌<◌, ◌≤◌, false, List, [], ◌∷◌, ◌++◌, length, take, drop, refl, sym, ap, ◌∙◌, arith, inl, inr, append-nil, length-append}
use Rattle.std.proofs.lemmas.List.{drop-append-le, drop-drop, drop_all, length-drop}
use Rattle.std.proofs.Math.Seq.{take-append_seam, drop-append-add}
use Rattle.http_dialog.specs.declared.output.Tail.{Tail}
use Rattle.http_dialog.specs.declared.output.Tail.TheVariants as tails
use Rattle.http_dialog.specs.Outputs.{IsFree, has_tail, tail_bytes}

-- the first part is a front of both
pub front_of : (xs ys : List ℕ) → xs ≡ take (length xs) (xs ++ ys)
front_of xs ys = sym (take-append_seam xs ys)

pub front_within : (xs ys : List ℕ) → length xs ≤ length (xs ++ ys)
front_within xs ys = omega (arith, length-append xs ys)

-- where the first part has gone, the second one is left
pub second_left : (xs ys : List ℕ) (gone : ℕ) → length xs ≤ gone → drop gone xs ++ ys ≡ ys
second_left xs ys gone all = ap (λ (x : List ℕ). x ++ ys) (drop_all gone xs all)

take_all : (ys : List ℕ) → take (length ys) ys ≡ ys
take_all ys = ap (λ (x : List ℕ). take (length ys) x) (sym (append-nil ys)) ∙ take-append_seam ys []

pub front_first : (xs ys front : List ℕ) (gone : ℕ) → front ≡ drop gone xs → front ≡ take (length front) (drop gone xs ++ ys)
front_first xs ys front gone is = front_of front ys ∙ ap (λ (x : List ℕ). take (length front) (x ++ ys)) is

pub front_second : (xs ys front : List ℕ) (gone : ℕ) → length xs ≤ gone → front ≡ ys → front ≡ take (length front) (drop gone xs ++ ys)
front_second xs ys front gone all is =
    sym (take_all front) ∙ ap (λ (x : List ℕ). take (length front) x) (is ∙ sym (second_left xs ys gone all))

pub within_first : (xs ys front : List ℕ) (gone : ℕ) → front ≡ drop gone xs → length front ≤ length (drop gone xs ++ ys)
within_first xs ys front gone is =
    let same = ap (λ (x : List ℕ). length x) is in
    omega (arith, length-append (drop gone xs) ys)

pub within_second : (xs ys front : List ℕ) (gone : ℕ) → length xs ≤ gone → front ≡ ys → length front ≤ length (drop gone xs ++ ys)
within_second xs ys front gone all is =
    let same = ap (λ (x : List ℕ). length x) is in
    let long = ap (λ (x : List ℕ). length x) (second_left xs ys gone all) in
    omega arith

pub some_first : (xs front : List ℕ) (gone : ℕ) → gone < length xs → front ≡ drop gone xs → 0 < length front
some_first xs front gone less is =
    let same = ap (λ (x : List ℕ). length x) is in
    omega (arith, length-drop gone xs)

some_of : (ys : List ℕ) → ys ≢ [] → 0 < length ys
some_of [] ne = absurd (ne refl)
some_of (y ∷ ys) ne = omega arith

pub some_second : (xs ys front : List ℕ) (gone : ℕ) → length xs ≤ gone → front ≡ ys → drop gone xs ++ ys ≢ [] → 0 < length front
some_second xs ys front gone all is ne =
    some_of front (λ none. ne (second_left xs ys gone all ∙ sym is ∙ none))

-- bytes are due exactly where their front has some
pub none_due : (due front : List ℕ) → (due ≢ [] → 0 < length front) → front ≡ [] → due ≡ []
none_due [] front some none = refl
none_due (b ∷ due) front some none =
    let long = some (λ e. cc) in
    let short = ap (λ (x : List ℕ). length x) none in
    absurd (omega arith)

pub some_due : (due front : List ℕ) → length front ≤ length due → front ≢ [] → due ≢ []
some_due due front within some none =
    let short = ap (λ (x : List ℕ). length x) none in
    let long = some_of front some in
    omega arith

-- ---- bytes that went

-- a front of the first part
pub went_first : (xs ys : List ℕ) (gone count : ℕ) → gone + count ≤ length xs → drop (gone + count) xs ++ ys ≡ drop count (drop gone xs ++ ys)
went_first xs ys gone count within =
    let some : count ≤ length (drop gone xs) = omega (arith, length-drop gone xs) in
    sym (drop-append-le count (drop gone xs) ys some ∙ ap (λ (x : List ℕ). x ++ ys) (drop-drop count gone xs))

-- the first part and a front of the second one
pub went_second : (xs ys : List ℕ) (gone count tail_gone now : ℕ) → gone ≤ length xs → length xs - gone ≤ count → now ≡ tail_gone + (count - (length xs - gone))
    → drop (length xs) xs ++ drop now ys ≡ drop count (drop gone xs ++ drop tail_gone ys)
went_second xs ys gone count tail_gone now within all is =
    let rest = drop tail_gone ys in
    let more = count - (length xs - gone) in
    let count_is : count ≡ length (drop gone xs) + more = omega (arith, length-drop gone xs) in
    second_left xs (drop now ys) (length xs) (omega arith) ∙ ap (λ (n : ℕ). drop n ys) is ∙ sym (drop-drop more tail_gone ys)
    ∙ sym (drop-append-add (drop gone xs) rest more) ∙ ap (λ (n : ℕ). drop n (drop gone xs ++ rest)) (sym count_is)

pub tail_within : (xs ys : List ℕ) (gone count tail_gone : ℕ) → gone ≤ length xs → tail_gone ≤ length ys → count ≤ length (drop gone xs ++ drop tail_gone ys) → length xs - gone ≤ count
    → tail_gone + (count - (length xs - gone)) ≤ length ys
tail_within xs ys gone count tail_gone within tail_in most all =
    let both = length-append (drop gone xs) (drop tail_gone ys) in
    let one = length-drop gone xs in
    let other = length-drop tail_gone ys in
    omega arith

-- ---- bytes that are added

untailed : (tail : Tail) → has_tail tail ≡ false → tail_bytes tail ≡ []
untailed tails.Nothing e = refl
untailed (tails.Made bytes) e = absurd cc
untailed (tails.Lack last) e = absurd cc
untailed (tails.Fault fault) e = absurd cc

drop_none : (n : ℕ) (xs : List ℕ) → xs ≡ [] → drop n xs ≡ []
drop_none n xs none = drop_all n xs (let zero_long = ap (λ (x : List ℕ). length x) none in omega arith)

nothing_before : (xs ys : List ℕ) → xs ++ ys ≡ [] → xs ≡ []
nothing_before [] ys none = refl
nothing_before (x ∷ xs) ys none = absurd cc

-- where a reply may be added, the tail is put in the place of nothing
pub behind_free : (xs text : List ℕ) (gone tail_gone : ℕ) (tail : Tail)
    → IsFree (record { due = drop gone xs ++ drop tail_gone (tail_bytes tail); tailed = has_tail tail })
    → drop gone xs ++ drop 0 text ≡ (drop gone xs ++ drop tail_gone (tail_bytes tail)) ++ text
behind_free xs text gone tail_gone tail (inl none) =
    ap (λ (x : List ℕ). x ++ text) (nothing_before (drop gone xs) (drop tail_gone (tail_bytes tail)) none ∙ sym none)
behind_free xs text gone tail_gone tail (inr free) =
    let none = drop_none tail_gone (tail_bytes tail) (untailed tail free) in
    ap (λ (x : List ℕ). x ++ text) (sym (append-nil (drop gone xs)) ∙ ap (λ (y : List ℕ). drop gone xs ++ y) (sym none))

-- where nothing stands behind the joined replies, a text is joined to them
pub joined_free : (xs all text : List ℕ) (gone tail_gone : ℕ) (tail : Tail) → gone ≤ length xs → all ≡ xs ++ text → drop gone xs ++ drop tail_gone (tail_bytes tail) ≢ []
    → IsFree (record { due = drop gone xs ++ drop tail_gone (tail_bytes tail); tailed = has_tail tail })
    → drop gone all ++ drop tail_gone (tail_bytes tail) ≡ (drop gone xs ++ drop tail_gone (tail_bytes tail)) ++ text
joined_free xs all text gone tail_gone tail within is some (inl none) = absurd (some none)
joined_free xs all text gone tail_gone tail within is some (inr free) =
    let none = drop_none tail_gone (tail_bytes tail) (untailed tail free) in
    let whole : drop gone all ≡ drop gone xs ++ text = ap (λ (x : List ℕ). drop gone x) is ∙ drop-append-le gone xs text within in
    rw (none, whole, append-nil (drop gone xs ++ text), append-nil (drop gone xs)) refl

pub added_first : (text old : List ℕ) → old ≡ [] → text ++ [] ≡ old ++ text
added_first text old none = append-nil text ∙ ap (λ (x : List ℕ). x ++ text) (sym none)
