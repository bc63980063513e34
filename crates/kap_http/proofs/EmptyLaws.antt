-- A whole head has an empty line behind a line feed.
use Rattle.std.proofs.Common.{◌≡◌, ℕ, zero, suc, ◌-◌, ◌==◌, Bool, true, false, ◌&&◌, ◌||◌, List, [], ◌∷◌, ◌++◌, take, drop, map, refl, sym, ap, ◌∙◌, append_assoc, arith}
use Rattle.httparse.specs.Grammar.{LineEnd, crlf, lf, print_end, print_blank, RequestHead, print_request, HasNoRequest}
use Rattle.httparse.proofs.GrammarLemmas.{cons-append}
use Rattle.kap_http.specs.Lines.{begins_empty, has_empty_line}
use Rattle.kap_http.proofs.CutLaws.{joined}
use Rattle.kap_http.proofs.RoomLaws.{head_is, first_line, field_line}

-- lines end in a line feed
abbrev front_of : List ℕ → List (List ℕ) → List ℕ
front_of w [] = w
front_of w (v ∷ ws) = w ++ 10 ∷ front_of v ws

joined_is : (w : List ℕ) (ws : List (List ℕ)) → joined (w ∷ ws) ≡ front_of w ws ++ 10 ∷ []
joined_is w [] = refl
joined_is w (v ∷ ws) = ap (λ (x : List ℕ). w ++ 10 ∷ x) (joined_is v ws) ∙ sym (append_assoc w (10 ∷ front_of v ws) (10 ∷ []))

found_here : (last : LineEnd) (rest : List ℕ) → has_empty_line (10 ∷ (print_end last ++ rest)) ≡ true
found_here crlf rest = refl
found_here lf rest = refl

found : (front : List ℕ) (last : LineEnd) (rest : List ℕ) → has_empty_line (front ++ 10 ∷ (print_end last ++ rest)) ≡ true
found [] last rest = found_here last rest
found (b ∷ front) last rest = rw (found front last rest) (either _)
  where
    either : (t : Bool) → (t || true) ≡ true
    either true = refl
    either false = refl

head_has : (h : RequestHead) (rest : List ℕ) → has_empty_line (print_request h ++ rest) ≡ true
head_has h rest =
    ap (λ (x : List ℕ). has_empty_line (x ++ rest)) (head_is h ∙ ap (λ (x : List ℕ). print_blank h.blank ++ (x ++ print_end h.last)) (joined_is (first_line h) (map field_line h.fields)))
    ∙ ap has_empty_line (regroup (print_blank h.blank) (front_of (first_line h) (map field_line h.fields)) (print_end h.last) rest)
    ∙ found (print_blank h.blank ++ front_of (first_line h) (map field_line h.fields)) h.last rest
  where
    regroup : (a b c d : List ℕ) → (a ++ ((b ++ 10 ∷ []) ++ c)) ++ d ≡ (a ++ b) ++ 10 ∷ (c ++ d)
    regroup a b c d = simp (append_assoc, cons-append)

pub no_head : (bytes : List ℕ) → has_empty_line bytes ≡ false → HasNoRequest bytes
no_head bytes none h rest reads =
    let there = ap has_empty_line reads.1 ∙ head_has h rest in
    absurd cc

-- an empty line is seen in two bytes
begins_seen : (n : ℕ) (bytes : List ℕ) → begins_empty (take (suc (suc n)) bytes) ≡ begins_empty bytes
begins_seen n [] = refl
begins_seen n (b ∷ []) = refl
begins_seen n (b ∷ c ∷ bytes) = refl

both_fail : (t v : Bool) → (t || v) ≡ false → (t ≡ false) × (v ≡ false)
both_fail true v e = absurd cc
both_fail false v e = (refl, e)

-- where none was seen, one stands in what is new and the two bytes before it, or nowhere
seen_none : (n : ℕ) (bytes : List ℕ) → has_empty_line (take (suc (suc n)) bytes) ≡ false → has_empty_line (drop n bytes) ≡ has_empty_line bytes
seen_none zero bytes none = refl
seen_none (suc n) [] none = refl
seen_none (suc n) (b ∷ bytes) none =
    let parts = both_fail (b == 10 && begins_empty (take (suc (suc n)) bytes)) (has_empty_line (take (suc (suc n)) bytes)) none in
    let here : (b == 10 && begins_empty bytes) ≡ false = rw (begins_seen n bytes) at parts.0 in
    rw here (seen_none n bytes parts.1)

pub line_behind : (bytes : List ℕ) (seen : ℕ) → has_empty_line (take seen bytes) ≡ false → has_empty_line (drop (seen - 2) bytes) ≡ has_empty_line bytes
line_behind bytes zero none = refl
line_behind bytes (suc zero) none = refl
line_behind bytes (suc (suc n)) none =
    let back : suc (suc n) - 2 ≡ n = omega arith in
    rw back (seen_none n bytes none)
