-- Bytes break where no text goes on with them, and at one place.
use Rattle.std.proofs.Common.{◌≡◌, ℕ, zero, suc, ◌+◌, ◌-◌, ◌*◌, ◌<◌, ◌≤◌, true, false, nat_lt, List, [], ◌∷◌, ◌++◌, length, get_or, take, drop, slice_index, IsUtf8, refl, sym, ap, subst, ◌∙◌, arith, ◌⊎◌, inl, inr, ⊎_elim, append_assoc, append-nil, Option, None, Some, true≢false, encode_utf8, length-append, length-drop, take_all, take-append-drop, take-add, take-take, take_at, drop_at, unwrap_or}
use Rattle.std.specs.Int.{is_in_range}
use Rattle.std.specs.Str.{StartsWithNoChar, is_utf8}
use Rattle.std.specs.Str.Lossy.{valid_len_up_to, utf8_valid_len, utf8_error_len, error_len_after_one, error_len_after_two, second_byte_min, second_byte_max}
use Rattle.std.proofs.lemmas.Bool.{cases_lt, cases_eq, cond-true, cond_both, ltb-true, ltb-false}
use Rattle.std.proofs.lemmas.Bool.Decides.{nat_tests}
use Rattle.std.proofs.lemmas.Str.{IsUtf8-append, IsUtf8-nil, IsUtf8-encode, IsUtf8-from_is_utf8, is_utf8-from_IsUtf8, length-encode, len_utf8_bounds}
use Rattle.std.proofs.str.Lossy.{utf8_error_len_some}
use Rattle.std.proofs.str.Laws.{Follows}
use Rattle.std.proofs.str.Faults.{Ranged, no_char}
use Rattle.std.proofs.str.Valid.{of_one, of_two, of_three, of_four}
use Rattle.std.proofs.iter.FirstChar.{no_text, after_text}
use Rattle.kap_base.specs.Utf8.{BeginsText, BreaksAt, begun_len, broken_at}

-- the byte y may stand behind the first byte x
record Second (x y : ℕ) : Type 0 where
  pub follows : Follows y
  pub of_224 : x ≡ 224 → 160 ≤ y
  pub of_237 : x ≡ 237 → y < 160
  pub of_240 : x ≡ 240 → 144 ≤ y
  pub of_244 : x ≡ 244 → y < 144

in_second : (x y : ℕ) → is_in_range (second_byte_min x) (second_byte_max x) y ≡ true → Second x y
in_second x y e = record {
  follows = (grind (arith, nat_tests), grind (arith, nat_tests));
  of_224 = λ h. grind (arith, nat_tests);
  of_237 = λ h. grind (arith, nat_tests);
  of_240 = λ h. grind (arith, nat_tests);
  of_244 = λ h. grind (arith, nat_tests);
}

not_in_second : (x y : ℕ) → is_in_range (second_byte_min x) (second_byte_max x) y ≡ false → ¬ (Second x y)
not_in_second x y e s =
    let l = s.follows.0 in let h = s.follows.1 in let a = s.of_224 in let b = s.of_237 in let c = s.of_240 in let d = s.of_244 in
    grind (arith, nat_tests)

-- ---- bytes in their ranges are a text

text_of_1 : (x : ℕ) → x < 128 → IsUtf8 (x ∷ [])
text_of_1 x h = of_one (x ∷ []) 0 (omega arith) h

text_of_2 : (x y : ℕ) → 194 ≤ x → x < 224 → Follows y → IsUtf8 (x ∷ y ∷ [])
text_of_2 x y l u f = of_two (x ∷ y ∷ []) 0 (omega arith) (l, u) f

text_of_3 : (x y z : ℕ) → 224 ≤ x → x < 240 → Second x y → Follows z → IsUtf8 (x ∷ y ∷ z ∷ [])
text_of_3 x y z l u s f =
    let c = (x - 224) * 4096 + (y - 128) * 64 + (z - 128) in
    let g = s.follows in
    let least : 2048 ≤ c = ⊎_elim (λ h. omega (arith, s.of_224 h)) (λ h. omega arith) (cases_eq x 224) in
    let scalar : (c < 55296) ⊎ (57344 ≤ c) = ⊎_elim
    (λ h. inl (⊎_elim (λ e. omega (arith, s.of_237 e)) (λ e. omega arith) (cases_eq x 237)))
    (λ h. inr (omega arith))
    (cases_lt x 238) in
    of_three (x ∷ y ∷ z ∷ []) 0 (omega arith) (l, u) g f least scalar

text_of_4 : (x y z w : ℕ) → 240 ≤ x → x < 245 → Second x y → Follows z → Follows w → IsUtf8 (x ∷ y ∷ z ∷ w ∷ [])
text_of_4 x y z w l u s f g =
    let high = (x - 240) * 64 + (y - 128) in
    let h = s.follows in
    let least : 16 ≤ high = ⊎_elim (λ e. omega (arith, s.of_240 e)) (λ e. omega arith) (cases_eq x 240) in
    let most : high < 272 = ⊎_elim (λ e. omega (arith, s.of_244 e)) (λ e. omega arith) (cases_eq x 244) in
    of_four (x ∷ y ∷ z ∷ w ∷ []) 0 (omega arith) l h f g (least, most)

-- ---- a text goes on behind a first byte, a second and a third

second_of : (x : ℕ) → (y : ℕ) × Second x y
second_of x = ⊎_elim
    (λ e. (160, made 160 (omega arith, omega arith) (λ _. omega arith) (λ h. absurd (omega arith)) (λ h. omega arith) (λ h. absurd (omega arith))))
    (λ low. ⊎_elim
    (λ e. (144, made 144 (omega arith, omega arith) (λ h. absurd (omega arith)) (λ h. omega arith) (λ _. omega arith) (λ h. absurd (omega arith))))
    (λ high. (128, made 128 (omega arith, omega arith) (λ h. absurd (low h)) (λ h. omega arith) (λ h. absurd (high h)) (λ h. omega arith)))
    (cases_eq x 240))
    (cases_eq x 224)
  where
    made : (y : ℕ) → Follows y → (x ≡ 224 → 160 ≤ y) → (x ≡ 237 → y < 160) → (x ≡ 240 → 144 ≤ y) → (x ≡ 244 → y < 144) → Second x y
    made y f a b c d = record { follows = f; of_224 = a; of_237 = b; of_240 = c; of_244 = d }

begins_3 : (x y z : ℕ) → 224 ≤ x → x < 245 → Second x y → Follows z → BeginsText (x ∷ y ∷ z ∷ [])
begins_3 x y z l u s f = ⊎_elim
    (λ h. ([], text_of_3 x y z l h s f))
    (λ h. (128 ∷ [], text_of_4 x y z 128 h u s f (omega arith, omega arith)))
    (cases_lt x 240)

begins_2 : (x y : ℕ) → 194 ≤ x → x < 245 → Second x y → BeginsText (x ∷ y ∷ [])
begins_2 x y l u s = ⊎_elim
    (λ h. ([], text_of_2 x y l h s.follows))
    (λ h. let t = begins_3 x y 128 h u s (omega arith, omega arith) in (128 ∷ t.0, t.1))
    (cases_lt x 224)

begins_1 : (x : ℕ) → 194 ≤ x → x < 245 → BeginsText (x ∷ [])
begins_1 x l u = let s = second_of x in let t = begins_2 x s.0 l u s.1 in (s.0 ∷ t.0, t.1)

-- ---- the first bytes of a text are in their ranges

in_ranges : (text : List ℕ) → 0 < length text → IsUtf8 text → (Ranged (length text - 0) (get_or text 0 0) (get_or text 1 0) (get_or text 2 0) (get_or text 3 0) → ⊥) → ⊥
in_ranges text some u refuted = no_text text [] (subst StartsWithNoChar (sym (append-nil text)) (no_char text 0 refuted)) u some

first_is : (x : ℕ) → BeginsText (x ∷ []) → (x < 128 → ⊥) → (194 ≤ x → x < 245 → ⊥) → ⊥
first_is x t ascii lead = in_ranges (x ∷ t.0) (omega arith) t.1 (λ r. ⊎_elim ascii (λ l.
    let least = (r.second l).0 in
    ⊎_elim (λ u. lead least u) (λ u. let high = (r.fourth (omega arith)).2.1 in omega arith) (cases_lt x 245))
    (cases_lt x 128))

second_is : (x y : ℕ) → 194 ≤ x → BeginsText (x ∷ y ∷ []) → ¬ (Second x y) → ⊥
second_is x y l t refuted = in_ranges (x ∷ y ∷ t.0) (omega arith) t.1 (λ r.
    let f = (r.second (omega arith)).2 in
    refuted (record {
      follows = f;
      of_224 = λ e. let high = (r.in_three (omega arith) (omega arith)).0 in omega arith;
      of_237 = λ e. ⊎_elim (λ high. omega arith) (λ high. absurd (omega arith)) (r.in_three (omega arith) (omega arith)).1;
      of_240 = λ e. let high = (r.fourth (omega arith)).2.0 in omega arith;
      of_244 = λ e. let high = (r.fourth (omega arith)).2.1 in omega arith;
    }))

third_is : (x y z : ℕ) → 224 ≤ x → BeginsText (x ∷ y ∷ z ∷ []) → ¬ (Follows z) → ⊥
third_is x y z l t refuted = in_ranges (x ∷ y ∷ z ∷ t.0) (omega arith) t.1 (λ r. refuted (r.third l).1)

fourth_is : (x y z w : ℕ) → 240 ≤ x → BeginsText (x ∷ y ∷ z ∷ w ∷ []) → ¬ (Follows w) → ⊥
fourth_is x y z w l t refuted = in_ranges (x ∷ y ∷ z ∷ w ∷ t.0) (omega arith) t.1 (λ r. refuted (r.fourth l).1)

-- ---- where bytes that begin with no character break, by how many bytes could begin one

at_end : (bytes : List ℕ) → BeginsText bytes → BreaksAt bytes (length bytes)
at_end bytes t = record {
  within = omega arith;
  goes_on = (t.0, subst (λ l. IsUtf8 (l ++ t.0)) (sym (take_all (length bytes) bytes (omega arith))) t.1);
  breaks = λ h. absurd (omega arith);
}

breaks_0 : (bytes : List ℕ) → 0 < length bytes → StartsWithNoChar bytes → (194 ≤ slice_index bytes 0 → slice_index bytes 0 < 245 → ⊥) → BreaksAt bytes 0
breaks_0 [] some none lead = absurd (omega arith)
breaks_0 (x ∷ rest) some none lead = record {
  within = omega arith;
  goes_on = ([], IsUtf8-nil);
  breaks = λ _ t. first_is x t (λ h. no_text (x ∷ []) rest none (text_of_1 x h) (omega arith)) lead;
}

-- such bytes are longer than a character of two bytes, and of three, that would stand there
past_two : (x y : ℕ) (rest : List ℕ) → StartsWithNoChar (x ∷ y ∷ rest) → 194 ≤ x → Second x y → 224 ≤ x
past_two x y rest none l s = ⊎_elim (λ h. absurd (no_text (x ∷ y ∷ []) rest none (text_of_2 x y l h s.follows) (omega arith))) (λ h. h) (cases_lt x 224)

past_three : (x y z : ℕ) (rest : List ℕ) → StartsWithNoChar (x ∷ y ∷ z ∷ rest) → 224 ≤ x → Second x y → Follows z → 240 ≤ x
past_three x y z rest none l s f = ⊎_elim (λ h. absurd (no_text (x ∷ y ∷ z ∷ []) rest none (text_of_3 x y z l h s f) (omega arith))) (λ h. h) (cases_lt x 240)

breaks_1 : (bytes : List ℕ) → 2 ≤ length bytes → 194 ≤ slice_index bytes 0 → slice_index bytes 0 < 245 → ¬ (Second (slice_index bytes 0) (slice_index bytes 1)) → BreaksAt bytes 1
breaks_1 [] long l u s = absurd (omega arith)
breaks_1 (x ∷ []) long l u s = absurd (omega arith)
breaks_1 (x ∷ y ∷ rest) long l u s = record {
  within = omega arith;
  goes_on = begins_1 x l u;
  breaks = λ _ t. second_is x y l t s;
}

breaks_2 : (bytes : List ℕ) → 3 ≤ length bytes → StartsWithNoChar bytes → 194 ≤ slice_index bytes 0 → slice_index bytes 0 < 245
    → Second (slice_index bytes 0) (slice_index bytes 1) → ¬ (Follows (slice_index bytes 2)) → BreaksAt bytes 2
breaks_2 [] long none l u s f = absurd (omega arith)
breaks_2 (x ∷ []) long none l u s f = absurd (omega arith)
breaks_2 (x ∷ y ∷ []) long none l u s f = absurd (omega arith)
breaks_2 (x ∷ y ∷ z ∷ rest) long none l u s f = record {
  within = omega arith;
  goes_on = begins_2 x y l u s;
  breaks = λ _ t. third_is x y z (past_two x y (z ∷ rest) none l s) t f;
}

breaks_3 : (bytes : List ℕ) → 4 ≤ length bytes → StartsWithNoChar bytes → 194 ≤ slice_index bytes 0 → slice_index bytes 0 < 245
    → Second (slice_index bytes 0) (slice_index bytes 1) → Follows (slice_index bytes 2) → BreaksAt bytes 3
breaks_3 [] long none l u s f = absurd (omega arith)
breaks_3 (x ∷ []) long none l u s f = absurd (omega arith)
breaks_3 (x ∷ y ∷ []) long none l u s f = absurd (omega arith)
breaks_3 (x ∷ y ∷ z ∷ []) long none l u s f = absurd (omega arith)
breaks_3 (x ∷ y ∷ z ∷ w ∷ rest) long none l u s f =
    let two = past_two x y (z ∷ w ∷ rest) none l s in
    let three = past_three x y z (w ∷ rest) none two s f in
    record {
      within = omega arith;
      goes_on = begins_3 x y z two u s f;
      breaks = λ _ t. fourth_is x y z w three t (λ g. no_text (x ∷ y ∷ z ∷ w ∷ []) rest none (text_of_4 x y z w three u s f g) (omega arith));
    }

end_1 : (bytes : List ℕ) → 0 < length bytes → length bytes < 2 → 194 ≤ slice_index bytes 0 → slice_index bytes 0 < 245 → BreaksAt bytes (length bytes)
end_1 [] some short l u = absurd (omega arith)
end_1 (x ∷ []) some short l u = at_end (x ∷ []) (begins_1 x l u)
end_1 (x ∷ y ∷ rest) some short l u = absurd (omega arith)

end_2 : (bytes : List ℕ) → 2 ≤ length bytes → length bytes < 3 → 194 ≤ slice_index bytes 0 → slice_index bytes 0 < 245
    → Second (slice_index bytes 0) (slice_index bytes 1) → BreaksAt bytes (length bytes)
end_2 [] long short l u s = absurd (omega arith)
end_2 (x ∷ []) long short l u s = absurd (omega arith)
end_2 (x ∷ y ∷ []) long short l u s = at_end (x ∷ y ∷ []) (begins_2 x y l u s)
end_2 (x ∷ y ∷ z ∷ rest) long short l u s = absurd (omega arith)

end_3 : (bytes : List ℕ) → 3 ≤ length bytes → length bytes < 4 → StartsWithNoChar bytes → 194 ≤ slice_index bytes 0 → slice_index bytes 0 < 245
    → Second (slice_index bytes 0) (slice_index bytes 1) → Follows (slice_index bytes 2) → BreaksAt bytes (length bytes)
end_3 [] long short none l u s f = absurd (omega arith)
end_3 (x ∷ []) long short none l u s f = absurd (omega arith)
end_3 (x ∷ y ∷ []) long short none l u s f = absurd (omega arith)
end_3 (x ∷ y ∷ z ∷ []) long short none l u s f = at_end (x ∷ y ∷ z ∷ []) (begins_3 x y z (past_two x y (z ∷ []) none l s) u s f)
end_3 (x ∷ y ∷ z ∷ w ∷ rest) long short none l u s f = absurd (omega arith)

in_range : (low high x : ℕ) → is_in_range low high x ≡ true → (low ≤ x) × (x < high + 1)
in_range low high x e = (grind (arith, nat_tests), grind (arith, nat_tests))

not_in_range : (low high x : ℕ) → is_in_range low high x ≡ false → low ≤ x → x < high + 1 → ⊥
not_in_range low high x e l u = grind (arith, nat_tests)

-- the bytes break where `error_len` of std's error says, where none is at fault at their end
abbrev BreaksBy : List ℕ → Option ℕ → Type 0
BreaksBy bytes fault = BreaksAt bytes (unwrap_or fault (length bytes))

breaks_after_two : (bytes : List ℕ) → 2 ≤ length bytes → StartsWithNoChar bytes → 194 ≤ slice_index bytes 0 → slice_index bytes 0 < 245
    → Second (slice_index bytes 0) (slice_index bytes 1) → BreaksBy bytes (error_len_after_two bytes)
breaks_after_two bytes long none l u s =
    let n = length bytes in
    let z = slice_index bytes 2 in
    cond_both (nat_lt n 3) None _ (BreaksBy bytes) (λ short. end_2 bytes long (ltb-true n 3 short) l u s) (λ longer.
    cond_both (is_in_range 128 191 z) _ (Some 2) (BreaksBy bytes)
    (λ e.
    let f = in_range 128 191 z e in
    cond_both (nat_lt n 4) None (Some 3) (BreaksBy bytes)
    (λ short. end_3 bytes (ltb-false n 3 longer) (ltb-true n 4 short) none l u s f)
    (λ longest. breaks_3 bytes (ltb-false n 4 longest) none l u s f))
    (λ e. breaks_2 bytes (ltb-false n 3 longer) none l u s (λ f. not_in_range 128 191 z e f.0 f.1)))

breaks_after_one : (bytes : List ℕ) → 0 < length bytes → StartsWithNoChar bytes → 194 ≤ slice_index bytes 0 → slice_index bytes 0 < 245
    → BreaksBy bytes (error_len_after_one bytes)
breaks_after_one bytes some none l u =
    let n = length bytes in
    let x = slice_index bytes 0 in
    let y = slice_index bytes 1 in
    cond_both (nat_lt n 2) None _ (BreaksBy bytes) (λ short. end_1 bytes some (ltb-true n 2 short) l u) (λ longer.
    let long = ltb-false n 2 longer in
    cond_both (is_in_range (second_byte_min x) (second_byte_max x) y) (error_len_after_two bytes) (Some 1) (BreaksBy bytes)
    (λ e. breaks_after_two bytes long none l u (in_second x y e))
    (λ e. breaks_1 bytes long l u (not_in_second x y e)))

breaks_begun : (bytes : List ℕ) → 0 < length bytes → StartsWithNoChar bytes → BreaksAt bytes (begun_len bytes)
unfolding begun_len
breaks_begun bytes some none =
    let x = slice_index bytes 0 in
    cond_both (is_in_range 194 244 x) (unwrap_or (utf8_error_len bytes) (length bytes)) 0 (BreaksAt bytes)
    (λ e.
    let lead = in_range 194 244 x e in
    let fault : utf8_error_len bytes ≡ error_len_after_one bytes = utf8_error_len_some bytes some ∙ cond-true (is_in_range 194 244 x) (error_len_after_one bytes) (Some 1) e in
    subst (BreaksBy bytes) (sym fault) (breaks_after_one bytes some none lead.0 lead.1))
    (λ e. breaks_0 bytes some none (not_in_range 194 244 x e))

-- ---- behind the longest text at the front

longest_front : (bytes : List ℕ) (m : ℕ) → IsUtf8 (take (valid_len_up_to bytes m) bytes) × ((k : ℕ) → valid_len_up_to bytes m < k → k ≤ m → ¬ (IsUtf8 (take k bytes)))
longest_front bytes zero = (IsUtf8-nil, λ k above within. absurd (omega arith))
longest_front bytes (suc m) =
    let before = longest_front bytes m in
    cond_both (is_utf8 (take (suc m) bytes)) (suc m) (valid_len_up_to bytes m) (λ n. IsUtf8 (take n bytes) × ((k : ℕ) → n < k → k ≤ suc m → ¬ (IsUtf8 (take k bytes))))
    (λ e. (IsUtf8-from_is_utf8 (take (suc m) bytes) e, λ k above within. absurd (omega arith)))
    (λ e. (
      before.0,
      λ k above within u. ⊎_elim
          (λ h. let same : k ≡ suc m = omega arith in true≢false (sym (is_utf8-from_IsUtf8 (take (suc m) bytes) (subst (λ n. IsUtf8 (take n bytes)) same u)) ∙ e))
          (λ h. before.1 k above h u)
          (cases_lt m k),
    ))

-- where the longest text at the front ends, no character begins
no_char_behind : (bytes : List ℕ) (n : ℕ) → n ≤ length bytes → IsUtf8 (take n bytes) → ((k : ℕ) → n < k → k ≤ length bytes → ¬ (IsUtf8 (take k bytes))) → StartsWithNoChar (drop n bytes)
no_char_behind bytes n le front longest c rest is e =
    let w = length (encode_utf8 c) in
    let first : take w (drop n bytes) ≡ encode_utf8 c = ap (take w) e ∙ take_at (encode_utf8 c) rest w refl in
    let whole : take (n + w) bytes ≡ take n bytes ++ encode_utf8 c = take-add n w bytes ∙ ap (λ l. take n bytes ++ l) first in
    longest (n + w) (omega (arith, length-encode c, (len_utf8_bounds c).0)) (omega (arith, ap length e, length-append (encode_utf8 c) rest, length-drop n bytes))
    (subst IsUtf8 (sym whole) (IsUtf8-append (take n bytes) (encode_utf8 c) front (IsUtf8-encode c is)))

-- what breaks behind a text breaks so with the text before it
behind_text : (bytes : List ℕ) (n at : ℕ) → n ≤ length bytes → IsUtf8 (take n bytes) → BreaksAt (drop n bytes) at → BreaksAt bytes (n + at)
behind_text bytes n at le front b =
    let split : (k : ℕ) (more : List ℕ) → take (n + k) bytes ++ more ≡ take n bytes ++ (take k (drop n bytes) ++ more) =
    λ k more. ap (λ l. l ++ more) (take-add n k bytes) ∙ append_assoc (take n bytes) (take k (drop n bytes)) more in
    let more = b.goes_on.0 in
    let within = b.within in
    record {
      within = omega (arith, length-drop n bytes);
      goes_on = (more, subst IsUtf8 (sym (split at more)) (IsUtf8-append (take n bytes) (take at (drop n bytes) ++ more) front b.goes_on.1));
      breaks = λ h t.
          let next : n + at + 1 ≡ n + (at + 1) = omega arith in
          let all = subst (λ k. IsUtf8 (take k bytes ++ t.0)) next t.1 in
          b.breaks (omega (arith, length-drop n bytes)) (t.0, after_front (take n bytes) (take (at + 1) (drop n bytes) ++ t.0) front (subst IsUtf8 (split (at + 1) t.0) all));
    }
  where
    after_front : (xs ys : List ℕ) → IsUtf8 xs → IsUtf8 (xs ++ ys) → IsUtf8 ys
    after_front xs ys u v = subst IsUtf8 (drop_at xs ys (length xs) refl) (after_text (xs ++ ys) (length xs) v (subst IsUtf8 (sym (take_at xs ys (length xs) refl)) u))

pub breaks_there : (bytes : List ℕ) → ¬ (IsUtf8 bytes) → BreaksAt bytes (broken_at bytes)
unfolding broken_at utf8_valid_len
breaks_there bytes refuted =
    let n = utf8_valid_len bytes in
    let longest = longest_front bytes (length bytes) in
    ⊎_elim
    (λ (short : n < length bytes). behind_text bytes n (begun_len (drop n bytes)) (omega arith) longest.0
    (breaks_begun (drop n bytes) (omega (arith, length-drop n bytes)) (no_char_behind bytes n (omega arith) longest.0 longest.1)))
    (λ (whole : length bytes ≤ n). absurd (refuted (subst IsUtf8 (take_all n bytes whole) longest.0)))
    (cases_lt n (length bytes))

-- ---- one place

earlier : (bytes : List ℕ) (a b : ℕ) → BreaksAt bytes a → BreaksAt bytes b → a < b → ⊥
earlier bytes a b p q h =
    let front = take b bytes in
    let more = q.goes_on.0 in
    let within = q.within in
    let split : front ++ more ≡ take (a + 1) bytes ++ (drop (a + 1) front ++ more) =
    ap (λ l. l ++ more) (sym (take-append-drop (a + 1) front) ∙ ap (λ l. l ++ drop (a + 1) front) (take-take (a + 1) b bytes (omega arith)))
    ∙ append_assoc (take (a + 1) bytes) (drop (a + 1) front) more in
    p.breaks (omega arith) (drop (a + 1) front ++ more, subst IsUtf8 split q.goes_on.1)

pub one_place : (bytes : List ℕ) (a b : ℕ) → BreaksAt bytes a → BreaksAt bytes b → a ≡ b
one_place bytes a b p q = ⊎_elim (λ h. absurd (earlier bytes a b p q h)) (λ h. ⊎_elim (λ k. absurd (earlier bytes b a q p k)) (λ k. omega arith) (cases_lt b a)) (cases_lt a b)
