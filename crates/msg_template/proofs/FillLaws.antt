-- A text is filled part by part, and cut.
use Rattle.std.proofs.Common.{◌≡◌, ℕ, ◌+◌, ◌<◌, ◌≤◌, List, ◌++◌, length, take, drop, get_or, [], ◌∷◌, append-nil, ◌⊎◌, inl, inr, sym, ap, subst, ◌∙◌, arith, Result, Ok, Err, IfOk}
use Rattle.std.specs.Str.{IsUtf8, IsCharBoundary}
use Rattle.std.proofs.Math.Seq.{take-append_seam}
use Rattle.std.proofs.lemmas.Grind.{flat_map-append}
use Rattle.std.proofs.lemmas.List.{take-append-drop, take-append-le, take_more}
use Rattle.std.proofs.lemmas.Str.{IsUtf8-take, IsCharBoundary-from_take}
use Rattle.kap_base.specs.declared.memory.NoMemory.{NoMemory}
use Rattle.msg_template.specs.declared.facts.Facts.{Facts}
use Rattle.msg_template.specs.declared.template.Part.{Part}
use Rattle.msg_template.specs.Filling.{part_text, whole_text, IsCutTo, IsMade}

-- the text of one part more
pub put_one : (facts : Facts) (ps : List Part) (i : ℕ) (p : Part) (old new : List ℕ) → i < length ps → p ≡ get_or ps i p → old ≡ whole_text facts (take i ps) → new ≡ old ++ part_text facts p → new ≡ whole_text facts (take (i + 1) ps)
put_one facts ps i p old new lt is so_far more =
    more
    ∙ ap (λ (l : List ℕ). l ++ part_text facts p) so_far
    ∙ ap (λ (l : List ℕ). whole_text facts (take i ps) ++ l) (sym (append-nil (part_text facts p)))
    ∙ sym (flat_map-append (part_text facts) (take i ps) (p ∷ []))
    ∙ ap (λ x. whole_text facts (take i ps ++ x ∷ [])) is
    ∙ ap (whole_text facts) (sym (take_more ps i p lt))

-- the text of the first parts is a front of the whole text
pub front_is : (facts : Facts) (ps : List Part) (i : ℕ) (text : List ℕ) → text ≡ whole_text facts (take i ps) → text ≡ take (length text) (whole_text facts ps)
front_is facts ps i text is =
    let split : whole_text facts ps ≡ text ++ whole_text facts (drop i ps) =
    ap (whole_text facts) (sym (take-append-drop i ps)) ∙ flat_map-append (part_text facts) (take i ps) (drop i ps) ∙ ap (λ (l : List ℕ). l ++ whole_text facts (drop i ps)) (sym is) in
    sym (ap (take (length text)) split ∙ take-append_seam text (whole_text facts (drop i ps)))

pub made_enough : (limit : ℕ) (facts : Facts) (ps : List Part) (i : ℕ) (text : List ℕ) → text ≡ whole_text facts (take i ps) → limit < length text → IsMade limit (whole_text facts ps) text
made_enough limit facts ps i text is long = record { front = front_is facts ps i text is; enough = inr long }

-- at a border of characters before which none within the limit stands nearer
pub cut_at_border : (limit at : ℕ) (text front : List ℕ) → IsUtf8 text → front ≡ take at text → length front ≡ at → at ≤ limit → IsCharBoundary text at → ((i : ℕ) → at < i → i ≤ limit → ¬ (IsCharBoundary text i)) → IsCutTo limit text front
cut_at_border limit at text front utf8 is len within border nearest = record {
  front = is ∙ ap (λ n. take n text) (sym len);
  within = rw len within;
  characters = subst IsUtf8 (sym is) (IsUtf8-take text at utf8 border);
  longest = λ n more le inside whole. nearest n (omega (arith, len, more)) le (IsCharBoundary-from_take text n utf8 inside whole);
}

take_front : (n : ℕ) (made whole : List ℕ) → made ≡ take (length made) whole → n ≤ length made → take n made ≡ take n whole
take_front n made whole is le =
    let split : whole ≡ made ++ drop (length made) whole = sym (take-append-drop (length made) whole) ∙ ap (λ (l : List ℕ). l ++ drop (length made) whole) (sym is) in
    sym (ap (take n) split ∙ take-append-le n made (drop (length made) whole) le)

-- to cut what was made is to cut the whole
cut_made : (limit : ℕ) (whole made text : List ℕ) → IsMade limit whole made → IsCutTo limit made text → IsCutTo limit whole text
cut_made limit whole made text is cut = go is.enough
  where
    go : (made ≡ whole) ⊎ (limit < length made) → IsCutTo limit whole text
    go (inl same) = subst (λ w. IsCutTo limit w text) same cut
    go (inr long) = record {
      front = cut.front ∙ take_front (length text) made whole is.front (let le = cut.within in omega (arith, le, long));
      within = cut.within;
      characters = cut.characters;
      longest = λ n more le inside utf8. cut.longest n more le (omega (arith, le, long)) (subst IsUtf8 (sym (take_front n made whole is.front (omega (arith, le, long)))) utf8);
    }

pub filled_to : (limit : ℕ) (whole made : List ℕ) (r : Result (List ℕ) NoMemory) → IsMade limit whole made → IfOk r (λ text. IsCutTo limit made text) → IfOk r (λ text. IsCutTo limit whole text)
filled_to limit whole made (Ok text) is cut = cut_made limit whole made text is cut
filled_to limit whole made (Err f) is cut = tt
