-- The loop that reads a quoted text.
use Rattle.std.proofs.Common.{◌≡◌, ◌≢◌, ℕ, ◌+◌, ◌-◌, ◌<◌, ◌≤◌, suc, Bool, true, false, cond, eqb, List, [], ◌∷◌, ◌++◌, length, take, drop, get_or, refl, sym, ap, ◌∙◌, subst, arith, append_assoc, drop-cons, length-drop}
use Rattle.std.proofs.lemmas.List.{append-nil, take_more, get_or-drop}
use Rattle.std.proofs.lemmas.Bool.Decides.{nat_tests}
use Rattle.std.proofs.lemmas.Str.{IsCharBoundary-before_ascii, IsCharBoundary-start}
use Rattle.std.specs.Str.{IsUtf8, IsCharBoundary}
use Rattle.tick_lexer.specs.Front.{Scan, Endless, Shut, grown, scan}
use Rattle.tick_lexer.specs.Runs.{onwards}

is_same : (m n : ℕ) → eqb m n ≡ true → m ≡ n
is_same m n h = grind (arith, nat_tests)

-- the bytes from a place to another
abbrev pub segment : List ℕ → ℕ → ℕ → List ℕ
segment s start stop = take (stop - start) (drop start s)

-- What was copied, what was read since, and then the scan of what is left. Where the flag is set a backslash
-- waits at the place where what was read stops.
pub record Reading (quote : ℕ) (s read : List ℕ) (start stop index : ℕ) (behind : Bool) : Type 0 where
  pub ordered : start ≤ stop
  pub waits : behind ≡ true → stop + 1 ≡ index
  pub follows : behind ≡ false → stop ≡ index
  pub slash : behind ≡ true → get_or s stop 0 ≡ 92
  pub cut : IsCharBoundary s start
  pub reads : onwards (read ++ segment s start stop) index (scan quote (drop index s) behind) ≡ scan quote s false

onwards_grown : (text front : List ℕ) (n : ℕ) (s : Scan) → onwards text n (grown front s) ≡ onwards (text ++ front) (n + 1) s
onwards_grown text front n Endless = refl
onwards_grown text front n (Shut more bytes) =
    ap (λ (l : List ℕ). Shut l (n + (bytes + 1))) (sym (append_assoc text front more)) ∙ ap (λ (k : ℕ). Shut ((text ++ front) ++ more) k) (omega arith)

grow : (front text other : List ℕ) (n : ℕ) (s result : Scan) → text ++ front ≡ other → onwards text n (grown front s) ≡ result → onwards other (n + 1) s ≡ result
grow front text other n s result e h = ap (λ (l : List ℕ). onwards l (n + 1) s) (sym e) ∙ sym (onwards_grown text front n s) ∙ h

-- a segment that is one byte longer
pub segment_more : (s : List ℕ) (start stop : ℕ) → start ≤ stop → stop < length s → segment s start (stop + 1) ≡ segment s start stop ++ (get_or s stop 0 ∷ [])
segment_more s start stop le lt =
    let k = length-drop start s in
    let there : stop - start < length (drop start s) = omega arith in
    let size : stop + 1 - start ≡ stop - start + 1 = omega arith in
    let place : start + (stop - start) ≡ stop = omega arith in
    ap (λ (n : ℕ). take n (drop start s)) size
    ∙ take_more (drop start s) (stop - start) 0 there
    ∙ ap (λ (b : ℕ). take (stop - start) (drop start s) ++ (b ∷ [])) (get_or-drop start s (stop - start) 0 ∙ ap (λ (n : ℕ). get_or s n 0) place)

-- what stands at a place, and behind it
pub byte_at : (s : List ℕ) (index : ℕ) → index < length s → drop index s ≡ get_or s index 0 ∷ drop (index + 1) s
byte_at s index lt =
    let next : suc index ≡ index + 1 = omega arith in
    drop-cons s index 0 lt ∙ ap (λ (n : ℕ). get_or s index 0 ∷ drop n s) next

-- what was read, at each kind of byte
plain_read : (quote : ℕ) (s text : List ℕ) (index b : ℕ) (rest : List ℕ) (result : Scan) → drop index s ≡ b ∷ rest → eqb b quote ≡ false → eqb b 92 ≡ false → onwards text index (scan quote (drop index s) false) ≡ result → onwards (text ++ (b ∷ [])) (index + 1) (scan quote rest false) ≡ result
plain_read quote s text index b rest result d e f h =
    let there : scan quote (drop index s) false ≡ grown (b ∷ []) (scan quote rest false) =
    ap (λ (l : List ℕ). scan quote l false) d
    ∙ ap (λ (t : Bool). cond t (Shut [] 1) (cond (eqb b 92) (grown [] (scan quote rest true)) (grown (b ∷ []) (scan quote rest false)))) e
    ∙ ap (λ (t : Bool). cond t (grown [] (scan quote rest true)) (grown (b ∷ []) (scan quote rest false))) f in
    grow (b ∷ []) text (text ++ (b ∷ [])) index (scan quote rest false) result refl (ap (λ (x : Scan). onwards text index x) (sym there) ∙ h)

slash_read : (quote : ℕ) (s text : List ℕ) (index b : ℕ) (rest : List ℕ) (result : Scan) → drop index s ≡ b ∷ rest → eqb b quote ≡ false → eqb b 92 ≡ true → onwards text index (scan quote (drop index s) false) ≡ result → onwards text (index + 1) (scan quote rest true) ≡ result
slash_read quote s text index b rest result d e f h =
    let there : scan quote (drop index s) false ≡ grown [] (scan quote rest true) =
    ap (λ (l : List ℕ). scan quote l false) d
    ∙ ap (λ (t : Bool). cond t (Shut [] 1) (cond (eqb b 92) (grown [] (scan quote rest true)) (grown (b ∷ []) (scan quote rest false)))) e
    ∙ ap (λ (t : Bool). cond t (grown [] (scan quote rest true)) (grown (b ∷ []) (scan quote rest false))) f in
    grow [] text text index (scan quote rest true) result (append-nil text) (ap (λ (x : Scan). onwards text index x) (sym there) ∙ h)

plain_behind : (quote : ℕ) (s text : List ℕ) (index b : ℕ) (rest : List ℕ) (result : Scan) → drop index s ≡ b ∷ rest → eqb b quote ≡ false → eqb b 92 ≡ false → onwards text index (scan quote (drop index s) true) ≡ result → onwards (text ++ (92 ∷ b ∷ [])) (index + 1) (scan quote rest false) ≡ result
plain_behind quote s text index b rest result d e f h =
    let there : scan quote (drop index s) true ≡ grown (92 ∷ b ∷ []) (scan quote rest false) =
    ap (λ (l : List ℕ). scan quote l true) d
    ∙ ap (λ (t : Bool). cond t (grown (b ∷ []) (scan quote rest false)) (cond (eqb b 92) (grown (92 ∷ []) (scan quote rest true)) (grown (92 ∷ b ∷ []) (scan quote rest false)))) e
    ∙ ap (λ (t : Bool). cond t (grown (92 ∷ []) (scan quote rest true)) (grown (92 ∷ b ∷ []) (scan quote rest false))) f in
    grow (92 ∷ b ∷ []) text (text ++ (92 ∷ b ∷ [])) index (scan quote rest false) result refl (ap (λ (x : Scan). onwards text index x) (sym there) ∙ h)

slash_behind : (quote : ℕ) (s text : List ℕ) (index b : ℕ) (rest : List ℕ) (result : Scan) → drop index s ≡ b ∷ rest → eqb b quote ≡ false → eqb b 92 ≡ true → onwards text index (scan quote (drop index s) true) ≡ result → onwards (text ++ (92 ∷ [])) (index + 1) (scan quote rest true) ≡ result
slash_behind quote s text index b rest result d e f h =
    let there : scan quote (drop index s) true ≡ grown (92 ∷ []) (scan quote rest true) =
    ap (λ (l : List ℕ). scan quote l true) d
    ∙ ap (λ (t : Bool). cond t (grown (b ∷ []) (scan quote rest false)) (cond (eqb b 92) (grown (92 ∷ []) (scan quote rest true)) (grown (92 ∷ b ∷ []) (scan quote rest false)))) e
    ∙ ap (λ (t : Bool). cond t (grown (92 ∷ []) (scan quote rest true)) (grown (92 ∷ b ∷ []) (scan quote rest false))) f in
    grow (92 ∷ []) text (text ++ (92 ∷ [])) index (scan quote rest true) result refl (ap (λ (x : Scan). onwards text index x) (sym there) ∙ h)

quote_behind : (quote : ℕ) (s text : List ℕ) (index b : ℕ) (rest : List ℕ) (result : Scan) → drop index s ≡ b ∷ rest → eqb b quote ≡ true → onwards text index (scan quote (drop index s) true) ≡ result → onwards (text ++ (b ∷ [])) (index + 1) (scan quote rest false) ≡ result
quote_behind quote s text index b rest result d e h =
    let there : scan quote (drop index s) true ≡ grown (b ∷ []) (scan quote rest false) =
    ap (λ (l : List ℕ). scan quote l true) d
    ∙ ap (λ (t : Bool). cond t (grown (b ∷ []) (scan quote rest false)) (cond (eqb b 92) (grown (92 ∷ []) (scan quote rest true)) (grown (92 ∷ b ∷ []) (scan quote rest false)))) e in
    grow (b ∷ []) text (text ++ (b ∷ [])) index (scan quote rest false) result refl (ap (λ (x : Scan). onwards text index x) (sym there) ∙ h)

-- the text of a longer segment
joined_more : (s read : List ℕ) (start stop next : ℕ) → start ≤ stop → stop < length s → next ≡ stop + 1 → (read ++ segment s start stop) ++ (get_or s stop 0 ∷ []) ≡ read ++ segment s start next
joined_more s read start stop next le lt e =
    append_assoc read (segment s start stop) (get_or s stop 0 ∷ [])
    ∙ ap (λ (l : List ℕ). read ++ l) (sym (segment_more s start stop le lt))
    ∙ ap (λ (n : ℕ). read ++ segment s start n) (sym e)

joined_both : (s read : List ℕ) (start stop index next : ℕ) → start ≤ stop → stop + 1 ≡ index → index < length s → next ≡ index + 1 → get_or s stop 0 ≡ 92 → (read ++ segment s start stop) ++ (92 ∷ get_or s index 0 ∷ []) ≡ read ++ segment s start next
joined_both s read start stop index next le e lt f slash =
    let first = joined_more s read start stop index le (omega arith) (sym e) in
    let second = joined_more s read start index next (omega arith) lt f in
    sym (append_assoc (read ++ segment s start stop) (92 ∷ []) (get_or s index 0 ∷ []))
    ∙ ap (λ (b : ℕ). ((read ++ segment s start stop) ++ (b ∷ [])) ++ (get_or s index 0 ∷ [])) (sym slash)
    ∙ ap (λ (l : List ℕ). l ++ (get_or s index 0 ∷ [])) first
    ∙ second

at_text : (text other : List ℕ) (n : ℕ) (x result : Scan) → text ≡ other → onwards text n x ≡ result → onwards other n x ≡ result
at_text text other n x result e h = ap (λ (l : List ℕ). onwards l n x) (sym e) ∙ h

-- behind a byte that isn't the quote, and isn't a backslash
pub after_plain : (quote : ℕ) (s read : List ℕ) (start stop index next : ℕ) (behind : Bool) → Reading quote s read start stop index behind → index < length s → eqb (get_or s index 0) quote ≡ false → eqb (get_or s index 0) 92 ≡ false → next ≡ index + 1 → Reading quote s read start next (index + 1) false
after_plain quote s read start stop index next false r lt e f n =
    let d = byte_at s index lt in
    let same : stop ≡ index = r.follows refl in
    let more = joined_more s read start stop next r.ordered (omega arith) (omega arith) in
    let byte : get_or s stop 0 ≡ get_or s index 0 = ap (λ (k : ℕ). get_or s k 0) same in
    record {
      ordered = let o = r.ordered in omega arith;
      waits = λ (h : false ≡ true). absurd (cc);
      follows = λ h. n;
      slash = λ (h : false ≡ true). absurd (cc);
      cut = r.cut;
      reads = at_text ((read ++ segment s start stop) ++ (get_or s index 0 ∷ [])) (read ++ segment s start next) (index + 1) (scan quote (drop (index + 1) s) false) (scan quote s false) (ap (λ (b : ℕ). (read ++ segment s start stop) ++ (b ∷ [])) (sym byte) ∙ more) (plain_read quote s (read ++ segment s start stop) index (get_or s index 0) (drop (index + 1) s) (scan quote s false) d e f r.reads);
    }
after_plain quote s read start stop index next true r lt e f n =
    let d = byte_at s index lt in
    let w : stop + 1 ≡ index = r.waits refl in
    let more = joined_both s read start stop index next r.ordered w lt n (r.slash refl) in
    record {
      ordered = let o = r.ordered in omega arith;
      waits = λ (h : false ≡ true). absurd (cc);
      follows = λ h. n;
      slash = λ (h : false ≡ true). absurd (cc);
      cut = r.cut;
      reads = at_text ((read ++ segment s start stop) ++ (92 ∷ get_or s index 0 ∷ [])) (read ++ segment s start next) (index + 1) (scan quote (drop (index + 1) s) false) (scan quote s false) more (plain_behind quote s (read ++ segment s start stop) index (get_or s index 0) (drop (index + 1) s) (scan quote s false) d e f r.reads);
    }

-- behind a backslash
pub after_slash : (quote : ℕ) (s read : List ℕ) (start stop index next : ℕ) (behind : Bool) → Reading quote s read start stop index behind → index < length s → eqb (get_or s index 0) quote ≡ false → eqb (get_or s index 0) 92 ≡ true → next ≡ index → Reading quote s read start next (index + 1) true
after_slash quote s read start stop index next false r lt e f n =
    let d = byte_at s index lt in
    let same : stop ≡ next = r.follows refl ∙ sym n in
    record {
      ordered = let o = r.ordered in omega arith;
      waits = λ h. omega arith;
      follows = λ (h : true ≡ false). absurd (cc);
      slash = λ h. ap (λ (k : ℕ). get_or s k 0) n ∙ is_same (get_or s index 0) 92 f;
      cut = r.cut;
      reads = at_text (read ++ segment s start stop) (read ++ segment s start next) (index + 1) (scan quote (drop (index + 1) s) true) (scan quote s false) (ap (λ (k : ℕ). read ++ segment s start k) same) (slash_read quote s (read ++ segment s start stop) index (get_or s index 0) (drop (index + 1) s) (scan quote s false) d e f r.reads);
    }
after_slash quote s read start stop index next true r lt e f n =
    let d = byte_at s index lt in
    let w : stop + 1 ≡ index = r.waits refl in
    let more = joined_more s read start stop next r.ordered (omega arith) (omega arith) in
    let byte : get_or s stop 0 ≡ 92 = r.slash refl in
    record {
      ordered = let o = r.ordered in omega arith;
      waits = λ h. omega arith;
      follows = λ (h : true ≡ false). absurd (cc);
      slash = λ h. ap (λ (k : ℕ). get_or s k 0) n ∙ is_same (get_or s index 0) 92 f;
      cut = r.cut;
      reads = at_text ((read ++ segment s start stop) ++ (92 ∷ [])) (read ++ segment s start next) (index + 1) (scan quote (drop (index + 1) s) true) (scan quote s false) (ap (λ (b : ℕ). (read ++ segment s start stop) ++ (b ∷ [])) (sym byte) ∙ more) (slash_behind quote s (read ++ segment s start stop) index (get_or s index 0) (drop (index + 1) s) (scan quote s false) d e f r.reads);
    }

-- behind a quote that a backslash made a part of the text
pub after_quote : (quote : ℕ) (s read now : List ℕ) (start stop index next : ℕ) → Reading quote s read start stop index true → index < length s → eqb (get_or s index 0) quote ≡ true → quote < 128 → now ≡ read ++ segment s start stop → next ≡ index + 1 → Reading quote s now index next (index + 1) false
after_quote quote s read now start stop index next r lt e small is n =
    let d = byte_at s index lt in
    let byte : get_or s index 0 ≡ quote = is_same (get_or s index 0) quote e in
    let zero_long : index - index ≡ 0 = omega arith in
    let alone : segment s index index ≡ [] = ap (λ (k : ℕ). take k (drop index s)) zero_long in
    let more = joined_more s now index index next (omega arith) lt n in
    let nothing : now ++ segment s index index ≡ now = ap (λ (l : List ℕ). now ++ l) alone ∙ append-nil now in
    record {
      ordered = omega arith;
      waits = λ (h : false ≡ true). absurd (cc);
      follows = λ h. n;
      slash = λ (h : false ≡ true). absurd (cc);
      cut = IsCharBoundary-before_ascii s index lt (omega arith);
      reads = at_text ((read ++ segment s start stop) ++ (get_or s index 0 ∷ [])) (now ++ segment s index next) (index + 1) (scan quote (drop (index + 1) s) false) (scan quote s false) (ap (λ (l : List ℕ). l ++ (get_or s index 0 ∷ [])) (sym is ∙ sym nothing) ∙ more) (quote_behind quote s (read ++ segment s start stop) index (get_or s index 0) (drop (index + 1) s) (scan quote s false) d e r.reads);
    }

-- how far is read next
pub record Stops (bytes : List ℕ) (index stop : ℕ) : Type 0 where
  pub at_slash : eqb (get_or bytes index 0) 92 ≡ true → stop ≡ index
  pub at_other : eqb (get_or bytes index 0) 92 ≡ false → stop ≡ index + 1

not_same : (m n : ℕ) → (m ≡ n → ⊥) → eqb m n ≡ false
not_same m n h = grind (arith, nat_tests)

same_test : (m n : ℕ) → m ≡ n → eqb m n ≡ true
same_test m n h = grind (arith, nat_tests)

-- a step of the loop at another byte than the quote
pub reads_on : (quote : ℕ) (s bytes read now : List ℕ) (start from stop index next : ℕ) (behind : Bool) → bytes ≡ s → Reading quote s read start stop index behind → index < length bytes → (get_or bytes index 0 ≡ quote → ⊥) → Stops bytes index next → now ≡ read → from ≡ start → Reading quote s now from next (index + 1) (eqb (get_or bytes index 0) 92)
reads_on quote s bytes read now start from stop index next behind e r lt ne stops is begins =
    let P : List ℕ → Type 0 = λ b. index < length b → (get_or b index 0 ≡ quote → ⊥) → Stops b index next → Reading quote s read start next (index + 1) (eqb (get_or b index 0) 92) in
    let it : P bytes =
    subst P (sym e) (λ lt ne stops.
    let Q : Bool → Type 0 = λ t. Reading quote s read start next (index + 1) t in
    let other = not_same (get_or s index 0) quote ne in
    let go : (t : Bool) → eqb (get_or s index 0) 92 ≡ t → Q t =
    elim [
      | true ↦ λ f. after_slash quote s read start stop index next behind r lt other f (stops.at_slash f)
      | false ↦ λ f. after_plain quote s read start stop index next behind r lt other f (stops.at_other f)
    ] in
    go (eqb (get_or s index 0) 92) refl) in
    let R : List ℕ → Type 0 = λ l. Reading quote s l from next (index + 1) (eqb (get_or bytes index 0) 92) in
    let S : ℕ → Type 0 = λ k. Reading quote s read k next (index + 1) (eqb (get_or bytes index 0) 92) in
    subst R (sym is) (subst S (sym begins) (it lt ne stops))

-- a step of the loop at a quote behind a backslash
pub reads_quote : (quote : ℕ) (s bytes read now : List ℕ) (start from stop index next : ℕ) (behind : Bool) → bytes ≡ s → Reading quote s read start stop index behind → behind ≡ true → index < length bytes → get_or bytes index 0 ≡ quote → quote < 128 → quote ≢ 92 → Stops bytes index next → now ≡ read ++ segment s start stop → from ≡ index → Reading quote s now from next (index + 1) (eqb (get_or bytes index 0) 92)
reads_quote quote s bytes read now start from stop index next behind e r waits lt same small plain stops is begins =
    let was : Reading quote s read start stop index true = subst (λ (t : Bool). Reading quote s read start stop index t) waits r in
    let P : List ℕ → Type 0 = λ b. index < length b → get_or b index 0 ≡ quote → Stops b index next → Reading quote s now index next (index + 1) (eqb (get_or b index 0) 92) in
    let it : P bytes =
    subst P (sym e) (λ lt same stops.
    let Q : Bool → Type 0 = λ t. Reading quote s now index next (index + 1) t in
    let f : eqb (get_or s index 0) 92 ≡ false = not_same (get_or s index 0) 92 (λ (z : get_or s index 0 ≡ 92). plain (sym same ∙ z)) in
    subst Q (sym f) (after_quote quote s read now start stop index next was lt (same_test (get_or s index 0) quote same) small is (stops.at_other f))) in
    let S : ℕ → Type 0 = λ k. Reading quote s now k next (index + 1) (eqb (get_or bytes index 0) 92) in
    subst S (sym begins) (it lt same stops)

onwards_none : (x : Scan) → onwards [] 0 x ≡ x
onwards_none Endless = refl
onwards_none (Shut text bytes) = ap (λ (n : ℕ). Shut text n) (omega arith)

-- the loop begins
pub start_reading : (quote : ℕ) (s read : List ℕ) → IsUtf8 s → read ≡ [] → Reading quote s read 0 0 0 false
start_reading quote s read u e = record {
  ordered = omega arith;
  waits = λ (h : false ≡ true). absurd (cc);
  follows = λ h. refl;
  slash = λ (h : false ≡ true). absurd (cc);
  cut = IsCharBoundary-start s u;
  reads = ap (λ (l : List ℕ). onwards (l ++ []) 0 (scan quote s false)) e ∙ onwards_none (scan quote s false);
}
