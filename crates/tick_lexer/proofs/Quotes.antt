-- Texts in quotes: the scan reads each, and what it reads is one.
use Rattle.std.proofs.Common.{◌≡◌, ◌≢◌, ℕ, ◌+◌, Bool, true, false, cond, eqb, List, [], ◌∷◌, ◌++◌, length, refl, sym, ap, ◌∙◌, subst, arith, append_assoc}
use Rattle.tick_lexer.specs.Front.{Scan, Endless, Shut, grown, scan}
use Rattle.tick_lexer.specs.Spelling.{escaped, EndsPlain, Quoted}
use Rattle.tick_lexer.proofs.Choices.{is_same, same_test, other_test, not_same}

tail_plain : (b : ℕ) (text : List ℕ) → EndsPlain (b ∷ text) → EndsPlain text
tail_plain b [] h = tt
tail_plain b (c ∷ text) h = h

-- one byte of a scan
scan_quote : (quote b : ℕ) (bs : List ℕ) → eqb b quote ≡ true → scan quote (b ∷ bs) true ≡ grown (b ∷ []) (scan quote bs false)
scan_quote quote b bs e = ap (λ (t : Bool). cond t (grown (b ∷ []) (scan quote bs false)) (cond (eqb b 92) (grown (92 ∷ []) (scan quote bs true)) (grown (92 ∷ b ∷ []) (scan quote bs false)))) e

scan_slash : (quote b : ℕ) (bs : List ℕ) → eqb b quote ≡ false → eqb b 92 ≡ true → scan quote (b ∷ bs) false ≡ grown [] (scan quote bs true)
scan_slash quote b bs e f =
    ap (λ (t : Bool). cond t (Shut [] 1) (cond (eqb b 92) (grown [] (scan quote bs true)) (grown (b ∷ []) (scan quote bs false)))) e
    ∙ ap (λ (t : Bool). cond t (grown [] (scan quote bs true)) (grown (b ∷ []) (scan quote bs false))) f

scan_plain : (quote b : ℕ) (bs : List ℕ) → eqb b quote ≡ false → eqb b 92 ≡ false → scan quote (b ∷ bs) false ≡ grown (b ∷ []) (scan quote bs false)
scan_plain quote b bs e f =
    ap (λ (t : Bool). cond t (Shut [] 1) (cond (eqb b 92) (grown [] (scan quote bs true)) (grown (b ∷ []) (scan quote bs false)))) e
    ∙ ap (λ (t : Bool). cond t (grown [] (scan quote bs true)) (grown (b ∷ []) (scan quote bs false))) f

scan_slashes : (quote b : ℕ) (bs : List ℕ) → eqb b quote ≡ false → eqb b 92 ≡ true → scan quote (b ∷ bs) true ≡ grown (92 ∷ []) (scan quote bs true)
scan_slashes quote b bs e f =
    ap (λ (t : Bool). cond t (grown (b ∷ []) (scan quote bs false)) (cond (eqb b 92) (grown (92 ∷ []) (scan quote bs true)) (grown (92 ∷ b ∷ []) (scan quote bs false)))) e
    ∙ ap (λ (t : Bool). cond t (grown (92 ∷ []) (scan quote bs true)) (grown (92 ∷ b ∷ []) (scan quote bs false))) f

scan_both : (quote b : ℕ) (bs : List ℕ) → eqb b quote ≡ false → eqb b 92 ≡ false → scan quote (b ∷ bs) true ≡ grown (92 ∷ b ∷ []) (scan quote bs false)
scan_both quote b bs e f =
    ap (λ (t : Bool). cond t (grown (b ∷ []) (scan quote bs false)) (cond (eqb b 92) (grown (92 ∷ []) (scan quote bs true)) (grown (92 ∷ b ∷ []) (scan quote bs false)))) e
    ∙ ap (λ (t : Bool). cond t (grown (92 ∷ []) (scan quote bs true)) (grown (92 ∷ b ∷ []) (scan quote bs false))) f

pub escaped_quote : (quote b : ℕ) (text : List ℕ) → eqb b quote ≡ true → escaped quote (b ∷ text) ≡ 92 ∷ b ∷ escaped quote text
escaped_quote quote b text e = ap (λ (t : Bool). cond t (92 ∷ b ∷ escaped quote text) (b ∷ escaped quote text)) e

pub escaped_other : (quote b : ℕ) (text : List ℕ) → eqb b quote ≡ false → escaped quote (b ∷ text) ≡ b ∷ escaped quote text
escaped_other quote b text e = ap (λ (t : Bool). cond t (92 ∷ b ∷ escaped quote text) (b ∷ escaped quote text)) e

plain_end : (b : ℕ) (text : List ℕ) → eqb b 92 ≡ true → EndsPlain (b ∷ text) → EndsPlain (92 ∷ text)
plain_end b text e h = subst (λ (x : ℕ). EndsPlain (x ∷ text)) (is_same b 92 e) h

-- The scan of a text with its quotes escaped is the text: where no backslash waits, and where one does.
abbrev Scans : ℕ → List ℕ → List ℕ → Bool → Type 0
Scans quote text rest false = EndsPlain text → scan quote (escaped quote text ++ quote ∷ rest) false ≡ Shut text (length (escaped quote text) + 1)
Scans quote text rest true = EndsPlain (92 ∷ text) → scan quote (escaped quote text ++ quote ∷ rest) true ≡ Shut (92 ∷ text) (length (escaped quote text) + 1)

plain_step : (quote b : ℕ) (text rest : List ℕ) (t u : Bool) → quote ≢ 92 → eqb b quote ≡ t → eqb b 92 ≡ u → Scans quote text rest false → Scans quote text rest true → Scans quote (b ∷ text) rest false
plain_step quote b text rest true u ne e f plain behind = λ h.
    let s = escaped_quote quote b text e in
    ap (λ (l : List ℕ). scan quote (l ++ quote ∷ rest) false) s
    ∙ scan_slash quote 92 (b ∷ (escaped quote text ++ quote ∷ rest)) (other_test quote 92 ne) refl
    ∙ ap (λ (x : Scan). grown [] x) (scan_quote quote b (escaped quote text ++ quote ∷ rest) e)
    ∙ ap (λ (x : Scan). grown [] (grown (b ∷ []) x)) (plain (tail_plain b text h))
    ∙ ap (λ (n : ℕ). Shut (b ∷ text) n) (let k = ap (λ (l : List ℕ). length l) s in omega arith)
plain_step quote b text rest false true ne e f plain behind = λ h.
    let s = escaped_other quote b text e in
    ap (λ (l : List ℕ). scan quote (l ++ quote ∷ rest) false) s
    ∙ scan_slash quote b (escaped quote text ++ quote ∷ rest) e f
    ∙ ap (λ (x : Scan). grown [] x) (behind (plain_end b text f h))
    ∙ ap (λ (x : ℕ). Shut (x ∷ text) (length (escaped quote text) + 1 + 1)) (sym (is_same b 92 f))
    ∙ ap (λ (n : ℕ). Shut (b ∷ text) n) (let k = ap (λ (l : List ℕ). length l) s in omega arith)
plain_step quote b text rest false false ne e f plain behind = λ h.
    let s = escaped_other quote b text e in
    ap (λ (l : List ℕ). scan quote (l ++ quote ∷ rest) false) s
    ∙ scan_plain quote b (escaped quote text ++ quote ∷ rest) e f
    ∙ ap (λ (x : Scan). grown (b ∷ []) x) (plain (tail_plain b text h))
    ∙ ap (λ (n : ℕ). Shut (b ∷ text) n) (let k = ap (λ (l : List ℕ). length l) s in omega arith)

behind_step : (quote b : ℕ) (text rest : List ℕ) (t u : Bool) → quote ≢ 92 → eqb b quote ≡ t → eqb b 92 ≡ u → Scans quote text rest false → Scans quote text rest true → Scans quote (b ∷ text) rest true
behind_step quote b text rest true u ne e f plain behind = λ h.
    let s = escaped_quote quote b text e in
    ap (λ (l : List ℕ). scan quote (l ++ quote ∷ rest) true) s
    ∙ scan_slashes quote 92 (b ∷ (escaped quote text ++ quote ∷ rest)) (other_test quote 92 ne) refl
    ∙ ap (λ (x : Scan). grown (92 ∷ []) x) (scan_quote quote b (escaped quote text ++ quote ∷ rest) e)
    ∙ ap (λ (x : Scan). grown (92 ∷ []) (grown (b ∷ []) x)) (plain (tail_plain b text h))
    ∙ ap (λ (n : ℕ). Shut (92 ∷ b ∷ text) n) (let k = ap (λ (l : List ℕ). length l) s in omega arith)
behind_step quote b text rest false true ne e f plain behind = λ h.
    let s = escaped_other quote b text e in
    ap (λ (l : List ℕ). scan quote (l ++ quote ∷ rest) true) s
    ∙ scan_slashes quote b (escaped quote text ++ quote ∷ rest) e f
    ∙ ap (λ (x : Scan). grown (92 ∷ []) x) (behind (plain_end b text f h))
    ∙ ap (λ (x : ℕ). Shut (92 ∷ x ∷ text) (length (escaped quote text) + 1 + 1)) (sym (is_same b 92 f))
    ∙ ap (λ (n : ℕ). Shut (92 ∷ b ∷ text) n) (let k = ap (λ (l : List ℕ). length l) s in omega arith)
behind_step quote b text rest false false ne e f plain behind = λ h.
    let s = escaped_other quote b text e in
    ap (λ (l : List ℕ). scan quote (l ++ quote ∷ rest) true) s
    ∙ scan_both quote b (escaped quote text ++ quote ∷ rest) e f
    ∙ ap (λ (x : Scan). grown (92 ∷ b ∷ []) x) (plain (tail_plain b text h))
    ∙ ap (λ (n : ℕ). Shut (92 ∷ b ∷ text) n) (let k = ap (λ (l : List ℕ). length l) s in omega arith)

scans : (text : List ℕ) (quote : ℕ) (rest : List ℕ) → quote ≢ 92 → Scans quote text rest false × Scans quote text rest true
scans [] quote rest ne = (
  λ h. ap (λ (t : Bool). cond t (Shut [] 1) (cond (eqb quote 92) (grown [] (scan quote rest true)) (grown (quote ∷ []) (scan quote rest false)))) (same_test quote),
  λ h. absurd (h refl),
)
scans (b ∷ text) quote rest ne =
    let both = scans text quote rest ne in (
      plain_step quote b text rest (eqb b quote) (eqb b 92) ne refl refl both.0 both.1,
      behind_step quote b text rest (eqb b quote) (eqb b 92) ne refl refl both.0 both.1,
    )

-- the scan of a quoted text behind its first quote
pub quoted_scan : (quote : ℕ) (text rest : List ℕ) → quote ≢ 92 → EndsPlain text → scan quote ((escaped quote text ++ quote ∷ []) ++ rest) false ≡ Shut text (length (escaped quote text) + 1)
quoted_scan quote text rest ne h =
    let flat : (escaped quote text ++ quote ∷ []) ++ rest ≡ escaped quote text ++ quote ∷ rest = append_assoc (escaped quote text) (quote ∷ []) rest in
    let both = scans text quote rest ne in
    ap (λ (l : List ℕ). scan quote l false) flat ∙ both.0 h

-- what a scan has read
pub record Shutting (quote : ℕ) (text bs : List ℕ) (n : ℕ) : Type 0 where
  pub rest : List ℕ
  pub joined : bs ≡ (escaped quote text ++ quote ∷ []) ++ rest
  pub size : n ≡ length (escaped quote text) + 1
  pub plain : EndsPlain text

shutting_at : (quote : ℕ) (text other bs cs : List ℕ) (n m : ℕ) → text ≡ other → bs ≡ cs → n ≡ m → Shutting quote text bs n → Shutting quote other cs m
shutting_at quote text other bs cs n m e f g h =
    subst (λ (x : List ℕ). Shutting quote x cs m) e (subst (λ (x : List ℕ). Shutting quote text x m) f (subst (λ (x : ℕ). Shutting quote text bs x) g h))

record Grew (front : List ℕ) (s : Scan) (text : List ℕ) (n : ℕ) : Type 0 where
  pub before : List ℕ
  pub bytes : ℕ
  pub was : s ≡ Shut before bytes
  pub is : front ++ before ≡ text
  pub counted : bytes + 1 ≡ n

grew : (front : List ℕ) (s : Scan) (text : List ℕ) (n : ℕ) → grown front s ≡ Shut text n → Grew front s text n
grew front Endless text n h = absurd (cc)
grew front (Shut before bytes) text n h = record { before = before; bytes = bytes; was = refl; is = cc; counted = cc }

plain_cons : (b : ℕ) (text : List ℕ) → b ≢ 92 → EndsPlain text → EndsPlain (b ∷ text)
plain_cons b [] ne h = ne
plain_cons b (c ∷ text) ne h = h

plain_more : (b : ℕ) (text : List ℕ) → text ≢ [] → EndsPlain text → EndsPlain (b ∷ text)
plain_more b [] ne h = absurd (ne refl)
plain_more b (c ∷ text) ne h = h

-- one more byte that stands for itself
shut_plain : (quote b : ℕ) (text bs : List ℕ) (n : ℕ) → eqb b quote ≡ false → EndsPlain (b ∷ text) → Shutting quote text bs n → Shutting quote (b ∷ text) (b ∷ bs) (n + 1)
shut_plain quote b text bs n e plain s =
    let same = escaped_other quote b text e in
    record {
      rest = s.rest;
      joined = ap (λ (l : List ℕ). b ∷ l) s.joined ∙ ap (λ (l : List ℕ). (l ++ quote ∷ []) ++ s.rest) (sym same);
      size = let k = ap (λ (l : List ℕ). length l) same in let z = s.size in omega arith;
      plain = plain;
    }

shut_quote : (quote b : ℕ) (text bs : List ℕ) (n : ℕ) → eqb b quote ≡ true → EndsPlain (b ∷ text) → Shutting quote text bs n → Shutting quote (b ∷ text) (92 ∷ b ∷ bs) (n + 1 + 1)
shut_quote quote b text bs n e plain s =
    let same = escaped_quote quote b text e in
    record {
      rest = s.rest;
      joined = ap (λ (l : List ℕ). 92 ∷ b ∷ l) s.joined ∙ ap (λ (l : List ℕ). (l ++ quote ∷ []) ++ s.rest) (sym same);
      size = let k = ap (λ (l : List ℕ). length l) same in let z = s.size in omega arith;
      plain = plain;
    }

abbrev Shuts : ℕ → List ℕ → Bool → Type 0
Shuts quote bs false = (text : List ℕ) (n : ℕ) → scan quote bs false ≡ Shut text n → Shutting quote text bs n
Shuts quote bs true = (text : List ℕ) (n : ℕ) → scan quote bs true ≡ Shut text n → Shutting quote text (92 ∷ bs) (n + 1) × (text ≢ [])

shuts_false : (quote b : ℕ) (bs : List ℕ) (t u : Bool) → quote ≢ 92 → eqb b quote ≡ t → eqb b 92 ≡ u → Shuts quote bs false → Shuts quote bs true → (text : List ℕ) (n : ℕ) → cond t (Shut [] 1) (cond u (grown [] (scan quote bs true)) (grown (b ∷ []) (scan quote bs false))) ≡ Shut text n → Shutting quote text (b ∷ bs) n
shuts_false quote b bs true u ne e f plain behind text n h =
    let empty : Shutting quote [] (b ∷ bs) 1 = record { rest = bs; joined = ap (λ (x : ℕ). x ∷ bs) (is_same b quote e); size = refl; plain = tt } in
    shutting_at quote [] text (b ∷ bs) (b ∷ bs) 1 n (cc) refl (cc) empty
shuts_false quote b bs false true ne e f plain behind text n h =
    let g = grew [] (scan quote bs true) text n h in
    let s = behind g.before g.bytes g.was in
    shutting_at quote g.before text (92 ∷ bs) (b ∷ bs) (g.bytes + 1) n g.is (ap (λ (x : ℕ). x ∷ bs) (sym (is_same b 92 f))) g.counted s.0
shuts_false quote b bs false false ne e f plain behind text n h =
    let g = grew (b ∷ []) (scan quote bs false) text n h in
    let s = plain g.before g.bytes g.was in
    shutting_at quote (b ∷ g.before) text (b ∷ bs) (b ∷ bs) (g.bytes + 1) n g.is refl g.counted (shut_plain quote b g.before bs g.bytes e (plain_cons b g.before (not_same b 92 f) s.plain) s)

shuts_true : (quote b : ℕ) (bs : List ℕ) (t u : Bool) → quote ≢ 92 → eqb b quote ≡ t → eqb b 92 ≡ u → Shuts quote bs false → Shuts quote bs true → (text : List ℕ) (n : ℕ) → cond t (grown (b ∷ []) (scan quote bs false)) (cond u (grown (92 ∷ []) (scan quote bs true)) (grown (92 ∷ b ∷ []) (scan quote bs false))) ≡ Shut text n → Shutting quote text (92 ∷ b ∷ bs) (n + 1) × (text ≢ [])
shuts_true quote b bs true u ne e f plain behind text n h =
    let g = grew (b ∷ []) (scan quote bs false) text n h in
    let s = plain g.before g.bytes g.was in
    let ne2 : b ≢ 92 = λ (x : b ≡ 92). ne (sym (is_same b quote e) ∙ x) in (
      shutting_at quote (b ∷ g.before) text (92 ∷ b ∷ bs) (92 ∷ b ∷ bs) (g.bytes + 1 + 1) (n + 1) g.is refl (let c = g.counted in omega arith) (shut_quote quote b g.before bs g.bytes e (plain_cons b g.before ne2 s.plain) s),
      λ (x : text ≡ []). let i = g.is in absurd (cc),
    )
shuts_true quote b bs false true ne e f plain behind text n h =
    let g = grew (92 ∷ []) (scan quote bs true) text n h in
    let s = behind g.before g.bytes g.was in
    let one = s.0 in (
      shutting_at quote (92 ∷ g.before) text (92 ∷ 92 ∷ bs) (92 ∷ b ∷ bs) (g.bytes + 1 + 1) (n + 1) g.is (ap (λ (x : ℕ). 92 ∷ x ∷ bs) (sym (is_same b 92 f))) (let c = g.counted in omega arith)
          (shut_plain quote 92 g.before (92 ∷ bs) (g.bytes + 1) (other_test quote 92 ne) (plain_more 92 g.before s.1 one.plain) one),
      λ (x : text ≡ []). let i = g.is in absurd (cc),
    )
shuts_true quote b bs false false ne e f plain behind text n h =
    let g = grew (92 ∷ b ∷ []) (scan quote bs false) text n h in
    let s = plain g.before g.bytes g.was in
    let one = shut_plain quote b g.before bs g.bytes e (plain_cons b g.before (not_same b 92 f) s.plain) s in (
      shutting_at quote (92 ∷ b ∷ g.before) text (92 ∷ b ∷ bs) (92 ∷ b ∷ bs) (g.bytes + 1 + 1) (n + 1) g.is refl (let c = g.counted in omega arith)
          (shut_plain quote 92 (b ∷ g.before) (b ∷ bs) (g.bytes + 1) (other_test quote 92 ne) one.plain one),
      λ (x : text ≡ []). let i = g.is in absurd (cc),
    )

shuts : (bs : List ℕ) (quote : ℕ) → quote ≢ 92 → Shuts quote bs false × Shuts quote bs true
shuts [] quote ne = (λ text n h. absurd (cc), λ text n h. absurd (cc))
shuts (b ∷ bs) quote ne =
    let both = shuts bs quote ne in (
      shuts_false quote b bs (eqb b quote) (eqb b 92) ne refl refl both.0 both.1,
      shuts_true quote b bs (eqb b quote) (eqb b 92) ne refl refl both.0 both.1,
    )

-- what the scan reads is a quoted text
pub shut_quoted : (quote : ℕ) (bs text : List ℕ) (n : ℕ) → quote ≢ 92 → scan quote bs false ≡ Shut text n → Shutting quote text bs n
shut_quoted quote bs text n ne h = let both = shuts bs quote ne in both.0 text n h

-- a scan without an end reads no quoted text
pub endless_quoted : (quote : ℕ) (bs text s back : List ℕ) → quote ≢ 92 → scan quote bs false ≡ Endless → quote ∷ bs ≡ s ++ back → Quoted quote text s → ⊥
endless_quoted quote bs text s back ne h e q =
    let whole : quote ∷ bs ≡ quote ∷ ((escaped quote text ++ quote ∷ []) ++ back) = e ∙ ap (λ (l : List ℕ). l ++ back) q.0 in
    let same : bs ≡ (escaped quote text ++ quote ∷ []) ++ back = cc in
    let there = ap (λ (l : List ℕ). scan quote l false) same ∙ quoted_scan quote text back ne q.1 in
    cc
