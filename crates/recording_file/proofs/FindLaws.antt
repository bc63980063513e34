-- What reading on does to the bytes that are ahead.
use Rattle.std.proofs.Common.{◌≡◌, ℕ, suc, ◌+◌, ◌<◌, ◌≤◌, Bool, true, false, cond, not, subst, refl, Option, None, Some, List, [], ◌∷◌, ◌++◌, length, sym, ap, ◌∙◌, append_assoc, append-nil, inl, inr, arith}
use Rattle.std.specs.Prelude.{◌==◌}
use Rattle.std.specs.List.{position_or_len}
use Rattle.std.proofs.lemmas.Bool.Decides.{nat_tests}
use Rattle.line_points.specs.Body.{without_return}
use Rattle.std.specs.Io.KnownBytes.{Consumes, Keeps, IsAtEnd}
use Rattle.std.proofs.KnownBytes.{Consumes-trans}
use Rattle.recording_file.specs.Lines.{is_feed, is_long}
use Rattle.recording_file.specs.Reading.{ReadsOn, HasEnded}
use Rattle.recording_file.specs.Finding.{ReadPlace, Reads, Stays, Passes}

-- nothing more is left where nothing more is read
pub ended_kept : (a b c : Option (List ℕ)) (piece : List ℕ) → piece ≡ [] → HasEnded a b → Consumes b c piece → HasEnded a c
ended_kept None b c piece none p q = tt
ended_kept (Some x) None c piece none p q = absurd p
ended_kept (Some x) (Some y) None piece none p q = absurd q
ended_kept (Some x) (Some y) (Some z) piece none p q = sym (ap (λ (l : List ℕ). l ++ z) none) ∙ sym q ∙ p

pub ended_later : (a b c : Option (List ℕ)) (piece : List ℕ) → Consumes a b piece → HasEnded b c → HasEnded a c
ended_later None b c piece p q = tt
ended_later (Some x) None c piece p q = absurd p
ended_later (Some x) (Some y) None piece p q = absurd q
ended_later (Some x) (Some y) (Some z) piece p q = q

pub nothing_more : (xs more : List ℕ) → xs ≡ [] → more ≡ [] → xs ++ more ≡ []
nothing_more xs more p q = ap (λ (l : List ℕ). l ++ more) p ∙ q

-- two calls in a row
abbrev pub reads_more : (a b c : List ℕ) (e f h : Bool) (s t u : Option (List ℕ)) → ReadsOn a b e f s t → ReadsOn b c f h t u → ReadsOn a c e h s u
reads_more a b c e f h s t u p q = record {
  piece = p.piece ++ q.piece;
  got = q.got ∙ ap (λ (l : List ℕ). l ++ q.piece) p.got ∙ append_assoc a p.piece q.piece;
  took = Consumes-trans s t u p.piece q.piece p.took q.took;
  stays_ended = λ was. q.stays_ended (p.stays_ended was);
  none = λ was. nothing_more p.piece q.piece (p.none was) (q.none (p.stays_ended was));
  ends = λ is. elim (q.ends is) [
    | inl before ↦ elim (p.ends before) [ inl was ↦ inl was | inr over ↦ inr (ended_kept s t u q.piece (q.none before) over q.took) ]
    | inr over ↦ inr (ended_later s t u p.piece p.took over)
  ];
}

pub stays_more : (a b c : ReadPlace) (s t u : Option (List ℕ)) → Stays a b s t → Stays b c t u → Stays a c s u
stays_more a b c s t u p q = record {
  reads = reads_more _ _ _ _ _ _ s t u p.reads q.reads;
  bytes = q.bytes ∙ ap (λ (l : List ℕ). l ++ q.reads.piece) p.bytes ∙ append_assoc a.bytes p.reads.piece q.reads.piece;
  line = q.line ∙ p.line;
  passed = q.passed ∙ p.passed;
}

kept_none : (s t : Option (List ℕ)) → Keeps s t → Consumes s t []
kept_none None t k = tt
kept_none (Some x) None k = absurd k
kept_none (Some x) (Some y) k = sym k

-- a call that reads nothing
pub stays_kept : (a b : ReadPlace) (s t : Option (List ℕ)) → b ≡ a → Keeps s t → Stays a b s t
stays_kept a b s t is k = record {
  reads = record {
    piece = [];
    got = ap (λ (x : ReadPlace). x.got) is ∙ sym (append-nil a.got);
    took = kept_none s t k;
    stays_ended = λ was. ap (λ (x : ReadPlace). x.ended) is ∙ was;
    none = λ was. refl;
    ends = λ now. inl (sym (ap (λ (x : ReadPlace). x.ended) is) ∙ now);
  };
  bytes = ap (λ (x : ReadPlace). x.bytes) is ∙ sym (append-nil a.bytes);
  line = ap (λ (x : ReadPlace). x.line) is;
  passed = ap (λ (x : ReadPlace). x.passed) is;
}

-- the source has ended where its last read gave all
pub at_end_over : (s t : Option (List ℕ)) (piece : List ℕ) → Consumes s t piece → IsAtEnd t → HasEnded s t
at_end_over None t piece p q = tt
at_end_over (Some x) None piece p q = absurd p
at_end_over (Some x) (Some y) piece p q = q

-- a line was found and passed
pub reads_passed : (a b c : ReadPlace) (s t : Option (List ℕ)) (size : ℕ) → Stays a b s t → Passes b c size → Reads a c s t
reads_passed a b c s t size on passes = record {
  piece = on.reads.piece;
  got = passes.got ∙ on.reads.got;
  took = on.reads.took;
  stays_ended = λ was. passes.ended ∙ on.reads.stays_ended was;
  none = on.reads.none;
  ends = λ now. on.reads.ends (sym passes.ended ∙ now);
}

-- the first line feed isn't nearer once other bytes stand behind
pub pos_more : (bytes more : List ℕ) → position_or_len is_feed bytes ≤ position_or_len is_feed (bytes ++ more)
pos_more [] more = omega arith
pos_more (b ∷ bytes) more =
    elim (is_feed b) as (λ f. cond (not f) (1 + position_or_len is_feed bytes) 0 ≤ cond (not f) (1 + position_or_len is_feed (bytes ++ more)) 0) [
      | true ↦ omega arith
      | false ↦ let further = pos_more bytes more in omega arith
    ]

-- one that stands there stays where it is
pub pos_there : (bytes more : List ℕ) → position_or_len is_feed bytes < length bytes → position_or_len is_feed (bytes ++ more) ≡ position_or_len is_feed bytes
pos_there [] more lt = absurd (omega arith)
pos_there (b ∷ bytes) more lt =
    let within : Bool → Type 0 = λ f. cond (not f) (1 + position_or_len is_feed bytes) 0 < suc (length bytes) in
    elim (is_feed b) as (λ f. is_feed b ≡ f → cond (not f) (1 + position_or_len is_feed (bytes ++ more)) 0 ≡ cond (not f) (1 + position_or_len is_feed bytes) 0) [
      | true ↦ λ e. refl
      | false ↦ λ e. let one : 1 + position_or_len is_feed bytes < suc (length bytes) = subst within e lt in ap (λ n. 1 + n) (pos_there bytes more (omega arith))
    ] refl

-- without its carriage return a line has one byte less at most
pub return_short : (line : List ℕ) → length line ≤ length (without_return line) + 1
return_short [] = omega arith
return_short (b ∷ []) = elim (b == 13) as (λ t. 1 ≤ length (cond t [] (b ∷ [])) + 1) [ true ↦ omega arith | false ↦ omega arith ]
return_short (b ∷ c ∷ line) = let rest = return_short (c ∷ line) in omega arith

-- a line that isn't too long
pub not_long : (line : List ℕ) → is_long line ≡ false → length line ≤ 65536
not_long line short = grind (arith, nat_tests)

pub short_bound : (line : List ℕ) → is_long (without_return line) ≡ false → length line ≤ 65537
short_bound line short = let one = return_short line in let few = not_long (without_return line) short in omega arith
