-- Requests one behind the other, read in any pieces.
use Rattle.std.proofs.Common.{◌≡◌, ℕ, zero, suc, ◌+◌, Bool, true, false, List, [], ◌∷◌, ◌++◌, length, drop, refl, sym, ap, ◌∙◌, subst, arith, inl, inr, Option, Some, None, Result, Ok, Err, append-nil, length-append, zero-add}
use Rattle.std.specs.Prelude.{◌⊎◌}
use Rattle.std.proofs.lemmas.List.{drop-append-le}
use Rattle.std.proofs.lemmas.List.Elements.{All-cons, All-nil}
use Rattle.std.proofs.lemmas.Str.{IsUtf8-from_ascii}
use Rattle.std.proofs.lemmas.Str.Ascii.{IsAscii-cons, IsAscii-nil}
use Rattle.httparse.specs.Grammar.{RequestHead, IsRequestHead, IsField, lf, print_request, is_token_byte, is_uri_byte}
use Rattle.httparse.proofs.OpenLemmas.{letter_is_token}
use Rattle.kap_http.specs.declared.fault.HttpFault.{HttpFault}
use Rattle.kap_http.specs.RequestValues.{RequestValue}
use Rattle.kap_http.specs.Reading.{Gives, IsLostInTarget, ReadResult}
use Rattle.kap_http.specs.Requests.{Stop, behind_last, behind_most, at_end, inside, at_fault, StopsAt, BehindIt, Requests, BeginsWith, IsFinal, IsLostBehind}
use Rattle.kap_http.proofs.OneLaws.{one_is, request_is, gives_more, refuses_more, gives_within, some_bytes}

behind_more : (bytes more : List ℕ) (r : RequestValue) (n : ℕ) → Gives bytes (Ok (Some (r, n))) → drop n bytes ++ more ≡ drop n (bytes ++ more)
behind_more bytes more r n gives = sym (drop-append-le n bytes more (gives_within bytes r n gives).1)

pub begun_more : (bytes more : List ℕ) (requests : List RequestValue) (rest : List ℕ) → BeginsWith bytes requests rest → BeginsWith (bytes ++ more) requests (rest ++ more)
begun_more bytes more [] rest begun = ap (λ (x : List ℕ). x ++ more) begun
begun_more bytes more (r ∷ requests) rest begun = (
  begun.0,
  gives_more bytes more r begun.0 begun.1,
  begun.2,
  subst (λ (x : List ℕ). BeginsWith x requests (rest ++ more)) (behind_more bytes more r begun.0 begun.1) (begun_more (drop begun.0 bytes) more requests rest begun.3),
)

pub begun_next : (bytes : List ℕ) (requests : List RequestValue) (rest : List ℕ) (r : RequestValue) (n : ℕ) → BeginsWith bytes requests rest → Gives rest (Ok (Some (r, n))) → r.last ≡ false
    → BeginsWith bytes (requests ++ r ∷ []) (drop n rest)
begun_next bytes [] rest r n begun gives goes =
    (n, subst (λ (x : List ℕ). Gives x (Ok (Some (r, n)))) (sym begun) gives, goes, ap (λ (x : List ℕ). drop n x) begun)
begun_next bytes (q ∷ requests) rest r n begun gives goes =
    (begun.0, begun.1, begun.2, begun_next (drop begun.0 bytes) requests rest r n begun.3 gives goes)

pub begun_then : (bytes : List ℕ) (requests : List RequestValue) (rest : List ℕ) (left : ℕ) (more : List RequestValue) (stop : Stop) → BeginsWith bytes requests rest → Requests left rest more stop
    → Requests (length requests + left) bytes (requests ++ more) stop
begun_then bytes [] rest left more stop begun due =
    subst (λ (n : ℕ). Requests n bytes more stop) (sym (zero-add left)) (subst (λ (x : List ℕ). Requests left x more stop) (sym begun) due)
begun_then bytes (r ∷ requests) rest left more stop begun due =
    let count : suc (length requests) + left ≡ suc (length requests + left) = omega arith in
    let goes : false ≡ r.last = sym begun.2 in
    let behind = begun_then (drop begun.0 bytes) requests rest left more stop begun.3 due in
    subst (λ (n : ℕ). Requests n bytes (r ∷ (requests ++ more)) stop) (sym count)
    (begun.0, begun.1, subst (λ (t : Bool). BehindIt t (requests ++ more) stop (Requests (length requests + left) (drop begun.0 bytes) (requests ++ more) stop)) goes behind)

pub requests_more : (left : ℕ) (bytes more : List ℕ) (requests : List RequestValue) (stop : Stop) → IsFinal stop → Requests left bytes requests stop → Requests left (bytes ++ more) requests stop
requests_more zero bytes more [] stop final due = due
requests_more zero bytes more (r ∷ requests) stop final due = absurd due
requests_more (suc left) bytes more [] behind_last final due = absurd due
requests_more (suc left) bytes more [] behind_most final due = absurd due
requests_more (suc left) bytes more [] at_end final due = absurd final
requests_more (suc left) bytes more [] inside final due = absurd final
requests_more (suc left) bytes more [] (at_fault f) final due = refuses_more bytes more f due
requests_more (suc left) bytes more (r ∷ requests) stop final due =
    (due.0, gives_more bytes more r due.0 due.1, behind r.last due.2 (λ h. subst (λ (x : List ℕ). Requests left x requests stop) (behind_more bytes more r due.0 due.1) (requests_more left (drop due.0 bytes) more requests stop final h)))
  where
    behind : {A B : Type 0} (t : Bool) → BehindIt t requests stop A → (A → B) → BehindIt t requests stop B
    behind true h step = h
    behind false h step = step h

-- ---- one list

-- a small head, which may still come behind no bytes
some_head : RequestHead
some_head = record { blank = []; method = 65 ∷ []; target = 47 ∷ []; minor = 1; line_end = lf; fields = []; last = lf }

some_valid : IsRequestHead some_head
unfolding some_head
some_valid = record {
  method = (omega arith, All-cons (λ b. is_token_byte b ≡ true) 65 [] letter_is_token (All-nil (λ b. is_token_byte b ≡ true)));
  target = (omega arith, All-cons (λ b. is_uri_byte b ≡ true) 47 [] refl (All-nil (λ b. is_uri_byte b ≡ true)));
  target_text = IsUtf8-from_ascii _ (IsAscii-cons 47 [] (omega arith) IsAscii-nil);
  minor = omega arith;
  fields = All-nil IsField;
}

some_few : length some_head.fields ≡ 0
unfolding some_head
some_few = refl

never_nothing : (f : HttpFault) → Gives [] (Err f) → ⊥
never_nothing f (inl x) = let is = gives_nothing x.0 x.1 x.2.reads.1 in is
  where
    gives_nothing : (h : RequestHead) (rest : List ℕ) → [] ≡ print_request h ++ rest → ⊥
    gives_nothing h rest e = let some = some_bytes h in let long = ap (λ (y : List ℕ). length y) e ∙ length-append (print_request h) rest in omega arith
never_nothing f (inr (inl x)) = absurd (cc (x.1))
never_nothing f (inr (inr (inr long, e))) = let l = long.long in omega arith
never_nothing f (inr (inr (inl over, e))) =
    let many = over (print_request some_head) some_head [] (some_valid, sym (append-nil (print_request some_head))) in
    omega (arith, some_few)

-- two answers that differ
lost_of : (bytes : List ℕ) (a b : ReadResult) → (a ≡ b → ⊥) → (a ≡ b) ⊎ IsLostInTarget bytes → IsLostInTarget bytes
lost_of bytes a b other (inl e) = absurd (other e)
lost_of bytes a b other (inr lost) = lost

stop_one : (bytes : List ℕ) (x y : Stop) → StopsAt bytes x → StopsAt bytes y → (x ≡ y) ⊎ IsLostInTarget bytes
stop_one bytes behind_last y p q = absurd p
stop_one bytes behind_most y p q = absurd p
stop_one bytes at_end behind_last p q = absurd q
stop_one bytes at_end behind_most p q = absurd q
stop_one bytes at_end at_end p q = inl refl
stop_one bytes at_end inside p q = absurd (q.0 p)
stop_one bytes at_end (at_fault f) p q = absurd (never_nothing f (subst (λ (b : List ℕ). Gives b (Err f)) p q))
stop_one bytes inside behind_last p q = absurd q
stop_one bytes inside behind_most p q = absurd q
stop_one bytes inside at_end p q = absurd (p.0 q)
stop_one bytes inside inside p q = inl refl
stop_one bytes inside (at_fault f) p q = inr (lost_of bytes (Ok None) (Err f) (λ e. cc) (one_is bytes (Ok None) (Err f) p.1 q))
stop_one bytes (at_fault f) behind_last p q = absurd q
stop_one bytes (at_fault f) behind_most p q = absurd q
stop_one bytes (at_fault f) at_end p q = absurd (never_nothing f (subst (λ (b : List ℕ). Gives b (Err f)) q p))
stop_one bytes (at_fault f) inside p q = inr (lost_of bytes (Err f) (Ok None) (λ e. cc) (one_is bytes (Err f) (Ok None) p q.1))
stop_one bytes (at_fault f) (at_fault g) p q = by_one (one_is bytes (Err f) (Err g) p q)
  where
    by_one : ◌≡◌ {A = ReadResult} (Err f) (Err g) ⊎ IsLostInTarget bytes → (at_fault f ≡ at_fault g) ⊎ IsLostInTarget bytes
    by_one (inl e) = let same : f ≡ g = cc in inl (ap (λ (e : HttpFault). at_fault e) same)
    by_one (inr lost) = inr lost

no_stop : (bytes : List ℕ) (x : Stop) (r : RequestValue) (n : ℕ) → StopsAt bytes x → Gives bytes (Ok (Some (r, n))) → ⊥
no_stop bytes behind_last r n p q = p
no_stop bytes behind_most r n p q = p
no_stop bytes at_end r n p q = let w = gives_within bytes r n q in let none = ap (λ (b : List ℕ). length b) p in omega arith
no_stop bytes inside r n p q = cc (request_is bytes r n (Ok None) q p.1)
no_stop bytes (at_fault f) r n p q = cc (request_is bytes r n (Err f) q p)

pair_of : (r q : RequestValue) (n m : ℕ) → ◌≡◌ {A = Result (Option (RequestValue × ℕ)) HttpFault} (Ok (Some (r, n))) (Ok (Some (q, m))) → (r ≡ q) × (n ≡ m)
pair_of r q n m e =
    let pair : ◌≡◌ {A = RequestValue × ℕ} (r, n) (q, m) = cc in
    (ap (λ (p : RequestValue × ℕ). p.0) pair, ap (λ (p : RequestValue × ℕ). p.1) pair)

-- one list of requests, and one stop but where the rest is lost
abbrev Same : List ℕ → List RequestValue → List RequestValue → Stop → Stop → Type 0
Same bytes a b x y = (a ≡ b) × ((x ≡ y) ⊎ IsLostBehind bytes a)

pub one_list : (left : ℕ) (bytes : List ℕ) (a b : List RequestValue) (x y : Stop) → Requests left bytes a x → Requests left bytes b y → Same bytes a b x y
one_list zero bytes [] [] x y p q = (refl, inl (p ∙ sym q))
one_list zero bytes [] (r ∷ b) x y p q = absurd q
one_list zero bytes (r ∷ a) b x y p q = absurd p
one_list (suc left) bytes [] [] x y p q = (refl, by_stop (stop_one bytes x y p q))
  where
    by_stop : (x ≡ y) ⊎ IsLostInTarget bytes → (x ≡ y) ⊎ IsLostBehind bytes []
    by_stop (inl e) = inl e
    by_stop (inr lost) = inr (bytes, refl, lost)
one_list (suc left) bytes [] (r ∷ b) x y p q = absurd (no_stop bytes x r q.0 p q.1)
one_list (suc left) bytes (r ∷ a) [] x y p q = absurd (no_stop bytes y r p.0 q p.1)
one_list (suc left) bytes (r ∷ a) (s ∷ b) x y p q =
    let same = pair_of r s p.0 q.0 (request_is bytes r p.0 (Ok (Some (s, q.0))) p.1 q.1) in
    let there = subst (λ (n : ℕ). Requests left (drop p.0 bytes) a x → Requests left (drop n bytes) b y → Same (drop p.0 bytes) a b x y) same.1 (one_list left (drop p.0 bytes) a b x y) in
    let goes : r.last ≡ s.last = ap (λ (e : RequestValue). e.last) same.0 in
    let behind = both r.last refl p.2 (subst (λ (t : Bool). BehindIt t b y (Requests left (drop q.0 bytes) b y)) (sym goes) q.2) there in
    (ap (λ (e : RequestValue). e ∷ a) same.0 ∙ ap (λ (l : List RequestValue). s ∷ l) behind.0, behind.1)
  where
    onto : r.last ≡ false → (x ≡ y) ⊎ IsLostBehind (drop p.0 bytes) a → (x ≡ y) ⊎ IsLostBehind bytes (r ∷ a)
    onto last (inl e) = inl e
    onto last (inr lost) = inr (lost.0, (p.0, p.1, last, lost.1), lost.2)

    both : {P Q : Type 0} (t : Bool) → r.last ≡ t → BehindIt t a x P → BehindIt t b y Q → (P → Q → Same (drop p.0 bytes) a b x y) → (a ≡ b) × ((x ≡ y) ⊎ IsLostBehind bytes (r ∷ a))
    both true last h k step = (h.0 ∙ sym k.0, inl (h.1 ∙ sym k.1))
    both false last h k step = let here = step h k in (here.0, onto last here.1)
