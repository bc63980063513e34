-- What bytes give is one answer, and stays so whatever follows.
use Rattle.std.proofs.Common.{◌≡◌, ℕ, ◌+◌, ◌-◌, ◌<◌, ◌≤◌, Bool, true, false, List, [], ◌∷◌, ◌++◌, length, take, drop, map, refl, sym, ap, ◌∙◌, subst, arith, inl, inr, Option, Some, None, Result, Ok, Err, append_assoc, length-append, nat_le}
use Rattle.std.specs.Prelude.{◌⊎◌, if◌then◌else◌}
use Rattle.std.proofs.lemmas.List.{take-append-drop, take-append-le, take_all}
use Rattle.std.proofs.lemmas.Bool.{cases_lt, leb-true, le-leb}
use Rattle.std.proofs.Math.Seq.{take-append-add}
use Rattle.httparse.specs.Grammar.{RequestHead, print_request, print_blank, print_end, ReadsRequest, HasNoRequest, EndsInTarget}
use Rattle.httparse.specs.Spans.{name_and_value, RequestOverflows}
use Rattle.httparse.proofs.GrammarLemmas.{request_unique, ReadsRequest-append}
use Rattle.kap_http.specs.declared.fault.HttpFault.{HttpFault}
use Rattle.kap_http.specs.declared.limits.TheConstants.{FIELD_LIMIT, HEAD_LIMIT}
use Rattle.kap_http.specs.HeadValues.{HeadValue}
use Rattle.kap_http.specs.RequestValues.{RequestValue}
use Rattle.kap_http.specs.Fields.{Pair, body_len}
use Rattle.kap_http.specs.Paths.{limit_of}
use Rattle.kap_http.specs.Reading.{ReadResult, head_from, head_of, says, total_of, request_from, request_of, head_gives, HasHead, CanBeHead, Waits, IsBad, IsLostInTarget, Gives}
use Rattle.kap_base.specs.Words.{◌>>=◌}
use Rattle.kap_http.proofs.CutLaws.{joined}
use Rattle.kap_http.proofs.RoomLaws.{head_is, first_line, field_line}

-- ---- a small head and what excludes it

no_waits : (bytes : List ℕ) (head : RequestHead) (rest : List ℕ) → HasHead bytes head rest → Waits bytes → ⊥
no_waits bytes head rest has waits = waits.no_head head rest has.reads

-- a small head stands within the limit of heads
small_front : (bytes : List ℕ) (head : RequestHead) (rest : List ℕ) → HasHead bytes head rest → (more : List ℕ) × ReadsRequest (take HEAD_LIMIT bytes) head more
small_front bytes head rest has =
    let room : length (print_request head) + (HEAD_LIMIT - length (print_request head)) ≡ HEAD_LIMIT = omega (arith, has.short) in
    let cut = take-append-add (print_request head) rest (HEAD_LIMIT - length (print_request head)) in (
      take (HEAD_LIMIT - length (print_request head)) rest,
      (has.reads.0, ap (λ (x : List ℕ). take HEAD_LIMIT x) has.reads.1 ∙ rw room at cut),
    )

no_bad : (bytes : List ℕ) (head : RequestHead) (rest : List ℕ) → HasHead bytes head rest → IsBad bytes → ⊥
no_bad bytes head rest has (inr long) = let front = small_front bytes head rest has in long.no_head head front.0 front.1
no_bad bytes head rest has (inl over) =
    let few = has.few in
    let many : FIELD_LIMIT < length head.fields = over (drop HEAD_LIMIT bytes) head rest (subst (λ (x : List ℕ). ReadsRequest x head rest) (sym (take-append-drop HEAD_LIMIT bytes)) has.reads) in
    omega arith

no_wait_bad : (bytes : List ℕ) → Waits bytes → IsBad bytes → IsLostInTarget bytes
no_wait_bad bytes waits (inr long) = let a = waits.short in let b = long.long in absurd (omega arith)
no_wait_bad bytes waits (inl over) = by_may waits.may
  where
    same : take HEAD_LIMIT bytes ≡ bytes
    same = let a = waits.short in take_all HEAD_LIMIT bytes (omega arith)

    none : CanBeHead bytes → ⊥
    none can =
        let few = can.few in
        let many : FIELD_LIMIT < length can.head.fields = over can.more can.head [] (subst (λ (x : List ℕ). ReadsRequest (x ++ can.more) can.head []) (sym same) can.reads) in
        omega arith

    by_may : CanBeHead bytes ⊎ EndsInTarget bytes → IsLostInTarget bytes
    by_may (inr ends) = (ends, none)
    by_may (inl can) = absurd (none can)

pub one_is : (bytes : List ℕ) (a b : ReadResult) → Gives bytes a → Gives bytes b → (a ≡ b) ⊎ IsLostInTarget bytes
one_is bytes a b (inl x) (inl y) =
    let same = request_unique bytes x.0 y.0 x.1 y.1 x.2.reads y.2.reads in
    inl (x.3 ∙ ap (λ (h : RequestHead). head_gives h x.1) same.0 ∙ ap (λ (r : List ℕ). head_gives y.0 r) same.1 ∙ sym y.3)
one_is bytes a b (inl x) (inr (inl y)) = absurd (no_waits bytes x.0 x.1 x.2 y.0)
one_is bytes a b (inl x) (inr (inr y)) = absurd (no_bad bytes x.0 x.1 x.2 y.0)
one_is bytes a b (inr (inl x)) (inl y) = absurd (no_waits bytes y.0 y.1 y.2 x.0)
one_is bytes a b (inr (inl x)) (inr (inl y)) = inl (x.1 ∙ sym y.1)
one_is bytes a b (inr (inl x)) (inr (inr y)) = inr (no_wait_bad bytes x.0 y.0)
one_is bytes a b (inr (inr x)) (inl y) = absurd (no_bad bytes y.0 y.1 y.2 x.0)
one_is bytes a b (inr (inr x)) (inr (inl y)) = inr (no_wait_bad bytes y.0 x.0)
one_is bytes a b (inr (inr x)) (inr (inr y)) = inl (x.1 ∙ sym y.1)

-- a request that is read is the one answer
pub request_is : (bytes : List ℕ) (r : RequestValue) (n : ℕ) (b : ReadResult) → Gives bytes (Ok (Some (r, n))) → Gives bytes b → Ok (Some (r, n)) ≡ b
request_is bytes r n b (inl x) (inl y) =
    let same = request_unique bytes x.0 y.0 x.1 y.1 x.2.reads y.2.reads in
    x.3 ∙ ap (λ (h : RequestHead). head_gives h x.1) same.0 ∙ ap (λ (r : List ℕ). head_gives y.0 r) same.1 ∙ sym y.3
request_is bytes r n b (inl x) (inr (inl y)) = absurd (no_waits bytes x.0 x.1 x.2 y.0)
request_is bytes r n b (inl x) (inr (inr y)) = absurd (no_bad bytes x.0 x.1 x.2 y.0)
request_is bytes r n b (inr (inl x)) gives = absurd (cc (x.1))
request_is bytes r n b (inr (inr x)) gives = absurd (cc (x.1))

-- ---- what follows

size_stays : (h : HeadValue) (rest more : List ℕ) (x : RequestValue × ℕ) → request_of h rest ≡ Some x → request_of h (rest ++ more) ≡ Some x
size_stays h rest more x e = by_test (nat_le h.size (length rest)) refl e
  where
    by_test : (t : Bool) → nat_le h.size (length rest) ≡ t → ◌≡◌ {A = Option (RequestValue × ℕ)} (if t then Some (request_from h (take h.size rest), total_of h) else None) (Some x) → request_of h (rest ++ more) ≡ Some x
    by_test false t e = absurd cc
    by_test true t e =
        let le : h.size ≤ length rest = leb-true h.size (length rest) t in
        let test : nat_le h.size (length (rest ++ more)) ≡ true = le-leb h.size (length (rest ++ more)) (omega (arith, length-append rest more)) in
        rw (test, take-append-le h.size rest more le) e

-- what a head gives of the bytes behind it
abbrev pub answer : Result HeadValue HttpFault → List ℕ → ReadResult
answer said rest = said >>= λ h. Ok (request_of h rest)

-- the request that a head makes of its body
pub request_stays : (said : Result HeadValue HttpFault) (rest more : List ℕ) (x : RequestValue × ℕ) → answer said rest ≡ Ok (Some x) → answer said (rest ++ more) ≡ Ok (Some x)
request_stays (Ok h) rest more x e = let is : request_of h rest ≡ Some x = cc in ap (λ (o : Option (RequestValue × ℕ)). Ok o) (size_stays h rest more x is)
request_stays (Err f) rest more x e = absurd cc

pub fault_stays : (said : Result HeadValue HttpFault) (rest more : List ℕ) (f : HttpFault) → answer said rest ≡ Err f → answer said (rest ++ more) ≡ Err f
fault_stays (Ok h) rest more f e = absurd cc
fault_stays (Err g) rest more f e = e

-- the head of these parts has as many bytes as they say
pub len_is : (method target : List ℕ) (minor : ℕ) (fields : List Pair) (len : ℕ) (h : HeadValue) → head_of method target minor fields len ≡ Ok h → h.len ≡ len
unfolding head_of
len_is method target minor fields len h e = by_size (body_len (limit_of target) fields) e
  where
    by_size : (b : Result ℕ HttpFault) → ◌≡◌ {A = Result HeadValue HttpFault} (b >>= λ size. Ok (head_from method target minor fields len size)) (Ok h) → h.len ≡ len
    by_size (Ok size) e = let is : head_from method target minor fields len size ≡ h = cc in sym (ap (λ (x : HeadValue). x.len) is)
    by_size (Err f) e = absurd cc

request_fits : (said : Result HeadValue HttpFault) (len : ℕ) (rest : List ℕ) (r : RequestValue) (n : ℕ) → ((h : HeadValue) → said ≡ Ok h → h.len ≡ len)
    → answer said rest ≡ Ok (Some (r, n)) → (len ≤ n) × (n ≤ len + length rest)
request_fits (Ok h) len rest r n is e =
    let same : h.len ≡ len = is h refl in
    let some : request_of h rest ≡ Some (r, n) = cc in
    by_test same (nat_le h.size (length rest)) refl some
  where
    by_test : h.len ≡ len → (t : Bool) → nat_le h.size (length rest) ≡ t
        → ◌≡◌ {A = Option (RequestValue × ℕ)} (if t then Some (request_from h (take h.size rest), total_of h) else None) (Some (r, n)) → (len ≤ n) × (n ≤ len + length rest)
    by_test same false t e = absurd cc
    by_test same true t e =
        let pair : ◌≡◌ {A = RequestValue × ℕ} (request_from h (take h.size rest), total_of h) (r, n) = cc in
        let is : h.len + h.size ≡ n = ap (λ (p : RequestValue × ℕ). p.1) pair in
        let le : h.size ≤ length rest = leb-true h.size (length rest) t in
        (omega arith, omega arith)
request_fits (Err f) len rest r n is e = absurd cc

pub some_bytes : (h : RequestHead) → 0 < length (print_request h)
some_bytes h = omega (arith, ap (λ (x : List ℕ). length x) (head_is h), some (print_blank h.blank) (first_line h) (joined (map field_line h.fields)) (print_end h.last))
  where
    some : (a b c d : List ℕ) → 0 < length (a ++ ((b ++ 10 ∷ c) ++ d))
    some a b c d = simp length-append (omega arith)

pub gives_within : (bytes : List ℕ) (r : RequestValue) (n : ℕ) → Gives bytes (Ok (Some (r, n))) → (0 < n) × (n ≤ length bytes)
gives_within bytes r n (inl x) =
    let fits = request_fits (says x.0) (length (print_request x.0)) x.1 r n (len_is x.0.method x.0.target x.0.minor (map name_and_value x.0.fields) (length (print_request x.0))) (sym x.3) in
    let long = ap (λ (y : List ℕ). length y) x.2.reads.1 ∙ length-append (print_request x.0) x.1 in
    (omega (arith, some_bytes x.0), omega arith)
gives_within bytes r n (inr (inl x)) = absurd (cc (x.1))
gives_within bytes r n (inr (inr x)) = absurd (cc (x.1))

pub head_stays : (bytes more : List ℕ) (head : RequestHead) (rest : List ℕ) → HasHead bytes head rest → HasHead (bytes ++ more) head (rest ++ more)
head_stays bytes more head rest has = record { reads = ReadsRequest-append bytes head rest more has.reads; few = has.few; short = has.short }

over_stays : (bytes more : List ℕ) → RequestOverflows FIELD_LIMIT bytes → RequestOverflows FIELD_LIMIT (bytes ++ more)
over_stays bytes more over = λ further h rest reads. over (more ++ further) h rest (subst (λ (x : List ℕ). ReadsRequest x h rest) (append_assoc bytes more further) reads)

pub bad_stays : (bytes more : List ℕ) → IsBad bytes → IsBad (bytes ++ more)
bad_stays bytes more (inr long) =
    let is = long.long in
    inr (record { long = omega (arith, length-append bytes more); no_head = subst HasNoRequest (sym (take-append-le HEAD_LIMIT bytes more is)) long.no_head })
bad_stays bytes more (inl over) = inl (by_length (cases_lt (length bytes) HEAD_LIMIT))
  where
    by_length : (length bytes < HEAD_LIMIT) ⊎ (HEAD_LIMIT ≤ length bytes) → RequestOverflows FIELD_LIMIT (take HEAD_LIMIT (bytes ++ more))
    by_length (inr ge) = subst (RequestOverflows FIELD_LIMIT) (sym (take-append-le HEAD_LIMIT bytes more ge)) over
    by_length (inl lt) =
        let all : take HEAD_LIMIT bytes ≡ bytes = take_all HEAD_LIMIT bytes (omega arith) in
        let room : length bytes + (HEAD_LIMIT - length bytes) ≡ HEAD_LIMIT = omega arith in
        let cut = rw room at (take-append-add bytes more (HEAD_LIMIT - length bytes)) in
        subst (RequestOverflows FIELD_LIMIT) (sym cut) (over_stays bytes (take (HEAD_LIMIT - length bytes) more) (subst (RequestOverflows FIELD_LIMIT) all over))

pub gives_more : (bytes more : List ℕ) (r : RequestValue) (n : ℕ) → Gives bytes (Ok (Some (r, n))) → Gives (bytes ++ more) (Ok (Some (r, n)))
gives_more bytes more r n (inl x) =
    inl (x.0, x.1 ++ more, head_stays bytes more x.0 x.1 x.2, sym (request_stays (says x.0) x.1 more (r, n) (sym x.3)))
gives_more bytes more r n (inr (inl x)) = absurd (cc (x.1))
gives_more bytes more r n (inr (inr x)) = absurd (cc (x.1))

pub refuses_more : (bytes more : List ℕ) (f : HttpFault) → Gives bytes (Err f) → Gives (bytes ++ more) (Err f)
refuses_more bytes more f (inl x) =
    inl (x.0, x.1 ++ more, head_stays bytes more x.0 x.1 x.2, sym (fault_stays (says x.0) x.1 more f (sym x.3)))
refuses_more bytes more f (inr (inl x)) = absurd (cc (x.1))
refuses_more bytes more f (inr (inr x)) = inr (inr (bad_stays bytes more x.0, x.1))
