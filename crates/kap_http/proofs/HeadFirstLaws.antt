-- Reading of a head, and of its request once its bytes are there.
use Rattle.std.proofs.Common.{◌≡◌, ◌≢◌, ℕ, ◌+◌, ◌<◌, ◌≤◌, Bool, true, false, List, [], ◌++◌, length, drop, map, refl, sym, ap, ◌∙◌, subst, arith, inl, inr, Option, Some, None, Result, Ok, Err, append-nil, length-append, nat_le}
use Rattle.std.proofs.lemmas.Bool.{leb-true, leb-false, le-leb, lt-leb}
use Rattle.std.proofs.Math.Seq.{drop-append_seam}
use Rattle.httparse.specs.Grammar.{print_request}
use Rattle.httparse.specs.Spans.{name_and_value}
use Rattle.kap_base.specs.Words.{Answers}
use Rattle.kap_http.specs.declared.fault.HttpFault.{HttpFault}
use Rattle.kap_http.specs.declared.fault.HttpFault.TheVariants as faults
use Rattle.kap_http.specs.declared.limits.TheConstants.{HEAD_LIMIT}
use Rattle.kap_http.specs.HeadValues.{HeadValue}
use Rattle.kap_http.specs.RequestValues.{RequestValue}
use Rattle.kap_http.specs.Reading.{ReadResult, HeadResult, found, says, whole_in, request_of, Gives, GivesHead}
use Rattle.kap_http.proofs.HeadLaws.{answer_is}
use Rattle.kap_http.proofs.OneLaws.{answer, head_stays, len_is, some_bytes}

-- a head that was found is what was said
said_is : (h : HeadValue) (said : Result HeadValue HttpFault) → ◌≡◌ {A = HeadResult} (Ok (Some h)) (found said) → said ≡ Ok h
said_is h (Ok g) e = cc
said_is h (Err f) e = absurd cc

never_none : (said : Result HeadValue HttpFault) → ◌≡◌ {A = HeadResult} (Ok None) (found said) → ⊥
never_none (Ok h) e = cc
never_none (Err f) e = cc

fault_is : (f : HttpFault) (said : Result HeadValue HttpFault) (rest : List ℕ) → ◌≡◌ {A = HeadResult} (Err f) (found said) → ◌≡◌ {A = ReadResult} (Err f) (answer said rest)
fault_is f (Ok h) rest e = absurd cc
fault_is f (Err g) rest e = cc

-- the test on all bytes is the test on those behind the head
tests_are : (len size all rest : ℕ) → all ≡ len + rest → nat_le (len + size) all ≡ nat_le size rest
tests_are len size all rest e = by_test (nat_le size rest) refl
  where
    by_test : (t : Bool) → nat_le size rest ≡ t → nat_le (len + size) all ≡ t
    by_test true t = let le : size ≤ rest = leb-true size rest t in le-leb (len + size) all (omega arith)
    by_test false t = let lt : rest < size = leb-false size rest t in lt-leb (len + size) all (omega arith)

-- of bytes that begin with a head as long as this one says, the request is that of the bytes behind
whole_is : (h : HeadValue) (front rest bytes : List ℕ) → h.len ≡ length front → bytes ≡ front ++ rest → whole_in h bytes ≡ request_of h rest
whole_is h front rest bytes len e =
    let long : length bytes ≡ h.len + length rest = ap (λ (x : List ℕ). length x) e ∙ length-append front rest ∙ ap (λ (n : ℕ). n + length rest) (sym len) in
    let behind : drop h.len bytes ≡ rest = ap (λ (x : List ℕ). drop h.len x) e ∙ ap (λ (n : ℕ). drop n (front ++ rest)) len ∙ drop-append_seam front rest in
    rw (tests_are h.len h.size (length bytes) (length rest) long, behind) refl

pub whole_gives : (bytes more : List ℕ) (h : HeadValue) → GivesHead bytes (Ok (Some h)) → Gives (bytes ++ more) (Ok (whole_in h (bytes ++ more)))
whole_gives bytes more h (inl x) =
    let has = head_stays bytes more x.0 x.1 x.2 in
    let said = said_is h (says x.0) x.3 in
    let len = len_is x.0.method x.0.target x.0.minor (map name_and_value x.0.fields) (length (print_request x.0)) h said in
    let whole = whole_is h (print_request x.0) (x.1 ++ more) (bytes ++ more) len has.reads.1 in
    inl (
      x.0,
      x.1 ++ more,
      has,
      ap (λ (o : Option (RequestValue × ℕ)). Ok o) whole ∙ sym (ap (λ (s : Result HeadValue HttpFault). answer s (x.1 ++ more)) said),
    )
whole_gives bytes more h (inr (inl x)) = absurd (cc (x.1))
whole_gives bytes more h (inr (inr x)) = absurd (cc (x.1))

pub none_gives : (bytes : List ℕ) → GivesHead bytes (Ok None) → Gives bytes (Ok None)
none_gives bytes (inl x) = absurd (never_none (says x.0) x.3)
none_gives bytes (inr (inl x)) = inr (inl (x.0, refl))
none_gives bytes (inr (inr x)) = absurd (cc (x.1))

pub fault_gives : (bytes : List ℕ) (f : HttpFault) → GivesHead bytes (Err f) → Gives bytes (Err f)
fault_gives bytes f (inl x) = inl (x.0, x.1, x.2, fault_is f (says x.0) x.1 x.3)
fault_gives bytes f (inr (inl x)) = absurd (cc (x.1))
fault_gives bytes f (inr (inr x)) = let is : f ≡ faults.Bad = cc (x.1) in inr (inr (x.0, ap (λ (g : HttpFault). Err g) is))

-- ---- what reading a request makes of the head

pub whole_answer : (bytes : List ℕ) (h : HeadValue) (r : ReadResult) → GivesHead bytes (Ok (Some h)) → Answers faults.NoMemory r (Ok (whole_in h bytes)) → r ≢ Err faults.NoMemory → Gives bytes r
whole_answer bytes h r given answers ne =
    subst (λ (x : ReadResult). Gives bytes x) (sym (answer_is faults.NoMemory r (Ok (whole_in h bytes)) answers ne)) (subst (λ (x : List ℕ). Gives x (Ok (whole_in h x))) (append-nil bytes) (whole_gives bytes [] h given))

pub fault_answer : (bytes : List ℕ) (f : HttpFault) → (◌≢◌ {A = HeadResult} (Err f) (Err faults.NoMemory) → GivesHead bytes (Err f)) → ◌≢◌ {A = ReadResult} (Err f) (Err faults.NoMemory) → Gives bytes (Err f)
fault_answer bytes f gives ne = fault_gives bytes f (gives (λ e. ne (lack e)))
  where
    lack : ◌≡◌ {A = HeadResult} (Err f) (Err faults.NoMemory) → ◌≡◌ {A = ReadResult} (Err f) (Err faults.NoMemory)
    lack e = let is : f ≡ faults.NoMemory = cc in ap (λ (g : HttpFault). Err g) is

-- ---- how long what was read is

pub head_within : (bytes : List ℕ) (h : HeadValue) → GivesHead bytes (Ok (Some h)) → (0 < h.len) × (h.len ≤ length bytes)
head_within bytes h (inl x) =
    let len = len_is x.0.method x.0.target x.0.minor (map name_and_value x.0.fields) (length (print_request x.0)) h (said_is h (says x.0) x.3) in
    let long = ap (λ (y : List ℕ). length y) x.2.reads.1 ∙ length-append (print_request x.0) x.1 in
    (omega (arith, some_bytes x.0), omega arith)
head_within bytes h (inr (inl x)) = absurd (cc (x.1))
head_within bytes h (inr (inr x)) = absurd (cc (x.1))

pub head_short : (bytes : List ℕ) → GivesHead bytes (Ok None) → length bytes < HEAD_LIMIT
head_short bytes (inl x) = absurd (never_none (says x.0) x.3)
head_short bytes (inr (inl x)) = x.0.short
head_short bytes (inr (inr x)) = absurd (cc (x.1))
