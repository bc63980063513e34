-- How long what is read can be.
use Rattle.std.proofs.Common.{◌≡◌, ℕ, ◌+◌, ◌<◌, ◌≤◌, Bool, true, false, ◌||◌, List, length, take, map, refl, sym, ap, ◌∙◌, arith, inl, inr, Option, Some, None, Result, Ok, Err, length-append, nat_le, nat_lt}
use Rattle.std.specs.Prelude.{if◌then◌else◌}
use Rattle.std.specs.List.{list_any}
use Rattle.std.proofs.lemmas.Bool.{leb-false, ltb-false}
use Rattle.httparse.specs.Grammar.{print_request}
use Rattle.httparse.specs.Spans.{name_and_value}
use Rattle.kap_base.specs.Words.{◌>>=◌}
use Rattle.kap_http.specs.declared.fault.HttpFault.{HttpFault}
use Rattle.kap_http.specs.declared.fault.HttpFault.TheVariants as faults
use Rattle.kap_http.specs.declared.limits.TheConstants.{BODY_LIMIT, HEAD_LIMIT, WRITE_LIMIT}
use Rattle.kap_http.specs.HeadValues.{HeadValue}
use Rattle.kap_http.specs.RequestValues.{RequestValue}
use Rattle.kap_http.specs.Fields.{Pair, shows, body_len, length_of, lengths, within}
use Rattle.kap_http.specs.Paths.{limit_of, leads_to_write, way_of, path_of}
use Rattle.kap_http.specs.Reading.{head_from, head_of, says, total_of, request_from, request_of, Gives}
use Rattle.kap_http.proofs.OneLaws.{answer}
use Rattle.kap_http.specs.declared.fields.Sign.TheVariants as signs

pub len_within : (limit : ℕ) (fields : List Pair) (size : ℕ) → body_len limit fields ≡ Ok size → size ≤ limit
unfolding body_len
len_within limit fields size e = by_refused (list_any (shows signs.Transfer) fields || list_any (shows signs.Encoded) fields) e
  where
    by_over : (len : ℕ) (t : Bool) → nat_lt limit len ≡ t → ◌≡◌ {A = Result ℕ HttpFault} (if t then Err faults.Large else Ok len) (Ok size) → size ≤ limit
    by_over len true t e = absurd cc
    by_over len false t e = let is : len ≡ size = cc in let le : len ≤ limit = ltb-false limit len t in omega arith

    by_len : (r : Result ℕ HttpFault) → (r >>= within limit) ≡ Ok size → size ≤ limit
    by_len (Ok len) e = by_over len (nat_lt limit len) refl e
    by_len (Err f) e = absurd cc

    by_refused : (t : Bool) → ◌≡◌ {A = Result ℕ HttpFault} (if t then Err faults.Bad else (length_of (lengths fields) >>= within limit)) (Ok size) → size ≤ limit
    by_refused true e = absurd cc
    by_refused false e = by_len (length_of (lengths fields)) e

pub limit_most : (target : List ℕ) → limit_of target ≤ WRITE_LIMIT
limit_most target = elim (leads_to_write (way_of (path_of target))) as (λ t. (if t then WRITE_LIMIT else BODY_LIMIT) ≤ WRITE_LIMIT) [ true ↦ omega arith | false ↦ omega arith ]

-- the body of which a head tells is within the limit
size_within : (method target : List ℕ) (minor : ℕ) (fields : List Pair) (len : ℕ) (h : HeadValue) → head_of method target minor fields len ≡ Ok h → h.size ≤ WRITE_LIMIT
unfolding head_of
size_within method target minor fields len h e = by_size (body_len (limit_of target) fields) refl e
  where
    by_size : (b : Result ℕ HttpFault) → body_len (limit_of target) fields ≡ b
        → ◌≡◌ {A = Result HeadValue HttpFault} (b >>= λ size. Ok (head_from method target minor fields len size)) (Ok h) → h.size ≤ WRITE_LIMIT
    by_size (Ok size) is e =
        let same : head_from method target minor fields len size ≡ h = cc in
        let sizes : size ≡ h.size = ap (λ (x : HeadValue). x.size) same in
        let le : size ≤ limit_of target = len_within (limit_of target) fields size is in
        omega (arith, limit_most target)
    by_size (Err f) is e = absurd cc

missing : (said : Result HeadValue HttpFault) (rest : List ℕ) → ((h : HeadValue) → said ≡ Ok h → h.size ≤ WRITE_LIMIT) → answer said rest ≡ Ok None → length rest < WRITE_LIMIT
missing (Ok h) rest within e =
    let le : h.size ≤ WRITE_LIMIT = within h refl in
    let none : request_of h rest ≡ None = cc in
    by_test le (nat_le h.size (length rest)) refl none
  where
    by_test : h.size ≤ WRITE_LIMIT → (t : Bool) → nat_le h.size (length rest) ≡ t
        → ◌≡◌ {A = Option (RequestValue × ℕ)} (if t then Some (request_from h (take h.size rest), total_of h) else None) None → length rest < WRITE_LIMIT
    by_test le true t e = absurd cc
    by_test le false t e = let lt : length rest < h.size = leb-false h.size (length rest) t in omega arith
missing (Err f) rest within e = absurd cc

pub gives_short : (bytes : List ℕ) → Gives bytes (Ok None) → length bytes < HEAD_LIMIT + WRITE_LIMIT
gives_short bytes (inl x) =
    let rest = missing (says x.0) x.1 (size_within x.0.method x.0.target x.0.minor (map name_and_value x.0.fields) (length (print_request x.0))) (sym x.3) in
    let long = ap (λ (y : List ℕ). length y) x.2.reads.1 ∙ length-append (print_request x.0) x.1 in
    let short = x.2.short in
    omega arith
gives_short bytes (inr (inl x)) = let short = x.0.short in omega arith
gives_short bytes (inr (inr x)) = absurd (cc (x.1))
