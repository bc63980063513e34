-- What httparse says of a whole head, as this crate says it.
use Rattle.std.proofs.Common.{◌≡◌, ◌≢◌, ℕ, ◌<◌, ◌≤◌, true, List, ◌++◌, length, take, drop, map, refl, sym, ap, ◌∙◌, subst, arith, inl, inr, Result, Ok, Err, None, IsUtf8}
use Rattle.std.proofs.lemmas.List.{length-take, length-map, take-append-drop, drop-append-le, take_all}
use Rattle.std.proofs.lemmas.Str.{IsUtf8-from_ascii}
use Rattle.std.proofs.lemmas.Str.Ascii.{IsAscii-from_all}
use Rattle.std.proofs.lemmas.List.Elements.{All-weaker}
use Rattle.std.proofs.lemmas.Bool.Decides.{nat_tests}
use Rattle.httparse.specs.declared.spans.HeaderSpan.{HeaderSpan}
use Rattle.httparse.specs.declared.spans.RequestSpans.{RequestSpans}
use Rattle.httparse.specs.Grammar.{is_token_byte, IsToken, print_request, HasNoRequest}
use Rattle.httparse.specs.Spans.{IsRequestWithin, IsRequestOf, header_bytes, span_bytes, name_and_value, RequestOverflows}
use Rattle.httparse.proofs.GrammarLemmas.{ReadsRequest-append}
use Rattle.kap_base.specs.Words.{Answers}
use Rattle.kap_http.specs.declared.fault.HttpFault.TheVariants as faults
use Rattle.kap_http.specs.declared.limits.TheConstants.{FIELD_LIMIT, HEAD_LIMIT}
use Rattle.kap_http.specs.Fields.{Pair}
use Rattle.kap_http.specs.Reading.{HeadResult, found, head_of, GivesHead, MayGoOn}

pub answer_is : {A E : Type 0} (lack : E) (r due : Result A E) → Answers lack r due → r ≢ Err lack → r ≡ due
answer_is lack (Ok x) due a ne = sym a
answer_is lack (Err e) due a ne = sym (a (λ q. ne (ap (λ (f : _). Err f) q)))

-- the fields are at most as many as the headers that were lent
few_fields : (buf : List ℕ) (headers : List HeaderSpan) (count : ℕ) (fields : List Rattle.httparse.specs.Grammar.Field) → length headers ≡ FIELD_LIMIT
    → map (header_bytes buf) (take count headers) ≡ map name_and_value fields → length fields ≤ FIELD_LIMIT
few_fields buf headers count fields room e =
    let l = ap (λ (x : List Pair). length x) e in
    omega (arith, sym (length-map fields name_and_value) ∙ sym l ∙ length-map (take count headers) (header_bytes buf) ∙ length-take count headers)

pub whole_gives : (bytes front : List ℕ) (headers : List HeaderSpan) (spans : RequestSpans) (r : HeadResult) → front ≡ take HEAD_LIMIT bytes → length headers ≡ FIELD_LIMIT
    → IsRequestWithin front headers spans → IsRequestOf front headers spans
    → r ≡ found (head_of (span_bytes front spans.method) (span_bytes front spans.path) spans.version (map (header_bytes front) (take spans.headers headers)) spans.len)
    → GivesHead bytes r
whole_gives bytes front headers spans r cut room within of e =
    let at = of.1 in
    let small : length front ≤ HEAD_LIMIT = omega (arith, ap (λ (x : List ℕ). length x) cut, length-take HEAD_LIMIT bytes) in
    let le : spans.len ≤ length front = within.section.len_fits in
    let whole : front ++ drop HEAD_LIMIT bytes ≡ bytes = ap (λ (x : List ℕ). x ++ drop HEAD_LIMIT bytes) cut ∙ take-append-drop HEAD_LIMIT bytes in
    let behind : drop spans.len bytes ≡ drop spans.len front ++ drop HEAD_LIMIT bytes = ap (λ (x : List ℕ). drop spans.len x) (sym whole) ∙ drop-append-le spans.len front (drop HEAD_LIMIT bytes) le in
    let reads = ReadsRequest-append front of.0 (drop spans.len front) (drop HEAD_LIMIT bytes) at.reads in
    inl (
      of.0,
      drop spans.len bytes,
      record {
        reads = (reads.0, sym whole ∙ reads.1 ∙ ap (λ (x : List ℕ). print_request of.0 ++ x) (sym behind));
        few = few_fields front headers spans.headers of.0.fields room at.fields;
        short = omega (arith, at.len);
      },
      e ∙ cc (at.method, at.path, at.version, at.fields, at.len),
    )

token_is_ascii : (b : ℕ) → is_token_byte b ≡ true → b < 128
unfolding is_token_byte
token_is_ascii b token = grind (arith, nat_tests)

pub token_utf8 : (bytes : List ℕ) → IsToken bytes → IsUtf8 bytes
token_utf8 bytes token =
    IsUtf8-from_ascii bytes (IsAscii-from_all bytes (All-weaker (λ b. is_token_byte b ≡ true) (λ b. b < 128) token_is_ascii bytes token.1))

pub method_utf8 : (front : List ℕ) (headers : List HeaderSpan) (spans : RequestSpans) → IsRequestOf front headers spans → IsUtf8 (span_bytes front spans.method)
method_utf8 front headers spans of = subst IsUtf8 (sym of.1.method) (token_utf8 of.0.method of.1.reads.0.method)

-- an error of the parser
pub bad_gives : (bytes front : List ℕ) → front ≡ take HEAD_LIMIT bytes → RequestOverflows FIELD_LIMIT front → GivesHead bytes (Err faults.Bad)
bad_gives bytes front cut over = inr (inr (inl (subst (RequestOverflows FIELD_LIMIT) cut over), refl))

pub long_gives : (bytes front : List ℕ) → front ≡ take HEAD_LIMIT bytes → HEAD_LIMIT ≤ length bytes → HasNoRequest front → GivesHead bytes (Err faults.Bad)
long_gives bytes front cut long none = inr (inr (inr (record { long = long; no_head = subst HasNoRequest cut none }), refl))

pub waits_gives : (bytes front : List ℕ) → front ≡ take HEAD_LIMIT bytes → length bytes < HEAD_LIMIT → HasNoRequest front → MayGoOn front → GivesHead bytes (Ok None)
waits_gives bytes front cut short none may =
    let same : front ≡ bytes = cut ∙ take_all HEAD_LIMIT bytes (omega arith) in
    inr (inl (record { short = short; no_head = subst HasNoRequest same none; may = subst MayGoOn same may }, refl))
