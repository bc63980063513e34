-- Files stand for one store at most, and not for one where they fail, which they do at one place.
use Rattle.std.proofs.Common.{◌≡◌, ℕ, ◌+◌, ◌<◌, ◌≤◌, ◌^◌, List, [], ◌∷◌, ◌++◌, length, map, drop, refl, sym, ap, ◌∙◌, subst, arith, append_assoc, length-append}
use Rattle.std.specs.List.{flat_map}
use Rattle.std.proofs.lemmas.List.{append_cancel_left}
use Rattle.kap_io.specs.Disk.{Image}
use Rattle.kap_io.specs.declared.disk.Part.{Part}
use Rattle.kap_io.specs.declared.disk.Part.TheVariants.{Head}
use Rattle.gate_log.specs.Bodies.{Fit, IsHeaderless, IsLog, IsShort, bytes_of, magic, record_of, size_bytes}
use Rattle.gate_log.proofs.Unique.{begins_apart, bytes_push, head_apart, head_unique, header_apart, length-size_bytes, record_not_short, record_unique}
use Rattle.gate_log.specs.declared.log.TheConstants.{BODY_LIMIT}
use Rattle.store_records.specs.Held.{Held, MayFollow, after, nothing}
use Rattle.store_records.specs.Histories.{FollowFrom, end_from, end_of, first_gate, held, held_from, next_gate}
use Rattle.store_records.specs.Records.{FitsRecord, IsBodyOf, spell_record}
use Rattle.store_records.specs.declared.rec.Rec.{Rec}
use Rattle.store_kept.proofs.Records.{same_record}
use Rattle.topic_store.specs.Stores.{AreShort, AreStored, FailsBehind, IsNamed, IsNoLog, IsNoStore, Stands, bad, current, fails, headerless, no_head, no_log, torn}

-- ---- gates

ends : (at : ℕ) (rs : List Rec) → at + length (flat_map record_of (map spell_record rs)) ≡ end_from at rs
ends at [] = omega arith
ends at (r ∷ rs) = omega (
  arith,
  ends (next_gate at r) rs,
  length-append (record_of (spell_record r)) (flat_map record_of (map spell_record rs)),
  length-append (size_bytes (length (spell_record r))) (spell_record r),
  length-size_bytes (length (spell_record r)),
)

-- the gate behind some records
pub gate_is : (rs : List Rec) → length (bytes_of (map spell_record rs)) ≡ end_of rs
gate_is rs = omega (arith, length-append magic (flat_map record_of (map spell_record rs)), ends first_gate rs)

-- ---- what stands behind records

fits_32 : (n : ℕ) → n ≤ BODY_LIMIT → n < 2 ^ 32
fits_32 n short = omega (arith, short)

fit_of : (rs : List Rec) → AreShort rs → Fit (map spell_record rs)
fit_of [] short = tt
fit_of (r ∷ rs) short = (fits_32 (length (spell_record r)) short.0, fit_of rs short.1)

one_record : (r q : Rec) → FitsRecord r → FitsRecord q → spell_record r ≡ spell_record q → r ≡ q
one_record r q fits_r fits_q same = same_record r q (spell_record r) (record { fits = fits_r; is = refl }) (record { fits = fits_q; is = same })

-- a closed gate, or an open one whose record runs past the end or isn't one that may stand there
data Tail (h : Held) (bytes : List ℕ) : Type 0 where
  shut : (gate : ℕ) (rest : List ℕ) → bytes ≡ gate ∷ rest → (gate ≡ 165 → ⊥) → Tail h bytes
  cut_off : (rest : List ℕ) → bytes ≡ 165 ∷ rest → IsShort rest → Tail h bytes
  wrong : (body rest : List ℕ) → bytes ≡ record_of body ++ rest → length body < 2 ^ 32
      → ((r : Rec) → IsBodyOf r body → MayFollow h r → length body ≤ BODY_LIMIT → ⊥) → Tail h bytes

tail_some : (h : Held) (bytes : List ℕ) → Tail h bytes → 0 < length bytes
tail_some h bytes (shut gate rest is closed) = omega (arith, ap (λ (l : List ℕ). length l) is)
tail_some h bytes (cut_off rest is short) = omega (arith, ap (λ (l : List ℕ). length l) is)
tail_some h bytes (wrong body rest is fits none) = omega (arith, ap (λ (l : List ℕ). length l) is)

-- a record that may stand there doesn't
no_record : (h : Held) (bytes : List ℕ) (r : Rec) (more : List ℕ) → FitsRecord r → MayFollow h r → length (spell_record r) ≤ BODY_LIMIT → 0 < length more
    → Tail h bytes → bytes ≡ record_of (spell_record r) ++ more → ⊥
no_record h bytes r more fits may short some (shut gate rest is closed) same = closed (cc (is, same))
no_record h bytes r more fits may short some (cut_off rest is cut) same =
    record_not_short (spell_record r) more rest (fits_32 (length (spell_record r)) short)
    (ap (λ (l : List ℕ). drop 1 l) (sym is ∙ same) ∙ append_assoc (size_bytes (length (spell_record r))) (spell_record r) more) some cut
no_record h bytes r more fits may short some (wrong body rest is small none) same =
    let split = record_unique body (spell_record r) rest more small (fits_32 (length (spell_record r)) short) (sym is ∙ same) in
    none r (record { fits = fits; is = split.0 }) may (subst (λ (b : List ℕ). length b ≤ BODY_LIMIT) (sym split.0) short)

more_some : (h : Held) (rs : List Rec) (x : List ℕ) → Tail h x → 0 < length (flat_map record_of (map spell_record rs) ++ x)
more_some h rs x tail = omega (arith, tail_some h x tail, length-append (flat_map record_of (map spell_record rs)) x)

-- records that stand one behind the other, and what stands behind them, are one list
same_from : (h : Held) (at : ℕ) (one two : List Rec) (x y : List ℕ) → FollowFrom h at one → FollowFrom h at two → AreShort one → AreShort two
    → Tail (held_from h at one) x → Tail (held_from h at two) y
    → flat_map record_of (map spell_record one) ++ x ≡ flat_map record_of (map spell_record two) ++ y → one ≡ two
same_from h at [] [] x y follow_one follow_two short_one short_two ends_one ends_two same = refl
same_from h at [] (q ∷ two) x y follow_one follow_two short_one short_two ends_one ends_two same =
    absurd (
    no_record h x q (flat_map record_of (map spell_record two) ++ y) follow_two.0 follow_two.1 short_two.0 (more_some _ two y ends_two) ends_one
    (same ∙ append_assoc (record_of (spell_record q)) (flat_map record_of (map spell_record two)) y)
    )
same_from h at (r ∷ one) [] x y follow_one follow_two short_one short_two ends_one ends_two same =
    absurd (
    no_record h y r (flat_map record_of (map spell_record one) ++ x) follow_one.0 follow_one.1 short_one.0 (more_some _ one x ends_one) ends_two
    (sym same ∙ append_assoc (record_of (spell_record r)) (flat_map record_of (map spell_record one)) x)
    )
same_from h at (r ∷ one) (q ∷ two) x y follow_one follow_two short_one short_two ends_one ends_two same =
    let split = record_unique (spell_record r) (spell_record q) (flat_map record_of (map spell_record one) ++ x) (flat_map record_of (map spell_record two) ++ y)
    (fits_32 (length (spell_record r)) short_one.0) (fits_32 (length (spell_record q)) short_two.0)
    (sym (append_assoc (record_of (spell_record r)) (flat_map record_of (map spell_record one)) x) ∙ same
    ∙ append_assoc (record_of (spell_record q)) (flat_map record_of (map spell_record two)) y) in
    let first : r ≡ q = one_record r q follow_one.0 follow_two.0 split.0 in
    let rest : one ≡ two = same_from (after h at r) (next_gate at r) one two x y follow_one.2
    (subst (λ (s : Rec). FollowFrom (after h at s) (next_gate at s) two) (sym first) follow_two.2) short_one.1 short_two.1 ends_one
    (subst (λ (s : Rec). Tail (held_from (after h at s) (next_gate at s) two) y) (sym first) ends_two) split.1 in
    ap (λ (s : Rec). s ∷ one) first ∙ ap (λ (s : List Rec). q ∷ s) rest

-- ---- files

-- records of a store, and what stands behind them in a file
record Ends (rs : List Rec) (file : List ℕ) : Type 0 where
  rest : List ℕ
  is : file ≡ bytes_of (map spell_record rs) ++ rest
  tail : Tail (held rs) rest

whole : (rs : List Rec) (file rest : List ℕ) → file ≡ bytes_of (map spell_record rs) ++ rest → file ≡ magic ++ (flat_map record_of (map spell_record rs) ++ rest)
whole rs file rest is = is ∙ append_assoc magic (flat_map record_of (map spell_record rs)) rest

ends_unique : (one two : List Rec) (file : List ℕ) → AreStored one → AreStored two → Ends one file → Ends two file → one ≡ two
ends_unique one two file is_one is_two ends_one ends_two =
    same_from nothing first_gate one two ends_one.rest ends_two.rest is_one.follow is_two.follow is_one.short is_two.short ends_one.tail ends_two.tail
    (append_cancel_left magic _ _ (sym (whole one file ends_one.rest ends_one.is) ∙ whole two file ends_two.rest ends_two.is))

log_ends : (rs : List Rec) (file : List ℕ) → IsLog (map spell_record rs) file → Ends rs file
log_ends rs file log = record { rest = log.gate ∷ log.rest; is = log.is; tail = shut log.gate log.rest refl log.closed }

-- an open gate stands behind the records, and what fails there
record Failing (rs : List Rec) (offset : ℕ) (file : List ℕ) : Type 0 where
  more : List ℕ
  is : file ≡ bytes_of (map spell_record rs) ++ 165 ∷ more
  tail : Tail (held rs) (165 ∷ more)
  at : offset ≡ end_of rs

fit_last : (bodies : List (List ℕ)) (body : List ℕ) → Fit (bodies ++ body ∷ []) → length body < 2 ^ 32
fit_last [] body fit = fit.0
fit_last (b ∷ bodies) body fit = fit_last bodies body fit.1

fails_there : (rs : List Rec) (offset : ℕ) (file : List ℕ) → FailsBehind rs offset file → Failing rs offset file
fails_there rs offset file (torn cut) = record {
  more = cut.0.rest;
  is = cut.0.is ∙ ap (λ (b : List (List ℕ)). bytes_of b ++ 165 ∷ cut.0.rest) cut.1;
  tail = cut_off cut.0.rest refl cut.0.short;
  at = cut.0.at ∙ ap (λ (b : List (List ℕ)). length (bytes_of b)) cut.1 ∙ gate_is rs;
}
fails_there rs offset file (bad body front at none) = record {
  more = (size_bytes (length body) ++ body) ++ front.rest;
  is = front.is ∙ bytes_push (map spell_record rs) body front.rest;
  tail = wrong body front.rest refl (fit_last (map spell_record rs) body front.fit)
      (λ r of may short. none r (record { of = of; may = may; short = short }));
  at = at;
}

fails_end : (rs : List Rec) (offset : ℕ) (file : List ℕ) → Failing rs offset file → Ends rs file
fails_end rs offset file there = record { rest = 165 ∷ there.more; is = there.is; tail = there.tail }

fails_unique : (one two : List Rec) (m n : ℕ) (file : List ℕ) → AreStored one → AreStored two → Failing one m file → Failing two n file → m ≡ n
fails_unique one two m n file is_one is_two there_one there_two =
    there_one.at ∙ ap (λ (l : List Rec). end_of l) (ends_unique one two file is_one is_two (fails_end one m file there_one) (fails_end two n file there_two))
    ∙ sym there_two.at

not_headerless : (rs : List Rec) (offset : ℕ) (file : List ℕ) → AreStored rs → Failing rs offset file → IsHeaderless file → ⊥
not_headerless rs offset file are there none =
    begins_apart (map spell_record rs) file (record { rest = 165 ∷ there.more; is = there.is; fit = fit_of rs are.short }) (omega arith) none

no_log_unique : (m n : ℕ) (file : List ℕ) → IsNoLog m file → IsNoLog n file → m ≡ n
no_log_unique m n file (headerless zero none) (headerless nil other) = zero ∙ sym nil
no_log_unique m n file (headerless zero none) (fails two are there) = absurd (not_headerless two n file are (fails_there two n file there) none)
no_log_unique m n file (fails one are there) (headerless zero none) = absurd (not_headerless one m file are (fails_there one m file there) none)
no_log_unique m n file (fails one are there) (fails two others other) =
    fails_unique one two m n file are others (fails_there one m file there) (fails_there two n file other)

-- a log of records doesn't fail behind them
open_apart : (rs : List Rec) (file more : List ℕ) → IsLog (map spell_record rs) file → file ≡ bytes_of (map spell_record rs) ++ 165 ∷ more → ⊥
open_apart rs file more log is = log.closed (cc (append_cancel_left (bytes_of (map spell_record rs)) (log.gate ∷ log.rest) (165 ∷ more) (sym log.is ∙ is)))

no_log_apart : (offset : ℕ) (file : List ℕ) (rs : List Rec) → AreStored rs → IsLog (map spell_record rs) file → IsNoLog offset file → ⊥
no_log_apart offset file rs are log (headerless zero none) = header_apart (map spell_record rs) file log none
no_log_apart offset file rs are log (fails one others there) =
    let found = fails_there one offset file there in
    let same : one ≡ rs = ends_unique one rs file others are (fails_end one offset file found) (log_ends rs file log) in
    open_apart rs file found.more log (subst (λ (l : List Rec). file ≡ bytes_of (map spell_record l) ++ 165 ∷ found.more) same found.is)

-- ---- the head and its log

-- the log of a store is in the file that the head names
in_named : (files : Image) (rs : List Rec) (part : Part) → Stands rs files → IsNamed files part → IsLog (map spell_record rs) (files part)
in_named files rs part stands named =
    let runs : stands.run ≡ named.run = head_unique stands.run named.run (files Head) stands.head named.head in
    subst (λ (p : Part). IsLog (map spell_record rs) (files p)) (ap current runs ∙ sym named.is) stands.log

pub no_store_apart : (files : Image) (part : Part) (offset : ℕ) (rs : List Rec) → IsNoStore files part offset → Stands rs files → ⊥
no_store_apart files part offset rs (no_head p o none) stands = head_apart stands.run (files Head) stands.head none
no_store_apart files part offset rs (no_log named is) stands = no_log_apart offset (files part) rs stands.stored (in_named files rs part stands named) is

-- files stand for one list of records
pub stands_unique : (files : Image) (one two : List Rec) → Stands one files → Stands two files → one ≡ two
stands_unique files one two is_one is_two =
    let part = current is_one.run in
    let log = in_named files two part is_two (record { run = is_one.run; head = is_one.head; is = refl }) in
    ends_unique one two (files part) is_one.stored is_two.stored (log_ends one (files part) is_one.log) (log_ends two (files part) log)

-- a head names one log
named_unique : (files : Image) (p q : Part) → IsNamed files p → IsNamed files q → p ≡ q
named_unique files p q one two = one.is ∙ ap current (head_unique one.run two.run (files Head) one.head two.head) ∙ sym two.is

-- files fail at one place
pub no_store_unique : (files : Image) (p q : Part) (m n : ℕ) → IsNoStore files p m → IsNoStore files q n → (p ≡ q) × (m ≡ n)
no_store_unique files p q m n (no_head is_p is_m none) (no_head is_q is_n other) = (is_p ∙ sym is_q, is_m ∙ sym is_n)
no_store_unique files p q m n (no_head is_p is_m none) (no_log named is) = absurd (head_apart named.run (files Head) named.head none)
no_store_unique files p q m n (no_log named is) (no_head is_q is_n none) = absurd (head_apart named.run (files Head) named.head none)
no_store_unique files p q m n (no_log named is) (no_log other there) =
    let same : p ≡ q = named_unique files p q named other in
    (same, no_log_unique m n (files q) (subst (λ (part : Part). IsNoLog m (files part)) same is) there)
