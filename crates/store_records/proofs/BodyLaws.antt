-- The record whose body some bytes are.
use Rattle.std.proofs.Common.{◌≡◌, ℕ, List, [], ◌∷◌, ◌++◌, true, false, length, Option, Some, None, Ok, Err, sym, ap, ◌∙◌, subst}
use Rattle.std.specs.Prelude.{◌==◌, IfOk, Result}
use Rattle.std.proofs.lemmas.Bool.{eq-eqb, eqb-true, false≢true}
use Rattle.std.proofs.lemmas.List.{append-nil}
use Rattle.kap_base.specs.declared.memory.NoMemory.{NoMemory}
use Rattle.state_code.specs.Spelling.{IsBytes, value_then}
use Rattle.store_records.proofs.FollowLaws.{nil_of}
use Rattle.store_records.specs.Records.{IsBodyOf, IsNoBody, RecordOf, read_record, record_spelled, spell_record}
use Rattle.store_records.specs.declared.rec.Rec.{Rec}
use Rattle.kap_base.proofs.ResultLaws.{same_pair}

-- what is read of the body of a record
pub body_reads : (r : Rec) (body : List ℕ) → IsBodyOf r body → read_record body ≡ value_then r []
body_reads r body is =
    ap read_record (is.is ∙ sym (append-nil (spell_record r))) ∙ record_spelled.again r [] is.fits

pub is_body : (body : List ℕ) (r : Rec) (rest : List ℕ) → IsBytes body → read_record body ≡ value_then r rest → true ≡ (length rest == 0) → IsBodyOf r body
is_body body r rest bytes reads done =
    let stands = record_spelled.only body r rest bytes reads in
    let none : rest ≡ [] = nil_of rest (eqb-true _ _ (sym done)) in
    record { fits = stands.fits; is = stands.parts ∙ ap (λ (t : List ℕ). spell_record r ++ t) none ∙ append-nil (spell_record r) }

-- bytes behind a record make no body
pub more_is_none : (body : List ℕ) (r : Rec) (rest : List ℕ) → read_record body ≡ value_then r rest → false ≡ (length rest == 0) → IsNoBody body
more_is_none body r rest reads more other is =
    let both = same_pair (r, rest) (other, []) (sym reads ∙ body_reads other body is) in
    let none : rest ≡ [] = ap (λ (p : Rec × List ℕ). p.1) both in
    false≢true (more ∙ eq-eqb (length rest) 0 (ap (λ (l : List ℕ). length l) none))

pub none_is_none : (body : List ℕ) → read_record body ≡ None → IsNoBody body
none_is_none body none other is = let found : read_record body ≡ value_then other [] = body_reads other body is in absurd cc

-- the record whose body some bytes are is the only one
pub known : (r : Rec) (body : List ℕ) (found : Result (Option Rec) NoMemory) → IsBodyOf r body → RecordOf body found → IfOk found (λ found. found ≡ Some r)
known r body (Ok (Some q)) is other =
    let both = same_pair (q, []) (r, []) (sym (body_reads q body other) ∙ body_reads r body is) in
    ap (λ (p : Rec × List ℕ). let o : Option Rec = Some p.0 in o) both
known r body (Ok None) is none = absurd (none r is)
known r body (Err e) is none = tt

-- what is read of the body of a record, by its first byte and those behind it
pub reads_behind : (r : Rec) (body : List ℕ) (b : ℕ) (rest : List ℕ) → body ≡ b ∷ rest → b ≡ 5 → IsBodyOf r body → read_record (5 ∷ rest) ≡ value_then r []
reads_behind r body b rest is five body_of =
    subst (λ (l : List ℕ). read_record l ≡ value_then r []) (is ∙ ap (λ (n : ℕ). n ∷ rest) five) (body_reads r body body_of)
