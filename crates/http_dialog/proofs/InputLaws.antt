-- What is known of bytes that came.
use Rattle.std.proofs.Common.{◌≡◌, ◌≢◌, ℕ, ◌<◌, ◌≤◌, List, [], ◌++◌, length, refl, sym, subst, arith, Option, Some, None, Ok, Err, append_assoc, append-nil}
use Rattle.std.proofs.lemmas.Bool.{lt-leb, le-leb}
use Rattle.kap_http.specs.declared.fault.HttpFault.{HttpFault}
use Rattle.kap_http.specs.declared.fault.HttpFault.TheVariants as faults
use Rattle.kap_http.specs.HeadValues.{HeadValue}
use Rattle.kap_http.specs.RequestValues.{RequestValue}
use Rattle.kap_http.specs.Reading.{Gives, GivesHead, HeadResult, total_of, request_in, whole_in}
use Rattle.kap_http.proofs.HeadFirstLaws.{whole_gives, none_gives, fault_gives}
use Rattle.kap_http.proofs.SizeLaws.{gives_short}
use Rattle.http_dialog.specs.declared.input.TheConstants.{HELD_LIMIT}
use Rattle.http_dialog.specs.Inputs.{IsHeadOf}

pub head_of_more : (head : HeadValue) (bytes more : List ℕ) → IsHeadOf head bytes → IsHeadOf head (bytes ++ more)
head_of_more head bytes more known rest =
    subst (λ (x : List ℕ). Gives x (Ok (whole_in head x))) (sym (append_assoc bytes more rest)) (known (more ++ rest))

-- a head that was read stands in front
pub head_is : (head : HeadValue) (bytes : List ℕ) → GivesHead bytes (Ok (Some head)) → IsHeadOf head bytes
head_is head bytes gives more = whole_gives bytes more head gives

-- what the bytes give by their head
pub gives_whole : (head : HeadValue) (bytes : List ℕ) → IsHeadOf head bytes → Gives bytes (Ok (whole_in head bytes))
gives_whole head bytes known = subst (λ (x : List ℕ). Gives x (Ok (whole_in head x))) (append-nil bytes) (known [])

pub gives_none : (head : HeadValue) (bytes : List ℕ) → IsHeadOf head bytes → length bytes < total_of head → Gives bytes (Ok None)
gives_none head bytes known short =
    subst (λ (o : Option (RequestValue × ℕ)). Gives bytes (Ok o)) (rw (lt-leb (total_of head) (length bytes) short) refl) (gives_whole head bytes known)

pub gives_some : (head : HeadValue) (bytes : List ℕ) → IsHeadOf head bytes → total_of head ≤ length bytes → Gives bytes (Ok (Some (request_in head bytes, total_of head)))
gives_some head bytes known long =
    subst (λ (o : Option (RequestValue × ℕ)). Gives bytes (Ok o)) (rw (le-leb (total_of head) (length bytes) long) refl) (gives_whole head bytes known)

pub waits : (bytes : List ℕ) → GivesHead bytes (Ok None) → Gives bytes (Ok None)
waits bytes gives = none_gives bytes gives

pub refused : (bytes : List ℕ) (fault : HttpFault) → (◌≢◌ {A = HeadResult} (Err fault) (Err faults.NoMemory) → GivesHead bytes (Err fault)) → fault ≢ faults.NoMemory → Gives bytes (Err fault)
refused bytes fault gives ne = fault_gives bytes fault (gives (λ e. ne (is e)))
  where
    is : ◌≡◌ {A = HeadResult} (Err fault) (Err faults.NoMemory) → fault ≡ faults.NoMemory
    is e = cc

pub waits_short : (bytes : List ℕ) → Gives bytes (Ok None) → length bytes < HELD_LIMIT
waits_short bytes gives = let short = gives_short bytes gives in omega arith
