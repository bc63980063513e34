-- What reading a head or a request from the front of bytes gives.
use Rattle.std.specs.Prelude.{◌≡◌, ℕ, ◌+◌, ◌<◌, ◌≤◌, Bool, ◌||◌, ◌==◌, List, [], ◌++◌, length, take, drop, map, nat_le, ◌⊎◌, Option, Some, None, Result, Ok, Err, if◌then◌else◌}
use Rattle.std.specs.List.{list_any}
use Rattle.httparse.specs.Grammar.{RequestHead, print_request, ReadsRequest, HasNoRequest, EndsInTarget}
use Rattle.httparse.specs.Spans.{name_and_value, RequestOverflows}
use Rattle.kap_base.specs.Words.{◌>>=◌}
use Rattle.kap_http.specs.declared.fault.HttpFault.{HttpFault}
use Rattle.kap_http.specs.declared.fault.HttpFault.TheVariants as faults
use Rattle.kap_http.specs.declared.fields.Sign.TheVariants as signs
use Rattle.kap_http.specs.declared.limits.TheConstants.{FIELD_LIMIT, HEAD_LIMIT}
use Rattle.kap_http.specs.HeadValues.{HeadValue}
use Rattle.kap_http.specs.RequestValues.{RequestValue}
use Rattle.kap_http.specs.Fields.{Pair, shows, body_len}
use Rattle.kap_http.specs.Paths.{limit_of}

-- the request is the last of its connection: it is of HTTP/1.0, or says so
abbrev pub is_last : ℕ → List Pair → Bool
is_last minor fields = minor == 0 || list_any (shows signs.Close) fields

-- what reading gives: a request and its length, or None where more bytes are waited for
abbrev pub ReadResult : Type 0
ReadResult = Result (Option (RequestValue × ℕ)) HttpFault

-- what reading a head gives: a head, or None where more bytes are waited for
abbrev pub HeadResult : Type 0
HeadResult = Result (Option HeadValue) HttpFault

-- the head of these parts, of so many bytes, whose body has so many
abbrev pub head_from : List ℕ → List ℕ → ℕ → List Pair → ℕ → ℕ → HeadValue
head_from method target minor fields len size =
    record { method = method; target = target; last = is_last minor fields; len = len; size = size }

-- what a head's method, target, minor version and fields say, where it has len bytes
unfoldable pub head_of : List ℕ → List ℕ → ℕ → List Pair → ℕ → Result HeadValue HttpFault
head_of method target minor fields len = do
  size ← body_len (limit_of target) fields
  Ok (head_from method target minor fields len size)

-- what a head says
abbrev pub says : RequestHead → Result HeadValue HttpFault
says head = head_of head.method head.target head.minor (map name_and_value head.fields) (length (print_request head))

-- a head that is there
abbrev pub found : Result HeadValue HttpFault → HeadResult
found (Ok head) = Ok (Some head)
found (Err fault) = Err fault

-- how many bytes the request of a head has in all
abbrev pub total_of : HeadValue → ℕ
total_of head = head.len + head.size

-- the request of a head and of a body
abbrev pub request_from : HeadValue → List ℕ → RequestValue
request_from head body = record { method = head.method; target = head.target; last = head.last; body = body }

-- the request of a head and of the bytes from its first one on
abbrev pub request_in : HeadValue → List ℕ → RequestValue
request_in head bytes = request_from head (take head.size (drop head.len bytes))

-- the same with its length, where its bytes are there
abbrev pub whole_in : HeadValue → List ℕ → Option (RequestValue × ℕ)
whole_in head bytes =
    if nat_le (total_of head) (length bytes) then Some (request_in head bytes, total_of head) else None

-- the request of a head and of the bytes behind it, with its length; None where the body isn't whole
abbrev pub request_of : HeadValue → List ℕ → Option (RequestValue × ℕ)
request_of head rest =
    if nat_le head.size (length rest) then Some (request_from head (take head.size rest), total_of head) else None

-- what a whole head gives, with the bytes behind it
abbrev pub head_gives : RequestHead → List ℕ → ReadResult
head_gives head rest = do
  said ← says head
  Ok (request_of said rest)

-- a head within the limits stands at the front
pub record HasHead (bytes : List ℕ) (head : RequestHead) (rest : List ℕ) : Type 0 where
  pub reads : ReadsRequest bytes head rest
  pub few : length head.fields ≤ FIELD_LIMIT
  pub short : length (print_request head) ≤ HEAD_LIMIT

-- some bytes behind make a head with as many fields as it may have, or fewer
pub record CanBeHead (bytes : List ℕ) : Type 0 where
  pub more : List ℕ
  pub head : RequestHead
  pub reads : ReadsRequest (bytes ++ more) head []
  pub few : length head.fields ≤ FIELD_LIMIT

-- the bytes may go on to a head, or end inside a target, whose test for UTF-8 waits for its end
abbrev pub MayGoOn : List ℕ → Type 0
MayGoOn bytes = CanBeHead bytes ⊎ EndsInTarget bytes

-- The bytes end inside a target, and no bytes behind make a head within the limit of fields: httparse alone says
-- whether they can go on.
abbrev pub IsLostInTarget : List ℕ → Type 0
IsLostInTarget bytes = EndsInTarget bytes × ¬ (CanBeHead bytes)

-- fewer bytes than a head may have, with no whole head in them, that may go on to one
pub record Waits (bytes : List ℕ) : Type 0 where
  pub short : length bytes < HEAD_LIMIT
  pub no_head : HasNoRequest bytes
  pub may : MayGoOn bytes

-- as many bytes as a head may have are there and hold no whole head
pub record IsTooLong (bytes : List ℕ) : Type 0 where
  pub long : HEAD_LIMIT ≤ length bytes
  pub no_head : HasNoRequest (take HEAD_LIMIT bytes)

-- no head within the limits stands in front, whatever follows where there are fewer bytes than it may have
abbrev pub IsBad : List ℕ → Type 0
IsBad bytes = RequestOverflows FIELD_LIMIT (take HEAD_LIMIT bytes) ⊎ IsTooLong bytes

-- what the bytes give, where a whole head gives this: None where they wait for more of it, Bad where no head can come
abbrev pub GivesBy : {A : Type 0}
    → (RequestHead → List ℕ → Result (Option A) HttpFault) → List ℕ → Result (Option A) HttpFault → Type 0
GivesBy whole bytes answer =
    ((head : RequestHead) × (rest : List ℕ) × HasHead bytes head rest × (answer ≡ whole head rest))
    ⊎ ((Waits bytes × (answer ≡ Ok None)) ⊎ (IsBad bytes × (answer ≡ Err faults.Bad)))

-- what the bytes give: a request once its head and its body are whole
abbrev pub Gives : List ℕ → ReadResult → Type 0
Gives bytes answer = GivesBy head_gives bytes answer

-- what the bytes give of a head: what it says, once it is whole
abbrev pub GivesHead : List ℕ → HeadResult → Type 0
GivesHead bytes answer = GivesBy (λ head rest. found (says head)) bytes answer
