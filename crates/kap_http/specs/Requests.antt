-- The requests of a connection: what all its bytes hold, and how it stops.
use Rattle.std.specs.Prelude.{◌≡◌, ◌≢◌, ℕ, zero, suc, Bool, true, false, List, [], ◌∷◌, drop, Some, None, Ok, Err}
use Rattle.kap_http.specs.declared.fault.HttpFault.{HttpFault}
use Rattle.kap_http.specs.RequestValues.{RequestValue}
use Rattle.kap_http.specs.Reading.{Gives, IsLostInTarget}

-- How the requests stop: behind one that is the last, behind the thousandth, at bytes that hold none, or where the
-- bytes end, between two requests or inside one.
pub data Stop : Type 0 where
  behind_last behind_most at_end inside : Stop
  at_fault : HttpFault → Stop

-- no more of the bytes is a request, and they stop so
abbrev pub StopsAt : List ℕ → Stop → Type 0
StopsAt bytes behind_last = ⊥
StopsAt bytes behind_most = ⊥
StopsAt bytes at_end = bytes ≡ []
StopsAt bytes inside = (bytes ≢ []) × Gives bytes (Ok None)
StopsAt bytes (at_fault fault) = Gives bytes (Err fault)

-- a request that is the last has none behind it
abbrev pub BehindIt : Bool → List RequestValue → Stop → Type 0 → Type 0
BehindIt true requests stop More = (requests ≡ []) × (stop ≡ behind_last)
BehindIt false requests stop More = More

-- the requests of the bytes, of which at most so many are taken, and how they stop
abbrev pub Requests : ℕ → List ℕ → List RequestValue → Stop → Type 0
Requests zero bytes [] stop = stop ≡ behind_most
Requests zero bytes (r ∷ requests) stop = ⊥
Requests (suc left) bytes [] stop = StopsAt bytes stop
Requests (suc left) bytes (r ∷ requests) stop =
    (n : ℕ) × Gives bytes (Ok (Some (r, n)))
    × BehindIt r.last requests stop (Requests left (drop n bytes) requests stop)

-- the bytes begin with these requests, none of which is the last, and with this rest behind them
abbrev pub BeginsWith : List ℕ → List RequestValue → List ℕ → Type 0
BeginsWith bytes [] rest = bytes ≡ rest
BeginsWith bytes (r ∷ requests) rest =
    (n : ℕ) × Gives bytes (Ok (Some (r, n))) × (r.last ≡ false) × BeginsWith (drop n bytes) requests rest

-- how requests stop, whatever bytes follow
abbrev pub IsFinal : Stop → Type 0
IsFinal behind_last = Unit {0}
IsFinal behind_most = Unit {0}
IsFinal at_end = ⊥
IsFinal inside = ⊥
IsFinal (at_fault fault) = Unit {0}

-- behind these requests the bytes end inside a target that no head has
abbrev pub IsLostBehind : List ℕ → List RequestValue → Type 0
IsLostBehind bytes requests = (rest : List ℕ) × BeginsWith bytes requests rest × IsLostInTarget rest
