-- A request, as definitions speak of it, and what holds of each.
use Rattle.std.specs.Prelude.{ℕ, ◌≤◌, Bool, List, length}
use Rattle.kap_http.specs.Paths.{limit_of}
use Rattle.kap_http.specs.declared.limits.TheConstants.{HEAD_LIMIT}

-- a request: its method, its target, whether it is the last one of its connection, and its body
pub record RequestValue : Type 0 where
  pub method : List ℕ
  pub target : List ℕ
  pub last : Bool
  pub body : List ℕ

-- what holds of each request: its body is within the limit of its path, its target within that of a head
pub record IsRequest (r : RequestValue) : Type 0 where
  pub body : length r.body ≤ limit_of r.target
  pub target : length r.target ≤ HEAD_LIMIT
