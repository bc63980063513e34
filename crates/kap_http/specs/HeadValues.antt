-- A head, as definitions speak of it, and what holds of each.
use Rattle.std.specs.Prelude.{ℕ, ◌≤◌, Bool, List, length}
use Rattle.kap_http.specs.Paths.{limit_of}
use Rattle.kap_http.specs.declared.limits.TheConstants.{HEAD_LIMIT}

-- what a head says: its method and target, whether its request is the last, how many bytes it has, and its body
pub record HeadValue : Type 0 where
  pub method : List ℕ
  pub target : List ℕ
  pub last : Bool
  pub len : ℕ
  pub size : ℕ

-- what holds of each head: it is within the limit of heads, and its body within that of its path
pub record IsHead (h : HeadValue) : Type 0 where
  pub len : h.len ≤ HEAD_LIMIT
  pub target : length h.target ≤ HEAD_LIMIT
  pub size : h.size ≤ limit_of h.target
