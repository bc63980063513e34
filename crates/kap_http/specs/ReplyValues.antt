-- A reply, as definitions speak of it, and what holds of each.
use Rattle.std.specs.Prelude.{ℕ, Bool, ◌||◌, ◌&&◌, not, ◌==◌, List, [], ◌∷◌, IsTrue}
use Rattle.std.specs.List.{list_any}
use Rattle.kap_base.specs.Texts.{is_empty}

-- a reply: its status, its body, and whether it is the last one of its connection
pub record ReplyValue : Type 0 where
  pub status : ℕ
  pub body : List ℕ
  pub last : Bool

-- the statuses of replies
abbrev pub statuses : List ℕ
statuses = 200 ∷ 204 ∷ 400 ∷ 404 ∷ 405 ∷ 409 ∷ 413 ∷ 500 ∷ 503 ∷ []

-- replies may have this status
abbrev pub is_status : ℕ → Bool
is_status status = list_any (λ s. status == s) statuses

-- a reply of this status has no body
abbrev pub is_bare : ℕ → Bool
is_bare status = status == 204 || status == 503

-- a reply of this status refuses
abbrev pub refuses : ℕ → Bool
refuses status = is_status status && not (status == 200) && not (status == 204)

-- what holds of each reply: it is of such a status, and has no body at 204 and 503
pub record IsReply (reply : ReplyValue) : Type 0 where
  pub status : IsTrue (is_status reply.status)
  pub body : IsTrue (not (is_bare reply.status) || is_empty reply.body)
