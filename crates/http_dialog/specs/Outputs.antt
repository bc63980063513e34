-- The bytes that are due.
use Rattle.std.specs.Prelude.{◌≡◌, ◌⊎◌, ℕ, Bool, true, false, List, []}
use Rattle.http_dialog.specs.declared.output.Tail.{Tail}
use Rattle.http_dialog.specs.declared.output.Tail.TheVariants as tails
use Rattle.kap_http.specs.Replies.{reply_text, out_of_memory, fault_reply}

-- the bytes of what stands behind the joined replies
abbrev pub tail_bytes : Tail → List ℕ
tail_bytes tails.Nothing = []
tail_bytes (tails.Made bytes) = bytes
tail_bytes (tails.Lack last) = reply_text (out_of_memory last)
tail_bytes (tails.Fault fault) = reply_text (fault_reply fault)

-- something stands there
abbrev pub has_tail : Tail → Bool
has_tail tails.Nothing = false
has_tail (tails.Made bytes) = true
has_tail (tails.Lack last) = true
has_tail (tails.Fault fault) = true

-- the bytes that are due, and whether something stands behind the joined replies
pub record OutputValue : Type 0 where
  pub due : List ℕ
  pub tailed : Bool

-- a reply may be added: nothing is due, or nothing stands behind the joined replies
abbrev pub IsFree : OutputValue → Type 0
IsFree o = (o.due ≡ []) ⊎ (o.tailed ≡ false)
