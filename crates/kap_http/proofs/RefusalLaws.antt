-- The statuses of refusals.
use Rattle.std.proofs.Common.{◌≡◌, true, refl}
use Rattle.kap_http.specs.declared.refusal.Refusal.{Refusal}
use Rattle.kap_http.specs.declared.refusal.Refusal.TheVariants as refusals
use Rattle.kap_http.specs.ReplyValues.{refuses}
use Rattle.kap_http.specs.Refusals.{refusal_status}

pub status_refuses : (refusal : Refusal) → refuses (refusal_status refusal) ≡ true
status_refuses refusals.DbMissing = refl
status_refuses refusals.BadName = refl
status_refuses refusals.BadPrecision = refl
status_refuses refusals.BadBody = refl
status_refuses refusals.TooLong = refl
status_refuses refusals.NoPath = refl
status_refuses refusals.NoTask = refl
status_refuses refusals.NoMethod = refl
status_refuses refusals.Exists = refl
status_refuses refusals.TooManyTasks = refl
status_refuses refusals.Store = refl
status_refuses refusals.NoMemory = refl
