-- How many points an epoch has.
use Rattle.std.specs.Prelude.{ℕ, ◌*◌, ◌/◌, Bool, ◌&&◌, ◌||◌, if◌then◌else◌, max, min, nat_le, nat_lt}
use Rattle.net_run.specs.declared.TheConstants.{EPOCH_LIMIT}
use Rattle.net_run.specs.declared.pace.TheConstants.{EFFECT_LIMIT, TEXT_LIMIT}

-- what the nodes did at the points of an epoch, and its text, are more than may stand in memory at once
abbrev pub is_much : ℕ → ℕ → Bool
is_much effects bytes = nat_lt EFFECT_LIMIT effects || nat_lt TEXT_LIMIT bytes

-- twice as much may still stand there
abbrev pub is_little : ℕ → ℕ → Bool
is_little effects bytes = nat_le effects (EFFECT_LIMIT / 2) && nat_le bytes (TEXT_LIMIT / 2)

-- How many points the next epoch may have, where one that could have so many had this many: half as many, but one at
-- least, after one that did much; twice as many, up to the limit, after a full one that did little.
abbrev pub next_limit : ℕ → ℕ → ℕ → ℕ → ℕ
next_limit limit points effects bytes =
    if is_much effects bytes then max 1 (limit / 2) else
    if nat_le limit points && is_little effects bytes then min (limit * 2) EPOCH_LIMIT else limit
