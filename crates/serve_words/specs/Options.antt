-- What the words of a service say.
use Rattle.std.specs.Prelude.{◌<◌, ◌≤◌}
use Rattle.serve_words.specs.declared.options.ServeOptions.{ServeOptions}

-- there are 1 to 64 seats, and a link may be idle for 1 to 3,600 seconds
abbrev pub AreWithinLimits : ServeOptions → Type 0
AreWithinLimits options = ((0 < options.seats) × (options.seats ≤ 64))
    × ((0 < options.idle) × (options.idle ≤ 3600))
