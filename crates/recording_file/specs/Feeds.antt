-- What is kept of the last three line feeds that were read.
use Rattle.std.specs.Prelude.{ℕ, ◌-◌, ◌<◌, ◌≤◌, List, drop}
use Rattle.std.specs.List.{count_by}
use Rattle.recording_file.specs.declared.feeds.LastFeeds.{LastFeeds}
use Rattle.recording_file.specs.Lines.{is_feed}

-- Where x bytes end in a line feed, and more than the passed ones, these are the bytes behind the passed ones, and from
-- that line feed on so many stand in them.
abbrev pub Shows : ℕ → ℕ → List ℕ → ℕ → Type 0
Shows k passed bytes x = passed < x → k ≤ count_by is_feed (drop (x - passed - 1) bytes)

-- so do the last three
pub record ShowFeeds (passed : ℕ) (bytes : List ℕ) (feeds : LastFeeds) : Type 0 where
  pub last : Shows 1 passed bytes feeds.last
  pub second : Shows 2 passed bytes feeds.second
  pub third : Shows 3 passed bytes feeds.third
