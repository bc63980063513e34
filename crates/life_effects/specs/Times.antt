-- Times of events that may be stored.
use Rattle.std.specs.Prelude.{Bool, List}
use Rattle.std.specs.List.{list_all}
use Rattle.kap_base.specs.Points.{is_time}
use Rattle.kap_base.specs.Events.{EventValue}

-- each has a time within the range of times
abbrev pub times_fit : List EventValue → Bool
times_fit es = list_all (λ e. is_time e.time) es
