-- What a select gives of the points of a batch: values, and the times of its results.
use Rattle.std.specs.Prelude.{ℕ, ℤ, pos, ◌+ℤ◌, ◌-ℤ◌, Bool, not, if◌then◌else◌, List, []}
use Rattle.std.specs.Prelude.{◌∷◌, map, filter, fold, length, take, Option, Some, None, option_map}
use Rattle.std.specs.Int.{int_wrap, w64}
use Rattle.std.specs.List.{last_or}
use Rattle.std.specs.Option.{option_to_list}
use Rattle.kap_base.specs.Points.{PointValue}
use Rattle.kap_base.specs.Values.{is_same_value}
use Rattle.kap_base.specs.declared.value.Value.{Value}
use Rattle.kap_base.specs.declared.value.Value.TheVariants.{Int}
use Rattle.task_graph.specs.declared.spec.Select.{Select}
use Rattle.task_graph.specs.declared.spec.Select.TheVariants.{Sum, Count, Min, Max, First, Last, Spread, Distinct, Top, Bottom}
use Rattle.task_graph.specs.declared.spec.SelectSpec.{SelectSpec}
use Rattle.select_nodes.specs.declared.readings.Rank.TheVariants.{Lowest, Highest}
use Rattle.select_nodes.specs.Picks.{PickValue, ReadingValue, first, picks_at, readings_at, values_at}
use Rattle.select_nodes.specs.Ranks.{by_rank}

-- the sum of integers, brought into 64 bits; of none there is no sum
abbrev pub sum_of : List ℤ → Option ℤ
sum_of [] = None
sum_of (n ∷ ns) = Some (int_wrap w64 (fold ◌+ℤ◌ (pos 0) (n ∷ ns)))

-- the sum of readings, where there are some
abbrev pub sum_in : List ReadingValue → Option ℤ
sum_in rs = sum_of (map (λ r. r.number) rs)

-- the greatest integer less the least, brought into 64 bits
abbrev pub spread_between : Option ReadingValue → Option ReadingValue → Option ℤ
spread_between (Some high) (Some low) = Some (int_wrap w64 (high.number -ℤ low.number))
spread_between _ _ = None

-- the greatest less the least, where there are some
abbrev pub spread_in : List ReadingValue → Option ℤ
spread_in rs = spread_between (first (by_rank Highest rs)) (first (by_rank Lowest rs))

-- each value once, in the order of their first places
abbrev pub distinct : List Value → List Value
distinct [] = []
distinct (v ∷ vs) = v ∷ filter (λ w. not (is_same_value w v)) (distinct vs)

-- a value at the end of the batch
abbrev pub at_end : ℤ → Value → PickValue
at_end tmax v = record { value = v; time = tmax }

-- a number at the end of the batch
abbrev pub int_at_end : ℤ → ℤ → PickValue
int_at_end tmax n = at_end tmax (Int n)

-- a value at the time of its point, where point times are used, and else at the end of the batch
abbrev pub timed : Bool → ℤ → PickValue → PickValue
timed point_times tmax p = record { value = p.value; time = if point_times then p.time else tmax }

-- a reading at its own time, or at the end of the batch
abbrev pub timed_reading : Bool → ℤ → ReadingValue → PickValue
timed_reading point_times tmax r = timed point_times tmax (record { value = Int r.number; time = r.time })

-- what each select gives, by the field and whether point times are used, of a batch that ends at tmax
abbrev pub choices : Select → List ℕ → Bool → ℤ → List PointValue → List PickValue
choices Sum field point_times tmax ps = option_to_list (option_map (int_at_end tmax) (sum_in (readings_at field ps)))
choices Count field point_times tmax ps = int_at_end tmax (pos (length (values_at field ps))) ∷ []
choices Min field point_times tmax ps =
    option_to_list (option_map (timed_reading point_times tmax) (first (by_rank Lowest (readings_at field ps))))
choices Max field point_times tmax ps =
    option_to_list (option_map (timed_reading point_times tmax) (first (by_rank Highest (readings_at field ps))))
choices First field point_times tmax ps =
    option_to_list (option_map (timed point_times tmax) (first (picks_at field ps)))
choices Last field point_times tmax ps =
    option_to_list (option_map (timed point_times tmax) (last_or None (picks_at field ps)))
choices Spread field point_times tmax ps =
    option_to_list (option_map (int_at_end tmax) (spread_in (readings_at field ps)))
choices Distinct field point_times tmax ps = map (at_end tmax) (distinct (values_at field ps))
choices (Top n) field point_times tmax ps =
    map (timed_reading point_times tmax) (take n (by_rank Highest (readings_at field ps)))
choices (Bottom n) field point_times tmax ps =
    map (timed_reading point_times tmax) (take n (by_rank Lowest (readings_at field ps)))

-- what is chosen from the points of a batch that ends then
abbrev pub chosen : SelectSpec → ℤ → List PointValue → List PickValue
chosen s tmax ps = choices s.select s.field s.use_point_times tmax ps
