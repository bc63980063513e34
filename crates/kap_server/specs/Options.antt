-- The options of a replay, and of a write.
use Rattle.std.specs.Prelude.{ℕ, ◌<◌, ◌≤◌, ◌^◌, Bool, true, false, not, ◌&&◌, ◌==◌, List, length, slice_index, Option, Some, None, IfSome, is_some, unwrap_or, codes, min, max, nat_le, nat_lt, if◌then◌else◌}
use Rattle.std.specs.Str.{bytes_eq}
use Rattle.std.specs.Str.Parse.{digits_value}
use Rattle.edge_queue.specs.declared.TheConstants.{CAPACITY_LIMIT}
use Rattle.line_points.specs.declared.mode.Unit.{Unit}
use Rattle.line_points.specs.declared.mode.Unit.TheVariants.{Ns, Us, Ms, S, M, H}
use Rattle.node_workers.specs.declared.TheConstants.{WORKER_LIMIT}
use Rattle.lambda_fns.specs.Numbers.{are_digits}
use Rattle.kap_server.specs.declared.options.ReplayOptions.{ReplayOptions}
use Rattle.kap_server.specs.declared.options.WriteOptions.{WriteOptions}
use Rattle.kap_server.specs.declared.options.TheConstants.{CAPACITY, WORKERS}

-- ---- numbers

-- a zero stands before other bytes
abbrev pub has_leading_zero : List ℕ → Bool
has_leading_zero word = slice_index word 0 == 48 && nat_lt 1 (length word)

-- the number below 2^32 that decimal digits write without a sign or a leading zero
abbrev pub number_in : List ℕ → Option ℕ
number_in word =
    if are_digits word && not (has_leading_zero word) && nat_lt (digits_value 10 word) (2 ^ 32)
    then Some (digits_value 10 word) else None

-- the number, where it lies within limits
abbrev pub within : ℕ → ℕ → Option ℕ → Option ℕ
within low high None = None
within low high (Some n) = if nat_le low n && nat_le n high then Some n else None

-- the number that a word writes so, where it lies within limits
abbrev pub number_within : ℕ → ℕ → List ℕ → Option ℕ
number_within low high word = within low high (number_in word)

-- ---- options

-- none is given
abbrev pub no_options : ReplayOptions
no_options = record { counts = false; workers = None; schedule = None; capacity = None }

-- with `--counts`, where it wasn't given before
abbrev pub with_counts : ReplayOptions → Option ReplayOptions
with_counts options = if options.counts then None
    else Some (record {
      counts = true;
      workers = options.workers;
      schedule = options.schedule;
      capacity = options.capacity;
    })

-- with this order of a net, if there is one
abbrev pub set_schedule : ReplayOptions → Option ℕ → Option ReplayOptions
set_schedule options None = None
set_schedule options (Some n) =
    Some (record { counts = options.counts; workers = options.workers; schedule = Some n; capacity = options.capacity })

-- with so many workers, if there is such a number
abbrev pub set_workers : ReplayOptions → Option ℕ → Option ReplayOptions
set_workers options None = None
set_workers options (Some n) =
    Some (record {
      counts = options.counts;
      workers = Some n;
      schedule = options.schedule;
      capacity = options.capacity;
    })

-- with `--workers` and this value, which is 1 to 64, where it wasn't given before
abbrev pub with_workers : ReplayOptions → List ℕ → Option ReplayOptions
with_workers options value =
    if is_some options.workers then None else set_workers options (number_within 1 WORKER_LIMIT value)

-- with `--schedule` and this value, where it wasn't given before
abbrev pub with_schedule : ReplayOptions → List ℕ → Option ReplayOptions
with_schedule options value = if is_some options.schedule then None else set_schedule options (number_in value)

-- with this capacity of the edges of a net, if there is one
abbrev pub set_capacity : ReplayOptions → Option ℕ → Option ReplayOptions
set_capacity options None = None
set_capacity options (Some n) =
    Some (record { counts = options.counts; workers = options.workers; schedule = options.schedule; capacity = Some n })

-- with `--capacity` and this value, which is 1 to 65,536, where it wasn't given before
abbrev pub with_capacity : ReplayOptions → List ℕ → Option ReplayOptions
with_capacity options value =
    if is_some options.capacity then None else set_capacity options (number_within 1 CAPACITY_LIMIT value)

-- with the option of this name and this value, where it is one and wasn't given before
abbrev pub with_value : ReplayOptions → List ℕ → List ℕ → Option ReplayOptions
with_value options name value =
    if bytes_eq name (codes "--workers") then with_workers options value else
    if bytes_eq name (codes "--schedule") then with_schedule options value else
    if bytes_eq name (codes "--capacity") then with_capacity options value else None

-- a number of workers that is given is 1 to 64, and a capacity one that edges can have
abbrev pub AreWithinLimits : ReplayOptions → Type 0
AreWithinLimits options = IfSome options.workers (λ n. (0 < n) × (n ≤ WORKER_LIMIT))
    × IfSome options.capacity (λ n. (0 < n) × (n ≤ CAPACITY_LIMIT))

-- for how many messages each edge of a net has room: as many as are given, or 64
abbrev pub capacity_of : ReplayOptions → ℕ
capacity_of options = unwrap_or options.capacity CAPACITY

-- how many workers move a net of so many tasks, where none are given: one a task, and at most 4
abbrev pub workers_for : ℕ → ℕ
workers_for tasks = max 1 (min tasks WORKERS)

-- how many workers move it: as many as are given, or so many
abbrev pub workers_of : ReplayOptions → ℕ → ℕ
workers_of options tasks = unwrap_or options.workers (workers_for tasks)

-- ---- options of a write

-- none is given
abbrev pub no_write_options : WriteOptions
no_write_options = record { running = no_options; unit = None }

-- what times count: nanoseconds, where no unit is given
abbrev pub unit_of : WriteOptions → Unit
unit_of options = unwrap_or options.unit Ns

-- the unit of this name: nanoseconds, microseconds, milliseconds, seconds, minutes or hours
abbrev pub unit_named : List ℕ → Option Unit
unit_named name =
    if bytes_eq name (codes "ns") then Some Ns else
    if bytes_eq name (codes "n") then Some Ns else
    if bytes_eq name (codes "u") then Some Us else
    if bytes_eq name (codes "ms") then Some Ms else
    if bytes_eq name (codes "s") then Some S else
    if bytes_eq name (codes "m") then Some M else
    if bytes_eq name (codes "h") then Some H else None

-- with these workers and edges, if there are any
abbrev pub with_running : WriteOptions → Option ReplayOptions → Option WriteOptions
with_running options None = None
with_running options (Some running) = Some (record { running = running; unit = options.unit })

-- with this unit, if there is one
abbrev pub set_unit : WriteOptions → Option Unit → Option WriteOptions
set_unit options None = None
set_unit options (Some unit) = Some (record { running = options.running; unit = Some unit })

-- with `--precision` and this value, which names a unit, where it wasn't given before
abbrev pub with_unit : WriteOptions → List ℕ → Option WriteOptions
with_unit options value = if is_some options.unit then None else set_unit options (unit_named value)

-- with the option of this name and this value, where it is one of a write and wasn't given before
abbrev pub with_write_value : WriteOptions → List ℕ → List ℕ → Option WriteOptions
with_write_value options name value =
    if bytes_eq name (codes "--workers") then with_running options (with_workers options.running value) else
    if bytes_eq name (codes "--capacity") then with_running options (with_capacity options.running value) else
    if bytes_eq name (codes "--precision") then with_unit options value else None

-- its number of workers, and the room of its edges, are such as may be
abbrev pub AreWriteLimits : WriteOptions → Type 0
AreWriteLimits options = AreWithinLimits options.running
