-- What is read of a line is what it means in the words of the grammar.
use Rattle.std.proofs.Common.{◌≡◌, ◌≢◌, Option, Some, None, List, ℕ, Ok, Err, sym, ap, ◌∙◌}
use Rattle.std.specs.Prelude.{Result, IfErr}
use Rattle.kap_base.specs.Words.{Answers}
use Rattle.kap_base.specs.Points.{PointValue}
use Rattle.line_points.specs.declared.fault.LineFault.{LineFault}
use Rattle.line_points.specs.declared.fault.LineFault.TheVariants as faults
use Rattle.line_points.specs.declared.mode.Mode.{Mode}
use Rattle.line_points.specs.declared.mode.Mode.TheVariants.{Recording}
use Rattle.line_points.specs.Line.{line_of, stored_of, Reads}
use Rattle.line_points.specs.FaultRows.{FieldFault, float_value, unsigned_value, no_field, TimeFault, missing_time, far_time, no_time, FaultOfText, measurement_row, tag_row, no_field_row, field_row, time_row, FaultOfStored, utf8_row, text_row}
use Rattle.line_points.specs.Answered.{PointOfStored, PointOfLine, LineMeans, StoredMeans}
use Rattle.line_points.proofs.WholeLaws.{line_spelled, line_allowed, stored_spelled, stored_valid, spelled_line}
use Rattle.line_points.proofs.BlankLaws.{blank_is, is_blank_line}
use Rattle.line_points.proofs.RowLaws.{line_row, row_line, stored_row}

-- ---- points

pub stored_means_point : (db rp : List ℕ) (mode : Mode) (line : List ℕ) (p : PointValue) → stored_of db rp mode line ≡ Ok p → PointOfStored db rp mode line p
stored_means_point db rp mode line p read =
    let s = stored_spelled db rp mode line p read in
    record { spelled = s.spelled; is_of = s.is_of; utf8 = stored_valid db rp mode line p read }

pub line_means_point : (db rp : List ℕ) (mode : Mode) (line : List ℕ) (p : PointValue) → Reads db rp mode line p → PointOfLine db rp mode line p
line_means_point db rp mode line p read =
    let s = line_spelled db rp mode line p read in
    let a = line_allowed db rp mode line p read in
    record { stored = record { spelled = s.spelled; is_of = s.is_of; utf8 = a.valid }; short = a.short }

pub point_means_line : (db rp : List ℕ) (mode : Mode) (line : List ℕ) (p : PointValue) → PointOfLine db rp mode line p → Reads db rp mode line p
point_means_line db rp mode line p m = spelled_line db rp mode line p m.stored.is_of m.stored.spelled m.stored.utf8 m.short

-- ---- each meaning

pub read_means : (db rp : List ℕ) (mode : Mode) (line : List ℕ) (r : Result (Option PointValue) LineFault) → line_of db rp mode line ≡ r → LineMeans db rp mode line r
read_means db rp mode line (Ok (Some p)) read = line_means_point db rp mode line p read
read_means db rp mode line (Ok None) read = blank_is db rp line mode read
read_means db rp mode line (Err f) read = line_row db rp mode line f read

pub meaning_read : (db rp : List ℕ) (mode : Mode) (line : List ℕ) (r : Result (Option PointValue) LineFault) → LineMeans db rp mode line r → line_of db rp mode line ≡ r
meaning_read db rp mode line (Ok (Some p)) m = point_means_line db rp mode line p m
meaning_read db rp mode line (Ok None) m = is_blank_line db rp line mode m
meaning_read db rp mode line (Err f) m = row_line db rp mode line f m

-- ---- what is answered

other_fault : {A : Type 0} (f : LineFault) → ◌≢◌ {A = Result A LineFault} (Err f) (Err faults.NoMemory) → f ≢ faults.NoMemory
other_fault {A = A} f other same = other (ap (λ (x : LineFault). let r : Result A LineFault = Err x in r) same)

pub answer_means : (r : Result (Option PointValue) LineFault) (db rp : List ℕ) (mode : Mode) (line : List ℕ) → Answers faults.NoMemory r (line_of db rp mode line) → r ≢ Err faults.NoMemory → LineMeans db rp mode line r
answer_means (Ok o) db rp mode line read other = read_means db rp mode line (Ok o) read
answer_means (Err f) db rp mode line read other = read_means db rp mode line (Err f) (read (other_fault f other))

pub stored_answer_means : (r : Result PointValue LineFault) (db rp : List ℕ) (line : List ℕ) → Answers faults.NoMemory r (stored_of db rp Recording line) → r ≢ Err faults.NoMemory → StoredMeans db rp line r
stored_answer_means (Ok p) db rp line read other = stored_means_point db rp Recording line p read
stored_answer_means (Err f) db rp line read other = stored_row db rp Recording line f (read (other_fault f other))

-- ---- a line of any length is never too long

field_short : (bytes : List ℕ) (f : LineFault) → FieldFault bytes f → f ≢ faults.Long
field_short bytes _ (float_value o) e = cc
field_short bytes _ (unsigned_value o) e = cc
field_short bytes _ (no_field none) e = cc

time_short : (mode : Mode) (bytes : List ℕ) (f : LineFault) → TimeFault mode bytes f → f ≢ faults.Long
time_short mode bytes _ (missing_time n is_mode is) e = cc
time_short mode bytes _ (far_time t far) e = cc
time_short mode bytes _ (no_time s w) e = cc

text_short : (mode : Mode) (line : List ℕ) (f : LineFault) → FaultOfText mode line f → f ≢ faults.Long
text_short mode line _ (measurement_row n) e = cc
text_short mode line _ (tag_row ts rest s none) e = cc
text_short mode line _ (no_field_row ts n s) e = cc
text_short mode line _ (field_row f ts more fields rest s place fault) e = field_short rest f fault e
text_short mode line _ (time_row f ts more fs fields rest s spells next none fault) e = time_short mode rest f fault e

stored_short : (mode : Mode) (line : List ℕ) (f : LineFault) → FaultOfStored mode line f → f ≢ faults.Long
stored_short mode line _ (utf8_row broken) e = cc
stored_short mode line _ (text_row f valid row) e = text_short mode line f row e

pub never_long : (r : Result PointValue LineFault) (db rp : List ℕ) (mode : Mode) (line : List ℕ) → Answers faults.NoMemory r (stored_of db rp mode line) → IfErr r (λ e. e ≢ faults.Long)
never_long (Ok p) db rp mode line read = tt
never_long (Err f) db rp mode line read = λ is.
    stored_short mode line f (stored_row db rp mode line f (read (λ lack. let both : ◌≡◌ {A = LineFault} faults.Long faults.NoMemory = sym is ∙ lack in cc))) is
