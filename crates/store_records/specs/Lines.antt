-- Points as a record spells them: each as its canonical line.
use Rattle.std.specs.Prelude.{◌≡◌, ℕ, ◌==◌, Bool, true, false, not, ◌&&◌, if◌then◌else◌, length, List, ◌++◌, Option, Some, None, Result, Ok, Err, IsTrue, bytes_eq}
use Rattle.std.proofs.Common.{refl, sym, subst, cond}
use Rattle.std.specs.Cmp.Lexicographic.{bytes_decides}
use Rattle.kap_base.specs.Points.{PointValue}
use Rattle.kap_base.specs.Texts.{is_line}
use Rattle.line_points.specs.Line.{stored_of}
use Rattle.line_points.specs.Print.{Print}
use Rattle.line_points.specs.declared.fault.LineFault.{LineFault}
use Rattle.line_points.specs.declared.mode.Mode.TheVariants.{Recording}
use Rattle.state_code.specs.Laws.{list_spelled, pair_spelled, tested_by}
use Rattle.state_code.specs.Spelling.{FitsList, FitsPair, IsSpelling, Reading, read_list, read_pair, read_where, spell_bytes, spell_list, spell_pair}
use Rattle.state_code.specs.Texts.{FitsText, read_text, text_spelled}
use Rattle.store_records.specs.Combining.{behind_spelled, read_behind, read_some, some_spelled}

-- the point is of this database and policy, and ungrouped
abbrev pub is_of : List ℕ → List ℕ → PointValue → Bool
is_of db rp p = bytes_eq p.db db && (bytes_eq p.rp rp && (length p.dims == 0 && not p.by_name))

-- the point, where the line is its canonical one
abbrev pub if_canonical : List ℕ → Result PointValue LineFault → Option PointValue
if_canonical line (Ok p) = if bytes_eq (Print p) line then Some p else None
if_canonical line (Err fault) = None

-- the point of this database and policy whose canonical line this is
abbrev pub canonical_point : List ℕ → List ℕ → List ℕ → Option PointValue
canonical_point db rp line = if is_line line then if_canonical line (stored_of db rp Recording line) else None

-- The point's canonical line, read under this database and policy, is the point. So it is of these and ungrouped.
pub record FitsPoint (db rp : List ℕ) (p : PointValue) : Type 0 where
  pub text : FitsText (Print p)
  pub line : IsTrue (is_line (Print p))
  pub reads : stored_of db rp Recording (Print p) ≡ Ok p

-- its canonical line as a text
abbrev pub spell_point : PointValue → List ℕ
spell_point p = spell_bytes (Print p)

-- and the point whose canonical line stands there
abbrev pub read_point : List ℕ → List ℕ → Reading PointValue
read_point db rp = read_some (canonical_point db rp) read_text

there : (db rp : List ℕ) (p : PointValue) → FitsPoint db rp p → FitsText (Print p)
    × (canonical_point db rp (Print p) ≡ Some p)
there db rp p fits = (fits.text, rw (fits.line, fits.reads, (bytes_decides (Print p) (Print p)).1 refl) refl)

tested : (b : Bool) (o : Option PointValue) (p : PointValue) → cond b o None ≡ Some p → (b ≡ true) × (o ≡ Some p)
tested true o p e = (refl, e)
tested false o p e = absurd cc

canonical_is : (line : List ℕ) (r : Result PointValue LineFault) (p : PointValue) → if_canonical line r ≡ Some p
    → (r ≡ Ok p) × (Print p ≡ line)
canonical_is line (Ok q) p e =
    let passed = tested (bytes_eq (Print q) line) (Some q) p e in
    let same : q ≡ p = cc in
    (cc, subst (λ (x : PointValue). Print x ≡ line) same ((bytes_decides (Print q) line).0 passed.0))
canonical_is line (Err fault) p e = absurd cc

back : (db rp line : List ℕ) (p : PointValue) → FitsText line → canonical_point db rp line ≡ Some p → FitsPoint db rp p
    × (Print p ≡ line)
back db rp line p fits e =
    let passed = tested (is_line line) (if_canonical line (stored_of db rp Recording line)) p e in
    let is = canonical_is line (stored_of db rp Recording line) p passed.1 in (
      record {
        text = subst FitsText (sym is.1) fits;
        line = subst (λ (x : List ℕ). IsTrue (is_line x)) (sym is.1) passed.0;
        reads = subst (λ (x : List ℕ). stored_of db rp Recording x ≡ Ok p) (sym is.1) is.0;
      },
      is.1,
    )

-- what is spelled is read again, and only that
pub point_spelled : (db rp : List ℕ) → IsSpelling (FitsPoint db rp) spell_point (read_point db rp)
point_spelled db rp =
    some_spelled text_spelled (FitsPoint db rp) (canonical_point db rp) Print (there db rp) (back db rp)

-- a database and a policy
abbrev pub Names : Type 0
Names = List ℕ × List ℕ

-- neither has a line feed
abbrev pub are_lines : Names → Bool
are_lines names = is_line names.0 && is_line names.1

-- both are UTF-8 of fewer than 2^32 bytes, without a line feed
abbrev pub FitsNames : Names → Type 0
FitsNames names = FitsPair FitsText FitsText names × IsTrue (are_lines names)

-- database and policy, one behind the other
abbrev pub spell_names : Names → List ℕ
spell_names = spell_pair spell_bytes spell_bytes

-- and the database and the policy that stand there, where neither has a line feed
abbrev pub read_names : Reading Names
read_names = read_where are_lines (read_pair read_text read_text)

-- a database and a policy, and points of these
abbrev pub Batch : Type 0
Batch = Names × List PointValue

-- the database and the policy have a spelling, and each point has one under these
abbrev pub FitsBatch : Batch → Type 0
FitsBatch batch = FitsNames batch.0 × FitsList (FitsPoint batch.0.0 batch.0.1) batch.1

-- database, policy, and the canonical lines of the points
abbrev pub spell_batch : Batch → List ℕ
spell_batch batch = spell_names batch.0 ++ spell_list spell_point batch.1

-- and the database, the policy and the points whose canonical lines stand there
abbrev pub read_batch : Reading Batch
read_batch = read_behind read_names (λ names. read_list (read_point names.0 names.1))

-- what is spelled is read again, and only that
pub batch_spelled : IsSpelling FitsBatch spell_batch read_batch
batch_spelled =
    behind_spelled (tested_by (pair_spelled text_spelled text_spelled) are_lines)
    (λ names. FitsList (FitsPoint names.0 names.1)) (spell_list spell_point)
    (λ names. read_list (read_point names.0 names.1)) (λ names. list_spelled (point_spelled names.0 names.1))
