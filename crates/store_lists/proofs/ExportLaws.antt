-- The points of a store are read again as they are exported.
use Rattle.std.proofs.Common.{◌≡◌, ◌≤◌, ℕ, zero, suc, Bool, true, false, not, List, [], ◌∷◌, ◌++◌, length, map, refl, sym, ap, subst, ◌∙◌, append-nil, arith}
use Rattle.std.specs.Prelude.{All, IsTrue, flat_map}
use Rattle.std.specs.Str.{is_utf8}
use Rattle.std.specs.List.{AllByRecursion as Each}
use Rattle.std.proofs.lemmas.Str.{IsUtf8-from_is_utf8}
use Rattle.kap_base.proofs.TestLaws.{first_of, second_of}
use Rattle.kap_base.specs.Points.{IsPoint, PointValue}
use Rattle.kap_base.specs.Texts.{has_line_feed, is_line}
use Rattle.line_points.proofs.CleanLaws.{IsClean}
use Rattle.line_points.proofs.FactLaws.{spelled_is_point}
use Rattle.line_points.proofs.MeaningLaws.{stored_means_point}
use Rattle.line_points.specs.Print.{Print}
use Rattle.line_points.specs.declared.mode.Mode.TheVariants.{Recording as recording}
use Rattle.recording_file.specs.Printed.{IsRecordable, read_again, record_text}
use Rattle.recording_file.specs.Recording.{Recording}
use Rattle.recording_file.specs.declared.lines.TheConstants.{RECORDING_LIMIT}
use Rattle.state_code.specs.Spelling.{AllFit}
use Rattle.store_records.specs.Held.{Held, after, nothing}
use Rattle.store_records.specs.Histories.{Follow, FollowFrom, first_gate, held, held_from, next_gate}
use Rattle.store_records.specs.Lines.{FitsBatch, FitsPoint}
use Rattle.store_records.specs.Records.{FitsRecord}
use Rattle.store_records.specs.declared.rec.Rec.{Rec}
use Rattle.store_records.specs.declared.rec.Rec.TheVariants as kinds
use Rattle.store_lists.specs.Exports.{HasShortLines}
use Rattle.store_lists.specs.Lists.{points_text}

-- a point that a record stores: it is one, and grouped by nothing
pub record IsStored (p : PointValue) : Type 0 where
  pub point : IsPoint p
  pub plain : read_again p ≡ p

each-append : {A : Type 0} (P : A → Type 0) (xs ys : List A) → Each P xs → Each P ys → Each P (xs ++ ys)
each-append P [] ys a b = b
each-append P (x ∷ xs) ys a b = (a.0, each-append P xs ys a.1 b)

not-true : (b : Bool) → IsTrue (not b) → b ≡ false
not-true true h = absurd cc
not-true false h = refl

true-is : (b : Bool) → IsTrue b → b ≡ true
true-is true h = refl
true-is false h = absurd cc

clean : (line : List ℕ) → IsTrue (is_line line) → IsClean line
clean line h = record {
  one_line = not-true (has_line_feed line) (first_of (not (has_line_feed line)) (is_utf8 line) h);
  valid = IsUtf8-from_is_utf8 line (true-is (is_utf8 line) (second_of (not (has_line_feed line)) (is_utf8 line) h));
}

-- where the line of a point reads as it, it is a point
point-stored : (db rp : List ℕ) (p : PointValue) → IsTrue (is_line db) → IsTrue (is_line rp) → FitsPoint db rp p → IsStored p
point-stored db rp p db_is rp_is fits =
    let means = stored_means_point db rp recording (Print p) p fits.reads in
    record {
      point = spelled_is_point db rp recording (Print p) p means.is_of means.spelled (clean (Print p) fits.line) (true-is (is_line db) db_is) (true-is (is_line rp) rp_is) refl;
      plain = ap (λ (ds : List (List ℕ)). record p { dims = ds; by_name = false }) (sym means.is_of.dims) ∙ ap (λ (b : Bool). record p { by_name = b }) (sym means.is_of.by_name);
    }

points-stored : (db rp : List ℕ) (ps : List PointValue) → IsTrue (is_line db) → IsTrue (is_line rp) → AllFit (FitsPoint db rp) ps → Each IsStored ps
points-stored db rp [] db_is rp_is fit = tt
points-stored db rp (p ∷ ps) db_is rp_is fit = (point-stored db rp p db_is rp_is fit.0, points-stored db rp ps db_is rp_is fit.1)

batch-stored : (db rp : List ℕ) (ps : List PointValue) → FitsBatch ((db, rp), ps) → Each IsStored ps
batch-stored db rp ps fits =
    let lines = fits.0.1 in
    points-stored db rp ps (first_of (is_line db) (is_line rp) lines) (second_of (is_line db) (is_line rp) lines) fits.1.1

-- and so all that records store
after-stored : (h : Held) (at : ℕ) (r : Rec) → FitsRecord r → Each IsStored h.points → Each IsStored (after h at r).points
after-stored h at (kinds.Define id script enabled) fits all = subst (Each IsStored) (sym (append-nil h.points)) all
after-stored h at (kinds.Enable id) fits all = subst (Each IsStored) (sym (append-nil h.points)) all
after-stored h at (kinds.Disable id) fits all = subst (Each IsStored) (sym (append-nil h.points)) all
after-stored h at (kinds.Delete id) fits all = subst (Each IsStored) (sym (append-nil h.points)) all
after-stored h at (kinds.Batch db rp points) fits all = each-append IsStored h.points points all (batch-stored db rp points fits)
after-stored h at (kinds.Trans transitions) fits all = subst (Each IsStored) (sym (append-nil h.points)) all
after-stored h at (kinds.Snap points trans states) fits all = subst (Each IsStored) (sym (append-nil h.points)) all

from-stored : (rs : List Rec) (h : Held) (at : ℕ) → FollowFrom h at rs → Each IsStored h.points → Each IsStored (held_from h at rs).points
from-stored [] h at follow all = all
from-stored (r ∷ rs) h at follow all = from-stored rs (after h at r) (next_gate at r) follow.2 (after-stored h at r follow.0 all)

-- ---- they are read again

recordable : (p : PointValue) → IsStored p → HasShortLines p → IsRecordable p
recordable p s h = record { point = s.point; db = h.db; rp = h.rp; db_within = h.db_within; rp_within = h.rp_within; line_within = h.line_within }

all-more : {A : Type 0} (P : A → Type 0) (x : A) (xs : List A) → P x → All P xs → All P (x ∷ xs)
all-more P x xs one all zero d lt = one
all-more P x xs one all (suc k) d lt = all k d (omega (arith, lt))

each-recordable : (ps : List PointValue) → Each IsStored ps → Each HasShortLines ps → All IsRecordable ps
each-recordable [] s h = λ k d lt. absurd (omega (arith, lt))
each-recordable (p ∷ ps) s h = all-more IsRecordable p ps (recordable p s.0 h.0) (each-recordable ps s.1 h.1)

plain-again : (ps : List PointValue) → Each IsStored ps → map read_again ps ≡ ps
plain-again [] s = refl
plain-again (p ∷ ps) s = ap (λ (q : PointValue). q ∷ map read_again ps) s.0.plain ∙ ap (λ (qs : List PointValue). p ∷ qs) (plain-again ps s.1)

pub read_again_as_stored : (again : (points : List PointValue) → All IsRecordable points → length (flat_map record_text points) ≤ RECORDING_LIMIT → Recording (flat_map record_text points) (map read_again points))
    → (rs : List Rec) → Follow rs → Each HasShortLines (held rs).points → length (points_text (held rs).points) ≤ RECORDING_LIMIT → Recording (points_text (held rs).points) (held rs).points
read_again_as_stored again rs follow short fits =
    let points = (held rs).points in
    let stored = from-stored rs nothing first_gate follow tt in
    subst (Recording (points_text points)) (plain-again points stored) (again points (each-recordable points stored short) fits)
