-- Which record may follow, by what is kept.
use Rattle.std.proofs.Common.{◌≡◌, true, false, List, sym, ◌∙◌, subst}
use Rattle.std.specs.Prelude.{◌==◌}
use Rattle.std.specs.List.{list_all}
use Rattle.std.proofs.lemmas.Bool.{eq-eqb, eqb-true, false≢true}
use Rattle.kap_base.proofs.TestLaws.{both, first_of, second_of}
use Rattle.store_records.specs.Held.{Held, MayFollow, has_task, may_define}
use Rattle.store_records.specs.Lines.{are_lines, is_of}
use Rattle.store_records.specs.Records.{FitsRecord}
use Rattle.store_records.specs.declared.rec.Rec.{Rec}
use Rattle.store_records.specs.declared.rec.Rec.TheVariants as kinds
use Rattle.store_records.specs.declared.task.StoredTask.{StoredTask}
use Rattle.store_kept.specs.Keeping.{Keeps, KeptValue}
use Rattle.store_kept.specs.Taking.{follows}

module _ (h : Held) (k : KeptValue) (keeps : Keeps h k) where
  -- the test says that it may
  pub may_of : (r : Rec) → FitsRecord r → follows k h.transitions r ≡ true → MayFollow h r
  may_of (kinds.Define id script enabled) fits e = subst (λ (t : List StoredTask). may_define id script t ≡ true) keeps.tasks e
  may_of (kinds.Enable id) fits e = subst (λ (t : List StoredTask). has_task id t ≡ true) keeps.tasks e
  may_of (kinds.Disable id) fits e = subst (λ (t : List StoredTask). has_task id t ≡ true) keeps.tasks e
  may_of (kinds.Delete id) fits e = subst (λ (t : List StoredTask). has_task id t ≡ true) keeps.tasks e
  may_of (kinds.Batch db rp points) fits e = (first_of (are_lines (db, rp)) (list_all (is_of db rp) points) e, second_of (are_lines (db, rp)) (list_all (is_of db rp) points) e)
  may_of (kinds.Trans transitions) fits e = e
  may_of (kinds.Snap points trans states) fits e = record {
    points_are = eqb-true points k.points (first_of (points == k.points) (trans == k.transitions) e) ∙ keeps.points;
    trans_are = eqb-true trans k.transitions (second_of (points == k.points) (trans == k.transitions) e) ∙ keeps.transitions;
    states_are = fits.1.1;
  }

  -- the test is passed where it may
  passes : (r : Rec) → MayFollow h r → follows k h.transitions r ≡ true
  passes (kinds.Define id script enabled) may = subst (λ (t : List StoredTask). may_define id script t ≡ true) (sym keeps.tasks) may
  passes (kinds.Enable id) may = subst (λ (t : List StoredTask). has_task id t ≡ true) (sym keeps.tasks) may
  passes (kinds.Disable id) may = subst (λ (t : List StoredTask). has_task id t ≡ true) (sym keeps.tasks) may
  passes (kinds.Delete id) may = subst (λ (t : List StoredTask). has_task id t ≡ true) (sym keeps.tasks) may
  passes (kinds.Batch db rp points) may = both (are_lines (db, rp)) (list_all (is_of db rp) points) may.0 may.1
  passes (kinds.Trans transitions) may = may
  passes (kinds.Snap points trans states) may =
      both (points == k.points) (trans == k.transitions) (eq-eqb points k.points (may.points_are ∙ sym keeps.points)) (eq-eqb trans k.transitions (may.trans_are ∙ sym keeps.transitions))

  -- the test says that it may not
  pub not_of : (r : Rec) → follows k h.transitions r ≡ false → MayFollow h r → ⊥
  not_of r e may = false≢true (sym e ∙ passes r may)
