-- What a crash leaves while a record is added, and what stands when it is.
use Rattle.std.proofs.Common.{◌≡◌, inl, ℕ, ◌+◌, List, [], ◌∷◌, ◌++◌, length, drop, sym, ◌∙◌, ap, subst, append_assoc}
use Rattle.kap_io.specs.Disk.{Image, Torn, On, OnlyIn, overwritten}
use Rattle.kap_io.specs.declared.disk.Part.{Part}
use Rattle.kap_io.specs.Moments.{Moments, then_run}
use Rattle.gate_log.specs.Bodies.{size_bytes, bytes_of, IsLog, IsBeforeOrAfter}
use Rattle.gate_log.specs.Logs.{IsReady}
use Rattle.gate_log.proofs.Gate.{torn_behind, written_behind, torn_gate, written_gate, by_gate}

module _ (bodies : List (List ℕ)) (body : List ℕ) (part : Part) (gate : ℕ) (piece : List ℕ) (seen : Image) (images : Image → Type 0)
    (ready : IsReady bodies body part gate piece seen images) where
  front : List ℕ
  front = bytes_of bodies

  -- a file whose record stands behind a gate
  abbrev Staged : ℕ → List ℕ → List ℕ → Type 0
  Staged byte rest file = file ≡ bytes_of bodies ++ byte ∷ (size_bytes (length body) ++ body ++ 0 ∷ rest)

  from_image : (becomes : List ℕ → List ℕ → Type 0) (d : Image) (c : List ℕ) → images d → becomes (d part) c
      → becomes (bytes_of bodies ++ ready.file.bytes.gate ∷ ready.file.bytes.rest) c
  from_image becomes d c was step = subst (λ (f : List ℕ). becomes f c) (ready.file.durable d was ∙ ready.file.bytes.is) step

  -- the first write, cut short
  pub behind_torn : (d c : Image) → images d → On part (Torn (gate + 1) (length piece)) d c → On part (λ _ file. IsLog bodies file) d c
  behind_torn d c was on = record {
    step = record {
      gate = ready.file.bytes.gate;
      rest = _;
      is = torn_behind (bytes_of bodies) gate ready.file.bytes.gate ready.file.bytes.rest (sym ready.at_end) (length piece) (c part)
          (from_image (Torn (gate + 1) (length piece)) d (c part) was on.step);
      closed = ready.file.bytes.closed;
      fit = ready.file.bytes.fit;
    };
    elsewhere = on.elsewhere;
  }

  -- the first write, done
  pub tail : List ℕ
  tail = drop (gate + 1 + length piece) (bytes_of bodies ++ ready.file.bytes.gate ∷ ready.file.bytes.rest)

  pub staged : (mid : List ℕ) → mid ≡ overwritten (gate + 1) piece (seen part) → Staged ready.file.bytes.gate tail mid
  unfolding tail
  staged mid holds =
      let body_on = size_bytes (length body) ++ body in
      let is = written_behind (bytes_of bodies) gate ready.file.bytes.gate ready.file.bytes.rest (sym ready.at_end) piece mid
      (subst (λ (f : List ℕ). mid ≡ overwritten (gate + 1) piece f) ready.file.bytes.is holds) in
      is ∙ ap (λ (l : List ℕ). bytes_of bodies ++ ready.file.bytes.gate ∷ l)
      (ap (λ (l : List ℕ). l ++ drop (gate + 1 + length piece) (bytes_of bodies ++ ready.file.bytes.gate ∷ ready.file.bytes.rest)) ready.is_record
      ∙ append_assoc body_on (0 ∷ []) _)

  -- the second write, cut short
  pub gate_torn : (mid : List ℕ) → mid ≡ overwritten (gate + 1) piece (seen part) → (d c : Image) → d part ≡ mid → On part (Torn gate 1) d c
      → On part (λ _ file. IsBeforeOrAfter bodies body file) d c
  gate_torn mid holds d c is on =
      let torn = subst (λ (f : List ℕ). Torn gate 1 f (c part)) (is ∙ staged mid holds) on.step in
      let left = torn_gate (bytes_of bodies) gate ready.file.bytes.gate _ (sym ready.at_end) (c part) torn in
      record { step = by_gate bodies body _ tail (c part) ready.file.bytes.fit ready.fits left; elsewhere = on.elsewhere }

  -- the second write, done
  pub gate_open : (mid new : List ℕ) → mid ≡ overwritten (gate + 1) piece (seen part) → new ≡ overwritten gate (165 ∷ []) mid → Staged 165 tail new
  gate_open mid new holds opens =
      written_gate (bytes_of bodies) gate ready.file.bytes.gate _ (sym ready.at_end) 165 new
      (subst (λ (f : List ℕ). new ≡ overwritten gate (165 ∷ []) f) (staged mid holds) opens)

-- both writes: at each moment the log has the record or it hasn't
pub two_writes : {D : Type 0} (moment : D → ℕ) (may_leave : D → Image → Type 0) (left_since : D → ℕ → Image → Type 0) (seen : D → Image)
    (bodies : List (List ℕ)) (body : List ℕ) (part : Part) (gate : ℕ) (piece : List ℕ) (old mid new : D)
    → IsReady bodies body part gate piece (seen old) (may_leave old) → Moments moment may_leave left_since old mid (On part (Torn (gate + 1) (length piece)))
    → (seen mid part) ≡ overwritten (gate + 1) piece (seen old part) → OnlyIn part (seen mid part) (may_leave mid)
    → Moments moment may_leave left_since mid new (On part (Torn gate 1))
    → Moments moment may_leave left_since old new (On part (λ _ file. IsBeforeOrAfter bodies body file))
two_writes moment may_leave left_since seen bodies body part gate piece old mid new ready one holds only two =
    then_run moment may_leave left_since old mid new _ _ _ one two
    (λ a b was on. let torn = behind_torn bodies body part gate piece (seen old)
    (may_leave old) ready a b was on in record { step = inl torn.step; elsewhere = torn.elsewhere })
    (λ a b c was on staged_was opens. let torn =
    gate_torn bodies body part gate piece (seen old) (may_leave old) ready (seen mid part) holds b c
    (only b staged_was) opens in record { step = torn.step; elsewhere = λ q apart. torn.elsewhere q apart ∙ on.elsewhere q apart })
