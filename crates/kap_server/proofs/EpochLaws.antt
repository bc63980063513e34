-- Points are read one after the other.
use Rattle.std.proofs.Common.{◌≡◌, ℕ, false, Option, None, Some, List, [], ◌∷◌, ◌++◌, inl, inr, refl, length, ◌≤◌, sym, ap, subst, ◌∙◌, append_assoc, arith}
use Rattle.std.specs.Io.KnownBytes.{Consumes}
use Rattle.std.proofs.KnownBytes.{Consumes-nil}
use Rattle.std.proofs.lemmas.List.{length_push, length-append}
use Rattle.kap_base.specs.Points.{PointValue}
use Rattle.recording_file.specs.Reading.{Gives, ReaderReads, ReaderState}
use Rattle.recording_file.proofs.ReadLaws.{read_more}
use Rattle.kap_io.specs.Fakes.{SourceState}
use Rattle.kap_base.specs.Words.{HasRisen}
use Rattle.recording_file.specs.declared.fault.RecFault.{RecFault}
use Rattle.recording_file.specs.declared.fault.RecFault.TheVariants as faults
use Rattle.kap_server.specs.declared.reading.Epoch.{Epoch}
use Rattle.kap_server.specs.declared.status.Status.{Status}
use Rattle.kap_server.specs.declared.status.Status.TheVariants as statuses
use Rattle.kap_server.specs.Replaying.{IsWritten}
use Rattle.kap_server.specs.Statuses.{status_of}
use Rattle.kap_server.specs.Epochs.{GavePoints, GoesOn, IsAhead, IsLeft}

-- one point more
pub gave_more : (a b c : ReaderState) (t u v : Option (List ℕ)) (points : List PointValue) (p : PointValue) → GavePoints a b t u points → ReaderReads b c u v → Gives b c p
    → GavePoints a c t v (points ++ p ∷ [])
gave_more a b c t u v points p so_far reads gives = record {
  read = λ s h. read_more b c s u v (so_far.read s h) reads;
  given = gives.given ∙ ap (λ (l : List PointValue). l ++ p ∷ []) so_far.given ∙ append_assoc a.given points (p ∷ []);
  first = λ h. gives.next;
}

-- an epoch ends behind it, and the reader can go on
pub goes_on : (a b c : ReaderState) (t u v : Option (List ℕ)) (points more : List PointValue) (p : PointValue) → GavePoints a b t u points → ReaderReads b c u v → Gives b c p
    → c.spent ≡ false → more ≡ points ++ p ∷ [] → GoesOn a c t v more
goes_on a b c t u v points more p so_far reads gives unspent is = subst (GoesOn a c t v) (sym is) (record {
  gave = gave_more a b c t u v points p so_far reads gives;
  unspent = unspent;
  some = let long = length_push points p in omega (arith, long);
  few = gives.few;
})

-- nothing comes before what is left where as much was left
pub nothing_before : (piece left : List ℕ) → left ≡ piece ++ left → piece ≡ []
nothing_before [] left is = refl
nothing_before (x ∷ xs) left is = absurd (let long = ap length is ∙ length-append (x ∷ xs) left in omega (arith, long))

-- a call that leaves the byte that a source has left asked none: so it reads of any source
pub reads_held : (a b : ReaderState) → ReaderReads a b (Some (0 ∷ [])) (Some (0 ∷ [])) → (t : Option (List ℕ)) → ReaderReads a b t t
reads_held a b on t = record {
  piece = on.piece;
  got = on.got;
  took = subst (Consumes t t) (sym (nothing_before on.piece (0 ∷ []) on.took)) (Consumes-nil t);
  stays_ended = on.stays_ended;
  none = on.none;
  ends = λ e. elim (on.ends e) [
    | inl was ↦ inl was
    | inr over ↦ absurd cc
  ];
}

pub held_left : (s u : SourceState) (a b : ReaderState) → u ≡ s → IsLeft (Some s.left) → ReaderReads a b (Some s.left) (Some u.left) → (t : Option (List ℕ)) → ReaderReads a b t t
held_left s u a b same left on =
    reads_held a b (subst (λ (l : Option (List ℕ)). ReaderReads a b l l) left (subst (λ (v : SourceState). ReaderReads a b (Some s.left) (Some v.left)) same on))

-- where no epoch was read ahead nothing was
pub not_ahead : (before now : ReaderState) (ahead : Option Epoch) → IsAhead before now ahead → ahead ≡ None → now ≡ before
not_ahead before now None is none = is
not_ahead before now (Some e) is none = absurd cc

-- a replay that ends in a read fault has met one
met_of : (fault : RecFault) → status_of fault ≡ statuses.ReadFault → fault ≡ faults.ReadFault
met_of (faults.Line n f) is = absurd cc
met_of (faults.Truncated n) is = absurd cc
met_of faults.Long is = absurd cc
met_of faults.ReadFault is = refl
met_of faults.NoMemory is = absurd cc

pub met_read_fault : (fault : RecFault) (status result : Status) (w v : Option (List ℕ)) (due : List ℕ) (before after : ℕ) → status ≡ status_of fault
    → IsWritten status result w v due before after → result ≡ statuses.ReadFault → fault ≡ faults.ReadFault
met_read_fault fault status result w v due before after from written is = elim written [
  | inl p ↦ met_of fault (sym from ∙ sym p.0 ∙ is)
  | inr p ↦ absurd (let q = p.0 in cc)
]

-- a count that has risen since has risen
pub risen_since : (a b n : ℕ) → a ≤ b → HasRisen b n → HasRisen a n
risen_since a b n later risen = grind arith
