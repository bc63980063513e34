-- What a reader has read of a source, call after call.
use Rattle.std.proofs.Common.{◌≡◌, ℕ, false, Option, None, Some, List, [], ◌++◌, inl, inr, sym, subst}
use Rattle.std.specs.Prelude.{IsTrue}
use Rattle.std.specs.Io.KnownBytes.{Consumes}
use Rattle.std.proofs.KnownBytes.{Consumes-nil, Consumes-trans}
use Rattle.recording_file.specs.Reading.{ReaderState, ReaderReads, HasRead}
use Rattle.recording_file.proofs.FindLaws.{ended_kept, ended_later}

-- at the start nothing was read
pub read_none : (s : Option (List ℕ)) → HasRead (record { given = []; got = []; ended = false; spent = false }) s s
read_none s = record { took = Consumes-nil s; ends = λ e. cc }

-- one call more
pub read_more : (a b : ReaderState) (s t u : Option (List ℕ)) → HasRead a s t → ReaderReads a b t u → HasRead b s u
read_more a b s t u h on = record {
  took = subst (Consumes s u) (sym on.got) (Consumes-trans s t u a.got on.piece h.took on.took);
  ends = λ e. elim (on.ends e) [
    | inl was ↦ ended_kept s t u on.piece (on.none was) (h.ends was) on.took
    | inr over ↦ ended_later s t u a.got h.took over
  ];
}

-- the bytes of a source that tells are those that were read, and what is left of it
pub record Told (reader : ReaderState) (input : List ℕ) : Type 0 where
  pub left : List ℕ
  pub is : input ≡ reader.got ++ left
  pub none : IsTrue reader.ended → left ≡ []

pub told : (reader : ReaderState) (input : List ℕ) (t : Option (List ℕ)) → HasRead reader (Some input) t → Told reader input
told reader input None h = absurd h.took
told reader input (Some left) h = record { left = left; is = h.took; none = h.ends }
