-- A log that is read record by record.
use Rattle.std.proofs.Common.{◌≡◌, ℕ, ◌<◌, List, [], ◌∷◌, ◌++◌, length, take, drop, refl, sym, ◌∙◌, ap, subst, arith, take-append-drop}
use Rattle.std.proofs.lemmas.List.{drop_at}
use Rattle.std.specs.Prelude.{IfOk, Result}
use Rattle.std.specs.declared.result.Result.TheVariants.{Ok, Err}
use Rattle.kap_io.specs.Disk.{Image, OnlyIn}
use Rattle.kap_io.specs.declared.disk.Part.{Part}
use Rattle.gate_log.specs.Bodies.{magic, bytes_of, IsHeaderless, IsLog}
use Rattle.gate_log.specs.Logs.{Refuses, Rests}
use Rattle.gate_log.specs.Marks.{IsClosed}
use Rattle.gate_log.specs.Readers.{Begins, BeginsWith, HasRead, IsLongBehind, IsTornBehind, ReaderState, ReadsNext, log_at}
use Rattle.gate_log.specs.Reading.{IsCutOff, IsLongRecord, IsRecord, ShortRecordAt}
use Rattle.gate_log.proofs.Unique.{begins_apart, bytes_push, length-push}
use Rattle.gate_log.proofs.Gate.{fit_push}
use Rattle.gate_log.specs.declared.fault.LogFault.{LogFault}
use Rattle.gate_log.specs.declared.fault.LogFault.TheVariants.{Header, Torn, DiskFault, Long, NoMemory}

-- a file that begins as a log does
begins : (file : List ℕ) → take 8 file ≡ magic → BeginsWith [] file
begins file starts = record {
  rest = drop 8 file;
  is = sym (take-append-drop 8 file) ∙ ap (λ (l : List ℕ). l ++ drop 8 file) starts;
  fit = tt;
}

-- its reader, which has read nothing
pub begun : (seen : Image) (images : Image → Type 0) (part : Part) (size : ℕ) → OnlyIn part (seen part) images
    → (size ≡ length (seen part)) × (take 8 (seen part) ≡ magic) → 8 < size → HasRead [] seen images (record { part = part; size = size; gate = 8 })
begun seen images part size durable starts some = record {
  file = begins (seen part) starts.1;
  durable = durable;
  whole = starts.0;
  at = refl;
  within = some;
}

-- what stands at the gate behind some bodies
module _ (bodies : List (List ℕ)) (file : List ℕ) (gate : ℕ) (front : BeginsWith bodies file) (at : gate ≡ length (bytes_of bodies)) where
  behind : drop gate file ≡ front.rest
  behind = ap (λ (l : List ℕ). drop gate l) front.is ∙ drop_at (bytes_of bodies) front.rest gate (sym at)

  whole : file ≡ bytes_of bodies ++ drop gate file
  whole = front.is ∙ ap (λ (l : List ℕ). bytes_of bodies ++ l) (sym behind)

  pub one_more : (next : ℕ) (found : IsRecord gate next file) → BeginsWith (bodies ++ found.body ∷ []) file
  one_more next found = record {
    rest = drop next file;
    is = whole ∙ ap (λ (l : List ℕ). bytes_of bodies ++ l) found.is ∙ sym (bytes_push bodies found.body (drop next file));
    fit = fit_push bodies found.body front.fit found.fits;
  }

  pub next_at : (next : ℕ) (found : IsRecord gate next file) → next ≡ length (bytes_of (bodies ++ found.body ∷ []))
  next_at next found = omega (arith, found.is_next, at, length-push bodies found.body)

  pub all_read : IsClosed (drop gate file) → IsLog bodies file
  all_read closed = record {
    gate = closed.gate;
    rest = closed.rest;
    is = whole ∙ ap (λ (l : List ℕ). bytes_of bodies ++ l) closed.is;
    closed = closed.closed;
    fit = front.fit;
  }

  pub torn_there : (offset : ℕ) → offset ≡ gate → IsCutOff gate file → IsTornBehind bodies offset file
  torn_there offset is_gate cut = (
    record {
      bodies = bodies;
      rest = cut.rest;
      is = whole ∙ ap (λ (l : List ℕ). bytes_of bodies ++ l) cut.is;
      at = is_gate ∙ at;
      fit = front.fit;
      short = cut.short;
    },
    refl,
  )

  pub long_there : IsLongRecord gate file → IsLongBehind bodies file
  long_there found = record { body = found.there.body; begins = one_more found.next found.there; long = found.long }

-- the same of a reader, behind calls that change nothing
module _ (bodies : List (List ℕ)) (seen later : Image) (images left : Image → Type 0) (r : ReaderState) (read : HasRead bodies seen images r)
    (reads : later ≡ seen) (narrows : (c : Image) → left c → images c) where
  same : later r.part ≡ seen r.part
  same = ap (λ (i : Image). i r.part) reads

  durable : OnlyIn r.part (later r.part) left
  durable c now = read.durable c (narrows c now) ∙ sym same

  pub reads_more : (next : ℕ) (body : List ℕ) → (is : IsRecord r.gate next (seen r.part)) × (body ≡ is.body)
      → HasRead (bodies ++ body ∷ []) later left (record { part = r.part; size = r.size; gate = next })
  reads_more next body found = rw found.1 (record {
    file = subst (BeginsWith (bodies ++ found.0.body ∷ [])) (sym same) (one_more bodies (seen r.part) r.gate read.file read.at next found.0);
    durable = durable;
    whole = read.whole ∙ ap (λ (l : List ℕ). length l) (sym same);
    at = next_at bodies (seen r.part) r.gate read.file read.at next found.0;
    within = omega (arith, found.0.within, read.whole);
  })

  pub reads_last : IsClosed (drop r.gate (seen r.part)) → Rests bodies later left (log_at r)
  reads_last closed = record {
    file = record { bytes = subst (IsLog bodies) (sym same) (all_read bodies (seen r.part) r.gate read.file read.at closed); durable = durable };
    end = read.at;
  }

  pub reads_fault : (new : ReaderState) (fault : LogFault) → ShortRecordAt r.gate (seen r.part) (Err fault) → ReadsNext bodies later left r new (Err fault)
  reads_fault new Header found = found
  reads_fault new (Torn offset) found = subst (IsTornBehind bodies offset) (sym same)
      (torn_there bodies (seen r.part) r.gate read.file read.at offset found.0 found.1)
  reads_fault new DiskFault found = tt
  reads_fault new Long found = subst (IsLongBehind bodies) (sym same) (long_there bodies (seen r.part) r.gate read.file read.at found)
  reads_fault new NoMemory found = tt

-- a file that isn't one of a log isn't read
pub refused : (seen : Image) (images : Image → Type 0) (part : Part) (result : Result ReaderState LogFault)
    → IfOk result (λ r. r.part ≡ part) → Begins seen images part result → IsHeaderless (seen part) → Refuses Header result
refused seen images part (Ok r) is_part read none = begins_apart [] (seen r.part) read.file (omega (arith, read.whole, read.within, read.at, ap (λ (l : List ℕ). length l) read.file.is))
    (subst (λ (p : Part). IsHeaderless (seen p)) (sym is_part) none)
refused seen images part (Err Header) is_part found none = refl
refused seen images part (Err (Torn offset)) is_part found none = absurd found
refused seen images part (Err DiskFault) is_part found none = tt
refused seen images part (Err Long) is_part found none = absurd found
refused seen images part (Err NoMemory) is_part found none = tt
