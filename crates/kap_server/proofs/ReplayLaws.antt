-- A replay, point after point.
use Rattle.std.proofs.Common.{◌≡◌, ℕ, ◌+◌, false, Option, None, Some, List, [], ◌++◌, length, take, inl, inr, refl, sym, ap, ◌∙◌, subst, append_assoc, append-nil, arith, length-append}
use Rattle.std.specs.Io.KnownBytes.{Appends, Keeps}
use Rattle.std.proofs.KnownBytes.{Appends-nil, Appends-trans}
use Rattle.std.proofs.lemmas.List.{take-append-le}
use Rattle.std.proofs.Math.Seq.{take-append-add, take-length}
use Rattle.kap_base.specs.Points.{PointValue}
use Rattle.kap_io.specs.Pieces.{AppendsPrefix}
use Rattle.recording_file.specs.declared.fault.RecFault.{RecFault}
use Rattle.recording_file.specs.declared.fault.RecFault.TheVariants as faults
use Rattle.recording_file.specs.Recording.{Reading, Stop, Ended, Faulty, Undecided, reading_of}
use Rattle.recording_file.specs.Reading.{ReaderState, ReaderReads, GaveAll, Fails, StopsAt, HasRead}
use Rattle.recording_file.proofs.ReadLaws.{read_none, read_more, told}
use Rattle.recording_file.proofs.RecordLaws.{recorded}
use Rattle.node_core.specs.declared.node.Node.{Ghosts}
use Rattle.flow_core.specs.Nets.{NetValue}
use Rattle.task_run.specs.Graphs.{Placed}
use Rattle.kap_server.specs.declared.status.Status.{Status}
use Rattle.kap_server.specs.declared.status.Status.TheVariants as statuses
use Rattle.kap_server.specs.Statuses.{status_of, status_at}
use Rattle.kap_server.specs.Command.{IsUnlessFailed}
use Rattle.kap_server.specs.Replaying.{AddsText, Grows, HasWritten, IsWritten, Replayed, TextOf, Writes, WritesPrefix, WritesSome, due_of}
use Rattle.kap_server.specs.Epochs.{GavePoints}
use Rattle.kap_server.specs.Nets.{HoldsNet, HoldsNetOf}
use Rattle.kap_server.specs.Runs.{EndsWritten}

-- a prefix of what is due is one of the whole text
prefix_of : (w v x : Option (List ℕ)) (done due more : List ℕ) → Appends w v done → AppendsPrefix v x due → AppendsPrefix w x (done ++ (due ++ more))
prefix_of w v x done due more p q =
    let taken : take (length done + q.0) (done ++ (due ++ more)) ≡ done ++ take q.0 due = take-append-add done (due ++ more) q.0 ∙ ap (λ (l : List ℕ). done ++ l) (take-append-le q.0 due more q.1) in
    (length done + q.0, let bound = q.1 in omega (arith, length-append done (due ++ more), length-append due more), subst (Appends w x) (sym taken) (Appends-trans w v x done (take q.0 due) p q.2))

all_of : (v x : Option (List ℕ)) (due : List ℕ) → Appends v x due → AppendsPrefix v x due
all_of v x due p = (length due, omega arith, subst (Appends v x) (sym (take-length due)) p)

none_of : (v : Option (List ℕ)) (due : List ℕ) → AppendsPrefix v v due
none_of v due = (0, omega arith, Appends-nil v)

-- where nothing was written, a prefix was
pub kept_none : (v x : Option (List ℕ)) (due : List ℕ) → Keeps v x → AppendsPrefix v x due
kept_none None x due keeps = (0, omega arith, tt)
kept_none (Some xs) None due keeps = absurd keeps
kept_none (Some xs) (Some ys) due keeps = (0, omega arith, keeps ∙ sym (append-nil xs))

module _ (text rest : TextOf) (none : text [] ≡ []) (grows : Grows text) where
  -- at the start nothing is due
  pub written_none : (s w : Option (List ℕ)) → HasWritten text [] (record { given = []; got = []; ended = false; spent = false }) s s w w
  written_none s w = record {
    read = read_none s;
    first = λ more none. record { others = (reading_of more).points; all = refl };
    done = [];
    written = Appends-nil w;
    is = none;
  }

  -- what is due of all points begins with the text of the first ones
  due_grows : (points others : List PointValue) (stop : Stop) → (more : List ℕ) × (due_of text rest (points ++ others) stop ≡ text points ++ more)
  due_grows points others Ended =
      let g = grows points others in
      (g.0 ++ rest (points ++ others), ap (λ (l : List ℕ). l ++ rest (points ++ others)) g.1 ∙ append_assoc (text points) g.0 (rest (points ++ others)))
  due_grows points others (Faulty fault) = grows points others
  due_grows points others Undecided = grows points others

  module _ (s t w v : Option (List ℕ)) (due : List ℕ) (a : ReaderState) (on : HasWritten text due a s t w v) where
    -- some of what is due was written
    pub written_some : (left : List ℕ) (x : Option (List ℕ)) → WritesSome due left v x → HasWritten text left a s t w x
    written_some left x moved = record {
      read = on.read;
      first = on.first;
      done = on.done ++ moved.piece;
      written = Appends-trans w v x on.done moved.piece on.written moved.written;
      is = on.is ∙ ap (λ (l : List ℕ). on.done ++ l) moved.rest ∙ sym (append_assoc on.done moved.piece left);
    }

    -- points were given, and their text is due
    pub written_points : (b : ReaderState) (u : Option (List ℕ)) (points : List PointValue) (more : List ℕ) → GavePoints a b t u points → AddsText text a.given points due more → HasWritten text more b s u w v
    written_points b u points more gave adds = record {
      read = gave.read s on.read;
      first = gave.first on.first;
      done = on.done;
      written = on.written;
      is = ap text gave.given ∙ adds.are
          ∙ ap (λ (l : List ℕ). l ++ adds.lines) on.is
          ∙ append_assoc on.done due adds.lines
          ∙ ap (λ (l : List ℕ). on.done ++ l) (sym adds.added);
    }

    -- the rest of the text was written
    whole_written : (x : Option (List ℕ)) (ps : List PointValue) → ps ≡ a.given → Appends v x due → Appends w x (text ps)
    whole_written x ps same p = subst (Appends w x) (sym (ap text same ∙ on.is)) (Appends-trans w v x on.done due on.written p)

    -- a prefix of what is due was written, or nothing
    pub cut_off : (x : Option (List ℕ)) → AppendsPrefix v x due → WritesPrefix text rest s w x
    cut_off x p = by s on.read where
      by : (o : Option (List ℕ)) → HasRead a o t → WritesPrefix text rest o w x
      by None read = tt
      by (Some input) read =
          let known = told a input t read in
          let begins = on.first known.left known.none in
          let g = due_grows a.given begins.others (reading_of input).stop in
          let points_are : (reading_of input).points ≡ a.given ++ begins.others = ap (λ (l : List ℕ). (reading_of l).points) known.is ∙ begins.all in
          let text_is : due_of text rest (reading_of input).points (reading_of input).stop ≡ on.done ++ (due ++ g.0) =
          ap (λ (ps : List PointValue). due_of text rest ps (reading_of input).stop) points_are ∙ g.1
          ∙ ap (λ (l : List ℕ). l ++ g.0) on.is ∙ append_assoc on.done due g.0 in
          subst (AppendsPrefix w x) (sym text_is) (prefix_of w v x on.done due g.0 on.written p)

    pub nothing_more : WritesPrefix text rest s w v
    nothing_more = cut_off v (none_of v due)

    module _ (b : ReaderState) (u : Option (List ℕ)) (reads : ReaderReads a b t u) where
      -- how reading the whole input stops, and the points before that
      stops_so : (stop : Stop) → StopsAt b stop → (input : List ℕ) → HasRead b (Some input) u → reading_of input ≡ record { points = b.given; stop = stop }
      stops_so stop stops input read = let known = told b input u read in ap reading_of known.is ∙ stops known.left known.none

      writes : (stop : Stop) (x : Option (List ℕ)) → b.given ≡ a.given → StopsAt b stop → Appends v x due → Writes text s w x stop
      writes stop x same stops p = by s (read_more a b s t u on.read reads) where
        by : (o : Option (List ℕ)) → HasRead b o u → Writes text o w x stop
        by None read = tt
        by (Some input) read =
            let is = stops_so stop stops input read in
            (ap (λ (r : Reading). r.stop) is, whole_written x (reading_of input).points (ap (λ (r : Reading). r.points) is ∙ same) p)

      -- where the input ended, it was read to its end
      ended : GaveAll a b → StopsAt b Ended
      ended gave = λ more none. ap (λ (l : List ℕ). reading_of (b.got ++ l)) (none gave.ended) ∙ ap reading_of (append-nil b.got) ∙ recorded b.got b.given gave.whole

      -- the text and the rest are what is due of the whole input
      all_due : (input : List ℕ) → GaveAll a b → HasRead b (Some input) u → due_of text rest (reading_of input).points (reading_of input).stop ≡ on.done ++ (due ++ rest a.given)
      all_due input gave read =
          let is = stops_so Ended (ended gave) input read in
          ap (λ (r : Reading). due_of text rest r.points r.stop) is
          ∙ ap (λ (ps : List PointValue). text ps ++ rest ps) gave.given
          ∙ ap (λ (l : List ℕ). l ++ rest a.given) on.is
          ∙ append_assoc on.done due (rest a.given)

      -- the input ended
      pub ends_well : (x : Option (List ℕ)) → GaveAll a b → Appends v x (due ++ rest a.given) → Replayed text rest statuses.Ok s u w x
      ends_well x gave p = by s (read_more a b s t u on.read reads) where
        by : (o : Option (List ℕ)) → HasRead b o u → Replayed text rest statuses.Ok o u w x
        by None read = tt
        by (Some input) read =
            let is = stops_so Ended (ended gave) input read in
            let due_is : text (reading_of input).points ++ rest (reading_of input).points ≡ on.done ++ (due ++ rest a.given) =
            ap (λ (ps : List PointValue). text ps ++ rest ps) (ap (λ (r : Reading). r.points) is ∙ gave.given)
            ∙ ap (λ (l : List ℕ). l ++ rest a.given) on.is
            ∙ append_assoc on.done due (rest a.given) in
            (ap (λ (r : Reading). r.stop) is, subst (Appends w x) (sym due_is) (Appends-trans w v x on.done (due ++ rest a.given) on.written p))

      -- and a net that carried the points that were given carried those of the input
      pub ends_with_net : {N P S : Type 0} (g : Ghosts N P S) (lives : List (List (Placed P))) (ran : Option (NetValue N)) → GaveAll a b → HoldsNet g lives a.given ran → HoldsNetOf g lives s ran
      ends_with_net g lives ran gave holds = by s (read_more a b s t u on.read reads) where
        by : (o : Option (List ℕ)) → HasRead b o u → HoldsNetOf g lives o ran
        by None read = record { points = a.given; holds = holds }
        by (Some input) read =
            let is = stops_so Ended (ended gave) input read in
            subst (λ (ps : List PointValue). HoldsNet g lives ps ran) (sym (ap (λ (r : Reading). r.points) is ∙ gave.given)) holds

      -- a prefix of the rest was written
      pub ends_cut : (x : Option (List ℕ)) → GaveAll a b → AppendsPrefix v x (due ++ rest a.given) → WritesPrefix text rest s w x
      ends_cut x gave p = by s (read_more a b s t u on.read reads) where
        by : (o : Option (List ℕ)) → HasRead b o u → WritesPrefix text rest o w x
        by None read = tt
        by (Some input) read =
            let whole : due_of text rest (reading_of input).points (reading_of input).stop ≡ on.done ++ ((due ++ rest a.given) ++ []) =
            all_due input gave read ∙ ap (λ (l : List ℕ). on.done ++ l) (sym (append-nil (due ++ rest a.given))) in
            subst (AppendsPrefix w x) (sym whole) (prefix_of w v x on.done (due ++ rest a.given) [] on.written p)

      -- the input is faulty, or failed
      pub ends_badly : (f : RecFault) (x : Option (List ℕ)) → Fails a b f → Appends v x due → Replayed text rest (status_of f) s u w x
      ends_badly (faults.Line n fault) x fails p = writes (Faulty (faults.Line n fault)) x fails.given fails.why p
      ends_badly (faults.Truncated n) x fails p = writes (Faulty (faults.Truncated n)) x fails.given fails.why p
      ends_badly faults.Long x fails p = writes (Faulty faults.Long) x fails.given fails.why p
      ends_badly faults.ReadFault x fails p = record {
        got = b.got;
        took = (read_more a b s t u on.read reads).took;
        undecided = ap (λ (r : Reading). r.stop) fails.why.undecided;
        written = whole_written x _ (ap (λ (r : Reading). r.points) fails.why.undecided ∙ fails.given) p;
      }
      ends_badly faults.NoMemory x fails p = cut_off x (all_of v x due p)

  -- the rest of the text was written, or the output failed
  pub finished : (status result : Status) (s u v w x : Option (List ℕ)) (due : List ℕ) (before after : ℕ) → IsWritten status result v x due before after
      → (Appends v x due → Replayed text rest status s u w x) → (AppendsPrefix v x due → WritesPrefix text rest s w x) → Replayed text rest result s u w x
  finished status result s u v w x due before after (inl p) whole part = subst (λ r. Replayed text rest r s u w x) (sym p.0) (whole p.1)
  finished status result s u v w x due before after (inr p) whole part = subst (λ r. Replayed text rest r s u w x) (sym p.0) (part p.1)

  -- and so behind a whole recording, where memory may have run out before
  pub ended_so : (result : Status) (s u v w x : Option (List ℕ)) (due more : List ℕ) (before after : ℕ) → EndsWritten result v x due more before after
      → (Appends v x (due ++ more) → Replayed text rest statuses.Ok s u w x) → (AppendsPrefix v x (due ++ more) → WritesPrefix text rest s w x) → Replayed text rest result s u w x
  ended_so result s u v w x due more before after (inl p) whole part = finished statuses.Ok result s u v w x (due ++ more) before after p whole part
  ended_so result s u v w x due more before after (inr p) whole part =
      subst (λ r. Replayed text rest r s u w x) (sym p.0) (part (kept_none v x (due ++ more) p.1))

-- the status of a replay is that at which reading its input stops
told_status : (text rest : TextOf) (result : Status) (bytes : List ℕ) (t w v : Option (List ℕ)) → Replayed text rest result (Some bytes) t w v → IsUnlessFailed result (status_at (reading_of bytes).stop)
told_status text rest statuses.Ok bytes t w v h = inl (ap status_at (sym h.0))
told_status text rest statuses.Usage bytes t w v h = absurd h
told_status text rest (statuses.Script fault) bytes t w v h = absurd h
told_status text rest (statuses.Line n fault) bytes t w v h = inl (ap status_at (sym h.0))
told_status text rest (statuses.Truncated n) bytes t w v h = inl (ap status_at (sym h.0))
told_status text rest (statuses.NotStore part offset) bytes t w v h = absurd h
told_status text rest statuses.Exists bytes t w v h = absurd h
told_status text rest statuses.NoTask bytes t w v h = absurd h
told_status text rest statuses.TooManyTasks bytes t w v h = absurd h
told_status text rest statuses.TooLong bytes t w v h = inl (ap status_at (sym h.0))
told_status text rest statuses.NoMemory bytes t w v h = inr (inl refl)
told_status text rest statuses.ReadFault bytes t w v h = inr (inr (inl refl))
told_status text rest statuses.WriteFault bytes t w v h = inr (inr (inr refl))
told_status text rest statuses.DiskFault bytes t w v h = absurd h

pub status_is : (text rest : TextOf) (result : Status) (bytes : List ℕ) (s t w v : Option (List ℕ)) → Replayed text rest result s t w v → s ≡ Some bytes → IsUnlessFailed result (status_at (reading_of bytes).stop)
status_is text rest result bytes s t w v h is = told_status text rest result bytes t w v (subst (λ o. Replayed text rest result o t w v) is h)
