-- Where a reader stands, and what it says of that.
use Rattle.std.proofs.Common.{◌≡◌, ℕ, ◌+◌, false, Option, List, [], ◌∷◌, ◌++◌, length, refl, sym, ap, ◌∙◌, append-nil, arith, length-append}
use Rattle.kap_base.specs.Points.{PointValue}
use Rattle.recording_file.specs.Recording.{Reading, Ended, of_input, read, reading_of}
use Rattle.recording_file.specs.Reading.{ReaderState, Gives, GaveAll}
use Rattle.recording_file.specs.Finding.{ReadPlace, Stays, FindsEnd, CountRises, room}
use Rattle.recording_file.specs.Steps.{StandsAt, GivesPoint}
use Rattle.recording_file.proofs.StepLaws.{ahead_on}
use Rattle.recording_file.proofs.HaltLaws.{stops_missing}
use Rattle.recording_file.proofs.RecordLaws.{is_recording}

-- at the start
pub stands_first : StandsAt [] (record { bytes = []; got = []; line = 1; passed = 0; ended = false })
stands_first = record { ahead = record { whole = λ more none. refl; prefix = λ more open_still. refl }; few = omega arith; line = refl }

-- after reading on
pub stands_on : (ps : List PointValue) (a b : ReadPlace) (s t : Option (List ℕ)) → Stays a b s t → StandsAt ps a → StandsAt ps b
stands_on ps a b s t on h =
    let few = h.few in
    let same = on.passed in
    record { ahead = ahead_on read ps a b s t on h.ahead; few = omega arith; line = on.line ∙ h.line }

-- after a point was given
pub stands_more : (ps : List PointValue) (p : PointValue) (a b : ReadPlace) → StandsAt ps a → GivesPoint read a b p → CountRises a b → b.line ≡ a.line + 3 → StandsAt (ps ++ p ∷ []) b
stands_more ps p a b stands gives rises on =
    let few = stands.few in
    let line = stands.line in
    let more_passed = rises.more in
    let size : length (ps ++ p ∷ []) ≡ length ps + 1 = length-append ps (p ∷ []) in
    record { ahead = gives ps stands.ahead; few = omega arith; line = omega arith }

-- a point was given
pub gives_state : (old new : ReaderState) (ps : List PointValue) (p : PointValue) (a b : ReadPlace) → StandsAt ps a → GivesPoint read a b p → CountRises a b
    → old.given ≡ ps → new.given ≡ ps ++ p ∷ [] → new.got ≡ b.got → new.ended ≡ b.ended → Gives old new p
gives_state old new ps p a b stands gives rises was is got ended =
    let h = gives ps stands.ahead in
    let few = stands.few in
    let more_passed = rises.more in
    let within = rises.within in
    let size : length new.given ≡ length ps + 1 = ap length is ∙ length-append ps (p ∷ []) in
    record {
      given = is ∙ ap (λ (l : List PointValue). l ++ p ∷ []) (sym was);
      few = omega arith;
      next = λ more none. record {
        others = (read b.line (of_input (room b) (b.bytes ++ more))).points;
        all = ap (λ (l : List ℕ). (reading_of (l ++ more)).points) got ∙ ap (λ (r : Reading). r.points) (h.whole more (λ e. none (ended ∙ e)))
            ∙ ap (λ (l : List PointValue). l ++ (read b.line (of_input (room b) (b.bytes ++ more))).points) (sym is);
      };
    }

-- the source has ended
pub ends_state : (old new : ReaderState) (ps : List PointValue) (a b : ReadPlace) (s t : Option (List ℕ)) → StandsAt ps a → FindsEnd a b s t
    → old.given ≡ ps → new.given ≡ ps → new.got ≡ b.got → new.ended ≡ b.ended → GaveAll old new
ends_state old new ps a b s t stands over was is got ended =
    let h = stands_on ps a b s t over.stays stands in
    let all_read : reading_of b.got ≡ record { points = ps; stop = Ended } =
    ap reading_of (sym (append-nil b.got)) ∙ stops_missing read ps b h.ahead (λ n. Ended) (λ n. refl) over.bytes over.ended [] (λ e. refl) in
    record {
      given = is ∙ sym was;
      ended = ended ∙ over.ended;
      whole = is_recording new.got new.given (ap reading_of got ∙ all_read ∙ ap (λ (l : List PointValue). record { points = l; stop = Ended }) (sym is));
    }
