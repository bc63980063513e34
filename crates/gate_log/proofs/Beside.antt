-- A log, and a head, after calls on another file.
use Rattle.std.proofs.Common.{◌≡◌, ℕ, List, sym, ◌∙◌, subst}
use Rattle.kap_io.specs.Disk.{Elsewhere, Image, On, Reached}
use Rattle.kap_io.specs.declared.disk.Part.{Part}
use Rattle.kap_io.specs.declared.disk.Part.TheVariants.{Head}
use Rattle.gate_log.specs.Bodies.{IsLog}
use Rattle.gate_log.specs.Head.{IsHead, IsSettledHead}
use Rattle.gate_log.specs.Logs.{LogState, Rests}

-- each image is an earlier one, but for this file
abbrev pub DiffersIn : Part → (List ℕ → List ℕ → Type 0) → (Image → Type 0) → (Image → Type 0) → Type 0
DiffersIn part becomes images left = (c : Image) → left c → Reached images (On part becomes) c

module _ (part : Part) (becomes : List ℕ → List ℕ → Type 0) (seen later : Image) (images left : Image → Type 0)
    (elsewhere : Elsewhere part seen later) (reached : DiffersIn part becomes images left) where
  -- the log rests as before
  pub rests_elsewhere : (bodies : List (List ℕ)) (log : LogState) → (log.part ≡ part → ⊥) → Rests bodies seen images log → Rests bodies later left log
  rests_elsewhere bodies log apart rests =
      let same : later log.part ≡ seen log.part = elsewhere log.part apart in
      record {
        file = record {
          bytes = subst (IsLog bodies) (sym same) rests.file.bytes;
          durable = λ c now.
              let before = reached c now in
              before.how.elsewhere log.part apart ∙ rests.file.durable before.origin before.was ∙ sym same;
        };
        end = rests.end;
      }

  -- the head is settled as before
  pub settled_elsewhere : (run : ℕ) → (Head ≡ part → ⊥) → IsSettledHead run seen images → IsSettledHead run later left
  settled_elsewhere run apart settled =
      let same : later Head ≡ seen Head = elsewhere Head apart in
      record {
        head = subst (IsHead run) (sym same) settled.head;
        durable = λ c now.
            let before = reached c now in
            before.how.elsewhere Head apart ∙ settled.durable before.origin before.was ∙ sym same;
      }
