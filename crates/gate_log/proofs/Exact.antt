-- What is found in a file is all that can be found there.
use Rattle.std.proofs.Common.{◌≡◌, ℕ, List, refl, ap, subst}
use Rattle.std.specs.Prelude.{Result, IfOk, false}
use Rattle.std.specs.declared.result.Result.TheVariants.{Ok, Err}
use Rattle.kap_io.specs.Disk.{Image}
use Rattle.kap_io.specs.declared.disk.Part.{Part}
use Rattle.gate_log.specs.Bodies.{IsHeaderless, IsLog, IsTorn}
use Rattle.gate_log.specs.Head.{HasNoHead, HeadRead, IsHead, RunIs}
use Rattle.gate_log.specs.Logs.{Finds, LogState, Opens, Refuses, Rests}
use Rattle.gate_log.proofs.Unique.{head_apart, head_unique, header_apart, log_unique, torn_apart, torn_header_apart, torn_unique}
use Rattle.gate_log.specs.declared.fault.LogFault.{LogFault}
use Rattle.gate_log.specs.declared.fault.LogFault.TheVariants.{Header, Torn, DiskFault, Long, NoMemory}

module _ (seen : Image) (images : Image → Type 0) (part : Part) where
  rests_same : (bodies found : List (List ℕ)) (log : LogState) → log.part ≡ part → IsLog bodies (seen part) → Rests found seen images log
      → Rests bodies seen images log
  rests_same bodies found log is_part is_log rests =
      let there = subst (λ (p : Part). IsLog found (seen p)) is_part rests.file.bytes in
      subst (λ (l : List (List ℕ)). Rests l seen images log) (log_unique found bodies (seen part) there is_log) rests

  pub opens : (bodies : List (List ℕ)) (result : Result LogState LogFault) → IfOk result (λ log. (log.part ≡ part) × (log.spent ≡ false))
      → Finds seen images part result
      → IsLog bodies (seen part) → Opens bodies seen images result
  opens bodies (Ok log) is_part found is_log = rests_same bodies found.0 log is_part.0 is_log found.1
  opens bodies (Err Header) is_part found is_log = header_apart bodies (seen part) is_log found
  opens bodies (Err (Torn offset)) is_part found is_log = torn_apart bodies offset (seen part) is_log found
  opens bodies (Err DiskFault) is_part found is_log = tt
  opens bodies (Err Long) is_part found is_log = found
  opens bodies (Err NoMemory) is_part found is_log = tt

  pub headerless : (result : Result LogState LogFault) → IfOk result (λ log. (log.part ≡ part) × (log.spent ≡ false)) → Finds seen images part result
      → IsHeaderless (seen part) → Refuses Header result
  headerless (Ok log) is_part found none = header_apart found.0 (seen part) (subst (λ (p : Part). IsLog found.0 (seen p)) is_part.0 found.1.file.bytes) none
  headerless (Err Header) is_part found none = refl
  headerless (Err (Torn offset)) is_part found none = absurd (torn_header_apart offset (seen part) found none)
  headerless (Err DiskFault) is_part found none = tt
  headerless (Err Long) is_part found none = absurd found
  headerless (Err NoMemory) is_part found none = tt

  pub torn_there : (offset : ℕ) (result : Result LogState LogFault) → IfOk result (λ log. (log.part ≡ part) × (log.spent ≡ false))
      → Finds seen images part result
      → IsTorn offset (seen part) → Refuses (Torn offset) result
  torn_there offset (Ok log) is_part found torn =
      torn_apart found.0 offset (seen part) (subst (λ (p : Part). IsLog found.0 (seen p)) is_part.0 found.1.file.bytes) torn
  torn_there offset (Err Header) is_part found torn = absurd (torn_header_apart offset (seen part) torn found)
  torn_there offset (Err (Torn other)) is_part found torn = ap (λ (n : ℕ). Torn n) (torn_unique other offset (seen part) found torn)
  torn_there offset (Err DiskFault) is_part found torn = tt
  torn_there offset (Err Long) is_part found torn = absurd found
  torn_there offset (Err NoMemory) is_part found torn = tt

pub run_there : (run : ℕ) (file : List ℕ) (result : Result ℕ LogFault) → HeadRead file result → IsHead run file → RunIs run result
run_there run file (Ok found) read head = head_unique found run file read head
run_there run file (Err Header) read head = head_apart run file head read
run_there run file (Err (Torn offset)) read head = read
run_there run file (Err DiskFault) read head = tt
run_there run file (Err Long) read head = read
run_there run file (Err NoMemory) read head = read

pub no_head_there : (file : List ℕ) (result : Result ℕ LogFault) → HeadRead file result → HasNoHead file → Refuses Header result
no_head_there file (Ok found) read none = head_apart found file read none
no_head_there file (Err Header) read none = refl
no_head_there file (Err (Torn offset)) read none = absurd read
no_head_there file (Err DiskFault) read none = tt
no_head_there file (Err Long) read none = absurd read
no_head_there file (Err NoMemory) read none = absurd read
