-- What stands after `gen` for tasks.
use Rattle.std.proofs.Common.{◌≡◌, ℕ, ◌<◌, ◌≤◌, false, Option, None, Some, List, [], length, inl, inr, sym, subst, ◌∙◌, arith}
use Rattle.std.specs.Prelude.{◌⊎◌, nat_lt}
use Rattle.std.proofs.lemmas.Bool.Decides.{nat_tests}
use Rattle.node_core.specs.Meaning.{Answer}
use Rattle.node_set.specs.Tasks.{Planned}
use Rattle.sample_points.specs.Samples.{samples}
use Rattle.sample_replay.specs.Summaries.{summary}
use Rattle.kap_server.specs.declared.status.Status.{Status}
use Rattle.kap_server.specs.declared.status.Status.TheVariants as statuses
use Rattle.kap_server.specs.declared.options.ReplayOptions.{ReplayOptions}
use Rattle.kap_server.specs.Command.{AsksForTooMany}
use Rattle.kap_server.specs.Generating.{Summed, WritesText}
use Rattle.kap_server.specs.Pairs.{task_names}
use Rattle.kap_server.specs.Runs.{lives_from, refusal_of}
use Rattle.kap_server.specs.Words.{Pair, Replay, Request, Summarize, request_in}
use Rattle.kap_server.proofs.PairLaws.{reason_of_none}
use Rattle.kap_server.proofs.RunLaws.{few_or_many}

-- which statuses no text is written at
writes_not : (text : List ℕ) (result : Status) (w v : Option (List ℕ)) → WritesText text result w v
    → (result ≡ statuses.Usage → ⊥) × (result ≡ statuses.TooManyTasks → ⊥) × (result ≡ statuses.DiskFault → ⊥) × (result ≡ statuses.ReadFault → ⊥)
writes_not text result w v h = (λ e. subst (λ r. WritesText text r w v) e h, λ e. subst (λ r. WritesText text r w v) e h, λ e. subst (λ r. WritesText text r w v) e h, λ e. subst (λ r. WritesText text r w v) e h)

module _ {P : Type 0} (answer : P → Answer) (planned : Planned P) (refused : List ℕ) (n : ℕ) (pairs : List Pair) (result : Status) (w v : Option (List ℕ)) where
  -- and which a summary doesn't end in
  pub summed_not : Summed answer planned refused n pairs result w v
      → (result ≡ statuses.Usage → ⊥) × (result ≡ statuses.TooManyTasks → ⊥) × (result ≡ statuses.DiskFault → ⊥) × (result ≡ statuses.ReadFault → ⊥)
  summed_not (inl r) = writes_not (summary answer (task_names pairs r.tasks) (lives_from planned 1 pairs r.tasks) (samples n)) result w v r.written
  summed_not (inr (inl r)) =
      let why = reason_of_none (refusal_of result refused) [] pairs result r.why in
      (why.1, why.2, why.6, why.4)
  summed_not (inr (inr r)) = (λ e. let x = sym e ∙ r.why in absurd cc, λ e. let x = sym e ∙ r.why in absurd cc, λ e. let x = sym e ∙ r.why in absurd cc, λ e. let x = sym e ∙ r.why in absurd cc)

  pub summed_tells : Summed answer planned refused n pairs result w v → (result ≡ statuses.Usage) ⊎ (result ≡ statuses.TooManyTasks) → ⊥
  summed_tells h (inl e) = (summed_not h).0 e
  summed_tells h (inr e) = (summed_not h).1 e

-- ---- what the words ask for

pub same_number : (a b : ℕ) (p q : List Pair) → ◌≡◌ {A = Option Request} (Some (Summarize a p)) (Some (Summarize b q)) → a ≡ b
same_number a b p q e = cc

pub same_tasks : (a b : ℕ) (p q : List Pair) → ◌≡◌ {A = Option Request} (Some (Summarize a p)) (Some (Summarize b q)) → p ≡ q
same_tasks a b p q e = cc

pub summary_not_none : (a : ℕ) (p : List Pair) → ◌≡◌ {A = Option Request} (Some (Summarize a p)) None → ⊥
summary_not_none a p e = absurd cc

pub summed_as_asked : {P : Type 0} (answer : P → Answer) (planned : Planned P) (refused : List ℕ) (m a b : ℕ) (p q : List Pair) (result : Status) (w v : Option (List ℕ))
    → m ≡ a → ◌≡◌ {A = Option Request} (Some (Summarize a p)) (Some (Summarize b q)) → Summed answer planned refused m p result w v → Summed answer planned refused b q result w v
summed_as_asked answer planned refused m a b p q result w v n e h =
    subst (λ k. Summed answer planned refused k q result w v) (n ∙ same_number a b p q e) (subst (λ ps. Summed answer planned refused m ps result w v) (same_tasks a b p q e) h)

-- as many as there may be are not too many
pub few_to_replay : (words : List (List ℕ)) (a : ReplayOptions) (p : List Pair) → request_in words ≡ Some (Replay a p) → nat_lt 64 (length p) ≡ false → AsksForTooMany words → ⊥
few_to_replay words a p asked few (inl r) = few_or_many a r.options p r.pairs (sym asked ∙ r.asks) few r.many
few_to_replay words a p asked few (inr r) = let wrong : ◌≡◌ {A = Option Request} (Some (Replay a p)) (Some (Summarize r.count r.pairs)) = sym asked ∙ r.asks in absurd cc

pub few_to_summarize : (words : List (List ℕ)) (a : ℕ) (p : List Pair) → request_in words ≡ Some (Summarize a p) → nat_lt 64 (length p) ≡ false → AsksForTooMany words → ⊥
few_to_summarize words a p asked few (inl r) = let wrong : ◌≡◌ {A = Option Request} (Some (Summarize a p)) (Some (Replay r.options r.pairs)) = sym asked ∙ r.asks in absurd cc
few_to_summarize words a p asked few (inr r) =
    let same : p ≡ r.pairs = same_tasks a r.count p r.pairs (sym asked ∙ r.asks) in
    let many : 64 < length p = subst (λ l. 64 < length l) (sym same) r.many in
    let low : length p ≤ 64 = grind (arith, nat_tests) in
    omega (arith, many, low)
