-- A store of no records, once its files are made.
use Rattle.std.proofs.Common.{◌≡◌, List, [], ℕ, sym, ◌∙◌, subst}
use Rattle.std.specs.Prelude.{Bool, true, false, ◌==◌, ◌%◌, if◌then◌else◌}
use Rattle.kap_io.specs.Disk.{Elsewhere, Image, On, OnlyIn, Reached}
use Rattle.kap_io.specs.Moments.{Moments, then_run, weaker}
use Rattle.kap_io.specs.declared.disk.Part.{Part}
use Rattle.kap_io.specs.declared.disk.Part.TheVariants.{Head, Left, Right}
use Rattle.gate_log.specs.Bodies.{IsLog}
use Rattle.gate_log.specs.Head.{HasNoHead, IsHead}
use Rattle.gate_log.specs.Logs.{LogState, Rests}
use Rattle.gate_log.proofs.Unique.{head_apart}
use Rattle.topic_store.specs.Making.{AreEmptyLogs, HeadComesLast, IsMade, SameHead}
use Rattle.topic_store.specs.Stores.{Stands, current}

left_not_right : Left ≡ Right → ⊥
left_not_right e = cc

left_not_head : Left ≡ Head → ⊥
left_not_head e = cc

right_not_head : Right ≡ Head → ⊥
right_not_head e = cc

head_not_left : Head ≡ Left → ⊥
head_not_left e = cc

head_not_right : Head ≡ Right → ⊥
head_not_right e = cc

-- ---- the logs

-- both are empty, once the one was made and then the other
pub logs_made : (one two : Image) (first second : Image → Type 0) (left right : LogState) → left.part ≡ Left → right.part ≡ Right → Rests [] one first left
    → Rests [] two second right → (becomes : List ℕ → List ℕ → Type 0) → Elsewhere Right one two
    → ((c : Image) → second c → Reached first (On Right becomes) c) → AreEmptyLogs two second
logs_made one two first second left right is_left is_right left_rests right_rests becomes elsewhere reached =
    let kept : two Left ≡ one Left = elsewhere Left left_not_right in
    record {
      left = subst (IsLog []) (sym kept) (subst (λ (p : Part). IsLog [] (one p)) is_left left_rests.file.bytes);
      right = subst (λ (p : Part). IsLog [] (two p)) is_right right_rests.file.bytes;
      left_durable = λ c now.
          let before = reached c now in
          before.how.elsewhere Left left_not_right ∙ subst (λ (p : Part). before.origin p ≡ one p) is_left (left_rests.file.durable before.origin before.was)
          ∙ sym kept;
      right_durable = λ c now. subst (λ (p : Part). c p ≡ two p) is_right (right_rests.file.durable c now);
    }

module _ {D : Type 0} (moment : D → ℕ) (may_leave : D → Image → Type 0) (left_since : D → ℕ → Image → Type 0) where
  -- the head stays while the one is made
  pub left_keeps_head : (becomes : List ℕ → List ℕ → Type 0) (old new : D) → Moments moment may_leave left_since old new (On Left becomes)
      → Moments moment may_leave left_since old new SameHead
  left_keeps_head becomes old new run = weaker moment may_leave left_since old new (On Left becomes) SameHead run
      (λ a b was how. how.elsewhere Head head_not_left)

  -- and then the other
  pub both_keep_head : (becomes other : List ℕ → List ℕ → Type 0) (old mid new : D) → Moments moment may_leave left_since old mid (On Left becomes)
      → Moments moment may_leave left_since mid new (On Right other) → Moments moment may_leave left_since old new SameHead
  both_keep_head becomes other old mid new one two = then_run moment may_leave left_since old mid new (On Left becomes) (On Right other) SameHead one two
      (λ a b was how. how.elsewhere Head head_not_left)
      (λ a b c was how now later. later.elsewhere Head head_not_right ∙ how.elsewhere Head head_not_left)

-- ---- the store

-- the log that a head names is empty where both are
empty_log : (run : ℕ) (files : Image) → IsLog [] (files Left) → IsLog [] (files Right) → IsLog [] (files (current run))
empty_log run files left right = by_test (run % 2 == 0)
  where
    by_test : (even : Bool) → IsLog [] (files (if even then Left else Right))
    by_test true = left
    by_test false = right

-- behind empty logs each head is that of the store of no records
empty_stands : (run : ℕ) (files : Image) → IsHead run (files Head) → IsLog [] (files Left) → IsLog [] (files Right) → Stands [] files
empty_stands run files head left right = record {
  run = run;
  head = head;
  log = empty_log run files left right;
  stored = record { follow = tt; short = tt };
}

-- where the head stays there is none, if none stood there
pub no_head_comes : (old files : Image) → SameHead old files → HeadComesLast old files
no_head_comes old files same none run head = absurd (head_apart run (files Head) head (subst HasNoHead (sym same) none))

module _ (two three : Image) (second third : Image → Type 0) (logs : AreEmptyLogs two second) (becomes : List ℕ → List ℕ → Type 0) where
  -- an image while the head is made
  pub head_comes : (b c : Image) → second b → On Head becomes b c → (old : Image) → HeadComesLast old c
  head_comes b c was how old none run head = empty_stands run c head
      (subst (IsLog []) (sym (how.elsewhere Left left_not_head ∙ logs.left_durable b was)) logs.left)
      (subst (IsLog []) (sym (how.elsewhere Right right_not_head ∙ logs.right_durable b was)) logs.right)

  -- the logs stay
  pub logs_stay : Elsewhere Head two three → ((c : Image) → third c → Reached second (On Head becomes) c) → AreEmptyLogs three third
  logs_stay elsewhere reached =
      let left : three Left ≡ two Left = elsewhere Left left_not_head in
      let right : three Right ≡ two Right = elsewhere Right right_not_head in
      record {
        left = subst (IsLog []) (sym left) logs.left;
        right = subst (IsLog []) (sym right) logs.right;
        left_durable = λ c now.
            let before = reached c now in
            before.how.elsewhere Left left_not_head ∙ logs.left_durable before.origin before.was ∙ sym left;
        right_durable = λ c now.
            let before = reached c now in
            before.how.elsewhere Right right_not_head ∙ logs.right_durable before.origin before.was ∙ sym right;
      }

-- the store is made
pub made : (files : Image) (images : Image → Type 0) → AreEmptyLogs files images → IsHead 0 (files Head) → OnlyIn Head (files Head) images → IsMade files images
made files images logs head durable = record {
  stands = empty_stands 0 files head logs.left logs.right;
  logs = logs;
  durable = λ c now. empty_stands 0 c (subst (IsHead 0) (sym (durable c now)) head) (subst (IsLog []) (sym (logs.left_durable c now)) logs.left)
      (subst (IsLog []) (sym (logs.right_durable c now)) logs.right);
}

module _ {D : Type 0} (moment : D → ℕ) (may_leave : D → Image → Type 0) (left_since : D → ℕ → Image → Type 0) where
  -- the logs alone
  pub before_head : (old new : D) → Moments moment may_leave left_since old new SameHead → Moments moment may_leave left_since old new HeadComesLast
  before_head old new run = weaker moment may_leave left_since old new SameHead HeadComesLast run (λ a b was same. no_head_comes a b same)

  -- and then the head
  pub then_head : (seen : Image) (becomes : List ℕ → List ℕ → Type 0) (old mid new : D) → Moments moment may_leave left_since old mid SameHead
      → AreEmptyLogs seen (may_leave mid) → Moments moment may_leave left_since mid new (On Head becomes)
      → Moments moment may_leave left_since old new HeadComesLast
  then_head seen becomes old mid new one logs two = then_run moment may_leave left_since old mid new SameHead (On Head becomes) HeadComesLast one two
      (λ a b was same. no_head_comes a b same)
      (λ a b c was same now how. head_comes seen seen (may_leave mid) (may_leave mid) logs becomes b c now how a)
