use Rattle.std.proofs.Common.{◌≡◌, ◌<◌, ℕ, List, Some, take, drop, refl, subst, arith}
use Rattle.std.specs.List.{count_by}
use Rattle.memchr.specs.Find.{IsLastByte, is_byte}
use Rattle.recording_file.specs.Lines.{is_feed}
use Rattle.recording_file.proofs.HeldLaws.{count_behind, count_before, count_from, shows_kept, shows_more, shows_new}
use Rattle.recording_file.proofs.feeds.last_feeds.Goals as goal

-- the last one, and that one of those before it
one_from : (bytes : List ℕ) (n : ℕ) → IsLastByte (is_byte 10) bytes (Some n) → 0 < count_by is_feed (drop n bytes)
one_from bytes n found = count_from bytes n found.0.high found.1

pub returns-in_default : goal.returns-in_default
returns-in_default c p b within known = record {
  last = shows_kept 1 p b _ _ (omega arith) known.last;
  second = shows_kept 2 p b _ _ (omega arith) known.second;
  third = shows_kept 3 p b _ _ (omega arith) known.third;
}

pub returns-in_default-memrchr : goal.returns-in_default-memrchr
returns-in_default-memrchr c p b within known =
    let piece = c.args.piece.now in
    let one = one_from piece c.in-Some.last c.in-Some.ensures in
    let all = count_behind 0 c.in-Some.last piece (omega arith) in
    record {
      last = shows_new 1 p c.args.start c.in-Some.last b piece _ c.behind.ensures within (omega arith);
      second = shows_more 1 1 2 p b piece _ (omega arith) (omega arith) (omega arith) known.last;
      third = shows_more 2 1 3 p b piece _ (omega arith) (omega arith) (omega arith) known.second;
    }

pub returns-in_default-memrchr-2 : goal.returns-in_default-memrchr-2
returns-in_default-memrchr-2 c p b within known =
    let piece = c.args.piece.now in
    let rest : c.split_at.result.0.now ≡ take c.in-Some.last piece = cc in
    let one = one_from piece c.in-Some.last c.in-Some.ensures in
    let before = subst (λ (l : List ℕ). 0 < count_by is_feed (drop c.in-Some-memrchr.second l)) rest (one_from _ c.in-Some-memrchr.second c.in-Some-memrchr.ensures) in
    let two = count_before piece c.in-Some.last c.in-Some-memrchr.second before in
    let all = count_behind 0 c.in-Some-memrchr.second piece (omega arith) in
    record {
      last = shows_new 1 p c.args.start c.in-Some.last b piece _ c.behind-in_default-memrchr-2.ensures within (omega arith);
      second = shows_new 2 p c.args.start c.in-Some-memrchr.second b piece _ c.behind-in_default-memrchr-2-2.ensures within (omega arith);
      third = shows_more 1 2 3 p b piece _ (omega arith) (omega arith) (omega arith) known.last;
    }

pub returns : goal.returns
returns c p b within known =
    let piece = c.args.piece.now in
    let rest : c.split_at.result.0.now ≡ take c.in-Some.last piece = cc in
    let rest_of : c.split_at-2.result.0.now ≡ take c.in-Some-memrchr.second c.split_at.result.0.now = cc in
    let one = one_from piece c.in-Some.last c.in-Some.ensures in
    let before = subst (λ (l : List ℕ). 0 < count_by is_feed (drop c.in-Some-memrchr.second l)) rest (one_from _ c.in-Some-memrchr.second c.in-Some-memrchr.ensures) in
    let two = count_before piece c.in-Some.last c.in-Some-memrchr.second before in
    let third = subst (λ (l : List ℕ). 0 < count_by is_feed (drop c.in-Some-memrchr-2.third l)) rest_of (one_from _ c.in-Some-memrchr-2.third c.in-Some-memrchr-2.ensures) in
    let both = count_before c.split_at.result.0.now c.in-Some-memrchr.second c.in-Some-memrchr-2.third third in
    let both_there : count_by is_feed (drop c.in-Some-memrchr-2.third c.split_at.result.0.now) ≡ count_by is_feed (drop c.in-Some-memrchr-2.third (take c.in-Some.last piece)) = rw rest refl in
    let three = count_before piece c.in-Some.last c.in-Some-memrchr-2.third (omega arith) in
    let again : count_by is_feed (drop c.in-Some-memrchr.second c.split_at.result.0.now) ≡ count_by is_feed (drop c.in-Some-memrchr.second (take c.in-Some.last piece)) = rw rest refl in
    record {
      last = shows_new 1 p c.args.start c.in-Some.last b piece _ c.behind-2.ensures within (omega arith);
      second = shows_new 2 p c.args.start c.in-Some-memrchr.second b piece _ c.behind-3.ensures within (omega arith);
      third = shows_new 3 p c.args.start c.in-Some-memrchr-2.third b piece _ c.behind-4.ensures within (omega arith);
    }
