-- A write into the room that was made for it.
use Rattle.std.proofs.Common.{◌≡◌, ◌⊎◌, ⊎_elim, ℕ, ◌+◌, ◌-◌, ◌<◌, ◌≤◌, List, ◌++◌, length, take, drop, sym, ◌∙◌, ap, arith, append_assoc, length-append, length-drop, length-take}
use Rattle.std.specs.Prelude.{replicate}
use Rattle.std.proofs.Math.Seq.{take-append-add}
use Rattle.std.proofs.lemmas.List.{append-nil, drop_all, take-append-le, take-replicate, take_at, drop-drop}
use Rattle.kap_io.specs.Disk.{overwritten, padded}
use Rattle.kap_io.specs.MemDiskLaws.{length-padded}
use borrow.Rule.Slice.PartMut.{put_mid}

-- zeros behind the place don't matter in front of it
take_padded : (at m : ℕ) (old : List ℕ) → at ≤ m → (at ≤ length old) ⊎ (length old < at) → take at (padded m old) ≡ take at (padded at old)
take_padded at m old le within = ⊎_elim (λ short. before short) (λ long. behind long) within
  where
    before : at ≤ length old → take at (padded m old) ≡ take at (padded at old)
    before short = take-append-le at old (replicate (m - length old) 0) short ∙ sym (take-append-le at old (replicate (at - length old) 0) short)

    zeros : (n : ℕ) → at ≤ n → length old < at → take at (padded n old) ≡ old ++ replicate (at - length old) 0
    zeros n up long =
        let more = at - length old in
        ap (λ (k : ℕ). take k (padded n old)) (omega (arith, long))
        ∙ take-append-add old (replicate (n - length old) 0) more
        ∙ ap (λ (l : List ℕ). old ++ l) (take-replicate {X = ℕ} more (n - length old) 0 (omega (arith, up)))

    behind : length old < at → take at (padded m old) ≡ take at (padded at old)
    behind long = zeros m le long ∙ sym (zeros at (omega arith) long)

-- what is behind the end is nothing
drop_padded : (m : ℕ) (old : List ℕ) → (m ≤ length old) ⊎ (length old < m) → drop m (padded m old) ≡ drop m old
drop_padded m old within = ⊎_elim (λ short. before short) (λ long. behind long) within
  where
    before : m ≤ length old → drop m (padded m old) ≡ drop m old
    before short =
        let none : m - length old ≡ 0 = omega (arith, short) in
        ap (λ (k : ℕ). drop m (old ++ replicate k 0)) none ∙ ap (λ (l : List ℕ). drop m l) (append-nil old)

    behind : length old < m → drop m (padded m old) ≡ drop m old
    behind long = drop_all m (padded m old) (omega (arith, length-padded m old, long)) ∙ sym (drop_all m old (omega (arith, long)))

le_or : (m n : ℕ) → (m ≤ n) ⊎ (n < m)
le_or m n = grind arith

-- a write into a file that has room for it
into_room : (at n : ℕ) (piece old : List ℕ) → length piece ≡ n → put_mid at n (padded (at + n) old) piece ≡ overwritten at piece old
into_room at n piece old long =
    let room = padded (at + n) old in
    ap (λ (l : List ℕ). l ++ (piece ++ drop n (drop at room))) (take_padded at (at + n) old (omega arith) (le_or at (length old)))
    ∙ ap (λ (l : List ℕ). take at (padded at old) ++ (piece ++ l)) (drop-drop n at room ∙ drop_padded (at + n) old (le_or (at + n) (length old)))
    ∙ ap (λ (k : ℕ). take at (padded at old) ++ (piece ++ drop (at + k) old)) (sym long)
    ∙ sym (append_assoc (take at (padded at old)) piece (drop (at + length piece) old))

-- the same, as it is left in the file
pub written : (at n start end size : ℕ) (piece bytes old items now : List ℕ) → start ≡ at → end ≡ at + n → items ≡ padded (at + n) old → now ≡ items
    → bytes ≡ piece → length piece ≡ n
    → length now ≡ size → take size (put_mid start (end - start) now bytes ++ drop (length (put_mid start (end - start) now bytes)) items)
    ≡ overwritten at piece old
written at n start end size piece bytes old items now is_start is_end room same is_piece long is_size =
    take_at (put_mid start (end - start) now bytes) _ size whole ∙ is_placed
  where
    is_placed : put_mid start (end - start) now bytes ≡ overwritten at piece old
    is_placed =
        ap (λ (k : ℕ). put_mid k (end - k) now bytes) is_start
        ∙ ap (λ (k : ℕ). put_mid at k now bytes) (omega (arith, is_end))
        ∙ ap (λ (l : List ℕ). put_mid at n l bytes) (same ∙ room)
        ∙ ap (λ (l : List ℕ). put_mid at n (padded (at + n) old) l) is_piece
        ∙ into_room at n piece old long

    front : length (take at (padded at old)) ≡ at
    front = omega (arith, length-take at (padded at old), length-padded at old)

    whole : length (put_mid start (end - start) now bytes) ≡ size
    whole = omega (
      arith,
      ap (λ (l : List ℕ). length l) is_placed,
      length-append (take at (padded at old) ++ piece) (drop (at + length piece) old),
      length-append (take at (padded at old)) piece,
      length-drop (at + length piece) old,
      front,
      long,
      is_size,
      ap (λ (l : List ℕ). length l) (same ∙ room),
      length-padded (at + n) old,
    )
