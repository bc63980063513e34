-- What a buffer holds while it is filled.
use Rattle.std.proofs.Common.{ℕ, ◌+◌, ◌≤◌, List, ◌++◌, length, take, drop, sym, ◌∙◌, ap, arith}
use Rattle.std.proofs.Math.Seq.{take-add}
use Rattle.std.proofs.lemmas.List.{drop_at, drop-drop, take-append-le, length-take-le}
use Rattle.std.proofs.lemmas.Slice.{take-put_mid_below}
use borrow.Rule.Slice.PartMut.{put_mid, post_of}
use Rattle.kap_io.specs.Disk.{Places}
use Rattle.gate_log.specs.Reading.{ReadsOn, Placed}

pub reads_on : (at count k : ℕ) (file old sub : List ℕ) (more : ℕ) → count ≤ length old → more ≤ length sub → Places (at + count) file sub more
    → ReadsOn at file count old (put_mid count k old sub) more
reads_on at count k file old sub more room fits reads = record {
  placed =
      take-add count more (put_mid count k old sub)
      ∙ ap (λ (l : List ℕ). l ++ take more (drop count (put_mid count k old sub))) (take-put_mid_below count k old sub count (omega arith) room)
      ∙ ap (λ (l : List ℕ). take count old ++ l)
      (ap (λ (l : List ℕ). take more l) (drop_at (take count old) (sub ++ post_of count k old) count (length-take-le count old room))
      ∙ take-append-le more sub (post_of count k old) fits ∙ reads.placed);
  within = reads.within;
  ends = reads.ends;
}

pub placed_more : (at count : ℕ) (file old new : List ℕ) (more : ℕ) → Placed at file old count → ReadsOn at file count old new more
    → Placed at file new (count + more)
placed_more at count file old new more so_far reads = record {
  placed =
      reads.placed
      ∙ ap (λ (l : List ℕ). l ++ take more (drop (at + count) file)) so_far.placed
      ∙ ap (λ (l : List ℕ). take count (drop at file) ++ take more l) (sym (drop-drop count at file))
      ∙ sym (take-add count more (drop at file));
  within = omega (arith, so_far.within, reads.within);
}
