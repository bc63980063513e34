use Rattle.std.proofs.Common.{◌≡◌, ◌==◌, ◌-◌, true, false, List, ◌∷◌, drop, length, take, ap, sym, ◌∙◌, refl, arith}
use Rattle.std.proofs.lemmas.Bool.Decides.{nat_tests}
use Rattle.std.proofs.lemmas.List.{nil_from_length}
use Rattle.effect_text.proofs.PieceLaws.{behind_ends, behind_none, behind_on, behind_one, behind_some, front_ends, front_none, front_on, told_nothing, told_whole}
use Rattle.effect_text.specs.Pieces.{PieceValue, front_with, pieces_in}
use Rattle.effect_text.specs.declared.printing.Piece.{Piece}
use Rattle.effect_text.proofs.merging.put_some.Goals as goal

pub putting-init : goal.putting-init
putting-init c = record {
  told = told_nothing c.args.topics.now c.args.text.now (front_with (λ (p : PieceValue). p.stamp) c.args.stamp (pieces_in (drop c.args.start.now c.args.lines.now) (drop c.args.next.now c.args.pieces.now)));
  behind = refl;
}

pub returns-then-piece-stamp-clause-told : goal.returns-then-piece-stamp-clause-told
returns-then-piece-stamp-clause-told c =
    let test = c.if-piece-stamp.true in
    let other : (c.in-Some.piece.now.stamp == c.args.stamp) ≡ false = grind (arith, nat_tests) in
    let are : drop c.putting.next c.args.pieces.now ≡ c.in-Some.piece.now ∷ c.in-Some.others.now = sym c.behind.ensures ∙ c.in-Some.ensures.cases.0 in
    told_whole c.args.topics.now c.putting.topics c.args.text.now c.putting.text (front_with (λ (p : PieceValue). p.stamp) c.args.stamp (pieces_in (drop c.args.start.now c.args.lines.now) (drop c.args.next.now c.args.pieces.now))) _ c.putting.invariant.told
    (front_ends c.args.stamp (drop c.putting.start c.args.lines.now) (drop c.putting.next c.args.pieces.now) c.in-Some.others.now c.in-Some.piece.now are other)

pub returns-then-piece-stamp-clause-rest : goal.returns-then-piece-stamp-clause-rest
returns-then-piece-stamp-clause-rest c =
    let test = c.if-piece-stamp.true in
    let other : (c.in-Some.piece.now.stamp == c.args.stamp) ≡ false = grind (arith, nat_tests) in
    let are : drop c.putting.next c.args.pieces.now ≡ c.in-Some.piece.now ∷ c.in-Some.others.now = sym c.behind.ensures ∙ c.in-Some.ensures.cases.0 in
    sym (c.putting.invariant.behind ∙ behind_ends c.args.stamp (drop c.putting.start c.args.lines.now) (drop c.putting.next c.args.pieces.now) c.in-Some.others.now c.in-Some.piece.now are other)

pub putting-preserved : goal.putting-preserved
putting-preserved c =
    let test = c.if-piece-stamp.false in
    let same : (c.in-Some.piece.now.stamp == c.args.stamp) ≡ true = grind (arith, nat_tests) in
    let are : drop c.putting.next c.args.pieces.now ≡ c.in-Some.piece.now ∷ c.in-Some.others.now = sym c.behind.ensures ∙ c.in-Some.ensures.cases.0 in
    let line : c.split_lines.result.0.now ≡ take c.in-Some.piece.now.size (drop c.putting.start c.args.lines.now) = c.split_lines.ensures.line ∙ ap (take c.in-Some.piece.now.size) c.behind-in-Some.ensures in
    let left : c.split_lines.result.1.now ≡ drop c.in-Some.piece.now.size (drop c.putting.start c.args.lines.now) = c.split_lines.ensures.rest ∙ ap (drop c.in-Some.piece.now.size) c.behind-in-Some.ensures in
    let start = length c.args.lines.now - length c.split_lines.result.1.now in
    let next = length c.args.pieces.now - length c.in-Some.others.now in
    let behind : drop c.putting.next c.args.pieces.now ≡ c.in-Some.piece.now ∷ drop next c.args.pieces.now =
    are ∙ ap (λ (l : List Piece). c.in-Some.piece.now ∷ l) (sym (behind_one c.args.pieces.now c.in-Some.others.now c.in-Some.piece.now c.putting.next are)) in
    let rest : drop start c.args.lines.now ≡ drop c.in-Some.piece.now.size (drop c.putting.start c.args.lines.now) =
    behind_some c.args.lines.now c.split_lines.result.1.now c.in-Some.piece.now.size c.putting.start left ∙ left in
    record {
      told = front_on c.args.topics.now c.putting.topics c.put_piece.new.topics c.args.text.now c.putting.text c.put_piece.new.text c.args.stamp _
          (drop c.putting.start c.args.lines.now) c.split_lines.result.0.now (drop start c.args.lines.now) (drop c.putting.next c.args.pieces.now) (drop next c.args.pieces.now) c.in-Some.piece.now behind same
          line rest c.in_ok-put_piece.ensures c.putting.invariant.told;
      behind = c.putting.invariant.behind
          ∙ behind_on c.args.stamp (drop c.putting.start c.args.lines.now) (drop start c.args.lines.now) (drop c.putting.next c.args.pieces.now) (drop next c.args.pieces.now) c.in-Some.piece.now behind same rest;
    }

pub returns-clause-told : goal.returns-clause-told
returns-clause-told c =
    told_whole c.args.topics.now c.putting.topics c.args.text.now c.putting.text (front_with (λ (p : PieceValue). p.stamp) c.args.stamp (pieces_in (drop c.args.start.now c.args.lines.now) (drop c.args.next.now c.args.pieces.now))) _ c.putting.invariant.told
    (front_none c.args.stamp (drop c.putting.start c.args.lines.now) (drop c.putting.next c.args.pieces.now) (sym c.behind.ensures ∙ nil_from_length c.behind.result.now c.in_default.ensures.cases))

pub returns-clause-rest : goal.returns-clause-rest
returns-clause-rest c =
    sym (c.putting.invariant.behind ∙ behind_none c.args.stamp (drop c.putting.start c.args.lines.now) (drop c.putting.next c.args.pieces.now) (sym c.behind.ensures ∙ nil_from_length c.behind.result.now c.in_default.ensures.cases))
