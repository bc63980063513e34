-- What is captured of cells, one behind the other.
use Rattle.std.proofs.Common.{◌≡◌, ℕ, List, [], ◌∷◌, ◌++◌, length, refl, sym, ap, ◌∙◌, append-nil, append_assoc, arith}
use Rattle.std.specs.List.{AllByRecursion as Each, AllZip, flat_map}
use Rattle.state_code.specs.Spelling.{AllFit, FitsBytes, spell_bytes}
use Rattle.node_core.specs.declared.node.Node.{Ghosts}
use Rattle.flow_cells.specs.declared.parts.CellParts.{CellParts}
use Rattle.flow_cells.specs.Kept.{HasKept, SpellsSaved}
use Rattle.flow_life.proofs.SplitLaws.{each-behind, each-front}
use Rattle.flow_core.specs.Nets.{NumberedLife}
use Rattle.barrier_snapshot.specs.Barriers.{cells_in}
use Rattle.barrier_snapshot.specs.Capturing.{HasKeptAll, PutsCells}

flat-both : (xs ys : List (List ℕ)) → flat_map spell_bytes (xs ++ ys) ≡ flat_map spell_bytes xs ++ flat_map spell_bytes ys
flat-both [] ys = refl
flat-both (x ∷ xs) ys = ap (λ (l : List ℕ). spell_bytes x ++ l) (flat-both xs ys) ∙ sym (append_assoc (spell_bytes x) (flat_map spell_bytes xs) (flat_map spell_bytes ys))

fit-both : (xs ys : List (List ℕ)) → AllFit FitsBytes xs → AllFit FitsBytes ys → AllFit FitsBytes (xs ++ ys)
fit-both [] ys p q = q
fit-both (x ∷ xs) ys p q = (p.0, fit-both xs ys p.1 q)

-- where the states of all cells can be had, they can of each life
pub kept_lives : {N : Type 0} (lives : List (NumberedLife N)) → Each HasKept (cells_in lives) → Each HasKeptAll lives
kept_lives [] kept = tt
kept_lives (l ∷ lives) kept = (each-front HasKept l.life.cells (cells_in lives) kept, kept_lives lives (each-behind HasKept l.life.cells (cells_in lives) kept))

module _ {N P S : Type 0} (g : Ghosts N P S) where
  -- nothing is captured of no cells
  pub puts_none : (cells : List (CellParts N)) (bytes : List ℕ) → length cells ≡ 0 → PutsCells g cells bytes bytes
  puts_none [] bytes none = record { bytes = []; saved = tt; fit = tt; is = sym (append-nil bytes) }
  puts_none (c ∷ cells) bytes none = absurd (omega (arith, none))

  -- nor of no lives
  pub puts_no_lives : (lives : List (NumberedLife N)) (bytes : List ℕ) → length lives ≡ 0 → PutsCells g (cells_in lives) bytes bytes
  puts_no_lives [] bytes none = puts_none [] bytes refl
  puts_no_lives (l ∷ lives) bytes none = absurd (omega (arith, none))

  -- one cell, and the others behind it
  pub puts_first : (c : CellParts N) (cells : List (CellParts N)) (one before mid after : List ℕ) → SpellsSaved g c one → FitsBytes one → mid ≡ before ++ spell_bytes one → PutsCells g cells mid after → PutsCells g (c ∷ cells) before after
  puts_first c cells one before mid after s fits is p = record {
    bytes = one ∷ p.bytes;
    saved = (s, p.saved);
    fit = (fits, p.fit);
    is = p.is ∙ ap (λ (l : List ℕ). l ++ flat_map spell_bytes p.bytes) is ∙ append_assoc before (spell_bytes one) (flat_map spell_bytes p.bytes);
  }

  zip-both : (cells others : List (CellParts N)) (xs ys : List (List ℕ)) → AllZip (SpellsSaved g) cells xs → AllZip (SpellsSaved g) others ys → AllZip (SpellsSaved g) (cells ++ others) (xs ++ ys)
  zip-both [] others [] ys p q = q
  zip-both [] others (x ∷ xs) ys p q = absurd p
  zip-both (c ∷ cells) others [] ys p q = absurd p
  zip-both (c ∷ cells) others (x ∷ xs) ys p q = (p.0, zip-both cells others xs ys p.1 q)

  -- some cells, and others behind them
  pub puts_both : (cells others : List (CellParts N)) (before mid after : List ℕ) → PutsCells g cells before mid → PutsCells g others mid after → PutsCells g (cells ++ others) before after
  puts_both cells others before mid after p q = record {
    bytes = p.bytes ++ q.bytes;
    saved = zip-both cells others p.bytes q.bytes p.saved q.saved;
    fit = fit-both p.bytes q.bytes p.fit q.fit;
    is = q.is ∙ ap (λ (l : List ℕ). l ++ flat_map spell_bytes q.bytes) p.is ∙ append_assoc before (flat_map spell_bytes p.bytes) (flat_map spell_bytes q.bytes) ∙ ap (λ (l : List ℕ). before ++ l) (sym (flat-both p.bytes q.bytes));
  }
