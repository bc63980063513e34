-- A list is written piece by piece.
use Rattle.std.proofs.Common.{◌≡◌, ℕ, List, [], ◌∷◌, ◌++◌, length, drop, take, Option, Err, refl, sym, ap, subst, ◌∙◌, append-nil, append_assoc, arith}
use Rattle.std.specs.Prelude.{Result}
use Rattle.std.specs.List.{flat_map}
use Rattle.std.proofs.lemmas.List.{drop_at, length-take, take-append-drop}
use Rattle.std.proofs.lemmas.List.Concat.{flat_map-append}
use Rattle.kap_base.specs.Points.{PointValue}
use Rattle.kap_io.specs.Pieces.{AppendsPrefix}
use Rattle.store_records.specs.declared.rec.Rec.{Rec}
use Rattle.topic_store.specs.Pieces.{PieceOrNot}
use Rattle.topic_store.specs.Points.{GivesOrNot}
use Rattle.topic_store.specs.declared.fault.StoreFault.{StoreFault}
use Rattle.topic_store.specs.declared.fault.StoreFault.TheVariants as stores
use Rattle.store_lists.specs.Faults.{list_fault}
use Rattle.store_lists.specs.Writing.{HasWritten, Lists, PutsLines}
use Rattle.store_lists.specs.declared.fault.ListFault.{ListFault}
use Rattle.store_lists.specs.declared.fault.ListFault.TheVariants.{NotStore, DiskFault, WriteFault, NoMemory}
use Rattle.store_lists.proofs.WriteLaws.{lists_rest, written_cut, written_prefix, written_then}

pub nil_of : {A : Type 0} (xs : List A) → length xs ≡ 0 → xs ≡ []
nil_of [] e = refl
nil_of (x ∷ xs) e = absurd (omega (arith, e))

none-left : {A : Type 0} (xs : List A) → take 4096 xs ≡ [] → xs ≡ []
none-left xs e = let none : length (take 4096 xs) ≡ 0 = ap length e in let len = length-take 4096 xs in nil_of xs (omega (arith, none, len))

module _ {A : Type 0} (f : A → List ℕ) (all : List A) where
  -- Of a list's items the first were passed, and of their lines a front was written, and the rest is due.
  pub record IsListing (due : List ℕ) (w v : Option (List ℕ)) : Type 0 where
    pub passed : List A
    pub others : List A
    pub split : all ≡ passed ++ others
    pub written : HasWritten (flat_map f passed) due w v

  -- the next piece is passed
  abbrev pub listing_next : (due due' : List ℕ) (w v x : Option (List ℕ)) (piece : List A) (s : IsListing due w v) → piece ≡ take 4096 s.others → HasWritten (due ++ flat_map f piece) due' v x → IsListing due' w x
  listing_next due due' w v x piece s is h = record {
    passed = s.passed ++ piece;
    others = drop 4096 s.others;
    split = s.split ∙ ap (λ (l : List A). s.passed ++ l) (sym (take-append-drop 4096 s.others) ∙ ap (λ (l : List A). l ++ drop 4096 s.others) (sym is)) ∙ sym (append_assoc s.passed piece (drop 4096 s.others));
    written = subst (λ (l : List ℕ). HasWritten l due' w x) (sym (flat_map-append f s.passed piece)) (written_then (flat_map f s.passed) due (flat_map f piece) due' w v x s.written h);
  }

  lines-split : (due : List ℕ) (w v : Option (List ℕ)) (piece : List A) (s : IsListing due w v) → piece ≡ take 4096 s.others → flat_map f all ≡ flat_map f s.passed ++ (flat_map f piece ++ flat_map f (drop 4096 s.others))
  lines-split due w v piece s is =
      ap (flat_map f) s.split ∙ flat_map-append f s.passed s.others
      ∙ ap (λ (l : List ℕ). flat_map f s.passed ++ l)
      (ap (flat_map f) (sym (take-append-drop 4096 s.others) ∙ ap (λ (l : List A). l ++ drop 4096 s.others) (sym is)) ∙ flat_map-append f piece (drop 4096 s.others))

  -- it fails in the middle of it
  pub listing_cut : (fault : ListFault) (due due' : List ℕ) (w v x : Option (List ℕ)) (piece : List A) (s : IsListing due w v) → piece ≡ take 4096 s.others → PutsLines {T = Unit {0}} (Err fault) (flat_map f piece) due due' v x
      → Lists {T = Unit {0}} (Err fault) (flat_map f all) w x
  listing_cut (NotStore part offset) due due' w v x piece s is h = absurd h
  listing_cut DiskFault due due' w v x piece s is h = absurd h
  listing_cut WriteFault due due' w v x piece s is h =
      subst (AppendsPrefix w x) (sym (lines-split due w v piece s is)) (written_cut (flat_map f s.passed) due (flat_map f piece) (flat_map f (drop 4096 s.others)) w v x s.written h)
  listing_cut NoMemory due due' w v x piece s is h =
      subst (AppendsPrefix w x) (sym (lines-split due w v piece s is)) (written_cut (flat_map f s.passed) due (flat_map f piece) (flat_map f (drop 4096 s.others)) w v x s.written h)

  so-far : (due : List ℕ) (w v : Option (List ℕ)) → IsListing due w v → AppendsPrefix w v (flat_map f all)
  so-far due w v s =
      subst (AppendsPrefix w v) (sym (ap (flat_map f) s.split ∙ flat_map-append f s.passed s.others))
      (written_prefix (flat_map f s.passed) due (flat_map f s.others) w v s.written)

  -- memory runs out between two pieces
  pub listing_out : (due : List ℕ) (w v : Option (List ℕ)) → IsListing due w v → Lists {T = Unit {0}} (Err NoMemory) (flat_map f all) w v
  listing_out due w v s = so-far due w v s

  -- the next piece isn't read
  pub piece_failed : (fault : StoreFault) (due : List ℕ) (w v : Option (List ℕ)) (piece : List A) → IsListing due w v → PieceOrNot piece (Err fault) → Lists {T = Unit {0}} (Err (list_fault fault)) (flat_map f all) w v
  piece_failed (stores.NotStore part offset) due w v piece s none = absurd none
  piece_failed stores.DiskFault due w v piece s none = so-far due w v s
  piece_failed stores.Long due w v piece s none = absurd none
  piece_failed stores.NoMemory due w v piece s none = so-far due w v s

  pub points_failed : (fault : StoreFault) (due : List ℕ) (w v : Option (List ℕ)) (rs : List Rec) (points : List PointValue) → IsListing due w v → GivesOrNot rs points (Err fault) → Lists {T = Unit {0}} (Err (list_fault fault)) (flat_map f all) w v
  points_failed (stores.NotStore part offset) due w v rs points s none = absurd none
  points_failed stores.DiskFault due w v rs points s none = so-far due w v s
  points_failed stores.Long due w v rs points s none = absurd none
  points_failed stores.NoMemory due w v rs points s none = so-far due w v s

  -- no piece is left, and the rest is written
  pub listing_rest : {T : Type 0} (result : Result T ListFault) (due : List ℕ) (w v x : Option (List ℕ)) (piece : List A) (s : IsListing due w v) → piece ≡ take 4096 s.others → piece ≡ [] → Lists result due v x → Lists result (flat_map f all) w x
  listing_rest result due w v x piece s is none h =
      subst (λ (l : List ℕ). Lists result l w x) (sym (ap (flat_map f) (s.split ∙ ap (λ (l : List A). s.passed ++ l) (none-left s.others (sym is ∙ none)) ∙ append-nil s.passed)))
      (lists_rest result (flat_map f s.passed) due w v x s.written h)

  -- the piece behind so many is the first of the others
  pub piece_next : (due : List ℕ) (w v : Option (List ℕ)) (piece : List A) (n : ℕ) (s : IsListing due w v) → n ≡ length s.passed → piece ≡ take 4096 (drop n all) → piece ≡ take 4096 s.others
  piece_next due w v piece n s count is =
      is ∙ ap (take 4096) (ap (drop n) s.split ∙ ap (λ (k : ℕ). drop k (s.passed ++ s.others)) count ∙ drop_at s.passed s.others (length s.passed) refl)
