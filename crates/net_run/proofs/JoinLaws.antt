-- Nets side by side, as one.
use Rattle.std.proofs.Common.{◌≡◌, ℕ, false, List, [], ◌∷◌, ◌++◌, subst, sym}
use Rattle.std.specs.List.{AllByRecursion as Each, AllZip}
use Rattle.kap_base.specs.Points.{PointValue}
use Rattle.node_core.specs.declared.node.Node.{Ghosts}
use Rattle.task_run.specs.Graphs.{Placed}
use Rattle.flow_life.proofs.SplitLaws.{each-append}
use Rattle.flow_core.specs.Carried.{HasCarried, LifeHasCarried}
use Rattle.flow_core.specs.Nets.{IsResting, NetValue, NumberedLife}
use Rattle.flow_core.specs.Rooms.{HasRoomIn}

zip-both : {A B : Type 0} (R : A → B → Type 0) (xs ys : List A) (us vs : List B) → AllZip R xs us → AllZip R ys vs → AllZip R (xs ++ ys) (us ++ vs)
zip-both R [] ys [] vs a b = b
zip-both R [] ys (u ∷ us) vs a b = absurd a
zip-both R (x ∷ xs) ys [] vs a b = absurd a
zip-both R (x ∷ xs) ys (u ∷ us) vs a b = (a.0, zip-both R xs ys us vs a.1 b)

module _ {N P S : Type 0} (g : Ghosts N P S) where
  -- a net that has the lives of two, whose edges have carried what they should, has carried both
  pub carried_both : (points : List PointValue) (xs ys : List (List (Placed P))) (a b c : NetValue N) → c.lives ≡ a.lives ++ b.lives → c.spent ≡ false
      → HasCarried g xs points a → HasCarried g ys points b → HasCarried g (xs ++ ys) points c
  carried_both points xs ys a b c are unspent one other = record {
    unspent = unspent;
    rest = subst (Each IsResting) (sym are) (each-append IsResting a.lives b.lives one.rest other.rest);
    lives_are = subst (AllZip (LifeHasCarried g points) (xs ++ ys)) (sym are) (zip-both (LifeHasCarried g points) xs ys a.lives b.lives one.lives_are other.lives_are);
  }

  pub room_both : (capacity : ℕ) (a b c : List (NumberedLife N)) → c ≡ a ++ b → Each (HasRoomIn capacity) a → Each (HasRoomIn capacity) b → Each (HasRoomIn capacity) c
  room_both capacity a b c are one other = subst (Each (HasRoomIn capacity)) (sym are) (each-append (HasRoomIn capacity) a b one other)
