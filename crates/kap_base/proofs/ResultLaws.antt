-- One fact from another, where a call is Ok, and the parts of what was read.
use Rattle.std.proofs.Common.{◌≡◌, List, Some, ℕ}
use Rattle.std.specs.Prelude.{Result, Ok, Err, OnOk}

pub on_ok : {A E : Type 0} {P Q : Type 0} (r : Result A E) → (P → Q) → OnOk r P → OnOk r Q
on_ok (Ok x) f p = f p
on_ok (Err e) f p = p

pub on_both : {A E : Type 0} {P Q R : Type 0} (r : Result A E) → (P → Q → R) → OnOk r P → OnOk r Q → OnOk r R
on_both (Ok x) f p q = f p q
on_both (Err e) f p q = p

pub same_pair : {A : Type 0} (p q : A × List ℕ) → Some p ≡ Some q → p ≡ q
same_pair p q e = cc
