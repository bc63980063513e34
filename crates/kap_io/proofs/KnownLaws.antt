-- What reads and writes one behind the other make of bytes that are told.
use Rattle.std.proofs.Common.{ℕ, List, [], ◌++◌, refl, sym, subst, Option, Some, None, append-nil}
use Rattle.std.specs.Io.KnownBytes.{Appends, Consumes}
use Rattle.std.proofs.KnownBytes.{Appends-trans, Consumes-trans}
use Rattle.kap_io.specs.Pieces.{Keeps}

abbrev pub Known : Type 0
Known = Option (List ℕ)

pub keeps_more : (a b c : Known) → Keeps a b → Keeps b c → Keeps a c
keeps_more None b c p q = tt
keeps_more (Some xs) b c p q = subst (λ (o : Known). Keeps o c) p q

pub keeps_appends : (a b : Known) → Keeps a b → Appends a b []
keeps_appends None b k = tt
keeps_appends (Some xs) b k = subst (λ (o : Known). Appends (Some xs) o []) (sym k) (sym (append-nil xs))

pub keeps_consumes : (a b : Known) → Keeps a b → Consumes a b []
keeps_consumes None b k = tt
keeps_consumes (Some xs) b k = subst (λ (o : Known). Consumes (Some xs) o []) (sym k) refl

pub appends_more : (a b c : Known) (x y : List ℕ) → Appends a b x → Appends b c y → Appends a c (x ++ y)
appends_more a b c x y p q = Appends-trans a b c x y p q

pub appends_kept : (a b c : Known) (x : List ℕ) → Appends a b x → Keeps b c → Appends a c x
appends_kept a b c x p k = subst (λ (y : List ℕ). Appends a c y) (append-nil x) (Appends-trans a b c x [] p (keeps_appends b c k))

pub consumes_more : (a b c : Known) (x y : List ℕ) → Consumes a b x → Consumes b c y → Consumes a c (x ++ y)
consumes_more a b c x y p q = Consumes-trans a b c x y p q

pub consumes_kept : (a b c : Known) (x : List ℕ) → Consumes a b x → Keeps b c → Consumes a c x
consumes_kept a b c x p k = subst (λ (y : List ℕ). Consumes a c y) (append-nil x) (Consumes-trans a b c x [] p (keeps_consumes b c k))
