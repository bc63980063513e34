-- How a level is spelled, and a value that says nothing.
use Rattle.std.specs.Prelude.{◌≡◌, ℕ, zero, suc, List, [], ◌∷◌, ◌++◌, None, ⊤}
use Rattle.std.proofs.Common.{refl, ap}
use Rattle.kap_base.specs.declared.items.Level.{Level}
use Rattle.kap_base.specs.declared.items.Level.TheVariants.{Fine, Info, Warning, Critical}
use Rattle.state_code.specs.Spelling.{IsBytes, Reading, Stands, IsSpelling, value_then, read_as}
use Rattle.state_code.specs.Laws.{variant}
use Rattle.kap_base.proofs.ResultLaws.{same_pair}

-- no bytes
abbrev pub spell_unit : Unit {0} → List ℕ
spell_unit x = []

-- it stands everywhere
abbrev pub read_unit : Reading (Unit {0})
read_unit bytes = value_then tt bytes

-- it can always be spelled
abbrev pub FitsUnit : Unit {0} → Type 0
FitsUnit x = ⊤

unit_only : (bytes : List ℕ) (x : Unit {0}) (rest : List ℕ) → IsBytes bytes → read_unit bytes ≡ value_then x rest
    → Stands FitsUnit spell_unit bytes x rest
unit_only bytes x rest fits e =
    let is = ap (λ (p : Unit {0} × List ℕ). p.1) (same_pair (tt, bytes) (x, rest) e) in
    record { fits = tt; parts = is; rest_bytes = rw (← is) fits }

-- what is spelled is read again, and only that
pub unit_spelled : IsSpelling FitsUnit spell_unit read_unit
unit_spelled = record { again = λ x rest h. refl; only = unit_only }

-- a byte from 0 to 3, in the order of levels
abbrev pub spell_level : Level → List ℕ
spell_level Fine = 0 ∷ []
spell_level Info = 1 ∷ []
spell_level Warning = 2 ∷ []
spell_level Critical = 3 ∷ []

-- and the level whose byte stands there; another byte is none
abbrev pub read_level : Reading Level
read_level [] = None
read_level (zero ∷ bytes) = read_as (λ x. Fine) read_unit bytes
read_level (suc zero ∷ bytes) = read_as (λ x. Info) read_unit bytes
read_level (suc (suc zero) ∷ bytes) = read_as (λ x. Warning) read_unit bytes
read_level (suc (suc (suc zero)) ∷ bytes) = read_as (λ x. Critical) read_unit bytes
read_level (suc (suc (suc (suc n))) ∷ bytes) = None

-- each level can be spelled
abbrev pub FitsLevel : Level → Type 0
FitsLevel l = ⊤

level_again : (l : Level) (rest : List ℕ) → FitsLevel l → read_level (spell_level l ++ rest) ≡ value_then l rest
level_again Fine rest fits = refl
level_again Info rest fits = refl
level_again Warning rest fits = refl
level_again Critical rest fits = refl

level_only : (bytes : List ℕ) (l : Level) (rest : List ℕ) → IsBytes bytes → read_level bytes ≡ value_then l rest
    → Stands FitsLevel spell_level bytes l rest
level_only [] l rest fits e = absurd cc
level_only (zero ∷ bytes) l rest fits e = variant unit_spelled 0 (λ x. Fine) (λ x h. tt) (λ x. refl) bytes l rest fits e
level_only (suc zero ∷ bytes) l rest fits e =
    variant unit_spelled 1 (λ x. Info) (λ x h. tt) (λ x. refl) bytes l rest fits e
level_only (suc (suc zero) ∷ bytes) l rest fits e =
    variant unit_spelled 2 (λ x. Warning) (λ x h. tt) (λ x. refl) bytes l rest fits e
level_only (suc (suc (suc zero)) ∷ bytes) l rest fits e =
    variant unit_spelled 3 (λ x. Critical) (λ x h. tt) (λ x. refl) bytes l rest fits e
level_only (suc (suc (suc (suc n))) ∷ bytes) l rest fits e = absurd cc

-- what is spelled is read again, and only that
pub level_spelled : IsSpelling FitsLevel spell_level read_level
level_spelled = record { again = level_again; only = level_only }
