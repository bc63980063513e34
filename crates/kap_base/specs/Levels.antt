-- The levels of alerts.
use Rattle.std.specs.Prelude.{ℕ, ◌==◌, Bool, List, codes}
use Rattle.kap_base.specs.declared.items.Level.{Level}
use Rattle.kap_base.specs.declared.items.Level.TheVariants.{Fine, Info, Warning, Critical}

-- the word that a level is printed as
abbrev pub level_name : Level → List ℕ
level_name Fine = codes "OK"
level_name Info = codes "INFO"
level_name Warning = codes "WARNING"
level_name Critical = codes "CRITICAL"

-- how bad a level is
abbrev pub level_rank : Level → ℕ
level_rank Fine = 0
level_rank Info = 1
level_rank Warning = 2
level_rank Critical = 3

-- the two are one level
abbrev pub same_level : Level → Level → Bool
same_level one other = level_rank one == level_rank other
