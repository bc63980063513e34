-- When two values are the same.
use Rattle.std.specs.Prelude.{Bool, false, bytes_eq}
use Rattle.std.specs.Bool.{beq}
use Rattle.std.specs.Ordering.{int_eq}
use Rattle.kap_base.specs.declared.value.Value.{Value}
use Rattle.kap_base.specs.declared.value.Value.TheVariants.{Int, Bool as Truth, Str}

-- two values of one kind that are equal
abbrev pub is_same_value : Value → Value → Bool
is_same_value (Int a) (Int b) = int_eq a b
is_same_value (Truth a) (Truth b) = beq a b
is_same_value (Str a) (Str b) = bytes_eq a b
is_same_value _ _ = false
