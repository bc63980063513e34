-- A word's value, from the number that the code keeps.
use Rattle.std.proofs.Common.{◌≡◌, ℕ, Bool, Some, None, sym}
use Rattle.std.specs.Prelude.{Option, Result, ℤ}
use Rattle.std.specs.Option.{option_map, option_map_or}
use Rattle.line_points.specs.declared.fault.LineFault.{LineFault}
use Rattle.kap_base.specs.declared.value.Value.{Value}
use Rattle.line_points.specs.Words.{int_value}
use Rattle.line_points.specs.declared.mode.Unit.{Unit}
use Rattle.line_points.specs.Line.{time_of_units}
use Rattle.line_points.specs.Cap.{cap}

pub chosen_some : (o : Option (Bool × ℕ)) (x : Bool × ℕ) (r d : Result Value LineFault) → Some x ≡ option_map cap o → ((n : Bool × ℕ) → x ≡ cap n → r ≡ int_value n) → r ≡ option_map_or int_value o d
chosen_some (Some n) x r d e is = is n cc
chosen_some None x r d e is = absurd cc

pub chosen_none : (o : Option (Bool × ℕ)) (r d : Result Value LineFault) → None ≡ option_map cap o → r ≡ d → r ≡ option_map_or int_value o d
chosen_none (Some n) r d e is = absurd cc
chosen_none None r d e is = is

pub chosen_time : (u : Unit) (o : Option (Bool × ℕ)) (x : Bool × ℕ) (r d : Result ℤ LineFault) → Some x ≡ option_map cap o → ((n : Bool × ℕ) → x ≡ cap n → r ≡ time_of_units u n) → option_map_or (time_of_units u) o d ≡ r
chosen_time u (Some n) x r d e is = sym (is n cc)
chosen_time u None x r d e is = absurd cc
