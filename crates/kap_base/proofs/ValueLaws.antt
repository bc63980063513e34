-- Values are the same exactly where they are equal.
use Rattle.std.proofs.Common.{◌≡◌, Bool, ap}
use Rattle.std.specs.Bool.{Decides}
use Rattle.std.specs.Cmp.{booleans_Decides}
use Rattle.std.proofs.lemmas.Bool.Decides.{Decides-int_eq}
use Rattle.std.proofs.lemmas.Slice.Eq.{bytes_eq-Decides}
use Rattle.kap_base.specs.Values.{is_same_value}
use Rattle.kap_base.specs.declared.value.Value.{Value}
use Rattle.kap_base.specs.declared.value.Value.TheVariants.{Int, Bool as Truth, Str}

-- a test behind a constructor
pub decided : {A B : Type 0} (made : A → B) (a b : A) (r : Bool) → (made a ≡ made b → a ≡ b) → Decides r (a ≡ b) → Decides r (made a ≡ made b)
decided made a b r back d = (λ e. ap made (d.0 e), λ e. d.1 (back e))

pub values_decided : (a b : Value) → Decides (is_same_value a b) (a ≡ b)
values_decided (Int a) (Int b) = decided Int a b (is_same_value (Int a) (Int b)) (λ e. cc) (Decides-int_eq a b)
values_decided (Int a) (Truth b) = (λ e. absurd cc, λ e. absurd cc)
values_decided (Int a) (Str b) = (λ e. absurd cc, λ e. absurd cc)
values_decided (Truth a) (Int b) = (λ e. absurd cc, λ e. absurd cc)
values_decided (Truth a) (Truth b) = decided Truth a b (is_same_value (Truth a) (Truth b)) (λ e. cc) (booleans_Decides a b)
values_decided (Truth a) (Str b) = (λ e. absurd cc, λ e. absurd cc)
values_decided (Str a) (Int b) = (λ e. absurd cc, λ e. absurd cc)
values_decided (Str a) (Truth b) = (λ e. absurd cc, λ e. absurd cc)
values_decided (Str a) (Str b) = decided Str a b (is_same_value (Str a) (Str b)) (λ e. cc) (bytes_eq-Decides a b)
