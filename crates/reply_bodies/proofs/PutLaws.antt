-- Tokens that are put one after the other.
use Rattle.std.proofs.Common.{◌≡◌, List, ◌++◌, ap, ◌∙◌, append_assoc}
use Rattle.json.specs.Token.{Token}

-- two runs of them, behind others
pub two_puts : (a b c xs ys : List Token) → b ≡ a ++ xs → c ≡ b ++ ys → c ≡ a ++ (xs ++ ys)
two_puts a b c xs ys first second = second ∙ ap (λ (ts : List Token). ts ++ ys) first ∙ append_assoc a xs ys

-- and three
pub three_puts : (a b c d xs ys zs : List Token) → b ≡ a ++ xs → c ≡ b ++ ys → d ≡ c ++ zs → d ≡ a ++ (xs ++ (ys ++ zs))
three_puts a b c d xs ys zs first second third =
    two_puts a b d xs (ys ++ zs) first (two_puts b c d ys zs second third)
