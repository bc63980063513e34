-- Runs of the reader of scripts over tokens.
use Rattle.std.proofs.Common.{◌≡◌, ℕ, List, [], ◌∷◌, ◌++◌, refl, ap, ◌∙◌}
use Rattle.tick_lexer.specs.declared.token.Token.{Token}
use Rattle.tick_parser.specs.Machine.{State, run, step}

pub run-append : (d w m : ℕ) (a b : List Token) (s : State) → run d w m (a ++ b) s ≡ run d w m b (run d w m a s)
run-append d w m [] b s = refl
run-append d w m (t ∷ a) b s = run-append d w m a b (step d w m s t)

-- a run over two parts
pub run_on : (d w m : ℕ) (tokens a b : List Token) (s t : State) → tokens ≡ a ++ b → run d w m a s ≡ t → run d w m tokens s ≡ run d w m b t
run_on d w m tokens a b s t e r =
    ap (λ (l : List Token). run d w m l s) e ∙ run-append d w m a b s ∙ ap (λ (x : State). run d w m b x) r

-- a run over a first token
pub run_first : (d w m : ℕ) (tokens : List Token) (token : Token) (rest : List Token) (s t : State) → tokens ≡ token ∷ rest → step d w m s token ≡ t → run d w m tokens s ≡ run d w m rest t
run_first d w m tokens token rest s t e r =
    ap (λ (l : List Token). run d w m l s) e ∙ ap (λ (x : State). run d w m rest x) r

-- a run over one token
pub run_one : (d w m : ℕ) (tokens : List Token) (token : Token) (rest : List Token) (s t : State) → tokens ≡ token ∷ rest → rest ≡ [] → step d w m s token ≡ t → run d w m tokens s ≡ t
run_one d w m tokens token rest s t e n r =
    run_first d w m tokens token rest s t e r ∙ ap (λ (l : List Token). run d w m l t) n
