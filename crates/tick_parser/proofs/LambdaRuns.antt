-- Runs of the reader of lambdas over tokens.
use Rattle.std.proofs.Common.{◌≡◌, ℕ, List, [], ◌∷◌, ◌++◌, refl, ap, ◌∙◌}
use Rattle.tick_lexer.specs.declared.token.Token.{Token}
use Rattle.tick_parser.specs.Lambdas.{State, run, step}

pub run-append : (d w : ℕ) (a b : List Token) (s : State) → run d w (a ++ b) s ≡ run d w b (run d w a s)
run-append d w [] b s = refl
run-append d w (t ∷ a) b s = run-append d w a b (step d w s t)

-- a run over two parts
pub run_on : (d w : ℕ) (tokens a b : List Token) (s t : State) → tokens ≡ a ++ b → run d w a s ≡ t → run d w tokens s ≡ run d w b t
run_on d w tokens a b s t e r =
    ap (λ (l : List Token). run d w l s) e ∙ run-append d w a b s ∙ ap (λ (x : State). run d w b x) r

-- a run over a first token
pub run_first : (d w : ℕ) (tokens : List Token) (token : Token) (rest : List Token) (s t : State) → tokens ≡ token ∷ rest → step d w s token ≡ t → run d w tokens s ≡ run d w rest t
run_first d w tokens token rest s t e r =
    ap (λ (l : List Token). run d w l s) e ∙ ap (λ (x : State). run d w rest x) r

-- a run over one token
pub run_one : (d w : ℕ) (tokens : List Token) (token : Token) (rest : List Token) (s t : State) → tokens ≡ token ∷ rest → rest ≡ [] → step d w s token ≡ t → run d w tokens s ≡ t
run_one d w tokens token rest s t e n r =
    run_first d w tokens token rest s t e r ∙ ap (λ (l : List Token). run d w l t) n
