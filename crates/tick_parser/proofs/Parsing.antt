-- What the loop over the tokens answers.
use Rattle.std.proofs.Common.{◌≡◌, ◌⊎◌, inl, inr, ℕ, List, [], ◌∷◌, Result, Ok, Err, IfOk, IfErr, sym, ap, ◌∙◌, subst, ⊎_elim}
use Rattle.std.specs.Result.{IsErrAnd}
use Rattle.tick_parser.specs.declared.script.Stmt.{Stmt}
use Rattle.tick_parser.specs.Trees.{script_tree}
use Rattle.tick_lexer.specs.declared.token.Token.{Token}
use Rattle.tick_parser.specs.declared.fault.ParseFault.{ParseFault}
use Rattle.tick_parser.specs.declared.fault.ParseFault.TheVariants.{NoMemory}
use Rattle.tick_parser.specs.Script.{Reads, Within}
use Rattle.tick_parser.specs.Refusal.{Refused, ended, end_of}
use Rattle.tick_parser.specs.Machine.{run, step, finish, Between, Stopped, Refuses}
use Rattle.tick_parser.specs.Machine as machine
use Rattle.tick_parser.specs.States.{Finishes}
use Rattle.tick_parser.proofs.Room.{run_stopped}
use Rattle.tick_parser.proofs.Reading.{answered, refused}

at_end : (tokens rest : List Token) (s : machine.State) (place : ℕ) → rest ≡ [] → run 64 512 4096 rest s ≡ run 64 512 4096 tokens (Between []) → ended place rest ≡ ended 0 tokens → finish place s ≡ finish (end_of tokens) (run 64 512 4096 tokens (Between []))
at_end tokens rest s place none same ends =
    let s_is : s ≡ run 64 512 4096 tokens (Between []) = sym (ap (λ (l : List Token). run 64 512 4096 l s) none) ∙ same in
    let p_is : place ≡ ended 0 tokens = sym (ap (λ (l : List Token). ended place l) none) ∙ ends in
    ap (λ (x : ℕ). finish x s) p_is ∙ ap (λ (x : machine.State). finish (end_of tokens) x) s_is

pub parsed_tree : (tokens rest : List Token) (s : machine.State) (place : ℕ) (result : Result (List Stmt) ParseFault) → rest ≡ [] → run 64 512 4096 rest s ≡ run 64 512 4096 tokens (Between []) → ended place rest ≡ ended 0 tokens → Finishes result (finish place s) → IfOk result (λ tree. Reads tokens (script_tree tree) × Within 64 512 4096 (script_tree tree))
parsed_tree tokens rest s place (Ok tree) none same ends h = answered 64 512 4096 (end_of tokens) tokens (script_tree tree) (sym (at_end tokens rest s place none same ends) ∙ h)
parsed_tree tokens rest s place (Err fault) none same ends h = tt

pub parsed_fault : (tokens rest : List Token) (s : machine.State) (place : ℕ) (result : Result (List Stmt) ParseFault) → rest ≡ [] → run 64 512 4096 rest s ≡ run 64 512 4096 tokens (Between []) → ended place rest ≡ ended 0 tokens → Finishes result (finish place s) → IfErr result (λ fault. (fault ≡ NoMemory) ⊎ Refused 64 512 4096 tokens fault)
parsed_fault tokens rest s place (Ok tree) none same ends h = tt
parsed_fault tokens rest s place (Err fault) none same ends h =
    ⊎_elim
    (λ (q : fault ≡ NoMemory). inl q)
    (λ (q : finish place s ≡ Refuses fault). inr (refused 64 512 4096 tokens fault (sym (at_end tokens rest s place none same ends) ∙ q)))
    h

-- a fault in the middle
pub stopped_fault : (tokens rest more : List Token) (token : Token) (s : machine.State) (fault : ParseFault) → rest ≡ token ∷ more → run 64 512 4096 rest s ≡ run 64 512 4096 tokens (Between []) → (fault ≡ NoMemory) ⊎ (step 64 512 4096 s token ≡ Stopped fault) → (fault ≡ NoMemory) ⊎ Refused 64 512 4096 tokens fault
stopped_fault tokens rest more token s fault is same h =
    ⊎_elim
    (λ (q : fault ≡ NoMemory). inl q)
    (λ (q : step 64 512 4096 s token ≡ Stopped fault).
    let end : run 64 512 4096 tokens (Between []) ≡ Stopped fault =
    sym same ∙ ap (λ (l : List Token). run 64 512 4096 l s) is ∙ ap (λ (x : machine.State). run 64 512 4096 more x) q ∙ run_stopped 64 512 4096 more fault in
    inr (refused 64 512 4096 tokens fault (ap (λ (x : machine.State). finish (end_of tokens) x) end)))
    h

-- a fault that is handed on
pub handed_on : (Q : ParseFault → Type 0) (fault : ParseFault) (result : Result (List Stmt) ParseFault) → IsErrAnd result (λ e. e ≡ fault) → Q fault → IfErr result Q
handed_on Q fault (Ok tree) h q = tt
handed_on Q fault (Err e) h q = subst Q (sym h) q
