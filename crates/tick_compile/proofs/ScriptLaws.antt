-- A text is one task's, or has one first fault.
use Rattle.std.proofs.Common.{◌≡◌, ℕ, ◌≤◌, Bool, true, false, Option, List, length, inl, inr, refl, sym, ap, ◌∙◌, subst}
use Rattle.std.specs.Prelude.{◌⊎◌, Result, Ok, Err, IsUtf8}
use Rattle.std.specs.Str.{is_utf8}
use Rattle.std.proofs.lemmas.Str.{IsUtf8-from_is_utf8, is_utf8-from_IsUtf8}
use Rattle.kap_base.specs.Utf8.{broken_at}
use Rattle.kap_base.proofs.Utf8Laws.{breaks_there, one_place}
use Rattle.lambda_types.specs.Faults.{Refusal}
use Rattle.kap_base.specs.declared.limits.TheConstants.{SCRIPT_LIMIT}
use Rattle.tick_lexer.specs.declared.token.LexFault.{LexFault}
use Rattle.tick_lexer.specs.declared.token.Token.{Token}
use Rattle.tick_lexer.specs.Script.{HasTokens, HasFirstFault}
use Rattle.tick_lexer.proofs.Texts as texts
use Rattle.tick_parser.specs.declared.fault.ParseFault.{ParseFault}
use Rattle.tick_parser.specs.declared.limits.TheConstants.{DEPTH_LIMIT, OPERATOR_LIMIT, STATEMENT_LIMIT}
use Rattle.tick_parser.specs.Trees.{StmtTree}
use Rattle.tick_parser.specs.Script.{IsScriptOf, Reads}
use Rattle.tick_parser.specs.Refusal.{IsRefused}
use Rattle.tick_parser.proofs.Reading as readings
use Rattle.tick_parser.proofs.OneFault as faults
use Rattle.tick_compile.specs.declared.script_fault.ScriptFault.{ScriptFault}
use Rattle.tick_compile.specs.declared.script_fault.ScriptFault.TheVariants.{NotUtf8, Lex, Parse, Name, NoKind, Property, Argument, Handler, Template, Lambda, Graph, NoFrom, NoMemory}
use Rattle.tick_compile.specs.declared.tasks.Task.{Task}
use Rattle.tick_compile.specs.Scripts.{Accepts, IsMisread, Parses, Refuses, task_of}

-- a text has the tokens of one script
pub same_script : (text : List ℕ) (a b : List StmtTree) → Parses text a → Parses text b → a ≡ b
same_script text a b p q = readings.one_tree p.tokens a b p.spelled.0 (subst (λ ts. Reads ts b) (texts.one_list text q.tokens p.tokens q.lexed p.lexed) q.spelled.0)

-- tokens that are refused are no script's
refused_tokens : (text : List ℕ) (script : List StmtTree) (tokens : List Token) (fault : ParseFault) → Parses text script → HasTokens text tokens → IsRefused tokens fault → ⊥
refused_tokens text script tokens fault p has refused =
    readings.not_both DEPTH_LIMIT OPERATOR_LIMIT STATEMENT_LIMIT p.tokens script fault p.spelled.0 p.spelled.1 (subst (λ ts. IsRefused ts fault) (texts.one_list text tokens p.tokens has p.lexed) refused)

ok_or_err : {A E : Type 0} (a : A) (e : E) (r : Result A E) → r ≡ Ok a → r ≡ Err e → ⊥
ok_or_err {A = A} {E = E} a e r p q = let w : ◌≡◌ {A = Result A E} (Ok a) (Err e) = sym p ∙ q in absurd (cc)

one_err : {A E : Type 0} (a b : E) (r : Result A E) → r ≡ Err a → r ≡ Err b → a ≡ b
one_err {A = A} {E = E} a b r p q = let w : ◌≡◌ {A = Result A E} (Err a) (Err b) = sym p ∙ q in cc

one_ok : {A E : Type 0} (a b : A) (r : Result A E) → r ≡ Ok a → r ≡ Ok b → a ≡ b
one_ok {A = A} {E = E} a b r p q = let w : ◌≡◌ {A = Result A E} (Ok a) (Ok b) = sym p ∙ q in cc

-- a text of a script isn't misread
parsed_or_misread : (text : List ℕ) (script : List StmtTree) (fault : ScriptFault) → Parses text script → IsMisread text fault → ⊥
parsed_or_misread text script (NotUtf8 at) p q = q.0 p.utf8
parsed_or_misread text script (Lex fault) p q = texts.not_both text p.tokens fault p.lexed q.1
parsed_or_misread text script (Parse fault) p q = refused_tokens text script q.1.0 fault p q.1.1 q.1.2
parsed_or_misread text script (Name fault) p q = q
parsed_or_misread text script (NoKind at) p q = q
parsed_or_misread text script (Property at) p q = q
parsed_or_misread text script (Argument at) p q = q
parsed_or_misread text script (Handler at) p q = q
parsed_or_misread text script (Template at fault) p q = q
parsed_or_misread text script (Lambda fault) p q = q
parsed_or_misread text script (Graph fault) p q = q
parsed_or_misread text script NoFrom p q = q
parsed_or_misread text script NoMemory p q = q

one_misreading : (text : List ℕ) (a b : ScriptFault) → IsMisread text a → IsMisread text b → a ≡ b
one_misreading text (NotUtf8 at) (NotUtf8 place) p q = ap NotUtf8 (one_place text at place p.1 q.1)
one_misreading text (NotUtf8 at) (Lex fault) p q = absurd (p.0 q.0)
one_misreading text (NotUtf8 at) (Parse fault) p q = absurd (p.0 q.0)
one_misreading text (Lex fault) (NotUtf8 at) p q = absurd (q.0 p.0)
one_misreading text (Lex fault) (Lex other) p q = ap Lex (texts.one_fault text fault other p.1 q.1)
one_misreading text (Lex fault) (Parse other) p q = absurd (texts.not_both text q.1.0 fault q.1.1 p.1)
one_misreading text (Parse fault) (NotUtf8 at) p q = absurd (q.0 p.0)
one_misreading text (Parse fault) (Lex other) p q = absurd (texts.not_both text p.1.0 other p.1.1 q.1)
one_misreading text (Parse fault) (Parse other) p q =
    ap Parse (faults.one_fault DEPTH_LIMIT OPERATOR_LIMIT STATEMENT_LIMIT p.1.0 fault other p.1.2 (subst (λ ts. IsRefused ts other) (texts.one_list text q.1.0 p.1.0 q.1.1 p.1.1) q.1.2))
one_misreading text a (Name fault) p q = absurd q
one_misreading text a (NoKind at) p q = absurd q
one_misreading text a (Property at) p q = absurd q
one_misreading text a (Argument at) p q = absurd q
one_misreading text a (Handler at) p q = absurd q
one_misreading text a (Template at fault) p q = absurd q
one_misreading text a (Lambda fault) p q = absurd q
one_misreading text a (Graph fault) p q = absurd q
one_misreading text a NoFrom p q = absurd q
one_misreading text a NoMemory p q = absurd q
one_misreading text (Name fault) b p q = absurd p
one_misreading text (NoKind at) b p q = absurd p
one_misreading text (Property at) b p q = absurd p
one_misreading text (Argument at) b p q = absurd p
one_misreading text (Handler at) b p q = absurd p
one_misreading text (Template at fault) b p q = absurd p
one_misreading text (Lambda fault) b p q = absurd p
one_misreading text (Graph fault) b p q = absurd p
one_misreading text NoFrom b p q = absurd p
one_misreading text NoMemory b p q = absurd p

pub one_fault : (refused : Option Refusal) (text : List ℕ) (a b : ScriptFault) → Refuses refused text a → Refuses refused text b → a ≡ b
one_fault refused text a b (inl p) (inl q) = one_misreading text a b p q
one_fault refused text a b (inl p) (inr q) = absurd (parsed_or_misread text q.script a q.parsed p)
one_fault refused text a b (inr p) (inl q) = absurd (parsed_or_misread text p.script b p.parsed q)
one_fault refused text a b (inr p) (inr q) =
    one_err a b (task_of refused p.script) p.is (ap (task_of refused) (same_script text p.script q.script p.parsed q.parsed) ∙ q.is)

pub apart : (refused : Option Refusal) (text : List ℕ) (task : Task) (fault : ScriptFault) → Accepts refused text task → Refuses refused text fault → ⊥
apart refused text task fault p (inl q) = parsed_or_misread text p.script fault p.parsed q
apart refused text task fault p (inr q) =
    ok_or_err task fault (task_of refused p.script) p.is (ap (task_of refused) (same_script text p.script q.script p.parsed q.parsed) ∙ q.is)

pub one_task : (refused : Option Refusal) (text : List ℕ) (a b : Task) → Accepts refused text a → Accepts refused text b → a ≡ b
one_task refused text a b p q =
    one_ok a b (task_of refused p.script) p.is (ap (task_of refused) (same_script text p.script q.script p.parsed q.parsed) ∙ q.is)

-- ---- a script's task or its first fault is its text's

pub tree_ok : (refused : Option Refusal) (text : List ℕ) (script : List StmtTree) (task : Task) → Parses text script → task_of refused script ≡ Ok task → Accepts refused text task
tree_ok refused text script task parsed is = record { script = script; parsed = parsed; is = is }

pub tree_err : (refused : Option Refusal) (text : List ℕ) (script : List StmtTree) (fault : ScriptFault) → Parses text script → task_of refused script ≡ Err fault → Refuses refused text fault
tree_err refused text script fault parsed is = inr (record { script = script; parsed = parsed; is = is })

-- ---- each text has an answer

abbrev Answered : Option Refusal → List ℕ → Type 0
Answered refused text = ((task : Task) × Accepts refused text task) ⊎ ((fault : ScriptFault) × Refuses refused text fault)

of_script : (refused : Option Refusal) (text : List ℕ) (script : List StmtTree) → Parses text script → (r : Result Task ScriptFault) → task_of refused script ≡ r → Answered refused text
of_script refused text script parsed (Ok task) is = inl (task, tree_ok refused text script task parsed is)
of_script refused text script parsed (Err fault) is = inr (fault, tree_err refused text script fault parsed is)

of_tokens : (refused : Option Refusal) (text : List ℕ) → IsUtf8 text → (tokens : List Token) → HasTokens text tokens
    → ((script : List StmtTree) × IsScriptOf tokens script) ⊎ ((fault : ParseFault) × IsRefused tokens fault) → Answered refused text
of_tokens refused text utf8 tokens has (inl read) =
    of_script refused text read.0 (record { tokens = tokens; utf8 = utf8; lexed = has; spelled = read.1 }) (task_of refused read.0) refl
of_tokens refused text utf8 tokens has (inr parse) = inr (Parse parse.0, inl (utf8, (tokens, has, parse.1)))

of_text : (refused : Option Refusal) (text : List ℕ) → IsUtf8 text → ((tokens : List Token) × HasTokens text tokens) ⊎ ((fault : LexFault) × HasFirstFault text fault) → Answered refused text
of_text refused text utf8 (inl lexed) =
    of_tokens refused text utf8 lexed.0 lexed.1 (elim (readings.either DEPTH_LIMIT OPERATOR_LIMIT STATEMENT_LIMIT lexed.0) [
      | inl read ↦ inl (read.0, (read.1, read.2))
      | inr parse ↦ inr parse
    ])
of_text refused text utf8 (inr fault) = inr (Lex fault.0, inl (utf8, fault.1))

of_bytes : (refused : Option Refusal) (text : List ℕ) (b : Bool) → is_utf8 text ≡ b → Answered refused text
of_bytes refused text true is = let utf8 = IsUtf8-from_is_utf8 text is in of_text refused text utf8 (texts.some_answer text)
of_bytes refused text false is =
    let refuted : ¬ (IsUtf8 text) = λ utf8. let w = sym is ∙ is_utf8-from_IsUtf8 text utf8 in absurd (cc) in
    inr (NotUtf8 (broken_at text), inl (refuted, breaks_there text refuted))

pub some_answer : (refused : Option Refusal) (text : List ℕ) → length text ≤ SCRIPT_LIMIT → Answered refused text
some_answer refused text short = of_bytes refused text (is_utf8 text) refl
