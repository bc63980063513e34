-- Words on results that the definitions and contracts of many crates are written in.
use Rattle.std.specs.Prelude.{◌≡◌, ◌≢◌, ℕ, ◌+◌, ◌-◌, ◌^◌, ◌≤◌, min, Result, Ok, Err}

infixl 10 ◌>>=◌
-- what follows a step that succeeds; the first fault ends the chain
abbrev pub ◌>>=◌ : {A B E : Type 0} → Result A E → (A → Result B E) → Result B E
(Ok x) >>= f = f x
(Err e) >>= f = Err e

-- The answer is what the definition gives, its value or its fault, unless memory ran out: `no_memory` is
-- the fault that says so.
abbrev pub Answers : {A E : Type 0} → E → Result A E → Result A E → Type 0
Answers no_memory (Ok x) due = due ≡ Ok x
Answers no_memory (Err e) due = e ≢ no_memory → due ≡ Err e

-- the count rose, or stands at the end of its type
abbrev pub HasRisen : ℕ → ℕ → Type 0
HasRisen before now = min (before + 1) (2 ^ 64 - 1) ≤ now
