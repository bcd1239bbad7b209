-- What a function that reads a form answers: the form and the place after it, or a fault; and that the machine, which keeps no form, comes to the same end.
use Rattle.std.specs.Prelude.{◌≡◌, ℕ, ◌<◌, ◌≤◌, List, ◌++◌, length, Option, Some, Result, Ok, Err, IfOk}
use Rattle.ctl_base.specs.declared.limits.TheConstants.{NESTING, TEXT_BYTES}
use Rattle.ctl_tree.specs.Lexemes.{Lexeme}
use Rattle.grammar_machine.specs.Machine.{Symbol, Reaches, StopsAt, SinksAt}
use Rattle.ctl_parser_expr.specs.declared.fault.Fault.{Fault}
use Rattle.ctl_parser_expr.specs.declared.fault.Fault.TheVariants.{NotHere, Depth, Memory}

-- where a way of the machine ends: at a place with a stack, or in a fault
pub data End : Type 0 where
  At : List Symbol → ℕ → End
  In : Fault → End

-- from a stack at a place the machine gets to this end: to the place with the stack, or it has to stop or sinks at the place of the fault. Nothing is said where memory is wanting
abbrev pub Goes : List Lexeme → Option ℕ → List Symbol → ℕ → End → Type 0
Goes lexemes limit stack i (At stack' j) = Reaches lexemes limit stack i stack' j
Goes lexemes limit stack i (In (NotHere place)) = StopsAt lexemes limit stack i place
Goes lexemes limit stack i (In (Depth place)) = SinksAt lexemes limit stack i place
Goes lexemes limit stack i (In Memory) = Unit {0}

pub record Comes (lexemes : List Lexeme) (limit : Option ℕ) (stack : List Symbol) (i : ℕ) (end : End) : Type 0 where
  pub goes : Goes lexemes limit stack i end

-- with these symbols the machine runs into a fault, whatever stands below them
abbrev pub Fails : List Lexeme → List Symbol → ℕ → Fault → Type 0
Fails lexemes symbols i fault = (below : List Symbol) → Comes lexemes (Some NESTING) (symbols ++ below) i (In fault)

-- at a place the next nesting is too deep
abbrev pub IsTooDeepAt : ℕ → ℕ → Fault → Type 0
IsTooDeepAt n i fault = (fault ≡ Depth i) × (n ≡ NESTING)

-- the end that an answer tells: at the place after the form, with what stood below, or in the fault
abbrev pub end_of : {A : Type 0} → List Symbol → Result (A × ℕ) Fault → End
end_of below (Ok r) = At below r.1
end_of below (Err fault) = In fault

-- a form ends after a place, within the tokens
abbrev pub IsBetween : ℕ → ℕ → List Lexeme → Type 0
IsBetween i j lexemes = (i < j) × (j ≤ length lexemes) × (length lexemes ≤ TEXT_BYTES)

-- a list that may be empty ends at a place or after it, within the tokens
abbrev pub IsFrom : ℕ → ℕ → List Lexeme → Type 0
IsFrom i j lexemes = (i ≤ j) × (j ≤ length lexemes) × (length lexemes ≤ TEXT_BYTES)

-- a form is read from a place to another, or a fault is told: with the symbols of the form the machine comes to the same end, whatever stands below
pub record Answers {A : Type 0} (ends : ℕ → ℕ → List Lexeme → Type 0) (lexemes : List Lexeme) (form : A → ℕ → Type 0) (symbols : List Symbol) (i : ℕ) (result : Result (A × ℕ) Fault) : Type 0 where
  pub reads : IfOk result (λ r. form r.0 r.1 × ends i r.1 lexemes)
  pub follows : (below : List Symbol) → Comes lexemes (Some NESTING) (symbols ++ below) i (end_of below result)

-- a form of at least one token
abbrev pub Parses : {A : Type 0} → List Lexeme → (A → ℕ → Type 0) → List Symbol → ℕ → Result (A × ℕ) Fault → Type 0
Parses lexemes form symbols i result = Answers IsBetween lexemes form symbols i result

-- a form that may have no token
abbrev pub ParsesAny : {A : Type 0} → List Lexeme → (A → ℕ → Type 0) → List Symbol → ℕ → Result (A × ℕ) Fault → Type 0
ParsesAny lexemes form symbols i result = Answers IsFrom lexemes form symbols i result
