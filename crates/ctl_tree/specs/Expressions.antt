-- Which tokens spell which expression.
--     expr    = a chain over the ten levels
--     unary   = { "-" | "+" | "!" | "~" } postfix
--     postfix = primary { "[" expr "]" | "." NAME }
--     primary = WHOLE | POINT | HALF | "true" | "false" | qname | call | "(" expr ")"
--     call    = qname "(" [ expr { "," expr } ] ")"
-- The levels from loosest to tightest: ||   &&   |   ^   &   == !=   < <= > >=   << >>   + -   * / %
-- A fact says that a form of a nesting stands from one place of the tokens up to another. A list goes on as long as it
-- can.
use Rattle.std.specs.Prelude.{◌≡◌, ◌≢◌, ℕ, ◌+◌, ◌<◌, List, [], ◌∷◌, Option, Some, None, fold}
use Rattle.ctl_tree.specs.declared.sign.Sign.TheVariants.{OpenRound, CloseRound, OpenSquare, CloseSquare, Comma, Dot}
use Rattle.ctl_tree.specs.declared.expression.LiteralValue.{LiteralValue}
use Rattle.ctl_tree.specs.declared.expression.UnaryOperator.{UnaryOperator}
use Rattle.ctl_tree.specs.declared.expression.Operator.{Operator}
use Rattle.ctl_tree.specs.declared.expression.QualifiedName.{QualifiedName}
use Rattle.ctl_tree.specs.declared.expression.Expr.{Expr}
use Rattle.ctl_tree.specs.declared.expression.Expr.TheVariants.{Literal, Name, Call as CallForm, Path, Unary, Chain}
use Rattle.ctl_tree.specs.declared.expression.Path.{roll-Path}
use Rattle.ctl_tree.specs.declared.expression.Unary.{roll-Unary}
use Rattle.ctl_tree.specs.declared.expression.Chain.{roll-Chain}
use Rattle.ctl_tree.specs.declared.expression.Index.{roll-Index}
use Rattle.ctl_tree.specs.declared.expression.Call.{Call, roll-Call}
use Rattle.ctl_tree.specs.declared.expression.Link.{Link, roll-Link, out-Link}
use Rattle.ctl_tree.specs.declared.expression.Step.{Step}
use Rattle.ctl_tree.specs.declared.expression.Step.TheVariants.{Index, Field}
use Rattle.ctl_tree.specs.Lexemes.{Lexeme, kind_at, SeesSign, LacksSign, SeesName, Within}
use Rattle.ctl_tree.specs.Names.{IsQualifiedName, literal_of, unary_operator_of, operator_levels, operator_of}

-- the own token of the last link
abbrev pub last_operator : List Link → ℕ
last_operator = fold (λ before (link : Link). (out-Link link).token) 0

mutual
  -- an operand at a level: a chain of that level, or an operand of the next tighter one. Tighter than all is a unary
  -- form
  pub data IsOperand (lexemes : List Lexeme) (limit : Option ℕ) : ℕ → ℕ → ℕ → Expr → ℕ → Type 0 where
    linked : {level n i j : ℕ} {first : Expr} {links : List Link} (k : ℕ) → level < operator_levels
        → IsOperand lexemes limit (level + 1) n i first k → AreLinks lexemes limit level n k links j → links ≢ []
        → IsOperand lexemes limit level n i (Chain (roll-Chain (record { first = first; links = links; token = last_operator links }))) j
    alone : {level n i j : ℕ} {e : Expr} → level < operator_levels
        → IsOperand lexemes limit (level + 1) n i e j → operator_of level (kind_at lexemes j) ≡ None → IsOperand lexemes limit level n i e j
    tightest : {level n i j : ℕ} {e : Expr} → level ≡ operator_levels → IsUnary lexemes limit n i e j → IsOperand lexemes limit level n i e j

  -- operators of a level, each with an operand of the next tighter one
  pub data AreLinks (lexemes : List Lexeme) (limit : Option ℕ) : ℕ → ℕ → ℕ → List Link → ℕ → Type 0 where
    no_link : {level n i j : ℕ} → operator_of level (kind_at lexemes i) ≡ None → j ≡ i → AreLinks lexemes limit level n i [] j
    more_links : {level n i j : ℕ} {operator : Operator} {e : Expr} {links : List Link} (k : ℕ) → operator_of level (kind_at lexemes i) ≡ Some operator
        → IsOperand lexemes limit (level + 1) n (i + 1) e k → AreLinks lexemes limit level n k links j
        → AreLinks lexemes limit level n i (roll-Link (record { operator = operator; operand = e; token = i }) ∷ links) j

  -- { "-" | "+" | "!" | "~" } postfix: the operand is nested one deeper
  pub data IsUnary (lexemes : List Lexeme) (limit : Option ℕ) : ℕ → ℕ → Expr → ℕ → Type 0 where
    operated : {n i j : ℕ} {operator : UnaryOperator} {e : Expr} → unary_operator_of (kind_at lexemes i) ≡ Some operator → Within limit (n + 1)
        → IsUnary lexemes limit (n + 1) (i + 1) e j → IsUnary lexemes limit n i (Unary (roll-Unary (record { operator = operator; operand = e; token = i }))) j
    plain : {n i j : ℕ} {e : Expr} → unary_operator_of (kind_at lexemes i) ≡ None → IsPostfix lexemes limit n i e j → IsUnary lexemes limit n i e j

  -- primary { "[" expr "]" | "." NAME }
  pub data IsPostfix (lexemes : List Lexeme) (limit : Option ℕ) : ℕ → ℕ → Expr → ℕ → Type 0 where
    stepped : {n i j : ℕ} {root : Expr} {steps : List Step} (k : ℕ) → IsPrimary lexemes limit n i root k → AreSteps lexemes limit n k steps j → steps ≢ []
        → IsPostfix lexemes limit n i (Path (roll-Path (record { root = root; steps = steps }))) j
    bare : {n i j : ℕ} {e : Expr} → IsPrimary lexemes limit n i e j → AreSteps lexemes limit n j [] j → IsPostfix lexemes limit n i e j

  -- { "[" expr "]" | "." NAME }: an index is nested one deeper
  pub data AreSteps (lexemes : List Lexeme) (limit : Option ℕ) : ℕ → ℕ → List Step → ℕ → Type 0 where
    no_step : {n i j : ℕ} → LacksSign lexemes i OpenSquare → LacksSign lexemes i Dot → j ≡ i → AreSteps lexemes limit n i [] j
    index_step : {n i j : ℕ} {e : Expr} {steps : List Step} (k : ℕ) → SeesSign lexemes i OpenSquare → Within limit (n + 1)
        → IsOperand lexemes limit 0 (n + 1) (i + 1) e k → SeesSign lexemes k CloseSquare → AreSteps lexemes limit n (k + 1) steps j
        → AreSteps lexemes limit n i (Index (roll-Index (record { index = e; token = i })) ∷ steps) j
    field_step : {n i j : ℕ} {name : List ℕ} {steps : List Step} → SeesSign lexemes i Dot → SeesName lexemes (i + 1) name
        → AreSteps lexemes limit n (i + 2) steps j → AreSteps lexemes limit n i (Field (record { name = name; token = i + 1 }) ∷ steps) j

  -- WHOLE | POINT | HALF | "true" | "false" | qname | call | "(" expr ")": what stands in brackets is nested one deeper
  pub data IsPrimary (lexemes : List Lexeme) (limit : Option ℕ) : ℕ → ℕ → Expr → ℕ → Type 0 where
    literal : {n i j : ℕ} {value : LiteralValue} → literal_of (kind_at lexemes i) ≡ Some value → j ≡ i + 1
        → IsPrimary lexemes limit n i (Literal (record { value = value; token = i })) j
    named : {n i j : ℕ} {name : QualifiedName} → IsQualifiedName lexemes i name j → LacksSign lexemes j OpenRound → IsPrimary lexemes limit n i (Name name) j
    called : {n i j : ℕ} {call : Call} → IsCall lexemes limit n i call j → IsPrimary lexemes limit n i (CallForm call) j
    bracketed : {n i j : ℕ} {e : Expr} (k : ℕ) → SeesSign lexemes i OpenRound → Within limit (n + 1)
        → IsOperand lexemes limit 0 (n + 1) (i + 1) e k → SeesSign lexemes k CloseRound → j ≡ k + 1 → IsPrimary lexemes limit n i e j

  -- qname "(" [ expr { "," expr } ] ")": an argument is nested one deeper
  pub data IsCall (lexemes : List Lexeme) (limit : Option ℕ) : ℕ → ℕ → Call → ℕ → Type 0 where
    call_of : {n i j : ℕ} {name : QualifiedName} {arguments : List Expr} (k : ℕ) → IsQualifiedName lexemes i name k → SeesSign lexemes k OpenRound
        → AreArguments lexemes limit n (k + 1) arguments j → IsCall lexemes limit n i (roll-Call (record { name = name; arguments = arguments; token = k })) j

  -- [ expr { "," expr } ] ")"
  pub data AreArguments (lexemes : List Lexeme) (limit : Option ℕ) : ℕ → ℕ → List Expr → ℕ → Type 0 where
    no_argument : {n i j : ℕ} → SeesSign lexemes i CloseRound → j ≡ i + 1 → AreArguments lexemes limit n i [] j
    arguments : {n i j : ℕ} {e : Expr} {es : List Expr} (k : ℕ) → Within limit (n + 1) → IsOperand lexemes limit 0 (n + 1) i e k
        → AreMoreArguments lexemes limit n k es j → AreArguments lexemes limit n i (e ∷ es) j

  -- { "," expr } ")"
  pub data AreMoreArguments (lexemes : List Lexeme) (limit : Option ℕ) : ℕ → ℕ → List Expr → ℕ → Type 0 where
    arguments_end : {n i j : ℕ} → SeesSign lexemes i CloseRound → j ≡ i + 1 → AreMoreArguments lexemes limit n i [] j
    more_arguments : {n i j : ℕ} {e : Expr} {es : List Expr} (k : ℕ) → SeesSign lexemes i Comma → Within limit (n + 1)
        → IsOperand lexemes limit 0 (n + 1) (i + 1) e k → AreMoreArguments lexemes limit n k es j → AreMoreArguments lexemes limit n i (e ∷ es) j

-- an expression of a nesting: an operand of the loosest level
abbrev pub IsExpr : List Lexeme → Option ℕ → ℕ → ℕ → Expr → ℕ → Type 0
IsExpr lexemes limit n i e j = IsOperand lexemes limit 0 n i e j
