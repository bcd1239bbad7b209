-- Which tokens spell which statement.
--     block     = "{" { statement } "}"
--     statement = block | constant | variable | assign ";" | call ";" | if | while | for | return | print | ";"
--     assign    = place "=" expr
--     place     = qname { "[" expr "]" | "." NAME }
--     if        = "if" "(" expr ")" statement { "else" "if" "(" expr ")" statement } [ "else" statement ]
--     while     = "while" "(" expr ")" statement
--     for       = "for" "(" ( variable | assign ";" ) expr ";" assign ")" statement
--     return    = "return" [ expr ] ";"
--     print     = "print" "(" item { "," item } ")" ";"
--     item      = TEXT | expr
-- A fact says that a form of a nesting stands from one place of the tokens up to another. A list goes on as long as it
-- can,
-- so an `else` belongs to the nearest `if` that can take it.
use Rattle.std.specs.Prelude.{◌≡◌, ◌≢◌, ℕ, ◌+◌, List, [], ◌∷◌, Option, Some, None}
use Rattle.ctl_tree.specs.declared.keyword.Keyword.TheVariants.{If as IfWord, Else, While as WhileWord, For as ForWord, Return as ReturnWord, Print as PrintWord}
use Rattle.ctl_tree.specs.declared.sign.Sign.TheVariants.{OpenRound, CloseRound, OpenCurly, CloseCurly, Comma, Semicolon, Assign}
use Rattle.ctl_tree.specs.declared.token.TokenKind.TheVariants.{Text as TextToken}
use Rattle.ctl_tree.specs.declared.expression.QualifiedName.{QualifiedName}
use Rattle.ctl_tree.specs.declared.expression.Expr.{Expr}
use Rattle.ctl_tree.specs.declared.expression.Call.{Call}
use Rattle.ctl_tree.specs.declared.expression.Step.{Step}
use Rattle.ctl_tree.specs.declared.declaration.Constant.{Constant}
use Rattle.ctl_tree.specs.declared.declaration.Variable.{Variable}
use Rattle.ctl_tree.specs.declared.statement.Assignment.{Assignment}
use Rattle.ctl_tree.specs.declared.statement.PrintItem.{PrintItem}
use Rattle.ctl_tree.specs.declared.statement.PrintItem.TheVariants.{Text, Expr as ExprItem}
use Rattle.ctl_tree.specs.declared.statement.ForStart.{ForStart}
use Rattle.ctl_tree.specs.declared.statement.ForStart.TheVariants.{Variable as VariableStart, Assignment as AssignmentStart}
use Rattle.ctl_tree.specs.declared.statement.Statement.{Statement}
use Rattle.ctl_tree.specs.declared.statement.Statement.TheVariants.{Block as BlockForm, Constant as ConstantForm, Variable as VariableForm, Assignment as AssignmentForm, Call as CallForm, If, While, For, Return, Print, Empty}
use Rattle.ctl_tree.specs.declared.statement.Block.{Block, roll-Block}
use Rattle.ctl_tree.specs.declared.statement.Arm.{Arm, roll-Arm}
use Rattle.ctl_tree.specs.declared.statement.If.{roll-If}
use Rattle.ctl_tree.specs.declared.statement.While.{roll-While}
use Rattle.ctl_tree.specs.declared.statement.For.{roll-For}
use Rattle.ctl_tree.specs.Lexemes.{Lexeme, kind_at, bytes_at, SeesSign, LacksSign, SeesWord, LacksWord, Within}
use Rattle.ctl_tree.specs.Names.{IsQualifiedName}
use Rattle.ctl_tree.specs.Expressions.{IsExpr, IsCall, AreSteps}
use Rattle.ctl_tree.specs.Declarations.{IsConstant, IsVariable}
use Rattle.ctl_tree.specs.Texts.{unquoted}

-- place "=" expr: the indices of the place have the first nesting around them, the value has the second
pub data IsAssignment (lexemes : List Lexeme) (limit : Option ℕ) : ℕ → ℕ → ℕ → Assignment → ℕ → Type 0 where
  assignment : {n inner i j : ℕ} {root : QualifiedName} {steps : List Step} {e : Expr} (k m : ℕ)
      → IsQualifiedName lexemes i root k → AreSteps lexemes limit n k steps m → SeesSign lexemes m Assign → IsExpr lexemes limit inner (m + 1) e j
      → IsAssignment lexemes limit n inner i (record { place = record { root = root; steps = steps }; value = e; token = m }) j

-- TEXT | expr: an expression is nested one deeper than its `print`
pub data IsItem (lexemes : List Lexeme) (limit : Option ℕ) : ℕ → ℕ → PrintItem → ℕ → Type 0 where
  text_item : {n i j : ℕ} → kind_at lexemes i ≡ Some TextToken → j ≡ i + 1
      → IsItem lexemes limit n i (Text (record { text = unquoted (bytes_at lexemes i); token = i })) j
  expr_item : {n i j : ℕ} {e : Expr} → kind_at lexemes i ≢ Some TextToken → Within limit (n + 1) → IsExpr lexemes limit (n + 1) i e j
      → IsItem lexemes limit n i (ExprItem e) j

-- { "," item } ")" ";"
pub data AreMoreItems (lexemes : List Lexeme) (limit : Option ℕ) : ℕ → ℕ → List PrintItem → ℕ → Type 0 where
  items_end : {n i j : ℕ} → SeesSign lexemes i CloseRound → SeesSign lexemes (i + 1) Semicolon → j ≡ i + 2 → AreMoreItems lexemes limit n i [] j
  more_items : {n i j : ℕ} {item : PrintItem} {items : List PrintItem} (k : ℕ) → SeesSign lexemes i Comma → IsItem lexemes limit n (i + 1) item k
      → AreMoreItems lexemes limit n k items j → AreMoreItems lexemes limit n i (item ∷ items) j

-- variable | assign ";": in the head of a `for`, where each expression is nested one deeper than the `for`, and the
-- variable or assignment itself is not
pub data IsForStart (lexemes : List Lexeme) (limit : Option ℕ) : ℕ → ℕ → ForStart → ℕ → Type 0 where
  variable_start : {n i j : ℕ} {variable : Variable} → IsVariable lexemes limit n (n + 1) i variable j → IsForStart lexemes limit n i (VariableStart variable) j
  assignment_start : {n i j : ℕ} {assignment : Assignment} (k : ℕ) → IsAssignment lexemes limit n (n + 1) i assignment k → SeesSign lexemes k Semicolon → j ≡ k + 1
      → IsForStart lexemes limit n i (AssignmentStart assignment) j

mutual
  pub data IsStatement (lexemes : List Lexeme) (limit : Option ℕ) : ℕ → ℕ → Statement → ℕ → Type 0 where
    block_statement : {n i j : ℕ} {block : Block} → IsBlock lexemes limit n i block j → IsStatement lexemes limit n i (BlockForm block) j
    constant_statement : {n i j : ℕ} {constant : Constant} → IsConstant lexemes limit n i constant j → IsStatement lexemes limit n i (ConstantForm constant) j
    variable_statement : {n i j : ℕ} {variable : Variable} → IsVariable lexemes limit n n i variable j → IsStatement lexemes limit n i (VariableForm variable) j
    assignment_statement : {n i j : ℕ} {assignment : Assignment} (k : ℕ) → IsAssignment lexemes limit n n i assignment k → SeesSign lexemes k Semicolon → j ≡ k + 1
        → IsStatement lexemes limit n i (AssignmentForm assignment) j
    call_statement : {n i j : ℕ} {call : Call} (k : ℕ) → IsCall lexemes limit n i call k → SeesSign lexemes k Semicolon → j ≡ k + 1
        → IsStatement lexemes limit n i (CallForm call) j
    -- "if" "(" expr ")" statement { "else" "if" "(" expr ")" statement } [ "else" statement ]
    if_statement : {n i j : ℕ} {first : Arm} {arms : List Arm} {otherwise : Option Statement} (k : ℕ) → SeesWord lexemes i IfWord
        → IsArm lexemes limit n (i + 1) first k → AreElses lexemes limit n k arms otherwise j
        → IsStatement lexemes limit n i (If (roll-If (record { arms = first ∷ arms; otherwise = otherwise; token = i }))) j
    -- "while" "(" expr ")" statement
    while_statement : {n i j : ℕ} {test : Expr} {body : Statement} → SeesWord lexemes i WhileWord
        → IsArm lexemes limit n (i + 1) (roll-Arm (record { test = test; body = body })) j
        → IsStatement lexemes limit n i (While (roll-While (record { test = test; body = body; token = i }))) j
    -- "for" "(" ( variable | assign ";" ) expr ";" assign ")" statement
    for_statement : {n i j : ℕ} {start : ForStart} {test : Expr} {next : Assignment} {body : Statement} (k m p : ℕ) → SeesWord lexemes i ForWord
        → SeesSign lexemes (i + 1) OpenRound → Within limit (n + 1) → IsForStart lexemes limit n (i + 2) start k
        → IsExpr lexemes limit (n + 1) k test m → SeesSign lexemes m Semicolon → IsAssignment lexemes limit n (n + 1) (m + 1) next p
        → SeesSign lexemes p CloseRound → IsStatement lexemes limit (n + 1) (p + 1) body j
        → IsStatement lexemes limit n i (For (roll-For (record { start = start; test = test; next = next; body = body; token = i }))) j
    -- "return" [ expr ] ";"
    return_nothing : {n i j : ℕ} → SeesWord lexemes i ReturnWord → SeesSign lexemes (i + 1) Semicolon → j ≡ i + 2
        → IsStatement lexemes limit n i (Return (record { value = None; token = i })) j
    return_value : {n i j : ℕ} {e : Expr} (k : ℕ) → SeesWord lexemes i ReturnWord → LacksSign lexemes (i + 1) Semicolon
        → IsExpr lexemes limit n (i + 1) e k → SeesSign lexemes k Semicolon → j ≡ k + 1
        → IsStatement lexemes limit n i (Return (record { value = Some e; token = i })) j
    -- "print" "(" item { "," item } ")" ";"
    print_statement : {n i j : ℕ} {item : PrintItem} {items : List PrintItem} (k : ℕ) → SeesWord lexemes i PrintWord → SeesSign lexemes (i + 1) OpenRound
        → IsItem lexemes limit n (i + 2) item k → AreMoreItems lexemes limit n k items j
        → IsStatement lexemes limit n i (Print (record { items = item ∷ items; token = i })) j
    -- ";"
    empty_statement : {n i j : ℕ} → SeesSign lexemes i Semicolon → j ≡ i + 1 → IsStatement lexemes limit n i (Empty (record { token = i })) j

  -- "{" { statement } "}"
  pub data IsBlock (lexemes : List Lexeme) (limit : Option ℕ) : ℕ → ℕ → Block → ℕ → Type 0 where
    block : {n i j : ℕ} {statements : List Statement} → SeesSign lexemes i OpenCurly → AreStatements lexemes limit n (i + 1) statements j
        → IsBlock lexemes limit n i (roll-Block (record { statements = statements; token = i })) j

  -- { statement } "}": a statement is nested one deeper than its block
  pub data AreStatements (lexemes : List Lexeme) (limit : Option ℕ) : ℕ → ℕ → List Statement → ℕ → Type 0 where
    statements_end : {n i j : ℕ} → SeesSign lexemes i CloseCurly → j ≡ i + 1 → AreStatements lexemes limit n i [] j
    statements : {n i j : ℕ} {statement : Statement} {more : List Statement} (k : ℕ) → LacksSign lexemes i CloseCurly → Within limit (n + 1)
        → IsStatement lexemes limit (n + 1) i statement k → AreStatements lexemes limit n k more j → AreStatements lexemes limit n i (statement ∷ more) j

  -- "(" expr ")" statement: the test and the body are nested one deeper than the `if` or `while`
  pub data IsArm (lexemes : List Lexeme) (limit : Option ℕ) : ℕ → ℕ → Arm → ℕ → Type 0 where
    arm : {n i j : ℕ} {test : Expr} {body : Statement} (k : ℕ) → SeesSign lexemes i OpenRound → Within limit (n + 1)
        → IsExpr lexemes limit (n + 1) (i + 1) test k → SeesSign lexemes k CloseRound → IsStatement lexemes limit (n + 1) (k + 1) body j
        → IsArm lexemes limit n i (roll-Arm (record { test = test; body = body })) j

  -- { "else" "if" "(" expr ")" statement } [ "else" statement ]: an `if` after an `else` begins a further arm
  pub data AreElses (lexemes : List Lexeme) (limit : Option ℕ) : ℕ → ℕ → List Arm → Option Statement → ℕ → Type 0 where
    no_else : {n i j : ℕ} → LacksWord lexemes i Else → j ≡ i → AreElses lexemes limit n i [] None j
    last_else : {n i j : ℕ} {statement : Statement} → SeesWord lexemes i Else → LacksWord lexemes (i + 1) IfWord → Within limit (n + 1)
        → IsStatement lexemes limit (n + 1) (i + 1) statement j → AreElses lexemes limit n i [] (Some statement) j
    more_arms : {n i j : ℕ} {first : Arm} {arms : List Arm} {otherwise : Option Statement} (k : ℕ) → SeesWord lexemes i Else → SeesWord lexemes (i + 1) IfWord
        → IsArm lexemes limit n (i + 2) first k → AreElses lexemes limit n k arms otherwise j → AreElses lexemes limit n i (first ∷ arms) otherwise j
