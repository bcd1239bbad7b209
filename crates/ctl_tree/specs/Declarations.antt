-- Which tokens spell which size, initialiser, constant and variable.
--     constant = "const" shape NAME { "[" [ expr ] "]" } "=" init ";"
--     variable = shape NAME { "[" [ expr ] "]" } [ "=" init ] ";"
--     init     = expr | "{" init { "," init } "}"
-- A fact says that a form of a nesting stands from one place of the tokens up to another. A list goes on as long as it
-- can.
use Rattle.std.specs.Prelude.{◌≡◌, ℕ, ◌+◌, List, [], ◌∷◌, Option, Some, None}
use Rattle.ctl_tree.specs.declared.keyword.Keyword.TheVariants.{Const}
use Rattle.ctl_tree.specs.declared.sign.Sign.TheVariants.{OpenSquare, CloseSquare, OpenCurly, CloseCurly, Comma, Semicolon, Assign}
use Rattle.ctl_tree.specs.declared.expression.Expr.{Expr}
use Rattle.ctl_tree.specs.declared.declaration.ShapeName.{ShapeName}
use Rattle.ctl_tree.specs.declared.declaration.ArraySize.{ArraySize}
use Rattle.ctl_tree.specs.declared.declaration.Initialiser.{Initialiser}
use Rattle.ctl_tree.specs.declared.declaration.Initialiser.TheVariants.{Expr as ExprForm, List as ListForm}
use Rattle.ctl_tree.specs.declared.declaration.BraceList.{roll-BraceList}
use Rattle.ctl_tree.specs.declared.declaration.Constant.{Constant}
use Rattle.ctl_tree.specs.declared.declaration.Variable.{Variable}
use Rattle.ctl_tree.specs.Lexemes.{Lexeme, SeesSign, LacksSign, SeesWord, SeesName, Within}
use Rattle.ctl_tree.specs.Names.{IsShape}
use Rattle.ctl_tree.specs.Expressions.{IsExpr}

-- { "[" expr "]" }: each size is stated, and what stands in brackets is nested one deeper
pub data AreSizes (lexemes : List Lexeme) (limit : Option ℕ) : ℕ → ℕ → List ArraySize → ℕ → Type 0 where
  no_size : {n i j : ℕ} → LacksSign lexemes i OpenSquare → j ≡ i → AreSizes lexemes limit n i [] j
  sizes : {n i j : ℕ} {e : Expr} {more : List ArraySize} (k : ℕ) → SeesSign lexemes i OpenSquare → Within limit (n + 1)
      → IsExpr lexemes limit (n + 1) (i + 1) e k → SeesSign lexemes k CloseSquare → AreSizes lexemes limit n (k + 1) more j
      → AreSizes lexemes limit n i (record { size = Some e; token = i } ∷ more) j

-- { "[" [ expr ] "]" }
pub data AreArraySizes (lexemes : List Lexeme) (limit : Option ℕ) : ℕ → ℕ → List ArraySize → ℕ → Type 0 where
  no_array_size : {n i j : ℕ} → LacksSign lexemes i OpenSquare → j ≡ i → AreArraySizes lexemes limit n i [] j
  open_size : {n i j : ℕ} {more : List ArraySize} → SeesSign lexemes i OpenSquare → SeesSign lexemes (i + 1) CloseSquare
      → AreArraySizes lexemes limit n (i + 2) more j → AreArraySizes lexemes limit n i (record { size = None; token = i } ∷ more) j
  stated_size : {n i j : ℕ} {e : Expr} {more : List ArraySize} (k : ℕ) → SeesSign lexemes i OpenSquare → Within limit (n + 1)
      → IsExpr lexemes limit (n + 1) (i + 1) e k → SeesSign lexemes k CloseSquare → AreArraySizes lexemes limit n (k + 1) more j
      → AreArraySizes lexemes limit n i (record { size = Some e; token = i } ∷ more) j

mutual
  -- expr | "{" init { "," init } "}". A brace list has the first nesting, an expression in its place the second, and an
  -- element of a list is nested one deeper than the list
  pub data IsInitialiser (lexemes : List Lexeme) (limit : Option ℕ) : ℕ → ℕ → ℕ → Initialiser → ℕ → Type 0 where
    one : {n inner i j : ℕ} {e : Expr} → LacksSign lexemes i OpenCurly → IsExpr lexemes limit inner i e j → IsInitialiser lexemes limit n inner i (ExprForm e) j
    brace_list : {n inner i j : ℕ} {first : Initialiser} {more : List Initialiser} (k : ℕ) → SeesSign lexemes i OpenCurly → Within limit (n + 1)
        → IsInitialiser lexemes limit (n + 1) (n + 1) (i + 1) first k → AreMoreElements lexemes limit n k more j
        → IsInitialiser lexemes limit n inner i (ListForm (roll-BraceList (record { elements = first ∷ more; token = i }))) j

  -- { "," init } "}"
  pub data AreMoreElements (lexemes : List Lexeme) (limit : Option ℕ) : ℕ → ℕ → List Initialiser → ℕ → Type 0 where
    elements_end : {n i j : ℕ} → SeesSign lexemes i CloseCurly → j ≡ i + 1 → AreMoreElements lexemes limit n i [] j
    more_elements : {n i j : ℕ} {element : Initialiser} {more : List Initialiser} (k : ℕ) → SeesSign lexemes i Comma
        → IsInitialiser lexemes limit (n + 1) (n + 1) (i + 1) element k → AreMoreElements lexemes limit n k more j
        → AreMoreElements lexemes limit n i (element ∷ more) j

-- [ "=" init ]
pub data IsValue (lexemes : List Lexeme) (limit : Option ℕ) : ℕ → ℕ → ℕ → Option Initialiser → ℕ → Type 0 where
  no_value : {n inner i j : ℕ} → LacksSign lexemes i Assign → j ≡ i → IsValue lexemes limit n inner i None j
  value : {n inner i j : ℕ} {value : Initialiser} → SeesSign lexemes i Assign → IsInitialiser lexemes limit n inner (i + 1) value j
      → IsValue lexemes limit n inner i (Some value) j

-- "const" shape NAME { "[" [ expr ] "]" } "=" init ";"
pub data IsConstant (lexemes : List Lexeme) (limit : Option ℕ) : ℕ → ℕ → Constant → ℕ → Type 0 where
  constant : {n i j : ℕ} {shape : ShapeName} {name : List ℕ} {sizes : List ArraySize} {value : Initialiser} (k m p : ℕ)
      → SeesWord lexemes i Const → IsShape lexemes (i + 1) shape k → SeesName lexemes k name → AreArraySizes lexemes limit n (k + 1) sizes m
      → SeesSign lexemes m Assign → IsInitialiser lexemes limit n n (m + 1) value p → SeesSign lexemes p Semicolon → j ≡ p + 1
      → IsConstant lexemes limit n i (record { shape = shape; name = name; sizes = sizes; value = value; token = k }) j

-- shape NAME { "[" [ expr ] "]" } [ "=" init ] ";": in the head of a `for` an expression for its value is nested one
-- deeper, the second nesting
pub data IsVariable (lexemes : List Lexeme) (limit : Option ℕ) : ℕ → ℕ → ℕ → Variable → ℕ → Type 0 where
  variable : {n inner i j : ℕ} {shape : ShapeName} {name : List ℕ} {sizes : List ArraySize} {value : Option Initialiser} (k m p : ℕ)
      → IsShape lexemes i shape k → SeesName lexemes k name → AreArraySizes lexemes limit n (k + 1) sizes m
      → IsValue lexemes limit n inner m value p → SeesSign lexemes p Semicolon → j ≡ p + 1
      → IsVariable lexemes limit n inner i (record { shape = shape; name = name; sizes = sizes; value = value; token = k }) j
