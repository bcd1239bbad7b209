-- Names, literals, operators and shapes: forms that hold no expression.
--     qname = [ "::" ] NAME { "::" NAME }
--     shape = "bool" | "int" | "unsigned" [ "int" ] | "half" | "float" | qname
-- A fact says that a form stands from one place of the tokens up to another. A list goes on as long as it can.
use Rattle.std.specs.Prelude.{◌≡◌, ℕ, ◌+◌, ◌-◌, List, [], ◌∷◌, true, false, Option, Some, None, cond, ◌==◌}
use Rattle.ctl_tree.specs.declared.keyword.Keyword.{Keyword}
use Rattle.ctl_tree.specs.declared.keyword.Keyword.TheVariants.{Bool as BoolWord, Int as IntWord, Unsigned as UnsignedWord, Half as HalfWord, Float as FloatWord, True as TrueWord, False as FalseWord}
use Rattle.ctl_tree.specs.declared.sign.Sign.{Sign}
use Rattle.ctl_tree.specs.declared.sign.Sign.TheVariants.{Plus as PlusSign, Minus as MinusSign, Star, Slash, Percent, Ampersand, Bar, Caret, Tilde, ShiftLeft as ShiftLeftSign, ShiftRight as ShiftRightSign, AndAnd, OrOr, Exclamation, EqualTo, NotEqualTo, LessThan, AtMost as AtMostSign, GreaterThan, AtLeast as AtLeastSign, ColonColon}
use Rattle.ctl_tree.specs.declared.token.TokenKind.{TokenKind}
use Rattle.ctl_tree.specs.declared.token.TokenKind.TheVariants.{Word, Whole as WholeToken, Point as PointToken, HalfPoint as HalfPointToken, Sign as SignKind}
use Rattle.ctl_tree.specs.declared.expression.LiteralValue.{LiteralValue}
use Rattle.ctl_tree.specs.declared.expression.LiteralValue.TheVariants.{Whole, Point, HalfPoint, Truth}
use Rattle.ctl_tree.specs.declared.expression.UnaryOperator.{UnaryOperator}
use Rattle.ctl_tree.specs.declared.expression.UnaryOperator.TheVariants.{Minus, Plus, Not, BitNot}
use Rattle.ctl_tree.specs.declared.expression.Operator.{Operator}
use Rattle.ctl_tree.specs.declared.expression.Operator.TheVariants.{Or, And, BitOr, BitXor, BitAnd, Equal, NotEqual, Less, AtMost, Greater, AtLeast, ShiftLeft, ShiftRight, Add, Subtract, Multiply, Divide, Remainder}
use Rattle.ctl_tree.specs.declared.expression.QualifiedName.{QualifiedName}
use Rattle.ctl_tree.specs.declared.declaration.ShapeKind.{ShapeKind}
use Rattle.ctl_tree.specs.declared.declaration.ShapeKind.TheVariants.{Bool as BoolShape, Int as IntShape, Unsigned as UnsignedShape, Half as HalfShape, Float as FloatShape, Named}
use Rattle.ctl_tree.specs.declared.declaration.ShapeName.{ShapeName}
use Rattle.ctl_tree.specs.Lexemes.{Lexeme, SeesSign, LacksSign, SeesWord, LacksWord, SeesName}

-- NAME { "::" NAME }: the last is the name, and those before it are its namespaces
pub data AreNames (lexemes : List Lexeme) : ℕ → List (List ℕ) → List ℕ → ℕ → Type 0 where
  last_name : {i j : ℕ} {name : List ℕ} → SeesName lexemes i name → LacksSign lexemes (i + 1) ColonColon → j ≡ i + 1 → AreNames lexemes i [] name j
  space : {i j : ℕ} {space : List ℕ} {spaces : List (List ℕ)} {name : List ℕ} → SeesName lexemes i space → SeesSign lexemes (i + 1) ColonColon
      → AreNames lexemes (i + 2) spaces name j → AreNames lexemes i (space ∷ spaces) name j

-- [ "::" ] NAME { "::" NAME }: its own token is its last
pub data IsQualifiedName (lexemes : List Lexeme) : ℕ → QualifiedName → ℕ → Type 0 where
  local_name : {i j : ℕ} {spaces : List (List ℕ)} {name : List ℕ} → AreNames lexemes i spaces name j
      → IsQualifiedName lexemes i (record { is_global = false; spaces = spaces; name = name; token = j - 1 }) j
  global_name : {i j : ℕ} {spaces : List (List ℕ)} {name : List ℕ} → SeesSign lexemes i ColonColon → AreNames lexemes (i + 1) spaces name j
      → IsQualifiedName lexemes i (record { is_global = true; spaces = spaces; name = name; token = j - 1 }) j

-- the shape that one keyword is
abbrev pub shape_of : Keyword → Option ShapeKind
shape_of BoolWord = Some BoolShape
shape_of IntWord = Some IntShape
shape_of HalfWord = Some HalfShape
shape_of FloatWord = Some FloatShape
shape_of _ = None

-- a shape: its own token is its last
pub data IsShape (lexemes : List Lexeme) : ℕ → ShapeName → ℕ → Type 0 where
  word_shape : {i j : ℕ} {kind : ShapeKind} (word : Keyword) → SeesWord lexemes i word → shape_of word ≡ Some kind → j ≡ i + 1
      → IsShape lexemes i (record { kind = kind; token = i }) j
  unsigned_shape : {i j : ℕ} → SeesWord lexemes i UnsignedWord → LacksWord lexemes (i + 1) IntWord → j ≡ i + 1
      → IsShape lexemes i (record { kind = UnsignedShape; token = i }) j
  unsigned_int_shape : {i j : ℕ} → SeesWord lexemes i UnsignedWord → SeesWord lexemes (i + 1) IntWord → j ≡ i + 2
      → IsShape lexemes i (record { kind = UnsignedShape; token = i + 1 }) j
  named_shape : {i j : ℕ} {name : QualifiedName} → IsQualifiedName lexemes i name j
      → IsShape lexemes i (record { kind = Named name; token = name.token }) j

-- WHOLE | POINT | HALF | "true" | "false": the value of a literal
abbrev pub literal_of : Option TokenKind → Option LiteralValue
literal_of (Some (WholeToken n)) = Some (Whole n)
literal_of (Some (PointToken raw)) = Some (Point raw)
literal_of (Some (HalfPointToken raw)) = Some (HalfPoint raw)
literal_of (Some (Word TrueWord)) = Some (Truth true)
literal_of (Some (Word FalseWord)) = Some (Truth false)
literal_of _ = None

-- "-" | "+" | "!" | "~"
abbrev pub unary_operator_of : Option TokenKind → Option UnaryOperator
unary_operator_of (Some (SignKind MinusSign)) = Some Minus
unary_operator_of (Some (SignKind PlusSign)) = Some Plus
unary_operator_of (Some (SignKind Exclamation)) = Some Not
unary_operator_of (Some (SignKind Tilde)) = Some BitNot
unary_operator_of _ = None

-- how many levels of operators there are
abbrev pub operator_levels : ℕ
operator_levels = 10

-- the operator that a sign is
abbrev pub operator_named : Sign → Option Operator
operator_named OrOr = Some Or
operator_named AndAnd = Some And
operator_named Bar = Some BitOr
operator_named Caret = Some BitXor
operator_named Ampersand = Some BitAnd
operator_named EqualTo = Some Equal
operator_named NotEqualTo = Some NotEqual
operator_named LessThan = Some Less
operator_named AtMostSign = Some AtMost
operator_named GreaterThan = Some Greater
operator_named AtLeastSign = Some AtLeast
operator_named ShiftLeftSign = Some ShiftLeft
operator_named ShiftRightSign = Some ShiftRight
operator_named PlusSign = Some Add
operator_named MinusSign = Some Subtract
operator_named Star = Some Multiply
operator_named Slash = Some Divide
operator_named Percent = Some Remainder
operator_named _ = None

-- the level of an operator, from the loosest, 0, to the tightest, 9
abbrev pub operator_level : Operator → ℕ
operator_level Or = 0
operator_level And = 1
operator_level BitOr = 2
operator_level BitXor = 3
operator_level BitAnd = 4
operator_level Equal = 5
operator_level NotEqual = 5
operator_level Less = 6
operator_level AtMost = 6
operator_level Greater = 6
operator_level AtLeast = 6
operator_level ShiftLeft = 7
operator_level ShiftRight = 7
operator_level Add = 8
operator_level Subtract = 8
operator_level Multiply = 9
operator_level Divide = 9
operator_level Remainder = 9

-- an operator where it is of the level
abbrev pub of_level : ℕ → Option Operator → Option Operator
of_level level None = None
of_level level (Some operator) = cond (operator_level operator == level) (Some operator) None

-- the operator of a level that a token is
abbrev pub operator_of : ℕ → Option TokenKind → Option Operator
operator_of level (Some (SignKind sign)) = of_level level (operator_named sign)
operator_of level _ = None
