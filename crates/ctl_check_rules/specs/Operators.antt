-- Conversions, and the rules of operators.
use Rattle.std.specs.Prelude.{ℕ, ◌^◌, ◌-◌, max, min, pos, List, [], ◌∷◌, ◌++◌, Option, Some, None, Result, Ok, Err, Bool, true, false, if◌then◌else◌, nat_lt}
use Rattle.fix_num.specs.declared.TheConstants.{FRACTION}
use Rattle.fix_num.specs.declared.integers.WholeOp.TheVariants as whole_op
use Rattle.fix_num.specs.Fixed.{sat}
use Rattle.fix_num.specs.Half.{half}
use Rattle.ctl_base.specs.declared.kind.ScalarKind.{ScalarKind}
use Rattle.ctl_base.specs.declared.kind.ScalarKind.TheVariants as kind
use Rattle.ctl_tree.specs.declared.expression.LiteralValue.{LiteralValue}
use Rattle.ctl_tree.specs.declared.expression.LiteralValue.TheVariants.{Whole, Point, HalfPoint, Truth}
use Rattle.ctl_tree.specs.declared.expression.UnaryOperator.{UnaryOperator}
use Rattle.ctl_tree.specs.declared.expression.Operator.{Operator}
use Rattle.ctl_tree.specs.declared.expression.Operator.TheVariants as operator
use Rattle.ctl_types.specs.declared.scalar.Scalar.{Scalar as Number}
use Rattle.ctl_types.specs.declared.scalar.Scalar.TheVariants as number
use Rattle.ctl_types.specs.declared.shape.Base.{Base}
use Rattle.ctl_types.specs.declared.shape.Base.TheVariants.{Scalar, Struct}
use Rattle.ctl_types.specs.declared.shape.Size.{Size}
use Rattle.ctl_types.specs.declared.expression.Conversion.{Conversion}
use Rattle.ctl_types.specs.declared.expression.Conversion.TheVariants.{Same, Between}
use Rattle.ctl_types.specs.declared.expression.Comparison.TheVariants as comparison
use Rattle.ctl_types.specs.declared.expression.LinkOperator.{LinkOperator}
use Rattle.ctl_types.specs.declared.expression.LinkOperator.TheVariants.{Arithmetic, Compare}
use Rattle.ctl_types.specs.declared.expression.Logic.{Logic}
use Rattle.ctl_types.specs.declared.expression.Logic.TheVariants as logic
use Rattle.ctl_types.specs.declared.expression.TypedExpr.{TypedExpr, roll-TypedExpr}
use Rattle.ctl_types.specs.declared.expression.Operand.{Operand, roll-Operand}
use Rattle.ctl_types.specs.declared.expression.TypedLink.{roll-TypedLink}
use Rattle.ctl_types.specs.declared.expression.Argument.TheOpen as form
use Rattle.ctl_types.specs.Scalars.{kind_of, same_kind, operator_kind}
use Rattle.ctl_types.specs.Typing.{later, number_kind, kind_alone, works, works_alone}
use Rattle.ctl_scope.specs.declared.kind.CheckKind.{CheckKind}
use Rattle.ctl_scope.specs.declared.kind.CheckKind.TheVariants.{Mismatch}
use Rattle.ctl_check_rules.specs.declared.checked.Checked.{Checked}
use Rattle.ctl_check_rules.specs.declared.checked.Linked.{Linked}
use Rattle.ctl_check_rules.specs.declared.checked.Joined.{Joined}
use Rattle.ctl_check_rules.specs.Faults.{Verdict, ◌>>=◌, rule_at}

-- ---- scalars

-- a scalar of a kind
abbrev pub of_kind : TypedExpr → ScalarKind → ℕ → ℕ → Checked
of_kind form k depth token = record { form = form; sizes = []; base = Some (Scalar k); depth = depth; token = token }

-- up to 2147483647 it is an int, above an unsigned
abbrev pub whole_scalar : ℕ → Number
whole_scalar n = if nat_lt n (2 ^ 31) then number.Int (pos n) else number.Unsigned n

-- a number as it is kept, in 32 bits; no text has a greater one
abbrev pub short : ℕ → ℕ
short n = min n (2 ^ 32 - 1)

-- the scalar of a literal; a number beyond its range, which no text has, is the end of the range
abbrev pub literal_scalar : LiteralValue → Number
literal_scalar (Whole n) = whole_scalar (short n)
literal_scalar (Point z) = number.Float (sat z)
literal_scalar (HalfPoint z) = number.Half (half FRACTION z)
literal_scalar (Truth b) = number.Bool b

-- a literal
abbrev pub literal_checked : LiteralValue → ℕ → Checked
literal_checked value token = of_kind (roll-TypedExpr (form.Literal (literal_scalar value))) (kind_of (literal_scalar value)) 0 token

-- the kind of what arrays hold, where it is a scalar
abbrev pub kind_in : Option Base → Option ScalarKind
kind_in None = None
kind_in (Some (Scalar k)) = Some k
kind_in (Some (Struct n)) = None

-- the kind of a scalar, and none for what is no scalar
abbrev pub scalar_kind_in : List Size → Option Base → Option ScalarKind
scalar_kind_in [] base = kind_in base
scalar_kind_in (x ∷ sizes) base = None

-- the kind of an expression that is a scalar
abbrev pub scalar_kind : Checked → Option ScalarKind
scalar_kind c = scalar_kind_in c.sizes c.base

-- a scalar of one kind becomes one of another
abbrev pub between : ScalarKind → ScalarKind → Conversion
between a k = if same_kind a k then Same else Between a k

-- an expression with what is done to its value
abbrev pub operand : TypedExpr → Conversion → Operand
operand e c = roll-Operand (record { value = e; conversion = c })

-- ---- operators before their operand

-- it works on a scalar in the kind of the table
abbrev pub unary_in : UnaryOperator → ScalarKind → ScalarKind → ℕ → Checked → Result Checked CheckKind
unary_in op k a token c = if works_alone op k then Ok (of_kind (roll-TypedExpr (form.Unary op k (operand c.form (between a k)))) k c.depth token) else Err Mismatch

-- its operand is a scalar
abbrev pub unary_of : UnaryOperator → Option ScalarKind → ℕ → Checked → Result Checked CheckKind
unary_of op None token c = Err Mismatch
unary_of op (Some a) token c = unary_in op (kind_alone op a) a token c

-- an operator before its operand
abbrev pub unary_rule : UnaryOperator → ℕ → Checked → Result Checked CheckKind
unary_rule op token c = unary_of op (scalar_kind c) token c

-- ---- links

-- a link: its operator, its operand, its own token
pub record Linking : Type 0 where
  pub operator : Operator
  pub operand : Verdict Checked
  pub token : ℕ

-- the operator that a link has in the typed form; `&&` and `||` have forms of their own
abbrev pub link_operator : Operator → Option LinkOperator
link_operator operator.Or = None
link_operator operator.And = None
link_operator operator.BitOr = Some (Arithmetic whole_op.Or)
link_operator operator.BitXor = Some (Arithmetic whole_op.Xor)
link_operator operator.BitAnd = Some (Arithmetic whole_op.And)
link_operator operator.Equal = Some (Compare comparison.Equal)
link_operator operator.NotEqual = Some (Compare comparison.NotEqual)
link_operator operator.Less = Some (Compare comparison.Less)
link_operator operator.AtMost = Some (Compare comparison.AtMost)
link_operator operator.Greater = Some (Compare comparison.Greater)
link_operator operator.AtLeast = Some (Compare comparison.AtLeast)
link_operator operator.ShiftLeft = Some (Arithmetic whole_op.Shl)
link_operator operator.ShiftRight = Some (Arithmetic whole_op.Shr)
link_operator operator.Add = Some (Arithmetic whole_op.Add)
link_operator operator.Subtract = Some (Arithmetic whole_op.Sub)
link_operator operator.Multiply = Some (Arithmetic whole_op.Mul)
link_operator operator.Divide = Some (Arithmetic whole_op.Div)
link_operator operator.Remainder = Some (Arithmetic whole_op.Rem)

-- a chain of `&&` or of `||`
abbrev pub logic_of : Operator → Option Logic
logic_of operator.Or = Some logic.Or
logic_of operator.And = Some logic.And
logic_of operator.BitOr = None
logic_of operator.BitXor = None
logic_of operator.BitAnd = None
logic_of operator.Equal = None
logic_of operator.NotEqual = None
logic_of operator.Less = None
logic_of operator.AtMost = None
logic_of operator.Greater = None
logic_of operator.AtLeast = None
logic_of operator.ShiftLeft = None
logic_of operator.ShiftRight = None
logic_of operator.Add = None
logic_of operator.Subtract = None
logic_of operator.Multiply = None
logic_of operator.Divide = None
logic_of operator.Remainder = None

-- the links so far with one more, which works in this kind
abbrev pub with_link : Linked → Checked → LinkOperator → ScalarKind → ScalarKind → ScalarKind → Linked
with_link before c op k a b = record {
  links = before.links ++ roll-TypedLink (record { operator = op; kind = k; left = between a k; right = operand c.form (between b k) }) ∷ [];
  left = Some (operator_kind op k);
  depth = max before.depth c.depth;
}

-- an operator between two scalars works in the kind of the table
abbrev pub link_in : Linked → Checked → LinkOperator → ScalarKind → ScalarKind → ScalarKind → Result Linked CheckKind
link_in before c op k a b = if works op k then Ok (with_link before c op k a b) else Err Mismatch

-- both its sides are scalars
abbrev pub link_of : Linked → Checked → Option LinkOperator → Option ScalarKind → Option ScalarKind → Result Linked CheckKind
link_of before c None left right = Err Mismatch
link_of before c (Some op) None right = Err Mismatch
link_of before c (Some op) (Some a) None = Err Mismatch
link_of before c (Some op) (Some a) (Some b) = link_in before c op (number_kind (later a b)) a b

-- a link behind those before it
abbrev pub link_rule : Linked → Operator → Checked → Result Linked CheckKind
link_rule before op c = link_of before c (link_operator op) before.left (scalar_kind c)

-- a link: its operand, and then its own rule
abbrev pub link_checked : ℕ → Linking → Linked → Verdict Linked
link_checked unit l before = do
  c ← l.operand
  rule_at unit l.token (link_rule before l.operator c)

-- links from the left
abbrev pub linked : ℕ → List Linking → Linked → Verdict Linked
linked unit [] before = Ok before
linked unit (l ∷ links) before = do
  after ← link_checked unit l before
  linked unit links after

-- before the first link
abbrev pub unlinked : Checked → Linked
unlinked first = record { links = []; left = scalar_kind first; depth = first.depth }

-- what holds a scalar of this kind
abbrev pub base_of_kind : Option ScalarKind → Option Base
base_of_kind None = None
base_of_kind (Some k) = Some (Scalar k)

-- the chain of these links
abbrev pub chain_checked : Checked → ℕ → Linked → Checked
chain_checked first token after = record { form = roll-TypedExpr (form.Chain (operand first.form Same) after.links); sizes = []; base = base_of_kind after.left; depth = after.depth; token = token }

-- ---- `&&` and `||`

-- operands so far with one more
abbrev pub with_operand : Joined → Checked → ScalarKind → Joined
with_operand before c b = record { operands = before.operands ++ operand c.form (between b kind.Bool) ∷ []; fit = true; depth = max before.depth c.depth }

-- those before it are scalars, and it is one
abbrev pub join_of : Joined → Checked → Bool → Option ScalarKind → Result Joined CheckKind
join_of before c false right = Err Mismatch
join_of before c true None = Err Mismatch
join_of before c true (Some b) = Ok (with_operand before c b)

-- an operand behind those before it
abbrev pub join_rule : Joined → Checked → Result Joined CheckKind
join_rule before c = join_of before c before.fit (scalar_kind c)

-- a link of `&&` or `||`: its operand, and then its own rule
abbrev pub join_checked : ℕ → Linking → Joined → Verdict Joined
join_checked unit l before = do
  c ← l.operand
  rule_at unit l.token (join_rule before c)

-- such links from the left
abbrev pub joined : ℕ → List Linking → Joined → Verdict Joined
joined unit [] before = Ok before
joined unit (l ∷ links) before = do
  after ← join_checked unit l before
  joined unit links after

-- the first operand; whether it is a scalar is said at the first link
abbrev pub unjoined_of : Checked → Option ScalarKind → Joined
unjoined_of first None = record { operands = []; fit = false; depth = first.depth }
unjoined_of first (Some a) = record { operands = operand first.form (between a kind.Bool) ∷ []; fit = true; depth = first.depth }

-- before the first link
abbrev pub unjoined : Checked → Joined
unjoined first = unjoined_of first (scalar_kind first)

-- the chain of these operands
abbrev pub logic_checked : Logic → ℕ → Joined → Checked
logic_checked l token after = of_kind (roll-TypedExpr (form.Logic l after.operands)) kind.Bool after.depth token

-- ---- chains

-- a chain of `&&` or `||`, or of links
abbrev pub chain_by : ℕ → Checked → List Linking → ℕ → Option Logic → Verdict Checked
chain_by unit first links token None = do
  after ← linked unit links (unlinked first)
  Ok (chain_checked first token after)
chain_by unit first links token (Some l) = do
  after ← joined unit links (unjoined first)
  Ok (logic_checked l token after)

-- the links behind a first operand; all are of one level
abbrev pub chained : ℕ → Checked → List Linking → ℕ → Verdict Checked
chained unit first [] token = Ok first
chained unit first (l ∷ links) token = chain_by unit first (l ∷ links) token (logic_of l.operator)
