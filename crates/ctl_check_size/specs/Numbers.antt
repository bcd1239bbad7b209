-- The number that a size expression is.
use Rattle.std.specs.Prelude.{ℕ, Option, Some, None, Ok, Err, true, ◌&&◌, if◌then◌else◌, nat_le, pos, int_lt, unsigned_abs}
use Rattle.ctl_base.specs.declared.limits.TheConstants.{ARRAY_SIZE}
use Rattle.ctl_base.specs.declared.kind.ScalarKind.{ScalarKind}
use Rattle.ctl_base.specs.declared.kind.ScalarKind.TheVariants as kind
use Rattle.ctl_types.specs.declared.scalar.Scalar.{Scalar}
use Rattle.ctl_types.specs.declared.scalar.Scalar.TheVariants as number
use Rattle.ctl_types.specs.declared.expression.TypedExpr.{TypedExpr}
use Rattle.ctl_types.specs.declared.expression.Conversion.TheVariants.{Same}
use Rattle.ctl_types.specs.declared.statement.Initialiser.{Initialiser, roll-Initialiser}
use Rattle.ctl_types.specs.declared.statement.Initialiser.TheOpen as initial
use Rattle.ctl_types.specs.declared.value.Value.{Value, out-Value}
use Rattle.ctl_types.specs.declared.value.Value.TheOpen as layer
use Rattle.ctl_types.specs.declared.value.Value.TheOpen.{Value-F}
use Rattle.ctl_types.specs.Definitions.{Defined}
use Rattle.ctl_types.specs.Cost.{uncounted}
use Rattle.ctl_types.specs.Run.{Outcome, initial_value}
use Rattle.ctl_check_rules.specs.declared.checked.Checked.{Checked}
use Rattle.ctl_check_rules.specs.Operators.{operand, scalar_kind}
use Rattle.ctl_check_size.specs.Constants.{constant_form}

-- from 1 to the limit of arrays
abbrev pub in_limits : ℕ → Option ℕ
in_limits n = if nat_le 1 n && nat_le n ARRAY_SIZE then Some n else None

-- an int or an unsigned in these limits
abbrev pub scalar_size : Scalar → Option ℕ
scalar_size (number.Bool b) = None
scalar_size (number.Int z) = if int_lt z (pos 0) then None else in_limits (unsigned_abs z)
scalar_size (number.Unsigned n) = in_limits n
scalar_size (number.Half z) = None
scalar_size (number.Float z) = None

-- a scalar of this size
abbrev pub value_size : Value-F Value → Option ℕ
value_size (layer.One x) = scalar_size x
value_size (layer.List vs) = None
value_size (layer.Fields vs) = None

-- the size that a run gives; one that traps gives none
abbrev pub outcome_size : Outcome (Unit {0}) uncounted Value → Option ℕ
outcome_size (Ok got) = value_size (out-Value got.value)
outcome_size (Err fault) = None

-- the value of an expression that names constants alone, in which no loop runs
abbrev pub size_outcome : Defined → TypedExpr → Outcome (Unit {0}) uncounted Value
size_outcome d e = initial_value (Unit {0}) uncounted d (roll-Initialiser (initial.Value (operand e Same))) 0 tt

-- the size that an expression gives, where it can be one
abbrev pub constant_size : Defined → Option TypedExpr → Option ℕ
constant_size d None = None
constant_size d (Some e) = outcome_size (size_outcome d e)

-- a size is an int or an unsigned
abbrev pub size_of_kind : Defined → TypedExpr → Option ScalarKind → Option ℕ
size_of_kind d e None = None
size_of_kind d e (Some kind.Bool) = None
size_of_kind d e (Some kind.Int) = constant_size d (constant_form e)
size_of_kind d e (Some kind.Unsigned) = constant_size d (constant_form e)
size_of_kind d e (Some kind.Half) = None
size_of_kind d e (Some kind.Float) = None

-- the number that a size expression is
abbrev pub size_number : Defined → Checked → Option ℕ
size_number d c = size_of_kind d c.form (scalar_kind c)
