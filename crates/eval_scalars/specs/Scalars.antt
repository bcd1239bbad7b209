-- Operators and conversions on scalars.
use Rattle.std.specs.Prelude.{ℤ, Option, Some, None, ◌&&◌, if◌then◌else◌}
use Rattle.fix_num.specs.declared.TheConstants.{FRACTION}
use Rattle.ctl_base.specs.declared.kind.ScalarKind.{ScalarKind}
use Rattle.ctl_tree.specs.declared.expression.UnaryOperator.{UnaryOperator}
use Rattle.ctl_types.specs.declared.scalar.Scalar.{Scalar}
use Rattle.ctl_types.specs.declared.expression.LinkOperator.{LinkOperator}
use Rattle.ctl_types.specs.Scalars.{kind_of, word_of, scalar, same_kind, operate, operator_kind, operate_alone, converted}

-- the scalar of a kind with a word, where there is one
abbrev pub made : ScalarKind → Option ℤ → Option Scalar
made k None = None
made k (Some z) = Some (scalar k z)

-- an operator on two scalars, where they are of the kind that it works in
abbrev pub of_two : LinkOperator → ScalarKind → Scalar → Scalar → Option Scalar
of_two op k a b = if same_kind (kind_of a) k && same_kind (kind_of b) k then made (operator_kind op k) (operate FRACTION op k (word_of a) (word_of b)) else None

-- an operator on one scalar
abbrev pub of_one : UnaryOperator → ScalarKind → Scalar → Option Scalar
of_one op k a = if same_kind (kind_of a) k then made k (operate_alone FRACTION op k (word_of a)) else None

-- a scalar as one of another kind
abbrev pub as_kind : ScalarKind → Scalar → Scalar
as_kind k s = scalar k (converted FRACTION (kind_of s) k (word_of s))
