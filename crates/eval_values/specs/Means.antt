-- What the forms make of values, as options: none where the run is Wrong.
use Rattle.std.specs.Prelude.{ℕ, ℤ, pos, Option, Some, None, Bool, if◌then◌else◌, nat_lt, ◌^◌}
use Rattle.fix_num.specs.Whole.{of_bool}
use Rattle.ctl_base.specs.declared.kind.ScalarKind.{ScalarKind}
use Rattle.ctl_tree.specs.declared.expression.UnaryOperator.{UnaryOperator}
use Rattle.ctl_types.specs.declared.scalar.Scalar.{Scalar}
use Rattle.ctl_types.specs.declared.scalar.Scalar.TheVariants as scalar_form
use Rattle.ctl_types.specs.declared.value.Value.{Value, out-Value}
use Rattle.ctl_types.specs.declared.expression.Conversion.{Conversion}
use Rattle.ctl_types.specs.declared.expression.Conversion.TheVariants.{Same, Between}
use Rattle.ctl_types.specs.declared.expression.LinkOperator.{LinkOperator}
use Rattle.ctl_types.specs.Scalars.{kind_of, same_kind}
use Rattle.ctl_types.specs.Values.{one}
use Rattle.eval_scalars.specs.Scalars.{of_one, of_two, as_kind}
use Rattle.eval_values.specs.Uncounted.{scalar_in}

abbrev pub onward : {A B : Type 0} → Option A → (A → Option B) → Option B
onward None f = None
onward (Some a) f = f a

abbrev pub one_in : Option Scalar → Option Value
one_in None = None
one_in (Some s) = Some (one s)

abbrev pub between_in : ScalarKind → ScalarKind → Scalar → Option Value
between_in a b s = if same_kind (kind_of s) a then Some (one (as_kind b s)) else None

abbrev pub convert_in : Conversion → Value → Option Value
convert_in Same v = Some v
convert_in (Between a b) v = onward (scalar_in v) (between_in a b)

abbrev pub unary_in : UnaryOperator → ScalarKind → Value → Option Scalar
unary_in op k v = onward (scalar_in v) (of_one op k)

abbrev pub second_in : LinkOperator → ScalarKind → Value → Scalar → Option Scalar
second_in op k w a = onward (scalar_in w) (of_two op k a)

abbrev pub operated_in : LinkOperator → ScalarKind → Value → Value → Option Scalar
operated_in op k v w = onward (scalar_in v) (second_in op k w)

-- the value on the left is converted, and that on the right has been
abbrev pub linked_in : Conversion → LinkOperator → ScalarKind → Value → Value → Option Scalar
linked_in left op k v w = onward (convert_in left v) (λ v. operated_in op k v w)

abbrev pub bool_form : Scalar → Option Bool
bool_form (scalar_form.Bool b) = Some b
bool_form (scalar_form.Int z) = None
bool_form (scalar_form.Unsigned n) = None
bool_form (scalar_form.Half z) = None
bool_form (scalar_form.Float z) = None

-- the truth that a value is
abbrev pub bool_in : Value → Option Bool
bool_in v = onward (scalar_in v) bool_form

abbrev pub number_form : Scalar → Option ℤ
number_form (scalar_form.Bool b) = Some (of_bool b)
number_form (scalar_form.Int z) = Some z
number_form (scalar_form.Unsigned n) = Some (pos n)
number_form (scalar_form.Half z) = None
number_form (scalar_form.Float z) = None

-- the number that an index is
abbrev pub number_in : Value → Option ℤ
number_in v = onward (scalar_in v) number_form

-- a size as an int, where it is one
abbrev pub size_in_int : ℕ → Option Scalar
size_in_int n = if nat_lt n (2 ^ 31) then Some (scalar_form.Int (pos n)) else None
