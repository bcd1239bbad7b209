-- What the checker says of the values that a statement takes: the test of an `if`, a `while` or a `for`, and what is returned.
use Rattle.std.specs.Prelude.{ℕ, List, [], Option, Some, None, Result, Ok, Err}
use Rattle.ctl_base.specs.declared.kind.ScalarKind.TheVariants as kind
use Rattle.ctl_tree.specs.declared.expression.Expr.{Expr}
use Rattle.ctl_tree.specs.declared.statement.Return.{Return}
use Rattle.ctl_types.specs.declared.shape.Base.TheVariants.{Scalar}
use Rattle.ctl_types.specs.declared.shape.Shape.{Shape}
use Rattle.ctl_types.specs.declared.expression.Conversion.{Conversion}
use Rattle.ctl_types.specs.Shapes.{extents, base_of}
use Rattle.ctl_types.specs.Definitions.{Defined}
use Rattle.ctl_scope.specs.declared.kind.CheckKind.{CheckKind}
use Rattle.ctl_scope.specs.declared.kind.CheckKind.TheVariants.{Mismatch}
use Rattle.ctl_scope.specs.Scope.{ScopeForm}
use Rattle.ctl_check_rules.specs.declared.checked.Checked.{Checked}
use Rattle.ctl_check_rules.specs.Faults.{Verdict, ◌>>=◌, rule_at}
use Rattle.ctl_check_rules.specs.Operators.{operand}
use Rattle.ctl_check_rules.specs.Shapes.{fitting}
use Rattle.ctl_check_expr.specs.Checking.{checked}
use Rattle.ctl_check_init.specs.declared.takings.Taken.{Taken}
use Rattle.ctl_check_init.specs.declared.takings.Returned.{Returned}

-- ---- tests

abbrev pub taken_by : Checked → Option Conversion → Result Taken CheckKind
taken_by c None = Err Mismatch
taken_by c (Some conversion) = Ok (record { operand = operand c.form conversion; depth = c.depth })

-- a scalar of any kind is a test
abbrev pub test_rule : Checked → Result Taken CheckKind
test_rule c = taken_by c (fitting [] (Scalar kind.Bool) c.sizes c.base)

-- The verdict on a test, whose expression is checked before the bodies that it decides. It stands at the `if`, `while` or `for`.
abbrev pub tested : ℕ → ℕ → Checked → Verdict Taken
tested unit token c = rule_at unit token (test_rule c)

-- ---- returns

abbrev pub given_back : Checked → Option Conversion → Result Returned CheckKind
given_back c None = Err Mismatch
given_back c (Some conversion) = Ok (record { value = Some (operand c.form conversion); depth = c.depth })

-- a value is returned where the function gives one, and fits its shape
abbrev pub value_rule : Option Shape → Checked → Result Returned CheckKind
value_rule None c = Err Mismatch
value_rule (Some shape) c = given_back c (fitting (extents shape) (base_of shape) c.sizes c.base)

-- nothing is returned where the function gives nothing
abbrev pub nothing_rule : Option Shape → Result Returned CheckKind
nothing_rule None = Ok (record { value = None; depth = 0 })
nothing_rule (Some shape) = Err Mismatch

-- what stands behind a `return`, and then its rule
abbrev pub returned_value : ScopeForm → Defined → ℕ → Option Shape → Option Expr → Verdict Returned
returned_value s d token result None = rule_at s.unit token (nothing_rule result)
returned_value s d token result (Some e) = do
  c ← checked s d e
  rule_at s.unit token (value_rule result c)

-- the verdict on a return in a function with this result
abbrev pub returned : ScopeForm → Defined → Option Shape → Return → Verdict Returned
returned s d result r = returned_value s d r.token result r.value
