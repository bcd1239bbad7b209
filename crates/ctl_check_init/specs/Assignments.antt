-- What the checker says of assignments: first the place and its steps from the left, then the value, then the rule at the `=`.
use Rattle.std.specs.Prelude.{max, List, Option, Some, None, Result, Ok, Err, Bool, true, false, ◌&&◌, if◌then◌else◌, slice_get}
use Rattle.ctl_tree.specs.declared.statement.Assignment.{Assignment as Written}
use Rattle.ctl_types.specs.declared.shape.Base.{Base}
use Rattle.ctl_types.specs.declared.shape.Size.{Size}
use Rattle.ctl_types.specs.declared.expression.Conversion.{Conversion}
use Rattle.ctl_types.specs.declared.expression.TypedPlace.{TypedPlace, out-TypedPlace}
use Rattle.ctl_types.specs.Definitions.{Defined}
use Rattle.ctl_types.specs.Typing.{Variables, are_stated, same_sizes, place_assignable}
use Rattle.ctl_scope.specs.declared.kind.CheckKind.{CheckKind}
use Rattle.ctl_scope.specs.declared.kind.CheckKind.TheVariants.{NotAssignable, Mismatch}
use Rattle.ctl_scope.specs.Scope.{ScopeForm, visible}
use Rattle.ctl_check_rules.specs.declared.checked.Checked.{Checked}
use Rattle.ctl_check_rules.specs.Faults.{Verdict, ◌>>=◌, rule_at}
use Rattle.ctl_check_rules.specs.Operators.{operand}
use Rattle.ctl_check_rules.specs.Shapes.{base_conversion}
use Rattle.ctl_check_expr.specs.Places.{place_of}
use Rattle.ctl_check_expr.specs.Checking.{checked}
use Rattle.ctl_check_expr.specs.Written.{place_checked}
use Rattle.ctl_check_init.specs.declared.assignments.Assigned.{Assigned}

-- what is done to a value of this base where another is wanted
abbrev pub conversion_to : List Size → Option Base → Option Base → Option Conversion
conversion_to sizes None given = None
conversion_to sizes (Some wanted) given = base_conversion sizes wanted given

-- What is done to a value that is stored in a place. The sizes are the same, and none is open.
abbrev pub storing : Checked → Checked → Option Conversion
storing p c = if are_stated p.sizes && same_sizes p.sizes c.sizes then conversion_to p.sizes p.base c.base else None

-- a value that fits in a place
abbrev pub stored_by : TypedPlace → Checked → Checked → Option Conversion → Result Assigned CheckKind
stored_by place p c None = Err Mismatch
stored_by place p c (Some conversion) = Ok (record { assignment = record { place = place; value = operand c.form conversion }; depth = max p.depth c.depth })

-- the variable may be assigned
abbrev pub stored_in : TypedPlace → Checked → Checked → Bool → Result Assigned CheckKind
stored_in place p c false = Err NotAssignable
stored_in place p c true = stored_by place p c (storing p c)

-- what is assigned is a place; the size of an array, a constant and a call are none
abbrev pub stored_at : Variables → Checked → Checked → Option TypedPlace → Result Assigned CheckKind
stored_at variables p c None = Err NotAssignable
stored_at variables p c (Some place) = stored_in place p c (place_assignable (slice_get variables (out-TypedPlace place).variable))

-- the rule of an assignment
abbrev pub assignment_rule : Variables → Checked → Checked → Result Assigned CheckKind
assignment_rule variables p c = stored_at variables p c (place_of p.form)

-- an assignment to a place that is checked: its value, and then its rule
abbrev pub assigned_to : ScopeForm → Defined → Written → Checked → Verdict Assigned
assigned_to s d a p = do
  c ← checked s d a.value
  rule_at s.unit a.token (assignment_rule (visible s) p c)

-- the verdict on an assignment
abbrev pub assigned : ScopeForm → Defined → Written → Verdict Assigned
assigned s d a = do
  p ← place_checked s d a.place.root a.place.steps
  assigned_to s d a p
