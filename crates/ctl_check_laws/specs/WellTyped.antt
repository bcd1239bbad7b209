-- What the checker accepts is well typed.
use Rattle.std.specs.Prelude.{◌≡◌, ℕ, get_or, Some, Ok, true, slice_get}
use Rattle.ctl_tree.specs.declared.expression.Expr.{Expr}
use Rattle.ctl_tree.specs.declared.expression.Call.{Call}
use Rattle.ctl_tree.specs.declared.statement.Place.{Place}
use Rattle.ctl_tree.specs.OwnTokens.{Below, expr_tokens, call_tokens, place_tokens}
use Rattle.ctl_types.specs.declared.shape.Shape.{Shape}
use Rattle.ctl_types.specs.Shapes.{field_shapes}
use Rattle.ctl_types.specs.Definitions.{Defined}
use Rattle.ctl_types.specs.Scoping.{IsDefined, result_stands}
use Rattle.ctl_types.specs.Typing.{Variables, expr_type, call_form_type}
use Rattle.ctl_scope.specs.Scope.{ScopeForm, visible}
use Rattle.ctl_scope.specs.Beside.{Beside, scene}
use Rattle.ctl_check_rules.specs.declared.checked.Checked.{Checked}
use Rattle.ctl_check_expr.specs.declared.checked.CheckedCall.{CheckedCall}
use Rattle.ctl_check_expr.specs.Checking.{checked, checked_call}
use Rattle.ctl_check_expr.specs.Written.{place_checked}
use Rattle.ctl_check_laws.specs.Accepted.{variables_stand, Holds, IsAccepted}

-- the scope numbers the definitions, which keep the rules, and the shapes of its variables stand
pub record Standing (s : ScopeForm) (d : Defined) : Type 0 where
  pub beside : Beside s d
  pub defined : IsDefined d
  pub variables : variables_stand (scene s d) (visible s) ≡ true

-- how many tokens the module has in which the scope stands
abbrev pub tokens_around : ScopeForm → Defined → ℕ
tokens_around s d = get_or (scene s d).tokens s.unit 0

-- what the checker accepts as an expression of that module is well typed, where the variables of the scope are among others
abbrev pub TypedIsWellTyped : Type 0
TypedIsWellTyped =
    (s : ScopeForm) (d : Defined) (vs : Variables) (e : Expr) (c : Checked) → Standing s d → Holds vs (visible s)
    → Below (tokens_around s d) (expr_tokens e) → checked s d e ≡ Ok c
    → IsAccepted (scene s d) (expr_type (scene s d) vs c.form) c.sizes c.base c.depth

-- what it accepts as a call is well typed
abbrev pub TypedCallIsWellTyped : Type 0
TypedCallIsWellTyped =
    (s : ScopeForm) (d : Defined) (vs : Variables) (e : Call) (c : CheckedCall) → Standing s d → Holds vs (visible s)
    → Below (tokens_around s d) (call_tokens e) → checked_call s d e ≡ Ok c
    → IsAccepted (scene s d) (call_form_type (scene s d) vs c.call) c.sizes c.base c.depth

-- what it accepts as the place of an assignment is well typed
abbrev pub TypedPlaceIsWellTyped : Type 0
TypedPlaceIsWellTyped =
    (s : ScopeForm) (d : Defined) (vs : Variables) (p : Place) (c : Checked) → Standing s d → Holds vs (visible s)
    → Below (tokens_around s d) (place_tokens p) → place_checked s d p.root p.steps ≡ Ok c
    → IsAccepted (scene s d) (expr_type (scene s d) vs c.form) c.sizes c.base c.depth

-- the fields of structs have shapes that stand, without open sizes
abbrev pub FieldsStand : Type 0
FieldsStand =
    (s : ScopeForm) (d : Defined) → Standing s d → (m n : ℕ) (shape : Shape) → slice_get (field_shapes d.structs m) n ≡ Some shape
    → result_stands (scene s d) (Some shape) ≡ true
