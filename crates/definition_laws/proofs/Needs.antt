-- What the proof for statements takes from the laws of expressions, initialisers and declarations.
use Rattle.std.proofs.Common.{◌≡◌, ℕ, ◌<◌, List, [], ◌∷◌, ◌++◌, map, Option, Some, None, Ok, Bool, true, false}
use Rattle.std.specs.Prelude.{max}
use Rattle.ctl_base.specs.declared.kind.ScalarKind.TheVariants as kind
use Rattle.ctl_tree.specs.declared.expression.Expr.{Expr}
use Rattle.ctl_tree.specs.declared.expression.Call.{Call}
use Rattle.ctl_tree.specs.declared.declaration.Variable.{Variable as WrittenVariable}
use Rattle.ctl_tree.specs.declared.declaration.Constant.{Constant}
use Rattle.ctl_tree.specs.declared.statement.Assignment.{Assignment}
use Rattle.ctl_tree.specs.declared.statement.Return.{Return}
use Rattle.ctl_tree.specs.declared.statement.PrintItem.{PrintItem}
use Rattle.ctl_tree.specs.OwnTokens.{Below, expr_tokens, call_tokens, variable_tokens, constant_tokens, assignment_tokens, return_tokens, all_tokens, item_tokens}
use Rattle.ctl_types.specs.declared.shape.Shape.{Shape}
use Rattle.ctl_types.specs.declared.shape.Base.TheVariants.{Scalar}
use Rattle.ctl_types.specs.Typing.{Typed, Variables, Scene, result_type, operand_type, call_form_type, has, place_type}
use Rattle.ctl_types.specs.Scoping.{Scoping, scope_declaration, assignment_type, left_type, scope_items, Scope}
use Rattle.ctl_types.specs.Definitions.{Defined}
use Rattle.ctl_scope.specs.Scope.{ScopeForm, IsScope}
use Rattle.ctl_scope.specs.Beside.{scene}
use Rattle.ctl_check_rules.specs.declared.checked.Checked.{Checked}
use Rattle.ctl_check_expr.specs.declared.checked.CheckedCall.{CheckedCall}
use Rattle.ctl_check_expr.specs.Checking.{checked, checked_call}
use Rattle.ctl_check_init.specs.declared.takings.Taken.{Taken}
use Rattle.ctl_check_init.specs.declared.takings.Returned.{Returned}
use Rattle.ctl_check_init.specs.declared.assignments.Assigned.{Assigned}
use Rattle.ctl_check_init.specs.Assignments.{assigned}
use Rattle.ctl_check_init.specs.Takings.{test_rule, returned}
use Rattle.ctl_check_statement.specs.declared.stated.Declared.{Declared}
use Rattle.ctl_check_statement.specs.declared.stated.Printed.{Printed}
use Rattle.ctl_check_statement.specs.Leading.{Led}
use Rattle.ctl_check_statement.specs.Declarations.{variable_declared, constant_declared}
use Rattle.ctl_check_statement.specs.Printing.{printed, none_printed}
use Rattle.ctl_check_laws.specs.Accepted.{known, Holds}
use Rattle.definition_laws.proofs.Standing.{Standing}
use Rattle.definition_laws.proofs.Verdicts.{Good}
use Rattle.definition_laws.proofs.Sequences.{Fine}

module _ (d : Defined) (n : ℕ) (result : Option Shape) where
  -- the variables of a scope are among others
  abbrev pub Among : Variables → ScopeForm → Type 0
  Among vs s = Holds vs s.variables

  -- a test that is taken is a bool
  abbrev pub TestWell : ScopeForm → Checked → Type 0
  TestWell s c = (t : Taken) → test_rule c ≡ Ok t → (t.depth ≡ c.depth) × ((vs : Variables) → Among vs s → operand_type (scene s d) vs t.operand ≡ known [] (Some (Scalar kind.Bool)) t.depth)

  abbrev pub CallWell : ScopeForm → CheckedCall → Type 0
  CallWell s c = (vs : Variables) → Among vs s → ((call_form_type (scene s d) vs c.call).well ≡ true) × ((call_form_type (scene s d) vs c.call).depth ≡ c.depth)

  abbrev pub AssignedWell : ScopeForm → Assigned → Type 0
  AssignedWell s g = (vs : Variables) → Among vs s
      → ((assignment_type (scene s d) (result_type result) (place_type (scene s d) vs g.assignment.place) (operand_type (scene s d) vs g.assignment.value)).well ≡ true)
      × ((assignment_type (scene s d) (result_type result) (place_type (scene s d) vs g.assignment.place) (operand_type (scene s d) vs g.assignment.value)).depth ≡ g.depth)

  abbrev pub ReturnedWell : ScopeForm → Returned → Type 0
  ReturnedWell s g = (vs : Variables) → Among vs s
      → (has (left_type (scene s d) (result_type result) vs g.value) (result_type result).sizes (result_type result).base ≡ true)
      × ((left_type (scene s d) (result_type result) vs g.value).depth ≡ g.depth)

  -- items that all have a value
  abbrev pub PrintedWell : ScopeForm → Printed → Type 0
  PrintedWell s p = p.fit ≡ true → (vs : Variables) (used : List ℕ) → Among vs s
      → scope_items (scene s d) (result_type result) p.forms (record { variables = vs; used = used }) ≡ record { well = true; after = record { variables = vs; used = used }; returns = false; depth = p.depth }

  abbrev pub DeclaredWell : Bool → ScopeForm → Led Declared → Type 0
  DeclaredWell is_constant s o = (o.made.declaration.is_constant ≡ is_constant) × Fine d n (scope_declaration (scene s d) (result_type result) o.made.declaration) s o.scope false o.made.depth

  pub record Needs : Type 0 where
    pub entered : (s : ScopeForm) → IsScope s → IsScope (Rattle.ctl_scope.specs.Changes.entered s)
    pub left : (s : ScopeForm) → IsScope s → IsScope (Rattle.ctl_scope.specs.Changes.left s)
    pub test : (s : ScopeForm) → Standing d n s → (e : Expr) → Below n (expr_tokens e) → Good (TestWell s) (checked s d e)
    pub call : (s : ScopeForm) → Standing d n s → (e : Call) → Below n (call_tokens e) → Good (CallWell s) (checked_call s d e)
    pub assigned : (s : ScopeForm) → Standing d n s → (a : Assignment) → Below n (assignment_tokens a) → Good (AssignedWell s) (Rattle.ctl_check_init.specs.Assignments.assigned s d a)
    pub returned : (s : ScopeForm) → Standing d n s → (r : Return) → Below n (return_tokens r) → Good (ReturnedWell s) (Rattle.ctl_check_init.specs.Takings.returned s d result r)
    pub printed : (s : ScopeForm) → Standing d n s → (items : List PrintItem) → Below n (all_tokens item_tokens items) → Good (PrintedWell s) (Rattle.ctl_check_statement.specs.Printing.printed s d items none_printed)
    pub variable : (s : ScopeForm) → Standing d n s → (v : WrittenVariable) → Below n (variable_tokens v) → Good (DeclaredWell false s) (variable_declared s d v)
    pub constant : (s : ScopeForm) → Standing d n s → (v : Constant) → Below n (constant_tokens v) → Good (DeclaredWell true s) (constant_declared s d v)
