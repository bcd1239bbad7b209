-- Calls and their arguments.
use Rattle.std.specs.Prelude.{ℕ, max, List, [], ◌∷◌, ◌++◌, map, length, drop, get_or, Option, Some, None, Result, Ok, Err, Bool, true, false, if◌then◌else◌, slice_get, nat_lt, nat_le}
use Rattle.ctl_base.specs.declared.kind.Node.{Node}
use Rattle.ctl_stdlib.specs.declared.row.LibraryId.{LibraryId}
use Rattle.ctl_tree.specs.declared.expression.QualifiedName.{QualifiedName}
use Rattle.ctl_types.specs.declared.shape.Base.{Base}
use Rattle.ctl_types.specs.declared.shape.Extent.{Extent}
use Rattle.ctl_types.specs.declared.shape.Size.{Size}
use Rattle.ctl_types.specs.declared.shape.Size.TheVariants.{Stated}
use Rattle.ctl_types.specs.declared.shape.Shape.{Shape}
use Rattle.ctl_types.specs.declared.value.Value.{Value}
use Rattle.ctl_types.specs.declared.expression.Conversion.{Conversion}
use Rattle.ctl_types.specs.declared.expression.Callee.{Callee}
use Rattle.ctl_types.specs.declared.expression.Callee.TheVariants as callee
use Rattle.ctl_types.specs.declared.expression.TypedExpr.{roll-TypedExpr}
use Rattle.ctl_types.specs.declared.expression.TypedCall.{TypedCall, roll-TypedCall}
use Rattle.ctl_types.specs.declared.expression.TypedPlace.{TypedPlace, out-TypedPlace}
use Rattle.ctl_types.specs.declared.expression.Argument.{Argument, roll-Argument}
use Rattle.ctl_types.specs.declared.expression.Argument.TheOpen as form
use Rattle.ctl_types.specs.declared.program.Parameter.{Parameter}
use Rattle.ctl_types.specs.declared.program.Function.{Function}
use Rattle.ctl_types.specs.declared.row.Row.{Row}
use Rattle.ctl_types.specs.declared.row.RowParam.{RowParam}
use Rattle.ctl_types.specs.Shapes.{extents, base_of}
use Rattle.ctl_types.specs.Values.{sizes_at}
use Rattle.ctl_types.specs.Library.{library_row}
use Rattle.ctl_types.specs.Definitions.{Defined}
use Rattle.ctl_types.specs.Typing.{Variables, place_assignable}
use Rattle.ctl_scope.specs.declared.kind.CheckKind.{CheckKind}
use Rattle.ctl_scope.specs.declared.kind.CheckKind.TheVariants.{NotAFunction, TooDeep, Arguments, NotAssignable, Mismatch}
use Rattle.ctl_scope.specs.declared.meaning.Meaning.{Meaning}
use Rattle.ctl_scope.specs.declared.meaning.Meaning.TheVariants as meaning
use Rattle.ctl_scope.specs.Scope.{ScopeForm, look_up, unknown_call, visible}
use Rattle.ctl_scope.specs.Beside.{too_deep}
use Rattle.ctl_check_rules.specs.declared.checked.Checked.{Checked}
use Rattle.ctl_check_expr.specs.declared.checked.CheckedCall.{CheckedCall}
use Rattle.ctl_check_expr.specs.declared.checked.Passed.{Passed}
use Rattle.ctl_check_rules.specs.Faults.{Verdict, ◌>>=◌, node_of, broken, rule_at}
use Rattle.ctl_check_rules.specs.Operators.{short, operand}
use Rattle.ctl_check_rules.specs.Shapes.{stated_sizes, fitting, open_sizes_in}
use Rattle.ctl_check_expr.specs.Places.{place_of}

-- ---- parameters

-- a parameter as a call sees it; a function of the library has no defaults
pub record Formal : Type 0 where
  pub shape : Shape
  pub is_output : Bool
  pub default : Option Value

abbrev pub formal_of : Parameter → Formal
formal_of q = record { shape = q.shape; is_output = q.is_output; default = q.default }

abbrev pub row_formal_of : RowParam → Formal
row_formal_of q = record { shape = q.shape; is_output = q.is_output; default = None }

-- ---- arguments

-- before the first argument
abbrev pub none_passed : Passed
none_passed = record { arguments = []; sizes = []; depth = 0 }

-- one more argument, which gives the open sizes of its parameter
abbrev pub with_argument : Passed → Shape → Checked → Argument → Passed
with_argument before shape c a = record {
  arguments = before.arguments ++ a ∷ [];
  sizes = before.sizes ++ open_sizes_in (extents shape) c.sizes;
  depth = max before.depth c.depth;
}

-- an input takes what fits
abbrev pub input_by : Node → Shape → Passed → Checked → Option Conversion → Result Passed CheckKind
input_by node shape before c None = Err Mismatch
input_by node shape before c (Some conversion) = Ok (with_argument before shape c (roll-Argument (form.Input (operand c.form conversion) node)))

abbrev pub input_rule : Node → Shape → Passed → Checked → Result Passed CheckKind
input_rule node shape before c = input_by node shape before c (fitting (extents shape) (base_of shape) c.sizes c.base)

-- an output takes a place that fits
abbrev pub output_by : Node → Shape → Passed → Checked → TypedPlace → Option Conversion → Result Passed CheckKind
output_by node shape before c p None = Err Mismatch
output_by node shape before c p (Some conversion) = Ok (with_argument before shape c (roll-Argument (form.Output p conversion node)))

-- its variable may be assigned
abbrev pub assigned_by : Node → Shape → Passed → Checked → TypedPlace → Bool → Result Passed CheckKind
assigned_by node shape before c p false = Err NotAssignable
assigned_by node shape before c p true = output_by node shape before c p (fitting (extents shape) (base_of shape) c.sizes c.base)

abbrev pub output_at : Variables → Node → Shape → Passed → Checked → Option TypedPlace → Result Passed CheckKind
output_at variables node shape before c None = Err NotAssignable
output_at variables node shape before c (Some p) = assigned_by node shape before c p (place_assignable (slice_get variables (out-TypedPlace p).variable))

abbrev pub output_rule : Variables → Node → Shape → Passed → Checked → Result Passed CheckKind
output_rule variables node shape before c = output_at variables node shape before c (place_of c.form)

-- an argument for its parameter
abbrev pub argument_rule : Variables → Node → Bool → Shape → Passed → Checked → Result Passed CheckKind
argument_rule variables node false shape before c = input_rule node shape before c
argument_rule variables node true shape before c = output_rule variables node shape before c

-- an argument for a parameter: first as an expression, and then as an argument
abbrev pub argument_passed : ScopeForm → Bool → Shape → Verdict Checked → Passed → Verdict Passed
argument_passed s is_output shape argument before = do
  c ← argument
  rule_at s.unit c.token (argument_rule (visible s) (node_of s.unit c.token) is_output shape before c)

-- An argument for the first of the parameters that are left. One that is left over stands for no parameter.
abbrev pub argument_checked : ScopeForm → List Formal → Verdict Checked → Passed → Verdict Passed
argument_checked s [] argument before = do
  c ← argument
  Ok before
argument_checked s (q ∷ formals) argument before = argument_passed s q.is_output q.shape argument before

-- the parameters behind the first
abbrev pub behind : {A : Type 0} → List A → List A
behind [] = []
behind (q ∷ formals) = formals

-- arguments from the left, each for the parameter at its place
abbrev pub passed : ScopeForm → List Formal → List (Verdict Checked) → Passed → Verdict Passed
passed s formals [] before = Ok before
passed s formals (argument ∷ arguments) before = do
  after ← argument_checked s formals argument before
  passed s (behind formals) arguments after

-- one argument that is missing: the default gives the open sizes
abbrev pub with_default : Passed → Shape → Value → Passed
with_default before shape v = record {
  arguments = before.arguments ++ roll-Argument form.Missing ∷ [];
  sizes = before.sizes ++ map (λ n. Stated (short n)) (sizes_at (extents shape) (Some v));
  depth = before.depth;
}

-- an argument may be missing where its parameter is an input with a default
abbrev pub missing_rule : Bool → Shape → Option Value → Passed → Option Passed
missing_rule is_output shape None before = None
missing_rule true shape (Some v) before = None
missing_rule false shape (Some v) before = Some (with_default before shape v)

-- what is there goes on
abbrev pub and_then : {A B : Type 0} → Option A → (A → Option B) → Option B
and_then None next = None
and_then (Some a) next = next a

-- the parameters that have no argument, from the left
abbrev pub missing : List Formal → Passed → Option Passed
missing [] before = Some before
missing (q ∷ formals) before = and_then (missing_rule q.is_output q.shape q.default before) (missing formals)

-- ---- calls

-- what is called, with its parameters, its result and its depth; or why nothing is
pub data Target : Type 0 where
  Refused : CheckKind → Target
  Called : Callee → List Formal → Option Shape → ℕ → Target

-- a function of the program that is there
abbrev pub program_target : ScopeForm → QualifiedName → ℕ → Option Function → Target
program_target s name k None = Refused (unknown_call s name)
program_target s name k (Some f) = Called (callee.Program k) (map formal_of f.parameters) f.result (get_or s.depths k 0)

-- a function of the library
abbrev pub row_target : LibraryId → Row → Target
row_target id r = Called (callee.Library id) (map row_formal_of r.params) r.result 0

-- only a function is called
abbrev pub target_of : ScopeForm → Defined → QualifiedName → Option Meaning → Target
target_of s d name None = Refused (unknown_call s name)
target_of s d name (Some (meaning.Variable x)) = Refused NotAFunction
target_of s d name (Some (meaning.Constant n)) = Refused NotAFunction
target_of s d name (Some (meaning.Function k)) = program_target s name k (slice_get d.functions k)
target_of s d name (Some (meaning.Struct n)) = Refused NotAFunction
target_of s d name (Some meaning.Namespace) = Refused NotAFunction
target_of s d name (Some (meaning.Library id)) = row_target id (library_row id)

-- what is called by a name
abbrev pub target : ScopeForm → Defined → QualifiedName → Target
target s d name = target_of s d name (look_up s name)

-- the sizes and the base of a result; a call of what gives none has no base
abbrev pub result_sizes : Option Shape → List Size
result_sizes None = []
result_sizes (Some shape) = stated_sizes shape

abbrev pub result_base : Option Shape → Option Base
result_base None = None
result_base (Some shape) = Some (base_of shape)

-- a call with its arguments
abbrev pub call_made : Node → Callee → Option Shape → ℕ → Passed → CheckedCall
call_made node called result depth after = record {
  call = roll-TypedCall (record { callee = called; sizes = after.sizes; arguments = after.arguments; node = node });
  sizes = result_sizes result;
  base = result_base result;
  depth = max depth after.depth;
  token = node.token;
}

-- a call with an argument for each parameter
abbrev pub call_with : Node → Callee → Option Shape → ℕ → Option Passed → Result CheckedCall CheckKind
call_with node called result depth None = Err Arguments
call_with node called result depth (Some after) = Ok (call_made node called result depth after)

-- none is left over
abbrev pub counted_rule : Node → Callee → List Formal → Option Shape → ℕ → ℕ → Passed → Result CheckedCall CheckKind
counted_rule node called formals result depth count after =
    if nat_le count (length formals) then call_with node called result depth (missing (drop count formals) after) else Err Arguments

-- the rule of a call, after its arguments
abbrev pub call_rule : ScopeForm → Node → Callee → List Formal → Option Shape → ℕ → ℕ → Passed → Result CheckedCall CheckKind
call_rule s node called formals result depth count after =
    if nat_lt depth (too_deep s.around) then counted_rule node called formals result depth count after else Err TooDeep

-- A call: its arguments from the left, and then its own rule.
abbrev pub called : ScopeForm → Target → List (Verdict Checked) → ℕ → Verdict CheckedCall
called s (Refused kind) arguments token = do
  after ← passed s [] arguments none_passed
  broken s.unit token kind
called s (Called f formals result depth) arguments token = do
  after ← passed s formals arguments none_passed
  rule_at s.unit token (call_rule s (node_of s.unit token) f formals result depth (length arguments) after)

-- a call as an expression
abbrev pub call_checked : CheckedCall → Checked
call_checked c = record { form = roll-TypedExpr (form.Call c.call); sizes = c.sizes; base = c.base; depth = c.depth; token = c.token }
