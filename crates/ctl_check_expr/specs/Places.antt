-- Names, and steps into values.
use Rattle.std.specs.Prelude.{ℕ, ◌+◌, max, List, [], ◌∷◌, ◌++◌, nat_le, Option, Some, None, Result, Ok, Err, Bool, true, false, if◌then◌else◌, slice_get, codes, bytes_eq}
use Rattle.ctl_base.specs.declared.kind.ScalarKind.{ScalarKind}
use Rattle.ctl_base.specs.declared.kind.ScalarKind.TheVariants as kind
use Rattle.ctl_base.specs.declared.limits.TheConstants.{SCALARS}
use Rattle.ctl_tree.specs.declared.expression.QualifiedName.{QualifiedName}
use Rattle.ctl_tree.specs.declared.expression.FieldAccess.{FieldAccess}
use Rattle.ctl_types.specs.declared.shape.Base.{Base}
use Rattle.ctl_types.specs.declared.shape.Base.TheVariants.{Scalar, Struct}
use Rattle.ctl_types.specs.declared.shape.Size.{Size}
use Rattle.ctl_types.specs.declared.expression.TypedExpr.{TypedExpr, roll-TypedExpr, out-TypedExpr}
use Rattle.ctl_types.specs.declared.expression.TypedStep.{TypedStep, roll-TypedStep}
use Rattle.ctl_types.specs.declared.expression.Argument.{Argument}
use Rattle.ctl_types.specs.declared.expression.Operand.{Operand}
use Rattle.ctl_types.specs.declared.expression.TypedCall.{TypedCall}
use Rattle.ctl_types.specs.declared.expression.TypedLink.{TypedLink}
use Rattle.ctl_types.specs.declared.expression.TypedPlace.{TypedPlace, roll-TypedPlace}
use Rattle.ctl_types.specs.declared.expression.Argument.TheOpen as form
use Rattle.ctl_types.specs.declared.expression.Argument.TheOpen.{TypedExpr-F}
use Rattle.ctl_types.specs.declared.program.Field.{Field}
use Rattle.ctl_types.specs.declared.program.Struct.{Struct as StructForm}
use Rattle.ctl_types.specs.declared.program.Constant.{Constant}
use Rattle.ctl_types.specs.Shapes.{base_of}
use Rattle.ctl_types.specs.Definitions.{Defined}
use Rattle.ctl_types.specs.Typing.{Variable}
use Rattle.ctl_scope.specs.declared.kind.CheckKind.{CheckKind}
use Rattle.ctl_scope.specs.declared.kind.CheckKind.TheVariants.{UnknownName, Mismatch}
use Rattle.ctl_scope.specs.declared.meaning.Meaning.{Meaning}
use Rattle.ctl_scope.specs.declared.meaning.Meaning.TheVariants as meaning
use Rattle.ctl_scope.specs.Scope.{ScopeForm, look_up, visible}
use Rattle.ctl_check_rules.specs.declared.checked.Checked.{Checked}
use Rattle.ctl_check_expr.specs.declared.checked.Part.{Part}
use Rattle.ctl_check_rules.specs.Faults.{Verdict, ◌>>=◌, node_of, rule_at}
use Rattle.ctl_check_rules.specs.Operators.{of_kind, scalar_kind}
use Rattle.ctl_check_rules.specs.Shapes.{stated_sizes}

-- ---- names

-- a variable with its shape
abbrev pub variable_checked : ℕ → ℕ → Variable → Checked
variable_checked x token v = record { form = roll-TypedExpr (form.Variable x); sizes = v.shape.sizes; base = Some v.shape.base; depth = 0; token = token }

-- a constant with its shape
abbrev pub constant_checked : ℕ → ℕ → Constant → Checked
constant_checked n token c = record { form = roll-TypedExpr (form.Constant n); sizes = stated_sizes c.shape; base = Some (base_of c.shape); depth = 0; token = token }

-- a variable that is visible
abbrev pub variable_rule : ℕ → ℕ → Option (Option Variable) → Result Checked CheckKind
variable_rule x token None = Err UnknownName
variable_rule x token (Some None) = Err UnknownName
variable_rule x token (Some (Some v)) = Ok (variable_checked x token v)

-- a constant that is there
abbrev pub constant_rule : ℕ → ℕ → Option Constant → Result Checked CheckKind
constant_rule n token None = Err UnknownName
constant_rule n token (Some c) = Ok (constant_checked n token c)

-- a function, a struct and a namespace are no values
abbrev pub meaning_rule : ScopeForm → Defined → ℕ → Option Meaning → Result Checked CheckKind
meaning_rule s d token None = Err UnknownName
meaning_rule s d token (Some (meaning.Variable x)) = variable_rule x token (slice_get (visible s) x)
meaning_rule s d token (Some (meaning.Constant n)) = constant_rule n token (slice_get d.constants n)
meaning_rule s d token (Some (meaning.Function n)) = Err Mismatch
meaning_rule s d token (Some (meaning.Struct n)) = Err Mismatch
meaning_rule s d token (Some meaning.Namespace) = Err Mismatch
meaning_rule s d token (Some (meaning.Library id)) = Err Mismatch

-- a name, by what it stands for
abbrev pub name_checked : ScopeForm → Defined → QualifiedName → Verdict Checked
name_checked s d name = rule_at s.unit name.token (meaning_rule s d name.token (look_up s name))

-- ---- steps

-- a step into a value: an index with its own token, or a field
pub data Stepping : Type 0 where
  IndexStep : Verdict Checked → ℕ → Stepping
  FieldStep : FieldAccess → Stepping

-- an index is a bool, an int or an unsigned
abbrev pub is_index_kind : Option ScalarKind → Bool
is_index_kind None = false
is_index_kind (Some kind.Bool) = true
is_index_kind (Some kind.Int) = true
is_index_kind (Some kind.Unsigned) = true
is_index_kind (Some kind.Half) = false
is_index_kind (Some kind.Float) = false

-- the part behind one more step
abbrev pub stepped : Part → TypedStep → List Size → Option Base → ℕ → ℕ → Part
stepped p step sizes base depth token = record { root = p.root; steps = p.steps ++ step ∷ []; sizes = sizes; base = base; depth = depth; token = token }

-- an index is into an array
abbrev pub index_in : ℕ → ℕ → Checked → Part → List Size → Result Part CheckKind
index_in unit token e p [] = Err Mismatch
index_in unit token e p (size ∷ sizes) =
    if is_index_kind (scalar_kind e) then Ok (stepped p (roll-TypedStep (form.Index e.form (node_of unit token))) sizes p.base (max p.depth e.depth) token) else Err Mismatch

-- an index behind the steps before it
abbrev pub index_rule : ℕ → ℕ → Checked → Part → Result Part CheckKind
index_rule unit token e p = index_in unit token e p p.sizes

-- the form of a part: without steps it is the root
abbrev pub part_form : TypedExpr → List TypedStep → TypedExpr
part_form root [] = root
part_form root (step ∷ steps) = roll-TypedExpr (form.Path root (step ∷ steps))

-- the size of an array is an int
abbrev pub size_part : ℕ → Size → Part → Part
size_part token size p = record { root = roll-TypedExpr (form.Size (part_form p.root p.steps) size); steps = []; sizes = []; base = Some (Scalar kind.Int); depth = p.depth; token = token }

-- the number of the first field of a name, from number k on; a struct has no more fields than scalars
abbrev pub field_from : List ℕ → ℕ → List Field → Option ℕ
field_from name k [] = None
field_from name k (f ∷ fields) = if bytes_eq name f.name then Some k else (if nat_le SCALARS k then None else field_from name (k + 1) fields)

-- the fields of a struct that is there
abbrev pub fields_of : Option StructForm → List Field
fields_of None = []
fields_of (Some s) = s.fields

-- a step to a field that is there
abbrev pub field_step : ℕ → Part → ℕ → Option Field → Result Part CheckKind
field_step token p n None = Err UnknownName
field_step token p n (Some f) = Ok (stepped p (roll-TypedStep (form.Field n)) (stated_sizes f.shape) (Some (base_of f.shape)) p.depth token)

-- the field that is found
abbrev pub field_found : ℕ → Part → List Field → Option ℕ → Result Part CheckKind
field_found token p fields None = Err UnknownName
field_found token p fields (Some n) = field_step token p n (slice_get fields n)

-- a struct has its fields, an array its size, and nothing else has fields
abbrev pub field_in : Defined → FieldAccess → Part → List Size → Option Base → Result Part CheckKind
field_in d f p [] None = Err UnknownName
field_in d f p [] (Some (Scalar k)) = Err UnknownName
field_in d f p [] (Some (Struct n)) = field_found f.token p (fields_of (slice_get d.structs n)) (field_from f.name 0 (fields_of (slice_get d.structs n)))
field_in d f p (size ∷ sizes) base = if bytes_eq f.name (codes "size") then Ok (size_part f.token size p) else Err UnknownName

-- a field behind the steps before it
abbrev pub field_rule : Defined → FieldAccess → Part → Result Part CheckKind
field_rule d f p = field_in d f p p.sizes p.base

-- a step: of an index first its expression, and then its own rule
abbrev pub step_checked : ℕ → Defined → Stepping → Part → Verdict Part
step_checked unit d (IndexStep index token) p = do
  e ← index
  rule_at unit token (index_rule unit token e p)
step_checked unit d (FieldStep f) p = rule_at unit f.token (field_rule d f p)

-- steps from the left
abbrev pub steps_checked : ℕ → Defined → List Stepping → Part → Verdict Part
steps_checked unit d [] p = Ok p
steps_checked unit d (step ∷ steps) p = do
  q ← step_checked unit d step p
  steps_checked unit d steps q

-- ---- paths

-- a value of a shape of an expression, with the steps into its root
abbrev pub part_with : Checked → TypedExpr → List TypedStep → Part
part_with c root steps = record { root = root; steps = steps; sizes = c.sizes; base = c.base; depth = c.depth; token = c.token }

-- a path whose root is a path goes on with the steps of that one
abbrev pub opened_in : Checked → TypedExpr-F Argument TypedExpr TypedStep Operand TypedCall TypedLink TypedPlace → Part
opened_in c (form.Literal x) = part_with c c.form []
opened_in c (form.Constant n) = part_with c c.form []
opened_in c (form.Variable x) = part_with c c.form []
opened_in c (form.Unary op k o) = part_with c c.form []
opened_in c (form.Chain o links) = part_with c c.form []
opened_in c (form.Logic l operands) = part_with c c.form []
opened_in c (form.Path root steps) = part_with c root steps
opened_in c (form.Size e size) = part_with c c.form []
opened_in c (form.Call call) = part_with c c.form []

-- the root of a path
abbrev pub opened : Checked → Part
opened c = opened_in c (out-TypedExpr c.form)

-- the path to a part
abbrev pub path_checked : Part → Checked
path_checked p = record { form = part_form p.root p.steps; sizes = p.sizes; base = p.base; depth = p.depth; token = p.token }

-- a path: its steps behind its root
abbrev pub stepped_path : ℕ → Defined → List Stepping → Checked → Verdict Checked
stepped_path unit d steps root = do
  part ← steps_checked unit d steps (opened root)
  Ok (path_checked part)

-- ---- places

-- the place of a variable
abbrev pub place : ℕ → List TypedStep → TypedPlace
place x steps = roll-TypedPlace (record { variable = x; steps = steps })

-- a path is a place where its root is a variable
abbrev pub place_from : List TypedStep → TypedExpr-F Argument TypedExpr TypedStep Operand TypedCall TypedLink TypedPlace → Option TypedPlace
place_from steps (form.Literal x) = None
place_from steps (form.Constant n) = None
place_from steps (form.Variable x) = Some (place x steps)
place_from steps (form.Unary op k o) = None
place_from steps (form.Chain o links) = None
place_from steps (form.Logic l operands) = None
place_from steps (form.Path root more) = None
place_from steps (form.Size e size) = None
place_from steps (form.Call call) = None

-- the place that an expression is; the size of an array, a constant and a call are none
abbrev pub place_in : TypedExpr-F Argument TypedExpr TypedStep Operand TypedCall TypedLink TypedPlace → Option TypedPlace
place_in (form.Literal x) = None
place_in (form.Constant n) = None
place_in (form.Variable x) = Some (place x [])
place_in (form.Unary op k o) = None
place_in (form.Chain o links) = None
place_in (form.Logic l operands) = None
place_in (form.Path root steps) = place_from steps (out-TypedExpr root)
place_in (form.Size e size) = None
place_in (form.Call call) = None

-- the place that an expression is
abbrev pub place_of : TypedExpr → Option TypedPlace
place_of e = place_in (out-TypedExpr e)
