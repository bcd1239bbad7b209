-- What the checker says of the parameters of a function.
use Rattle.std.specs.Prelude.{ℕ, List, [], ◌∷◌, ◌++◌, Option, Some, None, Result, Ok, Err, Bool, true, false, not, ◌&&◌, if◌then◌else◌}
use Rattle.ctl_tree.specs.declared.declaration.Initialiser.{Initialiser as Written}
use Rattle.ctl_tree.specs.declared.definition.Direction.{Direction}
use Rattle.ctl_tree.specs.declared.definition.Direction.TheVariants as direction
use Rattle.ctl_tree.specs.declared.definition.Parameter.{Parameter as WrittenParameter}
use Rattle.ctl_types.specs.declared.shape.Shape.{Shape}
use Rattle.ctl_types.specs.declared.program.Parameter.{Parameter}
use Rattle.ctl_types.specs.declared.value.Value.{Value}
use Rattle.ctl_types.specs.Definitions.{Defined}
use Rattle.ctl_types.specs.Shapes.{extents, base_of, local, open_count}
use Rattle.ctl_types.specs.Typing.{Variable, are_stated}
use Rattle.ctl_types.specs.Scoping.{is_plain_base}
use Rattle.ctl_scope.specs.declared.kind.CheckKind.{CheckKind}
use Rattle.ctl_scope.specs.declared.kind.CheckKind.TheVariants.{BadEntry}
use Rattle.ctl_scope.specs.Scope.{ScopeForm}
use Rattle.ctl_scope.specs.Changes.{is_declared, in_default, with_parameter}
use Rattle.ctl_check_rules.specs.Faults.{Verdict, ◌>>=◌, rule_at, node_of}
use Rattle.ctl_check_init.specs.declared.begun.Begun.{Begun}
use Rattle.ctl_check_init.specs.Initialisers.{begun}
use Rattle.ctl_check_statement.specs.Leading.{Led}
use Rattle.ctl_check_statement.specs.Declarations.{shape_checked}
use Rattle.ctl_check_function.specs.Values.{first_value}
use Rattle.ctl_check_function.specs.Names.{new_rule, begun_new}

-- one that is not marked `output` is an input
abbrev pub is_marked_output : Option Direction → Bool
is_marked_output None = false
is_marked_output (Some direction.Input) = false
is_marked_output (Some direction.Output) = true

-- a parameter of a shape
abbrev pub parameter_form : ℕ → WrittenParameter → Shape → Option Value → Parameter
parameter_form unit p shape default = record { name = p.name; node = node_of unit p.token; shape = shape; is_output = is_marked_output p.direction; level = p.level; default = default }

-- a parameter is visible from its end on, with the next number; an output may be assigned
abbrev pub parameter_seen : Parameter → ScopeForm → ScopeForm
parameter_seen q s = with_parameter q.name (record { shape = local s.opens q.shape; is_assignable = q.is_output }) (open_count (extents q.shape)) s

-- a parameter of the entry is of no struct, and has no open size
abbrev pub is_plain : Shape → Bool
is_plain shape = is_plain_base (base_of shape) && are_stated (local 0 shape).sizes

abbrev pub plain_rule : Bool → Shape → Result (Unit {0}) CheckKind
plain_rule is_entry shape = if is_entry && not (is_plain shape) then Err BadEntry else Ok tt

-- the rules at the name of a parameter without a default
abbrev pub plain_new : Bool → ScopeForm → WrittenParameter → Shape → Verdict (Unit {0})
plain_new is_entry s p shape = do
  fresh ← rule_at s.unit p.token (new_rule (is_declared s.blocks p.name))
  rule_at s.unit p.token (plain_rule is_entry shape)

module _ (d : Defined) (is_entry : Bool) where
  -- the value of a default that is begun so, after the rules at the name of its parameter
  abbrev pub default_valued : ScopeForm → WrittenParameter → Shape → Option Begun → Verdict Value
  default_valued s p shape given = do
    b ← rule_at s.unit p.token (begun_new s.counts (is_declared s.blocks p.name) (base_of shape) given)
    plain ← rule_at s.unit p.token (plain_rule is_entry shape)
    rule_at s.unit p.token (first_value d b.form)

  -- a default, in its own scope
  abbrev pub default_checked : ScopeForm → WrittenParameter → Shape → Written → Verdict Value
  default_checked s p shape i = do
    given ← begun s d i (Some shape)
    default_valued s p shape given

  -- A parameter of a shape: its default, which sees no variables, and then the rules at its name, and at last its value.
  abbrev pub parameter_with : ScopeForm → WrittenParameter → Shape → Option Written → Verdict Parameter
  parameter_with s p shape None = do
    plain ← plain_new is_entry s p shape
    Ok (parameter_form s.unit p shape None)
  parameter_with s p shape (Some i) = do
    v ← default_checked (in_default s) p shape i
    Ok (parameter_form s.unit p shape (Some v))

  -- what its shape is called, the sizes of its arrays, and then what stands behind
  abbrev pub parameter_checked : ScopeForm → WrittenParameter → Verdict Parameter
  parameter_checked s p = do
    shape ← shape_checked s d true p.shape p.sizes
    parameter_with s p shape p.value

  -- a parameter behind those before it
  abbrev pub next_parameter : WrittenParameter → Led (List Parameter) → Verdict (Led (List Parameter))
  next_parameter p before = do
    q ← parameter_checked before.scope p
    Ok (record { made = before.made ++ q ∷ []; scope = parameter_seen q before.scope })

  -- parameters from the left
  abbrev pub parameters_checked : List WrittenParameter → Led (List Parameter) → Verdict (Led (List Parameter))
  parameters_checked [] before = Ok before
  parameters_checked (p ∷ parameters) before = do
    after ← next_parameter p before
    parameters_checked parameters after
