-- What the checker says of structs.
use Rattle.std.specs.Prelude.{ℕ, List, [], ◌∷◌, ◌++◌, Option, Some, None, Result, Ok, Err, Bool, true, false, ◌||◌, if◌then◌else◌, bytes_eq, nat_lt, nat_le, length, ◌&&◌}
use Rattle.ctl_base.specs.declared.limits.TheConstants.{SCALARS}
use Rattle.ctl_tree.specs.declared.definition.Field.{Field as WrittenField}
use Rattle.ctl_tree.specs.declared.definition.Struct.{Struct as Written}
use Rattle.ctl_types.specs.declared.shape.Shape.{Shape}
use Rattle.ctl_types.specs.declared.program.Field.{Field}
use Rattle.ctl_types.specs.declared.program.Struct.{Struct}
use Rattle.ctl_types.specs.Definitions.{Defined}
use Rattle.ctl_types.specs.Shapes.{struct_scalars}
use Rattle.ctl_scope.specs.declared.kind.CheckKind.{CheckKind}
use Rattle.ctl_scope.specs.declared.kind.CheckKind.TheVariants.{Twice, BadSize}
use Rattle.ctl_scope.specs.Scope.{ScopeForm}
use Rattle.ctl_scope.specs.Changes.{is_defined, with_struct}
use Rattle.ctl_check_rules.specs.Faults.{Verdict, ◌>>=◌, rule_at}
use Rattle.ctl_check_statement.specs.Leading.{Led}
use Rattle.ctl_check_statement.specs.Declarations.{shape_checked}

-- a field of this name is there
abbrev pub has_field : List ℕ → List Field → Bool
has_field name [] = false
has_field name (f ∷ fields) = bytes_eq name f.name || has_field name fields

-- one more field, whose name is new among the fields
abbrev pub field_rule : List ℕ → Shape → List Field → Result (List Field) CheckKind
field_rule name shape before = if has_field name before then Err Twice else Ok (before ++ record { name = name; shape = shape } ∷ [])

-- a field behind those before it; its sizes are stated
abbrev pub field_checked : ScopeForm → Defined → WrittenField → List Field → Verdict (List Field)
field_checked s d f before = do
  shape ← shape_checked s d false f.shape f.sizes
  rule_at s.unit f.token (field_rule f.name shape before)

-- fields from the left
abbrev pub fields_checked : ScopeForm → Defined → List WrittenField → List Field → Verdict (List Field)
fields_checked s d [] before = Ok before
fields_checked s d (f ∷ fields) before = do
  after ← field_checked s d f before
  fields_checked s d fields after

-- the name is new in its namespace, there is a field, and the scalars have their limit
abbrev pub struct_rule : Bool → ℕ → ℕ → Result (Unit {0}) CheckKind
struct_rule is_twice fields scalars = if is_twice then Err Twice else (if nat_lt 0 fields && nat_le scalars SCALARS then Ok tt else Err BadSize)

-- a struct of fields, under its name
abbrev pub struct_named : ScopeForm → Written → Struct → Verdict (Led Struct)
struct_named s w made = do
  fine ← rule_at s.unit w.token (struct_rule (is_defined s w.name) (length made.fields) (struct_scalars s.counts made))
  Ok (record { made = made; scope = with_struct w.name (struct_scalars s.counts made) s })

-- a struct: its fields, and then its rule
abbrev pub struct_checked : ScopeForm → Defined → Written → Verdict (Led Struct)
struct_checked s d w = do
  fields ← fields_checked s d w.fields []
  struct_named s w (record { fields = fields })
