-- What a shape is called.
use Rattle.std.specs.Prelude.{Option, Some, None, Result, Ok, Err}
use Rattle.ctl_base.specs.declared.kind.ScalarKind.TheVariants as kind
use Rattle.ctl_tree.specs.declared.declaration.ShapeKind.{ShapeKind}
use Rattle.ctl_tree.specs.declared.declaration.ShapeKind.TheVariants as called
use Rattle.ctl_tree.specs.declared.declaration.ShapeName.{ShapeName}
use Rattle.ctl_types.specs.declared.shape.Base.{Base}
use Rattle.ctl_types.specs.declared.shape.Base.TheVariants.{Scalar, Struct}
use Rattle.ctl_scope.specs.declared.kind.CheckKind.{CheckKind}
use Rattle.ctl_scope.specs.declared.kind.CheckKind.TheVariants.{UnknownName, NotAType}
use Rattle.ctl_scope.specs.declared.meaning.Meaning.{Meaning}
use Rattle.ctl_scope.specs.declared.meaning.Meaning.TheVariants as meaning
use Rattle.ctl_scope.specs.Scope.{ScopeForm, look_up}
use Rattle.ctl_check_rules.specs.Faults.{Verdict, rule_at}

-- only a struct is the name of a shape
abbrev pub struct_named : Option Meaning → Result Base CheckKind
struct_named None = Err UnknownName
struct_named (Some (meaning.Variable x)) = Err NotAType
struct_named (Some (meaning.Constant n)) = Err NotAType
struct_named (Some (meaning.Function n)) = Err NotAType
struct_named (Some (meaning.Struct n)) = Ok (Struct n)
struct_named (Some meaning.Namespace) = Err NotAType
struct_named (Some (meaning.Library id)) = Err NotAType

-- what the arrays of a shape hold
abbrev pub base_named : ScopeForm → ShapeKind → Result Base CheckKind
base_named s called.Bool = Ok (Scalar kind.Bool)
base_named s called.Int = Ok (Scalar kind.Int)
base_named s called.Unsigned = Ok (Scalar kind.Unsigned)
base_named s called.Half = Ok (Scalar kind.Half)
base_named s called.Float = Ok (Scalar kind.Float)
base_named s (called.Named name) = struct_named (look_up s name)

-- what a shape is called
abbrev pub base_checked : ScopeForm → ShapeName → Verdict Base
base_checked s shape = rule_at s.unit shape.token (base_named s shape.kind)
