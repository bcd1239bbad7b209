-- What the laws of the checker say of definitions: what is accepted keeps the rules. They are proved above this crate.
use Rattle.std.specs.Prelude.{◌≡◌, ℕ, List, Option, Some, None, Ok, Bool, true, get_or, slice_get}
use Rattle.ctl_tree.specs.Units.{SourceUnit}
use Rattle.ctl_tree.specs.OwnTokens.{Tokens, Below, constant_tokens, function_tokens}
use Rattle.ctl_tree.specs.declared.declaration.Constant.{Constant as WrittenConstant}
use Rattle.ctl_tree.specs.declared.definition.Struct.{Struct as WrittenStruct}
use Rattle.ctl_tree.specs.declared.definition.Function.{Function as WrittenFunction}
use Rattle.ctl_types.specs.declared.program.Constant.{Constant}
use Rattle.ctl_types.specs.declared.program.Struct.{Struct}
use Rattle.ctl_types.specs.Definitions.{Defined, entry_number}
use Rattle.ctl_types.specs.Shapes.{struct_counts}
use Rattle.ctl_types.specs.Scoping.{IsDefined, tokens_of, library_definitions, struct_stands, constant_stands, function_stands, scene_before, scene_of, with_struct, with_constant, with_function, entry_stands}
use Rattle.ctl_scope.specs.Scope.{ScopeForm, IsScope}
use Rattle.ctl_scope.specs.Changes.{after_function, in_unit, in_space, out_of_space, with_space, library_scope}
use Rattle.ctl_scope.specs.Beside.{Beside}
use Rattle.ctl_check_statement.specs.Leading.{Led}
use Rattle.ctl_check_function.specs.declared.functions.Made.{Made}
use Rattle.ctl_check_function.specs.Structs.{struct_checked}
use Rattle.ctl_check_function.specs.Constants.{constant_checked}
use Rattle.ctl_check_function.specs.Functions.{function_checked}
use Rattle.ctl_check_function.specs.Programs.{units_defined}

-- outside functions: the scope numbers the definitions so far, and no function is around
pub record Resting (s : ScopeForm) (d : Defined) : Type 0 where
  pub beside : Beside s d
  pub outside : after_function s ≡ s

-- tokens of the module in which the scope stands
abbrev pub AreTokens : ScopeForm → Defined → Tokens → Type 0
AreTokens s d tokens = Below (get_or (tokens_of d.units) s.unit 0) tokens

-- a definition stays in its module and its namespace
pub record Stays (s after : ScopeForm) : Type 0 where
  pub unit : after.unit ≡ s.unit
  pub spaces : after.spaces ≡ s.spaces

-- a struct that is accepted
pub record StructFits (s : ScopeForm) (d : Defined) (r : Led Struct) : Type 0 where
  pub stands : struct_stands d.structs (struct_counts d.structs) r.made ≡ true
  pub resting : Resting r.scope (with_struct d r.made)
  pub stays : Stays s r.scope

abbrev pub StructsFit : Type 0
StructsFit = (s : ScopeForm) (d : Defined) (w : WrittenStruct) (r : Led Struct) → IsScope s → IsDefined d → Resting s d → struct_checked s d w ≡ Ok r → StructFits s d r

-- a constant that is accepted
pub record ConstantFits (s : ScopeForm) (d : Defined) (r : Led Constant) : Type 0 where
  pub stands : constant_stands (scene_before d) r.made ≡ true
  pub resting : Resting r.scope (with_constant d r.made)
  pub stays : Stays s r.scope

abbrev pub ConstantsFit : Type 0
ConstantsFit =
    (s : ScopeForm) (d : Defined) (c : WrittenConstant) (r : Led Constant)
    → IsScope s → IsDefined d → Resting s d → AreTokens s d (constant_tokens c) → constant_checked s d c ≡ Ok r → ConstantFits s d r

-- a function that is accepted
pub record FunctionFits (s : ScopeForm) (d : Defined) (r : Led Made) : Type 0 where
  pub stands : function_stands (scene_of d) r.made.function ≡ true
  pub resting : Resting r.scope (with_function d r.made.function)
  pub stays : Stays s r.scope

abbrev pub FunctionsFit : Type 0
FunctionsFit =
    (s : ScopeForm) (d : Defined) (is_entry : Bool) (f : WrittenFunction) (r : Led Made)
    → IsScope s → IsDefined d → Resting s d → AreTokens s d (function_tokens f) → function_checked s d is_entry f ≡ Ok r → FunctionFits s d r

-- what stands after a namespace, in the namespace around it
pub record SpaceEnds (s after : ScopeForm) (d : Defined) : Type 0 where
  pub resting : Resting after d
  pub stays : Stays s after

-- they begin so, and modules and namespaces change nothing of it
pub record SpacesRest : Type 0 where
  pub begins : (units : List SourceUnit) → Resting library_scope (library_definitions units)
  pub unit : (s : ScopeForm) (d : Defined) (n : ℕ) → Resting s d → Resting (in_unit n s) d
  pub enter : (s : ScopeForm) (d : Defined) (name : List ℕ) → Resting s d → Resting (in_space name s) d
  pub leave : (s after : ScopeForm) (d : Defined) (name : List ℕ) → Stays (in_space name s) after → Resting after d → SpaceEnds s (with_space name (out_of_space after)) d

-- the entry of a program whose units are accepted gives no value, and its parameters are plain
abbrev pub EntryStands : Type 0
EntryStands =
    (units : List SourceUnit) (all : Led Defined) → units_defined 0 units (record { made = library_definitions units; scope = library_scope }) ≡ Ok all
    → entry_stands all.made (entry_number all.made) ≡ true
