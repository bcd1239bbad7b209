-- Laws of look-up.
use Rattle.std.specs.Prelude.{◌≡◌, ℕ, List, ◌∷◌, ◌++◌, Option, Some, None, Bool, true, false, length, slice_get, nat_lt}
use Rattle.ctl_tree.specs.declared.expression.QualifiedName.{QualifiedName}
use Rattle.ctl_tree.specs.Units.{SourceUnit}
use Rattle.ctl_types.specs.declared.program.Struct.{Struct as StructForm}
use Rattle.ctl_types.specs.declared.program.Constant.{Constant as ConstantForm}
use Rattle.ctl_types.specs.declared.program.Function.{Function}
use Rattle.ctl_types.specs.Shapes.{struct_scalars, struct_counts}
use Rattle.ctl_types.specs.Definitions.{Defined}
use Rattle.ctl_types.specs.Typing.{Variable}
use Rattle.ctl_types.specs.Scoping as defined
use Rattle.ctl_types.specs.Scoping.{library_definitions, scene_of, function_signature}
use Rattle.ctl_scope.specs.declared.meaning.Meaning.{Meaning}
use Rattle.ctl_scope.specs.declared.meaning.Meaning.TheVariants as meaning
use Rattle.ctl_scope.specs.declared.block.Block.{Block}
use Rattle.ctl_scope.specs.Names.{meaning_in}
use Rattle.ctl_scope.specs.Changes.{library_scope, entered, left, declared, with_parameter, in_head, in_default, in_body, after_function, whole_name, is_defined, with_struct, with_constant, with_function}
use Rattle.ctl_scope.specs.Beside.{Beside}
use Rattle.ctl_scope.specs.Scope.{ScopeForm, IsScope, look_up, is_plain, is_visible, visible, in_blocks}

-- what a name means is there
abbrev pub is_there : ScopeForm → Option Meaning → Bool
is_there s None = true
is_there s (Some (meaning.Variable n)) = is_visible (slice_get (visible s) n)
is_there s (Some (meaning.Constant n)) = nat_lt n s.constants
is_there s (Some (meaning.Function n)) = nat_lt n (length s.depths)
is_there s (Some (meaning.Struct n)) = nat_lt n (length s.counts)
is_there s (Some meaning.Namespace) = true
is_there s (Some (meaning.Library id)) = true

-- look-up finds only what is there
abbrev pub FoundIsThere : Type 0
FoundIsThere = (s : ScopeForm) → IsScope s → (name : QualifiedName) → is_there s (look_up s name) ≡ true

-- Look-up finds the innermost: a plain name that a block has means there what it means in that block, where no block inside
-- of that one has it.
abbrev pub InnermostIsFound : Type 0
InnermostIsFound =
    (s : ScopeForm) (name : QualifiedName) (inner : List Block) (b : Block) (around : List Block) (m : Meaning)
    → s.sees_variables ≡ true → is_plain name ≡ true → s.blocks ≡ inner ++ b ∷ around
    → in_blocks name.name inner ≡ None → meaning_in name.name b.names ≡ Some m → look_up s name ≡ Some m

-- ---- what scopes keep

-- A scope stays one where a block begins or ends, a variable or a parameter is declared, and a function begins and ends.
pub record StaysScope (s : ScopeForm) : Type 0 where
  pub enter : IsScope (entered s)
  pub leave : IsScope (left s)
  pub variable : (name : List ℕ) (v : Variable) → IsScope (declared name v s)
  pub parameter : (name : List ℕ) (v : Variable) (n : ℕ) → IsScope (with_parameter name v n s)
  pub head : (name : List ℕ) → IsScope (in_head name s)
  pub default : IsScope (in_default s)
  pub body : (name : List ℕ) → IsScope (in_body name s)
  pub ended : IsScope (after_function s)

abbrev pub ScopesStay : Type 0
ScopesStay = (s : ScopeForm) → IsScope s → StaysScope s

-- ---- the scope beside the definitions that it numbers

-- They begin together.
abbrev pub BesideBegins : Type 0
BesideBegins = (units : List SourceUnit) → Beside library_scope (library_definitions units)

-- They grow together. A struct or a constant more changes no signature of a function that is there, which is a premise.
abbrev pub SameSignatures : Defined → Defined → Type 0
SameSignatures d e = (scene_of e).functions ≡ (scene_of d).functions

pub record BesideGrows (s : ScopeForm) (d : Defined) (name : List ℕ) : Type 0 where
  pub struct : (more : StructForm) → SameSignatures d (defined.with_struct d more) → Beside (with_struct name (struct_scalars (struct_counts d.structs) more) s) (defined.with_struct d more)
  pub constant : (more : ConstantForm) → SameSignatures d (defined.with_constant d more) → Beside (with_constant name s) (defined.with_constant d more)
  pub function : (more : Function) → more.name ≡ whole_name s name → is_defined s name ≡ false → Beside (with_function name (function_signature (scene_of d) more).depth s) (defined.with_function d more)

abbrev pub BesideGrow : Type 0
BesideGrow = (s : ScopeForm) (d : Defined) (name : List ℕ) → Beside s d → BesideGrows s d name
