-- What the checker says of definitions: one fold, which takes along the scope and the definitions so far.
use Rattle.std.specs.Prelude.{ℕ, List, [], ◌∷◌, Option, Some, None, Result, Ok, Err, Bool, true, false, if◌then◌else◌}
use Rattle.ctl_tree.specs.declared.declaration.Constant.{Constant}
use Rattle.ctl_tree.specs.declared.definition.Struct.{Struct}
use Rattle.ctl_tree.specs.declared.definition.Function.{Function}
use Rattle.ctl_tree.specs.declared.definition.Definition.{Definition}
use Rattle.ctl_tree.specs.declared.definition.Namespace.{Namespace}
use Rattle.ctl_tree.specs.declared.definition.Definition.TheOpen.{Definition-F, Namespace-F, Namespace as NamespaceForm, Struct as StructForm, Constant as ConstantForm, Function as FunctionForm}
use Rattle.ctl_tree.specs.declared.definition.Definition.TheFolds.{fold-Definition, fold-Namespace}
use Rattle.ctl_types.specs.Definitions.{Defined}
use Rattle.ctl_types.specs.Scoping.{with_struct, with_constant, with_function}
use Rattle.ctl_scope.specs.declared.kind.CheckKind.{CheckKind}
use Rattle.ctl_scope.specs.declared.kind.CheckKind.TheVariants.{Twice}
use Rattle.ctl_scope.specs.Scope.{ScopeForm}
use Rattle.ctl_scope.specs.Changes.{in_space, out_of_space, is_other, with_space}
use Rattle.ctl_check_rules.specs.Faults.{Verdict, ◌>>=◌, rule_at}
use Rattle.ctl_check_statement.specs.Leading.{Led}
use Rattle.ctl_check_function.specs.Structs.{struct_checked}
use Rattle.ctl_check_function.specs.Constants.{constant_checked}
use Rattle.ctl_check_function.specs.Functions.{function_checked}
use Rattle.ctl_check_function.specs.Entry.{is_entry}

-- the definitions so far, with the scope in which the next one stands
abbrev pub Defining : Type 0
Defining = Led Defined → Verdict (Led Defined)

-- ---- structs, constants and functions

abbrev pub struct_defined : Struct → Defining
struct_defined w before = do
  after ← struct_checked before.scope before.made w
  Ok (record { made = with_struct before.made after.made; scope = after.scope })

abbrev pub constant_defined : Constant → Defining
constant_defined c before = do
  after ← constant_checked before.scope before.made c
  Ok (record { made = with_constant before.made after.made; scope = after.scope })

abbrev pub function_defined : Function → Defining
function_defined f before = do
  after ← function_checked before.scope before.made (is_entry before.made.units before.scope.unit f.token) f
  Ok (record { made = with_function before.made after.made.function; scope = after.scope })

-- ---- namespaces

-- definitions one after another
abbrev pub all_defined : List Defining → Defining
all_defined [] before = Ok before
all_defined (a ∷ rest) before = do
  after ← a before
  all_defined rest after

-- the name of a namespace stands for nothing else
abbrev pub space_rule : List ℕ → ScopeForm → Result (Unit {0}) CheckKind
space_rule name s = if is_other s name then Err Twice else Ok tt

-- a namespace behind its definitions, in the scope around it
abbrev pub space_named : List ℕ → ℕ → Defined → ScopeForm → Verdict (Led Defined)
space_named name token d s = do
  fine ← rule_at s.unit token (space_rule name s)
  Ok (record { made = d; scope = with_space name s })

-- a namespace: its definitions, and then its own name
abbrev pub space_defined : List ℕ → ℕ → List Defining → Defining
space_defined name token parts before = do
  after ← all_defined parts (record { made = before.made; scope = in_space name before.scope })
  space_named name token after.made (out_of_space after.scope)

-- ---- the fold

abbrev pub definition_step : Definition-F Defining Defining → Defining
definition_step (NamespaceForm space) before = space before
definition_step (StructForm struct) before = struct_defined struct before
definition_step (ConstantForm constant) before = constant_defined constant before
definition_step (FunctionForm function) before = function_defined function before

abbrev pub namespace_step : Namespace-F Defining Defining → Defining
namespace_step space = space_defined space.name space.token space.definitions

-- the verdict on a definition
abbrev pub defined : Definition → Defining
defined = fold-Definition Defining Defining definition_step namespace_step

-- on a namespace
abbrev pub namespace_defined : Namespace → Defining
namespace_defined = fold-Namespace Defining Defining definition_step namespace_step
