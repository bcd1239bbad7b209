-- Which function is the entry. It is known by its name before anything is checked.
use Rattle.std.specs.Prelude.{ℕ, List, [], ◌∷◌, length, Option, Some, None, Bool, true, false, ◌&&◌, ◌==◌, ◌-◌, if◌then◌else◌, codes, bytes_eq}
use Rattle.ctl_tree.specs.Units.{SourceUnit}
use Rattle.ctl_tree.specs.declared.definition.Function.{Function}
use Rattle.ctl_tree.specs.declared.definition.Namespace.{Namespace}
use Rattle.ctl_tree.specs.declared.definition.Definition.{Definition, out-Definition}
use Rattle.ctl_tree.specs.declared.definition.Definition.TheOpen.{Definition-F, Namespace as NamespaceForm, Struct as StructForm, Constant as ConstantForm, Function as FunctionForm}
use Rattle.ctl_types.specs.Definitions.{first_found, stem}
use Rattle.ctl_check_function.specs.declared.entry.Entry.{Entry}

-- the token of a definition, where it is a function of a name
abbrev pub token_in : List ℕ → Definition-F Definition Namespace → Option ℕ
token_in name (NamespaceForm n) = None
token_in name (StructForm s) = None
token_in name (ConstantForm c) = None
token_in name (FunctionForm f) = if bytes_eq f.name name then Some f.token else None

-- the token of the first function of a name among these definitions, those in namespaces left out
abbrev pub function_token : List ℕ → List Definition → Option ℕ
function_token name [] = None
function_token name (e ∷ definitions) = first_found (token_in name (out-Definition e)) (function_token name definitions)

-- the token of the entry of a module: of the function named main, else of the one named as the file without its folder and
-- without `.ctl`
abbrev pub entry_in : SourceUnit → Option ℕ
entry_in u = first_found (function_token (codes "main") u.«module».definitions) (function_token (stem u.file) u.«module».definitions)

-- the entry of a program is that of the root, which is the last unit
abbrev pub entry_token : List SourceUnit → Option ℕ
entry_token [] = None
entry_token (u ∷ []) = entry_in u
entry_token (u ∷ v ∷ units) = entry_token (v ∷ units)

-- the entry of a program: the place of the root, and the token of the function there, where there is one
abbrev pub entry_of : List SourceUnit → Entry
entry_of units = record { unit = length units - 1; token = entry_token units }

-- whether a token is that one
abbrev pub is_token : ℕ → Option ℕ → Bool
is_token token None = false
is_token token (Some entry) = token == entry

-- whether a function of a unit is the entry
abbrev pub is_function : Entry → ℕ → ℕ → Bool
is_function e unit token = unit == e.unit && is_token token e.token

abbrev pub is_entry : List SourceUnit → ℕ → ℕ → Bool
is_entry units unit token = is_function (entry_of units) unit token
