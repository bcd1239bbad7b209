-- What is known while a program is checked, and what a name means there.
use Rattle.std.specs.Prelude.{◌≡◌, ℕ, ◌≤◌, List, [], ◌∷◌, ◌++◌, length, Option, Some, None, Bool, true, false, not, ◌&&◌, if◌then◌else◌, slice_get, nat_lt, nat_le, codes, bytes_eq, refl}
use Rattle.std.specs.Coded.{Coded, code_by, coded×, coded_ℕ, coded_bool, coded_list, coded_option}
use Rattle.ctl_tree.specs.declared.expression.QualifiedName.{QualifiedName}
use Rattle.ctl_types.specs.Typing.{Variable, Variables}
use Rattle.ctl_scope.specs.declared.kind.CheckKind.{CheckKind}
use Rattle.ctl_scope.specs.declared.kind.CheckKind.TheVariants.{UnknownName, Recursion}
use Rattle.ctl_scope.specs.declared.meaning.Meaning.{Meaning}
use Rattle.ctl_scope.specs.declared.meaning.Meaning.TheVariants as meaning
use Rattle.ctl_scope.specs.declared.around.Around.{Around}
use Rattle.ctl_scope.specs.declared.around.Around.TheVariants.{Outside, Head, Body}
use Rattle.ctl_scope.specs.declared.block.Block.{Block}
use Rattle.ctl_scope.specs.contracts.around.Around as around_row
use Rattle.ctl_scope.specs.contracts.block.Block as block_row
use Rattle.ctl_scope.specs.Variables.{variable_code}
use Rattle.ctl_scope.specs.Names.{Names, names_code, meaning_in, first_found, library_names}

-- What is known at a place of a program. A block is a scope of its own: its names, and the number that the next variable had
-- where it began.
pub record ScopeForm : Type 0 where
  -- the definitions so far by whole names, as `a::b::x`
  pub names : Names
  -- the scalars of each struct, the number of constants, the depth of each function, those of the library with them
  pub counts : List ℕ
  pub constants : ℕ
  pub depths : List ℕ
  -- the namespaces around, the outermost first, each as it stands in front of a whole name: `a::`, `a::b::`
  pub spaces : List (List ℕ)
  -- the place of the module in load order
  pub unit : ℕ
  -- the function around
  pub around : Around
  -- whether variables are seen: the default of a parameter sees none
  pub sees_variables : Bool
  -- the innermost first; in a function the outermost is that of the parameters
  pub blocks : List Block
  -- the variables of the function by their numbers, none where a variable is not visible any more
  pub variables : Variables
  -- how many open sizes the parameters have
  pub opens : ℕ

-- ---- look-up

-- no names
abbrev pub is_none : List (List ℕ) → Bool
is_none [] = true
is_none (s ∷ spaces) = false

-- a name with nothing in front
abbrev pub is_plain : QualifiedName → Bool
is_plain name = not name.is_global && is_none name.spaces

-- a name behind namespaces
abbrev pub behind : List (List ℕ) → List ℕ → List ℕ
behind [] name = name
behind (s ∷ spaces) name = s ++ (codes "::" ++ behind spaces name)

-- a name as it is written, without a `::` in front
abbrev pub written : QualifiedName → List ℕ
written name = behind name.spaces name.name

-- variables, from the innermost block outwards
abbrev pub in_blocks : List ℕ → List Block → Option Meaning
in_blocks name [] = None
in_blocks name (b ∷ blocks) = first_found (meaning_in name b.names) (in_blocks name blocks)

-- definitions, from the innermost namespace outwards: `a::b::x`, `a::x`
abbrev pub in_spaces : List ℕ → List (List ℕ) → Names → Option Meaning
in_spaces name [] names = None
in_spaces name (s ∷ spaces) names = first_found (in_spaces name spaces names) (meaning_in (s ++ name) names)

-- a plain name among the variables
abbrev pub variable_named : ScopeForm → QualifiedName → Option Meaning
variable_named s name = if s.sees_variables && is_plain name then in_blocks name.name s.blocks else None

-- a name among the definitions; behind a leading `::` only as it is written
abbrev pub definition_named : ScopeForm → QualifiedName → Option Meaning
definition_named s name = first_found (if name.is_global then None else in_spaces (written name) s.spaces s.names) (meaning_in (written name) s.names)

-- A name means a variable, else a definition, else what the library has under it.
abbrev pub look_up : ScopeForm → QualifiedName → Option Meaning
look_up s name = first_found (variable_named s name) (first_found (definition_named s name) (meaning_in (written name) library_names))

-- ---- the function around

-- a function of this name is around
abbrev pub is_around : Around → List ℕ → Bool
is_around Outside name = false
is_around (Head f) name = bytes_eq f name
is_around (Body f) name = bytes_eq f name

-- what is wrong with a call of a name that means nothing
abbrev pub unknown_call : ScopeForm → QualifiedName → CheckKind
unknown_call s name = if is_plain name && is_around s.around name.name then Recursion else UnknownName

-- the variables that are seen
abbrev pub visible : ScopeForm → Variables
visible s = if s.sees_variables then s.variables else []

-- ---- what every scope keeps

-- a variable that is visible
abbrev pub is_visible : Option (Option Variable) → Bool
is_visible None = false
is_visible (Some None) = false
is_visible (Some (Some v)) = true

-- a meaning of a definition, where there are so many structs, constants and functions
abbrev pub is_definition : ℕ → ℕ → ℕ → Meaning → Bool
is_definition structs constants functions (meaning.Variable n) = false
is_definition structs constants functions (meaning.Constant n) = nat_lt n constants
is_definition structs constants functions (meaning.Function n) = nat_lt n functions
is_definition structs constants functions (meaning.Struct n) = nat_lt n structs
is_definition structs constants functions meaning.Namespace = true
is_definition structs constants functions (meaning.Library id) = false

-- each name means a definition
abbrev pub are_definitions : ℕ → ℕ → ℕ → Names → Bool
are_definitions structs constants functions [] = true
are_definitions structs constants functions (n ∷ names) = is_definition structs constants functions n.1 && are_definitions structs constants functions names

-- a meaning in a block: a variable that is visible, with a number below this one
abbrev pub is_variable : Variables → ℕ → Meaning → Bool
is_variable variables below (meaning.Variable n) = nat_lt n below && is_visible (slice_get variables n)
is_variable variables below (meaning.Constant n) = false
is_variable variables below (meaning.Function n) = false
is_variable variables below (meaning.Struct n) = false
is_variable variables below meaning.Namespace = false
is_variable variables below (meaning.Library id) = false

-- each name means such a variable
abbrev pub are_variables : Variables → ℕ → Names → Bool
are_variables variables below [] = true
are_variables variables below (n ∷ names) = is_variable variables below n.1 && are_variables variables below names

-- in each block stand the variables that were declared before the next inner block began
abbrev pub blocks_stand : Variables → ℕ → List Block → Bool
blocks_stand variables below [] = true
blocks_stand variables below (b ∷ blocks) =
    (are_variables variables below b.names && nat_le b.start below) && blocks_stand variables b.start blocks

-- What every scope keeps: each meaning has a number that is there. The library has one struct and seven constants.
pub record IsScope (s : ScopeForm) : Type 0 where
  pub definitions : are_definitions (length s.counts) s.constants (length s.depths) s.names ≡ true
  pub structs : 1 ≤ length s.counts
  pub constants : 7 ≤ s.constants
  pub blocks : blocks_stand s.variables (length s.variables) s.blocks ≡ true

-- ---- scopes as they are stored

-- a scope is stored as its parts
abbrev pub scope_code : Coded ScopeForm
scope_code =
    code_by (Names × (List ℕ × (ℕ × (List ℕ × (List (List ℕ) × (ℕ × (Around × (Bool × (List Block × (Variables × ℕ))))))))))
    (coded× names_code (coded× (coded_list coded_ℕ) (coded× coded_ℕ (coded× (coded_list coded_ℕ) (coded× (coded_list (coded_list coded_ℕ)) (coded× coded_ℕ (coded× around_row.the_row.coded (coded× coded_bool (coded× (coded_list block_row.the_row.coded) (coded× (coded_list (coded_option variable_code)) coded_ℕ))))))))))
    (λ s. (s.names, (s.counts, (s.constants, (s.depths, (s.spaces, (s.unit, (s.around, (s.sees_variables, (s.blocks, (s.variables, s.opens)))))))))))
    (λ p. record { names = p.0; counts = p.1.0; constants = p.1.1.0; depths = p.1.1.1.0; spaces = p.1.1.1.1.0; unit = p.1.1.1.1.1.0; around = p.1.1.1.1.1.1.0; sees_variables = p.1.1.1.1.1.1.1.0; blocks = p.1.1.1.1.1.1.1.1.0; variables = p.1.1.1.1.1.1.1.1.1.0; opens = p.1.1.1.1.1.1.1.1.1.1 })
    (λ s. refl)
