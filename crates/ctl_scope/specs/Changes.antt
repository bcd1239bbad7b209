-- How a scope changes while a module is read.
use Rattle.std.specs.Prelude.{ℕ, ◌+◌, ◌-◌, List, [], ◌∷◌, ◌++◌, take, replicate, length, Option, Some, None, is_some, Bool, true, false, codes}
use Rattle.ctl_types.specs.Typing.{Variable, Variables}
use Rattle.ctl_scope.specs.declared.meaning.Meaning.{Meaning}
use Rattle.ctl_scope.specs.declared.meaning.Meaning.TheVariants as meaning
use Rattle.ctl_scope.specs.declared.around.Around.{Around}
use Rattle.ctl_scope.specs.declared.around.Around.TheVariants.{Outside, Head, Body}
use Rattle.ctl_scope.specs.declared.block.Block.{Block}
use Rattle.ctl_scope.specs.Names.{meaning_in}
use Rattle.ctl_scope.specs.Scope.{ScopeForm}

-- a block that begins where the next variable has number n
abbrev pub empty_block : ℕ → Block
empty_block n = record { start = n; names = [] }

-- before all modules: the struct of the library with its 8 scalars, and its seven constants
abbrev pub library_scope : ScopeForm
library_scope = record {
  names = [];
  counts = 8 ∷ [];
  constants = 7;
  depths = [];
  spaces = [];
  unit = 0;
  around = Outside;
  sees_variables = true;
  blocks = empty_block 0 ∷ [];
  variables = [];
  opens = 0;
}

-- in the module of this place in load order
abbrev pub in_unit : ℕ → ScopeForm → ScopeForm
in_unit n s = record s { unit = n }

-- ---- blocks and variables

-- a block begins
abbrev pub entered : ScopeForm → ScopeForm
entered s = record s { blocks = empty_block (length s.variables) ∷ s.blocks }

-- from number n on no variable is visible any more
abbrev pub hidden_from : ℕ → Variables → Variables
hidden_from n variables = take n variables ++ replicate (length variables - n) None

-- A block ends inside the next one, and its variables are not visible any more. The outermost block does not end.
abbrev pub left_from : List Block → ScopeForm → ScopeForm
left_from [] s = s
left_from (b ∷ []) s = s
left_from (b ∷ around ∷ blocks) s = record s { blocks = around ∷ blocks; variables = hidden_from b.start s.variables }

-- the innermost block ends
abbrev pub left : ScopeForm → ScopeForm
left s = left_from s.blocks s

-- whether the innermost block has a name
abbrev pub is_declared : List Block → List ℕ → Bool
is_declared [] name = false
is_declared (b ∷ blocks) name = is_some (meaning_in name b.names)

-- a name in the innermost block
abbrev pub with_name : List ℕ → Meaning → List Block → List Block
with_name name m [] = []
with_name name m (b ∷ blocks) = record { start = b.start; names = b.names ++ (name, m) ∷ [] } ∷ blocks

-- a variable is declared, with the next number
abbrev pub declared : List ℕ → Variable → ScopeForm → ScopeForm
declared name v s = record s { blocks = with_name name (meaning.Variable (length s.variables)) s.blocks; variables = s.variables ++ Some v ∷ [] }

-- ---- functions

-- no variables, and this function around
abbrev pub cleared : Around → ScopeForm → ScopeForm
cleared around s = record s { around = around; sees_variables = true; blocks = empty_block 0 ∷ []; variables = []; opens = 0 }

-- The head of a function begins. Its parameters stand in a block of their own.
abbrev pub in_head : List ℕ → ScopeForm → ScopeForm
in_head name s = cleared (Head name) s

-- a parameter is declared, with so many open sizes
abbrev pub with_parameter : List ℕ → Variable → ℕ → ScopeForm → ScopeForm
with_parameter name v n s = record (declared name v s) { opens = s.opens + n }

-- a default of a parameter begins, and ends
abbrev pub in_default : ScopeForm → ScopeForm
in_default s = record s { sees_variables = false }

abbrev pub after_default : ScopeForm → ScopeForm
after_default s = record s { sees_variables = true }

-- the body of a function begins
abbrev pub in_body : List ℕ → ScopeForm → ScopeForm
in_body name s = record s { around = Body name }

-- a function ends
abbrev pub after_function : ScopeForm → ScopeForm
after_function s = cleared Outside s

-- ---- definitions

-- what stands in front of a whole name in the innermost namespace
abbrev pub prefix : List (List ℕ) → List ℕ
prefix [] = []
prefix (s ∷ []) = s
prefix (s ∷ t ∷ spaces) = prefix (t ∷ spaces)

-- a name with the namespaces around in front
abbrev pub whole_name : ScopeForm → List ℕ → List ℕ
whole_name s name = prefix s.spaces ++ name

-- whether the namespace around has a name
abbrev pub is_defined : ScopeForm → List ℕ → Bool
is_defined s name = is_some (meaning_in (whole_name s name) s.names)

-- a name of the namespace around with its meaning
abbrev pub with_named : List ℕ → Meaning → ScopeForm → ScopeForm
with_named name m s = record s { names = s.names ++ (whole_name s name, m) ∷ [] }

-- one more struct, of so many scalars
abbrev pub struct_counted : ℕ → ScopeForm → ScopeForm
struct_counted scalars s = record s { counts = s.counts ++ scalars ∷ [] }

-- one more constant
abbrev pub constant_counted : ScopeForm → ScopeForm
constant_counted s = record s { constants = s.constants + 1 }

-- one more function, of this depth
abbrev pub function_counted : ℕ → ScopeForm → ScopeForm
function_counted depth s = record s { depths = s.depths ++ depth ∷ [] }

-- a definition has the next number of its kind under its name
abbrev pub with_struct : List ℕ → ℕ → ScopeForm → ScopeForm
with_struct name scalars s = with_named name (meaning.Struct (length s.counts)) (struct_counted scalars s)

abbrev pub with_constant : List ℕ → ScopeForm → ScopeForm
with_constant name s = with_named name (meaning.Constant s.constants) (constant_counted s)

abbrev pub with_function : List ℕ → ℕ → ScopeForm → ScopeForm
with_function name depth s = with_named name (meaning.Function (length s.depths)) (function_counted depth s)

-- ---- namespaces

-- a namespace begins
abbrev pub in_space : List ℕ → ScopeForm → ScopeForm
in_space name s = record s { spaces = s.spaces ++ (whole_name s name ++ codes "::") ∷ [] }

-- all but the last
abbrev pub but_last : List (List ℕ) → List (List ℕ)
but_last [] = []
but_last (s ∷ []) = []
but_last (s ∷ t ∷ spaces) = s ∷ but_last (t ∷ spaces)

-- the innermost namespace ends
abbrev pub out_of_space : ScopeForm → ScopeForm
out_of_space s = record s { spaces = but_last s.spaces }

-- A namespace has a name at its end. It may have that of an earlier namespace, which it continues.
abbrev pub is_no_space : Option Meaning → Bool
is_no_space None = false
is_no_space (Some (meaning.Variable n)) = true
is_no_space (Some (meaning.Constant n)) = true
is_no_space (Some (meaning.Function n)) = true
is_no_space (Some (meaning.Struct n)) = true
is_no_space (Some meaning.Namespace) = false
is_no_space (Some (meaning.Library id)) = true

-- whether the name of a namespace stands already for something else
abbrev pub is_other : ScopeForm → List ℕ → Bool
is_other s name = is_no_space (meaning_in (whole_name s name) s.names)

-- with the name of a namespace, if it is new
abbrev pub with_new : Option Meaning → List ℕ → ScopeForm → ScopeForm
with_new None name s = with_named name meaning.Namespace s
with_new (Some m) name s = s

-- with the name of a namespace
abbrev pub with_space : List ℕ → ScopeForm → ScopeForm
with_space name s = with_new (meaning_in (whole_name s name) s.names) name s
