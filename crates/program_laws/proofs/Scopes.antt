-- A scope stays one while definitions are made.
use Rattle.std.proofs.Common.{◌≡◌, ℕ, ◌+◌, ◌≤◌, List, [], ◌∷◌, ◌++◌, length, Option, Some, None, true, refl, arith, length-append}
use Rattle.std.proofs.lemmas.Bool.{ltb-true, lt-ltb}
use Rattle.ctl_scope.specs.declared.meaning.Meaning.{Meaning}
use Rattle.ctl_scope.specs.declared.meaning.Meaning.TheVariants as meaning
use Rattle.ctl_scope.specs.Names.{Names, meaning_in}
use Rattle.ctl_scope.specs.Scope.{ScopeForm, IsScope, is_definition, are_definitions}
use Rattle.ctl_scope.specs.Changes.{library_scope, in_unit, whole_name, with_struct, with_constant, with_function, in_space, out_of_space, with_new, with_space, after_function}
use Rattle.program_laws.proofs.Verdicts.{both, and_true}

-- ---- names of definitions

definition_kept : (a b c d e f : ℕ) → a ≤ d → b ≤ e → c ≤ f → (m : Meaning) → is_definition a b c m ≡ true → is_definition d e f m ≡ true
definition_kept a b c d e f l m n (meaning.Variable k) h = absurd (cc)
definition_kept a b c d e f l m n (meaning.Constant k) h = let g = ltb-true k b h in lt-ltb k e (omega arith)
definition_kept a b c d e f l m n (meaning.Function k) h = let g = ltb-true k c h in lt-ltb k f (omega arith)
definition_kept a b c d e f l m n (meaning.Struct k) h = let g = ltb-true k a h in lt-ltb k d (omega arith)
definition_kept a b c d e f l m n meaning.Namespace h = refl
definition_kept a b c d e f l m n (meaning.Library id) h = absurd (cc)

-- where more are defined
definitions_kept : (a b c d e f : ℕ) → a ≤ d → b ≤ e → c ≤ f → (names : Names) → are_definitions a b c names ≡ true → are_definitions d e f names ≡ true
definitions_kept a b c d e f l m n [] h = refl
definitions_kept a b c d e f l m n (x ∷ names) h =
    let p = both (is_definition a b c x.1) _ h in
    and_true (is_definition d e f x.1) _ (definition_kept a b c d e f l m n x.1 p.0) (definitions_kept a b c d e f l m n names p.1)

-- one more name
definition_more : (a b c : ℕ) (names : Names) (name : List ℕ) (m : Meaning) → are_definitions a b c names ≡ true → is_definition a b c m ≡ true → are_definitions a b c (names ++ (name, m) ∷ []) ≡ true
definition_more a b c [] name m h j = and_true _ _ j refl
definition_more a b c (x ∷ names) name m h j =
    let p = both (is_definition a b c x.1) _ h in
    and_true (is_definition a b c x.1) _ p.0 (definition_more a b c names name m p.1 j)

-- ---- definitions

pub struct_scope : (s : ScopeForm) (name : List ℕ) (n : ℕ) → IsScope s → IsScope (with_struct name n s)
struct_scope s name n is =
    let long = length-append s.counts (n ∷ []) in
    let structs = is.structs in
    let now = length (s.counts ++ n ∷ []) in
    record {
      definitions = definition_more now s.constants (length s.depths) s.names (whole_name s name) (meaning.Struct (length s.counts))
          (definitions_kept (length s.counts) s.constants (length s.depths) now s.constants (length s.depths) (omega arith) (omega arith) (omega arith) s.names is.definitions) (lt-ltb (length s.counts) now (omega arith));
      structs = omega arith;
      constants = is.constants;
      blocks = is.blocks;
    }

pub constant_scope : (s : ScopeForm) (name : List ℕ) → IsScope s → IsScope (with_constant name s)
constant_scope s name is =
    let constants = is.constants in
    record {
      definitions = definition_more (length s.counts) (s.constants + 1) (length s.depths) s.names (whole_name s name) (meaning.Constant s.constants)
          (definitions_kept (length s.counts) s.constants (length s.depths) (length s.counts) (s.constants + 1) (length s.depths) (omega arith) (omega arith) (omega arith) s.names is.definitions) (lt-ltb s.constants (s.constants + 1) (omega arith));
      structs = is.structs;
      constants = omega arith;
      blocks = is.blocks;
    }

pub function_scope : (s : ScopeForm) (name : List ℕ) (depth : ℕ) → IsScope s → IsScope (with_function name depth s)
function_scope s name depth is =
    let long = length-append s.depths (depth ∷ []) in
    let now = length (s.depths ++ depth ∷ []) in
    record {
      definitions = definition_more (length s.counts) s.constants now s.names (whole_name s name) (meaning.Function (length s.depths))
          (definitions_kept (length s.counts) s.constants (length s.depths) (length s.counts) s.constants now (omega arith) (omega arith) (omega arith) s.names is.definitions) (lt-ltb (length s.depths) now (omega arith));
      structs = is.structs;
      constants = is.constants;
      blocks = is.blocks;
    }

-- a function ends
pub ended_scope : (s : ScopeForm) → IsScope s → IsScope (after_function s)
ended_scope s is = record { definitions = is.definitions; structs = is.structs; constants = is.constants; blocks = refl }

-- ---- modules and namespaces

pub first_scope : IsScope library_scope
first_scope = record { definitions = refl; structs = omega arith; constants = omega arith; blocks = refl }

pub unit_scope : (s : ScopeForm) (n : ℕ) → IsScope s → IsScope (in_unit n s)
unit_scope s n is = record { definitions = is.definitions; structs = is.structs; constants = is.constants; blocks = is.blocks }

pub inside_scope : (s : ScopeForm) (name : List ℕ) → IsScope s → IsScope (in_space name s)
inside_scope s name is = record { definitions = is.definitions; structs = is.structs; constants = is.constants; blocks = is.blocks }

outside_scope : (s : ScopeForm) → IsScope s → IsScope (out_of_space s)
outside_scope s is = record { definitions = is.definitions; structs = is.structs; constants = is.constants; blocks = is.blocks }

new_scope : (o : Option Meaning) (s : ScopeForm) (name : List ℕ) → IsScope s → IsScope (with_new o name s)
new_scope None s name is =
    record { definitions = definition_more (length s.counts) s.constants (length s.depths) s.names (whole_name s name) meaning.Namespace is.definitions refl; structs = is.structs; constants = is.constants; blocks = is.blocks }
new_scope (Some m) s name is = is

pub space_scope : (s : ScopeForm) (name : List ℕ) → IsScope s → IsScope (with_space name (out_of_space s))
space_scope s name is = let o = out_of_space s in new_scope (meaning_in (whole_name o name) o.names) o name (outside_scope s is)
