-- Look-up finds what is there, and the innermost.
use Rattle.std.proofs.Common.{◌≡◌, ℕ, List, [], ◌∷◌, ◌++◌, length, Bool, true, false, ◌&&◌, if◌then◌else◌, Option, Some, None, refl, arith}
use Rattle.std.proofs.lemmas.Bool.{lt-ltb}
use Rattle.std.specs.Prelude.{nat_lt, nat_le, bytes_eq}
use Rattle.ctl_tree.specs.declared.expression.QualifiedName.{QualifiedName}
use Rattle.ctl_scope.specs.declared.meaning.Meaning.{Meaning}
use Rattle.ctl_scope.specs.declared.meaning.Meaning.TheVariants as meaning
use Rattle.ctl_scope.specs.declared.block.Block.{Block}
use Rattle.ctl_scope.specs.Names.{Names, meaning_in, first_found, library_names}
use Rattle.ctl_scope.specs.Scope.{ScopeForm, IsScope, look_up, written, is_plain, variable_named, definition_named, in_blocks, in_spaces, is_definition, are_definitions, is_variable, are_variables, blocks_stand}
use Rattle.ctl_scope.specs.Laws.{is_there}
use Rattle.ctl_scope.proofs.Standing.{both, and_true}

-- each of these is there
abbrev all_there : ScopeForm → Names → Bool
all_there s [] = true
all_there s (n ∷ names) = is_there s (Some n.1) && all_there s names

first_there : (s : ScopeForm) (a b : Option Meaning) → is_there s a ≡ true → is_there s b ≡ true → is_there s (first_found a b) ≡ true
first_there s (Some m) b h k = h
first_there s None b h k = k

among_there : (s : ScopeForm) (name : List ℕ) (names : Names) → all_there s names ≡ true → is_there s (meaning_in name names) ≡ true
among_there s name [] h = refl
among_there s name (n ∷ names) h =
    let p = both (is_there s (Some n.1)) _ h in
    by (bytes_eq name n.0) p.0 (among_there s name names p.1)
  where
    by : (b : Bool) → is_there s (Some n.1) ≡ true → is_there s (meaning_in name names) ≡ true → is_there s (if b then Some n.1 else meaning_in name names) ≡ true
    by true h k = h
    by false h k = k

definition_there : (s : ScopeForm) (m : Meaning) → is_definition (length s.counts) s.constants (length s.depths) m ≡ true → is_there s (Some m) ≡ true
definition_there s (meaning.Variable n) h = absurd (cc)
definition_there s (meaning.Constant n) h = h
definition_there s (meaning.Function n) h = h
definition_there s (meaning.Struct n) h = h
definition_there s meaning.Namespace h = refl
definition_there s (meaning.Library id) h = refl

definitions_there : (s : ScopeForm) (names : Names) → are_definitions (length s.counts) s.constants (length s.depths) names ≡ true → all_there s names ≡ true
definitions_there s [] h = refl
definitions_there s (n ∷ names) h =
    let p = both (is_definition (length s.counts) s.constants (length s.depths) n.1) _ h in
    and_true (is_there s (Some n.1)) _ (definition_there s n.1 p.0) (definitions_there s names p.1)

variable_there : (s : ScopeForm) (below : ℕ) (m : Meaning) → s.sees_variables ≡ true → is_variable s.variables below m ≡ true → is_there s (Some m) ≡ true
variable_there s below (meaning.Variable n) sees h = rw sees ((both (nat_lt n below) _ h).1)
variable_there s below (meaning.Constant n) sees h = absurd (cc)
variable_there s below (meaning.Function n) sees h = absurd (cc)
variable_there s below (meaning.Struct n) sees h = absurd (cc)
variable_there s below meaning.Namespace sees h = absurd (cc)
variable_there s below (meaning.Library id) sees h = absurd (cc)

variables_there : (s : ScopeForm) (below : ℕ) (names : Names) → s.sees_variables ≡ true → are_variables s.variables below names ≡ true → all_there s names ≡ true
variables_there s below [] sees h = refl
variables_there s below (n ∷ names) sees h =
    let p = both (is_variable s.variables below n.1) _ h in
    and_true (is_there s (Some n.1)) _ (variable_there s below n.1 sees p.0) (variables_there s below names sees p.1)

blocks_there : (s : ScopeForm) (name : List ℕ) (below : ℕ) (blocks : List Block) → s.sees_variables ≡ true → blocks_stand s.variables below blocks ≡ true → is_there s (in_blocks name blocks) ≡ true
blocks_there s name below [] sees h = refl
blocks_there s name below (b ∷ blocks) sees h =
    let p = both (are_variables s.variables below b.names && nat_le b.start below) _ h in
    let q = both (are_variables s.variables below b.names) _ p.0 in
    first_there s _ _ (among_there s name b.names (variables_there s below b.names sees q.0)) (blocks_there s name b.start blocks sees p.1)

spaces_there : (s : ScopeForm) (name : List ℕ) (spaces : List (List ℕ)) (names : Names) → all_there s names ≡ true → is_there s (in_spaces name spaces names) ≡ true
spaces_there s name [] names h = refl
spaces_there s name (space ∷ spaces) names h = first_there s _ _ (spaces_there s name spaces names h) (among_there s (space ++ name) names h)

library_there : (s : ScopeForm) → IsScope s → all_there s library_names ≡ true
library_there s is =
    rw (lt-ltb 0 s.constants (omega (arith, is.constants)), lt-ltb 1 s.constants (omega (arith, is.constants)), lt-ltb 2 s.constants (omega (arith, is.constants)), lt-ltb 3 s.constants (omega (arith, is.constants)), lt-ltb 4 s.constants (omega (arith, is.constants)), lt-ltb 5 s.constants (omega (arith, is.constants)), lt-ltb 6 s.constants (omega (arith, is.constants)), lt-ltb 0 (length s.counts) (omega (arith, is.structs))) refl

variable_found : (s : ScopeForm) → IsScope s → (name : QualifiedName) (sees : Bool) → s.sees_variables ≡ sees → is_there s (if sees && is_plain name then in_blocks name.name s.blocks else None) ≡ true
variable_found s is name false e = refl
variable_found s is name true e = by (is_plain name) where
  by : (plain : Bool) → is_there s (if plain then in_blocks name.name s.blocks else None) ≡ true
  by true = blocks_there s name.name (length s.variables) s.blocks e is.blocks
  by false = refl

definition_found : (s : ScopeForm) → IsScope s → (name : QualifiedName) (global : Bool) → is_there s (first_found (if global then None else in_spaces (written name) s.spaces s.names) (meaning_in (written name) s.names)) ≡ true
definition_found s is name true = among_there s (written name) s.names (definitions_there s s.names is.definitions)
definition_found s is name false = first_there s _ _ (spaces_there s (written name) s.spaces s.names (definitions_there s s.names is.definitions)) (among_there s (written name) s.names (definitions_there s s.names is.definitions))

-- what look-up finds is there
pub look_up_there : (s : ScopeForm) → IsScope s → (name : QualifiedName) → is_there s (look_up s name) ≡ true
look_up_there s is name =
    first_there s (variable_named s name) _ (variable_found s is name s.sees_variables refl)
    (first_there s (definition_named s name) _ (definition_found s is name name.is_global) (among_there s (written name) library_names (library_there s is)))

-- ---- the innermost

past_inner : (name : List ℕ) (inner rest : List Block) → in_blocks name inner ≡ None → in_blocks name (inner ++ rest) ≡ in_blocks name rest
past_inner name [] rest h = refl
past_inner name (b ∷ inner) rest h = by (meaning_in name b.names) h (λ k. past_inner name inner rest k) where
  by : (m : Option Meaning) → first_found m (in_blocks name inner) ≡ None → (in_blocks name inner ≡ None → in_blocks name (inner ++ rest) ≡ in_blocks name rest) → first_found m (in_blocks name (inner ++ rest)) ≡ in_blocks name rest
  by None k go = go k
  by (Some m) k go = absurd (cc)

-- look-up finds the innermost
pub innermost_found : (s : ScopeForm) (name : QualifiedName) (inner : List Block) (b : Block) (around : List Block) (m : Meaning)
    → s.sees_variables ≡ true → is_plain name ≡ true → s.blocks ≡ inner ++ b ∷ around
    → in_blocks name.name inner ≡ None → meaning_in name.name b.names ≡ Some m → look_up s name ≡ Some m
innermost_found s name inner b around m sees plain blocks none some =
    let there : in_blocks name.name s.blocks ≡ Some m = rw blocks (rw (past_inner name.name inner (b ∷ around) none) (rw some refl)) in
    rw (sees, plain, there) refl
