-- What the checker says of variables, and of constants inside functions, which are variables that can't be assigned.
use Rattle.std.specs.Prelude.{ℕ, List, [], ◌∷◌, length, Option, Some, None, Result, Ok, Err, Bool, true, false, not, is_some, if◌then◌else◌}
use Rattle.ctl_tree.specs.declared.declaration.Initialiser.{Initialiser as Written}
use Rattle.ctl_tree.specs.declared.declaration.ArraySize.{ArraySize}
use Rattle.ctl_tree.specs.declared.declaration.ShapeName.{ShapeName}
use Rattle.ctl_tree.specs.declared.declaration.Variable.{Variable}
use Rattle.ctl_tree.specs.declared.declaration.Constant.{Constant}
use Rattle.ctl_types.specs.declared.shape.Base.{Base}
use Rattle.ctl_types.specs.declared.shape.Extent.{Extent}
use Rattle.ctl_types.specs.declared.shape.Size.{Size}
use Rattle.ctl_types.specs.declared.shape.Shape.{Shape}
use Rattle.ctl_types.specs.declared.statement.Initialiser.{Initialiser}
use Rattle.ctl_types.specs.Shapes.{arrays, base_of}
use Rattle.ctl_types.specs.Definitions.{Defined}
use Rattle.ctl_scope.specs.declared.kind.CheckKind.{CheckKind}
use Rattle.ctl_scope.specs.declared.kind.CheckKind.TheVariants.{Twice}
use Rattle.ctl_scope.specs.Scope.{ScopeForm}
use Rattle.ctl_scope.specs.Changes.{is_declared, declared}
use Rattle.ctl_check_rules.specs.Faults.{Verdict, ◌>>=◌, rule_at}
use Rattle.ctl_check_rules.specs.Shapes.{stated_sizes}
use Rattle.ctl_check_init.specs.declared.begun.Begun.{Begun}
use Rattle.ctl_check_init.specs.Initialisers.{begun, begun_rule, base_shape}
use Rattle.ctl_check_size.specs.Names.{base_checked}
use Rattle.ctl_check_size.specs.Sizes.{extents_checked}
use Rattle.ctl_check_statement.specs.declared.stated.Declared.{Declared}
use Rattle.ctl_check_statement.specs.Leading.{Led}

-- ---- what is declared

-- the shape of a declaration: arrays of these extents
abbrev pub declared_shape : List Extent → Base → Shape
declared_shape xs base = arrays xs (base_shape base)

-- a declaration of the next variable, with the scope after it
abbrev pub declaring : ScopeForm → Bool → List ℕ → List Size → Base → Option Initialiser → ℕ → Led Declared
declaring s is_constant name sizes base first depth = record {
  made = record {
    declaration = record { variable = length s.variables; is_constant = is_constant; shape = record { sizes = sizes; base = base }; first = first };
    depth = depth;
  };
  scope = declared name (record { shape = record { sizes = sizes; base = base }; is_assignable = not is_constant }) s;
}

-- its name is new in its block
abbrev pub declaring_rule : ScopeForm → Bool → List ℕ → List Size → Base → Option Initialiser → ℕ → Result (Led Declared) CheckKind
declaring_rule s is_constant name sizes base first depth =
    if is_declared s.blocks name then Err Twice else Ok (declaring s is_constant name sizes base first depth)

-- what is declared with a first value: its name is new in its block, and then the value is for it
abbrev pub first_rule : ScopeForm → List ℕ → Base → Option Begun → Result Begun CheckKind
first_rule s name base first = if is_declared s.blocks name then Err Twice else begun_rule s.counts base first

-- a declaration with the first value that was made for it
abbrev pub declared_with : ScopeForm → Bool → List ℕ → ℕ → Base → Option Begun → Verdict (Led Declared)
declared_with s is_constant name token base first = do
  b ← rule_at s.unit token (first_rule s name base first)
  Ok (declaring s is_constant name b.sizes base (Some b.form) b.depth)

module _ (s : ScopeForm) (d : Defined) where
  -- what a shape is called, and the sizes of its arrays
  abbrev pub shape_checked : Bool → ShapeName → List ArraySize → Verdict Shape
  shape_checked has_first shape sizes = do
    base ← base_checked s shape
    xs ← extents_checked s d has_first base sizes
    Ok (declared_shape xs.extents base)

  -- the first value of what is declared, and then its own rule; a variable without one begins at zero
  abbrev pub begun_with : Bool → List ℕ → ℕ → Shape → Option Written → Verdict (Led Declared)
  begun_with is_constant name token shape None = rule_at s.unit token (declaring_rule s is_constant name (stated_sizes shape) (base_of shape) None 0)
  begun_with is_constant name token shape (Some i) = do
    first ← begun s d i (Some shape)
    declared_with s is_constant name token (base_of shape) first

  -- a variable: its shape, its first value, and then the rule at its name
  abbrev pub variable_declared : Variable → Verdict (Led Declared)
  variable_declared v = do
    shape ← shape_checked (is_some v.value) v.shape v.sizes
    begun_with false v.name v.token shape v.value

  -- a constant inside a function
  abbrev pub constant_declared : Constant → Verdict (Led Declared)
  constant_declared c = do
    shape ← shape_checked true c.shape c.sizes
    begun_with true c.name c.token shape (Some c.value)
