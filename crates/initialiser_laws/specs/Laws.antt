-- What the checker accepts as an initialiser, an assignment, a test or a return is well typed.
use Rattle.std.specs.Prelude.{◌≡◌, ℕ, ◌<◌, List, [], Option, Some, Ok, true}
use Rattle.ctl_base.specs.declared.kind.ScalarKind.TheVariants as kind
use Rattle.ctl_tree.specs.declared.declaration.Initialiser.{Initialiser}
use Rattle.ctl_tree.specs.declared.statement.Assignment.{Assignment as Written}
use Rattle.ctl_tree.specs.declared.statement.Return.{Return}
use Rattle.ctl_tree.specs.OwnTokens.{Below, initialiser_tokens, assignment_tokens, return_tokens}
use Rattle.ctl_types.specs.declared.shape.Base.TheVariants.{Scalar}
use Rattle.ctl_types.specs.declared.shape.Extent.{Extent}
use Rattle.ctl_types.specs.declared.shape.Size.{Size}
use Rattle.ctl_types.specs.declared.shape.Shape.{Shape}
use Rattle.ctl_types.specs.Shapes.{extents, base_of, local}
use Rattle.ctl_types.specs.Definitions.{Defined}
use Rattle.ctl_types.specs.Typing.{Typed, Variables, Scene, has, are_stated, result_type, expr_type, operand_type, place_type, initialiser_type}
use Rattle.ctl_types.specs.Scoping.{result_stands, assignment_type, left_type}
use Rattle.ctl_scope.specs.Scope.{ScopeForm, visible}
use Rattle.ctl_scope.specs.Beside.{scene}
use Rattle.ctl_check_rules.specs.declared.checked.Checked.{Checked}
use Rattle.ctl_check_rules.specs.Shapes.{stated_sizes, extents_fit}
use Rattle.ctl_check_init.specs.declared.begun.Begun.{Begun}
use Rattle.ctl_check_init.specs.declared.assignments.Assigned.{Assigned}
use Rattle.ctl_check_init.specs.declared.takings.Taken.{Taken}
use Rattle.ctl_check_init.specs.declared.takings.Returned.{Returned}
use Rattle.ctl_check_init.specs.Initialisers.{begun, begun_rule}
use Rattle.ctl_check_init.specs.Assignments.{assigned}
use Rattle.ctl_check_init.specs.Takings.{test_rule, returned}
use Rattle.ctl_check_laws.specs.Accepted.{known, IsAccepted, Holds}
use Rattle.ctl_check_laws.specs.WellTyped.{Standing, tokens_around}
use Rattle.initialiser_laws.specs.Wanted.{may_be_wanted}

-- ---- initialisers

-- An initialiser for a shape is well typed with sizes that fit the shape's extents, and stands. Where no extent is open, the
-- sizes are those of the shape.
pub record IsInitialiser (x : Scene) (vs : Variables) (shape : Shape) (b : Begun) : Type 0 where
  pub accepted : IsAccepted x (initialiser_type x vs b.form) b.sizes (Some (base_of shape)) b.depth
  pub fits : extents_fit (extents shape) b.sizes ≡ true
  pub stated : are_stated (local 0 shape).sizes ≡ true → b.sizes ≡ stated_sizes shape

-- what is accepted as an initialiser: first its parts, and then its own rule
abbrev pub InitialisersAreWell : Type 0
InitialisersAreWell =
    (s : ScopeForm) (d : Defined) (vs : Variables) (shape : Shape) (i : Initialiser) (first : Option Begun) (b : Begun)
    → Standing s d → Holds vs (visible s) → Below (tokens_around s d) (initialiser_tokens i) → may_be_wanted (scene s d) shape ≡ true
    → begun s d i (Some shape) ≡ Ok first → begun_rule s.counts (base_of shape) first ≡ Ok b → IsInitialiser (scene s d) vs shape b

-- ---- assignments

-- a form of this type is well typed, and its depth may be called
pub record IsWell (x : Scene) (form : Typed) (greatest : ℕ) : Type 0 where
  pub well : form.well ≡ true
  pub depth : form.depth ≡ greatest
  pub below : greatest < x.too_deep

-- what is accepted as an assignment, in a function with any result
abbrev pub AssignmentsAreWell : Type 0
AssignmentsAreWell =
    (s : ScopeForm) (d : Defined) (vs : Variables) (result : Typed) (a : Written) (g : Assigned)
    → Standing s d → Holds vs (visible s) → Below (tokens_around s d) (assignment_tokens a) → assigned s d a ≡ Ok g
    → IsWell (scene s d) (assignment_type (scene s d) result (place_type (scene s d) vs g.assignment.place) (operand_type (scene s d) vs g.assignment.value)) g.depth

-- ---- tests

-- a test of an accepted expression is taken as a bool
abbrev pub TestsAreBool : Type 0
TestsAreBool =
    (x : Scene) (vs : Variables) (c : Checked) (t : Taken) → expr_type x vs c.form ≡ known c.sizes c.base c.depth → test_rule c ≡ Ok t
    → (t.depth ≡ c.depth) × (operand_type x vs t.operand ≡ known [] (Some (Scalar kind.Bool)) t.depth)

-- ---- returns

-- what is returned has the shape of the function's result, or is nothing where it has none
pub record IsReturned (x : Scene) (vs : Variables) (result : Option Shape) (g : Returned) : Type 0 where
  pub type : has (left_type x (result_type result) vs g.value) (result_type result).sizes (result_type result).base ≡ true
  pub depth : (left_type x (result_type result) vs g.value).depth ≡ g.depth
  pub below : g.depth < x.too_deep

-- what is accepted as a return of a function whose result stands
abbrev pub ReturnsAreWell : Type 0
ReturnsAreWell =
    (s : ScopeForm) (d : Defined) (vs : Variables) (result : Option Shape) (r : Return) (g : Returned)
    → Standing s d → Holds vs (visible s) → Below (tokens_around s d) (return_tokens r) → result_stands (scene s d) result ≡ true
    → returned s d result r ≡ Ok g → IsReturned (scene s d) vs result g
