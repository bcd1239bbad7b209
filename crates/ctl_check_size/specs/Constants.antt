-- Which expressions can be the size of an array: literals, constants outside functions with steps into them, operators, and
-- the sizes of arrays whose sizes are stated. Such a size is told by the shape of the array alone, so nothing before a
-- `.size` has a value here.
use Rattle.std.specs.Prelude.{ℕ, pos, List, [], ◌∷◌, Option, Some, None, Bool, true, false, ◌&&◌, is_some, if◌then◌else◌, nat_lt, ◌^◌}
use Rattle.ctl_base.specs.declared.kind.Node.{Node}
use Rattle.ctl_base.specs.declared.kind.ScalarKind.{ScalarKind}
use Rattle.ctl_tree.specs.declared.expression.UnaryOperator.{UnaryOperator}
use Rattle.ctl_types.specs.declared.scalar.Scalar.TheVariants as number
use Rattle.ctl_types.specs.declared.shape.Size.{Size}
use Rattle.ctl_types.specs.declared.shape.Size.TheVariants.{Stated, Open}
use Rattle.ctl_types.specs.declared.expression.Conversion.{Conversion}
use Rattle.ctl_types.specs.declared.expression.LinkOperator.{LinkOperator}
use Rattle.ctl_types.specs.declared.expression.Logic.{Logic}
use Rattle.ctl_types.specs.declared.expression.TypedExpr.{TypedExpr, roll-TypedExpr}
use Rattle.ctl_types.specs.declared.expression.TypedStep.{TypedStep, roll-TypedStep}
use Rattle.ctl_types.specs.declared.expression.Operand.{Operand, roll-Operand}
use Rattle.ctl_types.specs.declared.expression.TypedLink.{TypedLink, roll-TypedLink}
use Rattle.ctl_types.specs.declared.expression.Argument.TheOpen as form
use Rattle.ctl_types.specs.declared.expression.Argument.TheOpen.{Argument-F, TypedExpr-F, TypedStep-F, Operand-F, TypedCall-F, TypedLink-F, TypedPlace-F}
use Rattle.ctl_types.specs.Folds.{ExprFold, expr_fold, step_fold, operand_fold, link_fold}
use Rattle.ctl_check_size.specs.declared.sizing.Sizing.{Sizing}

-- what goes on where a part is there
abbrev pub with_part : {A B : Type 0} → Option A → (A → Option B) → Option B
with_part None next = None
with_part (Some a) next = next a

-- all parts, where each is there
abbrev pub all_parts : {A : Type 0} → List (Option A) → Option (List A)
all_parts [] = Some []
all_parts (a ∷ parts) = with_part a (λ a. with_part (all_parts parts) (λ parts. Some (a ∷ parts)))

-- what can be a size where its parts can, and is no path
abbrev pub no_path : Option TypedExpr → Sizing
no_path e = record { constant = e; is_path = false }

-- an operator before an operand, a chain, the operands of `&&` or `||`, steps behind a root
abbrev pub unary_form : UnaryOperator → ScalarKind → Option Operand → Option TypedExpr
unary_form op k o = with_part o (λ o. Some (roll-TypedExpr (form.Unary op k o)))

abbrev pub chain_form : Option Operand → Option (List TypedLink) → Option TypedExpr
chain_form o links = with_part o (λ o. with_part links (λ links. Some (roll-TypedExpr (form.Chain o links))))

abbrev pub logic_form : Logic → Option (List Operand) → Option TypedExpr
logic_form l os = with_part os (λ os. Some (roll-TypedExpr (form.Logic l os)))

abbrev pub path_form : Option TypedExpr → Option (List TypedStep) → Option TypedExpr
path_form e steps = with_part e (λ e. with_part steps (λ steps. Some (roll-TypedExpr (form.Path e steps))))

-- a path is one of which the size can be asked, where its root is one and its indices can be sizes
abbrev pub path_sizing : Sizing → Option (List TypedStep) → Sizing
path_sizing root steps = record { constant = path_form root.constant steps; is_path = root.is_path && is_some steps }

-- a size is an int
abbrev pub int_size : ℕ → Option TypedExpr
int_size n = if nat_lt n (2 ^ 31) then Some (roll-TypedExpr (form.Literal (number.Int (pos n)))) else None

-- the size of a path, where it is stated
abbrev pub path_size : Bool → Size → Option TypedExpr
path_size false size = None
path_size true (Open k) = None
path_size true (Stated n) = int_size n

-- an expression, by its parts
abbrev pub sizing_step : TypedExpr-F (Unit {0}) Sizing (Option TypedStep) (Option Operand) (Unit {0}) (Option TypedLink) (Unit {0}) → Sizing
sizing_step (form.Literal x) = no_path (Some (roll-TypedExpr (form.Literal x)))
sizing_step (form.Constant n) = record { constant = Some (roll-TypedExpr (form.Constant n)); is_path = true }
sizing_step (form.Variable x) = record { constant = None; is_path = true }
sizing_step (form.Unary op k o) = no_path (unary_form op k o)
sizing_step (form.Chain o links) = no_path (chain_form o (all_parts links))
sizing_step (form.Logic l os) = no_path (logic_form l (all_parts os))
sizing_step (form.Path root steps) = path_sizing root (all_parts steps)
sizing_step (form.Size array size) = no_path (path_size array.is_path size)
sizing_step (form.Call call) = no_path None

-- an index that can be a size
abbrev pub index_form : Option TypedExpr → Node → Option TypedStep
index_form e node = with_part e (λ e. Some (roll-TypedStep (form.Index e node)))

-- a step: such an index, or a field
abbrev pub step_sizing : TypedStep-F (Unit {0}) Sizing (Option TypedStep) (Option Operand) (Unit {0}) (Option TypedLink) (Unit {0}) → Option TypedStep
step_sizing (form.Index e node) = index_form e.constant node
step_sizing (form.Field n) = Some (roll-TypedStep (form.Field n))

-- an operand and a link, with what is done to the values
abbrev pub operand_form : Option TypedExpr → Conversion → Option Operand
operand_form e c = with_part e (λ e. Some (roll-Operand (record { value = e; conversion = c })))

abbrev pub link_form : LinkOperator → ScalarKind → Conversion → Option Operand → Option TypedLink
link_form op k c o = with_part o (λ o. Some (roll-TypedLink (record { operator = op; kind = k; left = c; right = o })))

-- an operand
abbrev pub operand_sizing : Operand-F (Unit {0}) Sizing (Option TypedStep) (Option Operand) (Unit {0}) (Option TypedLink) (Unit {0}) → Option Operand
operand_sizing o = operand_form o.value.constant o.conversion

-- a link
abbrev pub link_sizing : TypedLink-F (Unit {0}) Sizing (Option TypedStep) (Option Operand) (Unit {0}) (Option TypedLink) (Unit {0}) → Option TypedLink
link_sizing l = link_form l.operator l.kind l.left l.right

-- the fold; no call can be a size, so nothing is made of its arguments
abbrev pub sizing_fold : ExprFold (Unit {0}) Sizing (Option TypedStep) (Option Operand) (Unit {0}) (Option TypedLink) (Unit {0})
sizing_fold = record {
  argument = λ a. tt;
  expr = sizing_step;
  step = step_sizing;
  operand = operand_sizing;
  call = λ c. tt;
  link = link_sizing;
  place = λ p. tt;
}

-- an expression as a size
abbrev pub sizing : TypedExpr → Sizing
sizing = expr_fold sizing_fold

-- a step, an operand, a link as those of a size
abbrev pub step_of_size : TypedStep → Option TypedStep
step_of_size = step_fold sizing_fold

abbrev pub operand_of_size : Operand → Option Operand
operand_of_size = operand_fold sizing_fold

abbrev pub link_of_size : TypedLink → Option TypedLink
link_of_size = link_fold sizing_fold

-- an expression that can be a size, as one that names constants alone
abbrev pub constant_form : TypedExpr → Option TypedExpr
constant_form e = (sizing e).constant
