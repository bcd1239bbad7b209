-- Which statements surely return: a `return`, a block with a statement that surely returns, and an `if` with an `else` all of
-- whose bodies do.
use Rattle.std.specs.Prelude.{List, [], ◌∷◌, Option, Some, None, Bool, true, false, ◌&&◌, ◌||◌}
use Rattle.ctl_tree.specs.declared.statement.Statement.{Statement}
use Rattle.ctl_tree.specs.declared.statement.Block.{Block}
use Rattle.ctl_tree.specs.declared.statement.If.{If}
use Rattle.ctl_tree.specs.declared.statement.Arm.{Arm}
use Rattle.ctl_tree.specs.declared.statement.Statement.TheOpen.{Statement-F, Block-F, If-F, Arm-F, While-F, For-F, Block as BlockForm, Constant as ConstantForm, Variable as VariableForm, Assignment as AssignmentForm, Call as CallStatement, If as IfForm, While as WhileForm, For as ForForm, Return as ReturnForm, Print as PrintForm, Empty as EmptyForm}
use Rattle.ctl_tree.specs.declared.statement.Statement.TheFolds.{fold-Statement, fold-Block, fold-If, fold-Arm}

-- one of them returns
abbrev pub one_returns : List Bool → Bool
one_returns [] = false
one_returns (b ∷ bodies) = b || one_returns bodies

-- all of them return
abbrev pub all_return : List Bool → Bool
all_return [] = true
all_return (b ∷ bodies) = b && all_return bodies

-- without an `else` nothing may be done
abbrev pub else_returns : Option Bool → Bool
else_returns None = false
else_returns (Some b) = b

abbrev pub returns_step : Statement-F Bool Bool Bool Bool Bool Bool → Bool
returns_step (BlockForm block) = block
returns_step (ConstantForm constant) = false
returns_step (VariableForm variable) = false
returns_step (AssignmentForm assignment) = false
returns_step (CallStatement call) = false
returns_step (IfForm branch) = branch
returns_step (WhileForm loop) = false
returns_step (ForForm loop) = false
returns_step (ReturnForm leave) = true
returns_step (PrintForm print) = false
returns_step (EmptyForm empty) = false

abbrev pub arm_returns : Arm-F Bool Bool Bool Bool Bool Bool → Bool
arm_returns arm = arm.body

abbrev pub block_returns : Block-F Bool Bool Bool Bool Bool Bool → Bool
block_returns block = one_returns block.statements

abbrev pub for_returns : For-F Bool Bool Bool Bool Bool Bool → Bool
for_returns loop = false

abbrev pub if_returns : If-F Bool Bool Bool Bool Bool Bool → Bool
if_returns branch = all_return branch.arms && else_returns branch.otherwise

abbrev pub while_returns : While-F Bool Bool Bool Bool Bool Bool → Bool
while_returns loop = false

-- whether a statement surely returns
abbrev pub surely_returns : Statement → Bool
surely_returns = fold-Statement Bool Bool Bool Bool Bool Bool returns_step arm_returns block_returns for_returns if_returns while_returns

-- whether a block does
abbrev pub block_surely_returns : Block → Bool
block_surely_returns = fold-Block Bool Bool Bool Bool Bool Bool returns_step arm_returns block_returns for_returns if_returns while_returns

-- whether an `if` does, and the body of an arm
abbrev pub branch_surely_returns : If → Bool
branch_surely_returns = fold-If Bool Bool Bool Bool Bool Bool returns_step arm_returns block_returns for_returns if_returns while_returns

abbrev pub arm_surely_returns : Arm → Bool
arm_surely_returns = fold-Arm Bool Bool Bool Bool Bool Bool returns_step arm_returns block_returns for_returns if_returns while_returns
