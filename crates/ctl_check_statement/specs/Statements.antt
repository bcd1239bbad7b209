-- What the checker says of statements: one fold, which takes the scope along. Of each statement first its parts from the left,
-- the bodies among them, and then its own rule.
use Rattle.std.specs.Prelude.{ℕ, max, List, [], ◌∷◌, ◌++◌, Option, Some, None, Result, Ok, Err, Bool, true, false, ◌&&◌, if◌then◌else◌, length, nat_lt}
use Rattle.ctl_tree.specs.declared.expression.Call.{Call}
use Rattle.ctl_tree.specs.declared.expression.Expr.{Expr}
use Rattle.ctl_tree.specs.declared.statement.Statement.{Statement}
use Rattle.ctl_tree.specs.declared.statement.Block.{Block}
use Rattle.ctl_tree.specs.declared.statement.If.{If}
use Rattle.ctl_tree.specs.declared.statement.Arm.{Arm}
use Rattle.ctl_tree.specs.declared.statement.While.{While}
use Rattle.ctl_tree.specs.declared.statement.For.{For}
use Rattle.ctl_tree.specs.declared.statement.Print.{Print}
use Rattle.ctl_tree.specs.declared.statement.Return.{Return}
use Rattle.ctl_tree.specs.declared.statement.Assignment.{Assignment}
use Rattle.ctl_tree.specs.declared.statement.ForStart.{ForStart}
use Rattle.ctl_tree.specs.declared.statement.ForStart.TheVariants.{Variable as VariableStart, Assignment as AssignmentStart}
use Rattle.ctl_tree.specs.declared.statement.Statement.TheOpen.{Statement-F, Block-F, If-F, Arm-F, While-F, For-F, Block as BlockForm, Constant as ConstantForm, Variable as VariableForm, Assignment as AssignmentForm, Call as CallStatement, If as IfForm, While as WhileForm, For as ForForm, Return as ReturnForm, Print as PrintForm, Empty as EmptyForm}
use Rattle.ctl_tree.specs.declared.statement.Statement.TheFolds.{fold-Statement, fold-Block, fold-If, fold-Arm, fold-While, fold-For}
use Rattle.ctl_types.specs.declared.shape.Shape.{Shape}
use Rattle.ctl_types.specs.declared.statement.ForStart.TheVariants as start
use Rattle.ctl_types.specs.declared.statement.TypedStatement.{roll-TypedStatement}
use Rattle.ctl_types.specs.declared.statement.Arm.{roll-Arm}
use Rattle.ctl_types.specs.declared.statement.TypedStatement.TheOpen as form
use Rattle.ctl_types.specs.Definitions.{Defined}
use Rattle.ctl_scope.specs.declared.kind.CheckKind.{CheckKind}
use Rattle.ctl_scope.specs.declared.kind.CheckKind.TheVariants.{Mismatch}
use Rattle.ctl_scope.specs.Scope.{ScopeForm}
use Rattle.ctl_scope.specs.Changes.{entered, left}
use Rattle.ctl_check_rules.specs.declared.checked.Checked.{Checked}
use Rattle.ctl_check_rules.specs.Faults.{Verdict, ◌>>=◌, rule_at, node_of}
use Rattle.ctl_check_expr.specs.Checking.{checked, checked_call}
use Rattle.ctl_check_init.specs.declared.takings.Taken.{Taken}
use Rattle.ctl_check_init.specs.Assignments.{assigned}
use Rattle.ctl_check_init.specs.Takings.{test_rule, tested, returned}
use Rattle.ctl_check_statement.specs.declared.stated.Declared.{Declared}
use Rattle.ctl_check_statement.specs.declared.stated.Stated.{Stated}
use Rattle.ctl_check_statement.specs.declared.stated.Statements.{Statements}
use Rattle.ctl_check_statement.specs.declared.stated.Arms.{Arms}
use Rattle.ctl_check_statement.specs.declared.stated.Started.{Started}
use Rattle.ctl_check_statement.specs.declared.stated.Head.{Head}
use Rattle.ctl_check_statement.specs.Leading.{Led, led}
use Rattle.ctl_check_statement.specs.Declarations.{variable_declared, constant_declared}
use Rattle.ctl_check_statement.specs.Printing.{print_stated}

-- a statement, from the scope before it
abbrev pub Stating : Type 0
Stating = ScopeForm → Verdict (Led Stated)

-- an arm, from the arms before it and the scope before it
abbrev pub Arming : Type 0
Arming = Led Arms → Verdict (Led Arms)

-- a scope of its own
abbrev pub own_scope : Stating → Stating
own_scope a s = do
  after ← a (entered s)
  Ok (record { made = after.made; scope = left after.scope })

-- ---- blocks

-- the statements so far with one more
abbrev pub with_statement : Statements → Stated → Statements
with_statement before a = record { forms = before.forms ++ a.form ∷ []; depth = max before.depth a.depth }

-- before the first statement
abbrev pub no_statements : Statements
no_statements = record { forms = []; depth = 0 }

-- a statement behind those before it
abbrev pub next_stated : Stating → Led Statements → Verdict (Led Statements)
next_stated a before = do
  after ← a before.scope
  Ok (record { made = with_statement before.made after.made; scope = after.scope })

-- statements one after another
abbrev pub all_stated : List Stating → Led Statements → Verdict (Led Statements)
all_stated [] before = Ok before
all_stated (a ∷ rest) before = do
  after ← next_stated a before
  all_stated rest after

-- a block of statements
abbrev pub block_made : Statements → Stated
block_made inside = record { form = roll-TypedStatement (form.Block inside.forms); depth = inside.depth }

-- what stands in a block
abbrev pub inside_stated : List Stating → Stating
inside_stated statements s = do
  inside ← all_stated statements (record { made = no_statements; scope = s })
  Ok (record { made = block_made inside.made; scope = inside.scope })

-- a block is a scope of its own
abbrev pub block_step : Block-F Stating Arming Stating Stating Stating Stating → Stating
block_step block = own_scope (inside_stated block.statements)

-- ---- arms

-- the arms so far with one more, whose test is a scalar or isn't
abbrev pub with_arm : Arms → Checked → Stated → Result Taken CheckKind → Arms
with_arm before c body (Ok test) = record { forms = before.forms ++ roll-Arm (record { test = test.operand; body = body.form }) ∷ []; fit = before.fit; depth = max before.depth (max c.depth body.depth) }
with_arm before c body (Err kind) = record { forms = before.forms; fit = false; depth = max before.depth (max c.depth body.depth) }

-- before the first arm
abbrev pub no_arms : Arms
no_arms = record { forms = []; fit = true; depth = 0 }

-- arms from the left
abbrev pub all_armed : List Arming → Arming
all_armed [] before = Ok before
all_armed (a ∷ arms) before = do
  after ← a before
  all_armed arms after

-- the arms of an `if` without `else`, and with one
abbrev pub if_made : Arms → Stated
if_made arms = record { form = roll-TypedStatement (form.If arms.forms None); depth = arms.depth }

abbrev pub else_made : Arms → Stated → Stated
else_made arms otherwise = record { form = roll-TypedStatement (form.If arms.forms (Some otherwise.form)); depth = max arms.depth otherwise.depth }

-- what stands behind the last `else`
abbrev pub otherwise_stated : Option Stating → Led Arms → Verdict (Led Stated)
otherwise_stated None arms = Ok (record { made = if_made arms.made; scope = arms.scope })
otherwise_stated (Some a) arms = do
  otherwise ← own_scope a arms.scope
  Ok (record { made = else_made arms.made otherwise.made; scope = otherwise.scope })

-- there are arms, and each test is a scalar; no text has an `if` without arms
abbrev pub are_tested : Arms → Bool
are_tested arms = arms.fit && nat_lt 0 (length arms.forms)

abbrev pub if_rule : Arms → Led Stated → Result (Led Stated) CheckKind
if_rule arms a = if are_tested arms then Ok a else Err Mismatch

-- an `if`: its arms, what stands behind the last `else`, and then its rule
abbrev pub if_step : If-F Stating Arming Stating Stating Stating Stating → Stating
if_step branch s = do
  arms ← all_armed branch.arms (record { made = no_arms; scope = s })
  a ← otherwise_stated branch.otherwise arms
  rule_at s.unit branch.token (if_rule arms.made a)

-- ---- loops

-- a `while`
abbrev pub while_made : ℕ → ℕ → Taken → Stated → Stated
while_made unit token test body = record {
  form = roll-TypedStatement (form.While test.operand body.form (node_of unit token));
  depth = max test.depth body.depth;
}

-- its test is a scalar
abbrev pub while_ruled : ℕ → ℕ → Checked → Stated → Verdict Stated
while_ruled unit token c body = do
  test ← tested unit token c
  Ok (while_made unit token test body)

-- a `for`
abbrev pub for_made : ℕ → ℕ → Head → Taken → Stated → Stated
for_made unit token head test body = record {
  form = roll-TypedStatement (form.For head.first.form test.operand head.next.assignment body.form (node_of unit token));
  depth = max (max head.first.depth test.depth) (max head.next.depth body.depth);
}

-- its test is a scalar
abbrev pub for_ruled : ℕ → ℕ → Head → Stated → Verdict Stated
for_ruled unit token head body = do
  test ← tested unit token head.test
  Ok (for_made unit token head test body)

-- ---- statements without bodies

module _ (s : ScopeForm) (d : Defined) where
  -- an assignment
  abbrev pub assignment_stated : Assignment → Verdict Stated
  assignment_stated a = do
    given ← assigned s d a
    Ok (record { form = roll-TypedStatement (form.Assign given.assignment); depth = given.depth })

  -- a call
  abbrev pub call_stated : Call → Verdict Stated
  call_stated call = do
    c ← checked_call s d call
    Ok (record { form = roll-TypedStatement (form.Call c.call); depth = c.depth })

  -- a return in a function with this result
  abbrev pub return_stated : Option Shape → Return → Verdict Stated
  return_stated result r = do
    given ← returned s d result r
    Ok (record { form = roll-TypedStatement (form.Return given.value); depth = given.depth })

  -- how a `for` begins with an assignment
  abbrev pub assignment_started : Assignment → Verdict Started
  assignment_started a = do
    given ← assigned s d a
    Ok (record { form = start.Assign given.assignment; depth = given.depth })

  -- the test of a `for`, and the assignment after each turn
  abbrev pub head_with : Expr → Assignment → Started → Verdict Head
  head_with test next first = do
    c ← checked s d test
    given ← assigned s d next
    Ok (record { first = first; test = c; next = given })

-- a declaration as a statement, and as how a `for` begins
abbrev pub declaration_made : Declared → Stated
declaration_made a = record { form = roll-TypedStatement (form.Declare a.declaration); depth = a.depth }

abbrev pub declaration_started : Declared → Started
declaration_started a = record { form = start.Declare a.declaration; depth = a.depth }

abbrev pub declaration_stated : Verdict (Led Declared) → Verdict (Led Stated)
declaration_stated verdict = do
  after ← verdict
  Ok (record { made = declaration_made after.made; scope = after.scope })

-- ---- statements with bodies

module _ (d : Defined) where
  -- a test, its body, and both as an arm; whether the test is a scalar is told at the `if`
  abbrev pub arm_step : Arm-F Stating Arming Stating Stating Stating Stating → Arming
  arm_step arm before = do
    c ← checked before.scope d arm.test
    body ← own_scope arm.body before.scope
    Ok (record { made = with_arm before.made c body.made (test_rule c); scope = body.scope })

  -- a `while`: its test, its body, and then its rule
  abbrev pub while_step : While-F Stating Arming Stating Stating Stating Stating → Stating
  while_step loop s = do
    c ← checked s d loop.test
    body ← own_scope loop.body s
    led (while_ruled s.unit loop.token c body.made) body.scope

  -- how a `for` begins
  abbrev pub started : ForStart → ScopeForm → Verdict (Led Started)
  started (VariableStart v) s = do
    after ← variable_declared s d v
    Ok (record { made = declaration_started after.made; scope = after.scope })
  started (AssignmentStart a) s = led (assignment_started s d a) s

  -- how a `for` begins, its test, and the assignment after each turn
  abbrev pub head_stated : ForStart → Expr → Assignment → ScopeForm → Verdict (Led Head)
  head_stated begin test next s = do
    first ← started begin s
    led (head_with first.scope d test next first.made) first.scope

  -- the parts of a `for` from the left, and then its rule
  abbrev pub for_parts : ForStart → Expr → Assignment → Stating → ℕ → Stating
  for_parts begin test next body token s = do
    head ← head_stated begin test next s
    after ← own_scope body head.scope
    led (for_ruled s.unit token head.made after.made) after.scope

  -- a `for` is a scope of its own
  abbrev pub for_step : For-F Stating Arming Stating Stating Stating Stating → Stating
  for_step loop = own_scope (for_parts loop.start loop.test loop.next loop.body loop.token)

-- ---- the fold

module _ (d : Defined) (result : Option Shape) where
  abbrev pub statement_step : Statement-F Stating Arming Stating Stating Stating Stating → Stating
  statement_step (BlockForm block) s = block s
  statement_step (ConstantForm constant) s = declaration_stated (constant_declared s d constant)
  statement_step (VariableForm variable) s = declaration_stated (variable_declared s d variable)
  statement_step (AssignmentForm assignment) s = led (assignment_stated s d assignment) s
  statement_step (CallStatement call) s = led (call_stated s d call) s
  statement_step (IfForm branch) s = branch s
  statement_step (WhileForm loop) s = loop s
  statement_step (ForForm loop) s = loop s
  statement_step (ReturnForm leave) s = led (return_stated s d result leave) s
  statement_step (PrintForm print) s = led (print_stated s d print) s
  statement_step (EmptyForm empty) s = Ok (record { made = record { form = roll-TypedStatement form.Empty; depth = 0 }; scope = s })

  -- the verdict on a statement
  abbrev pub stated : Statement → Stating
  stated = fold-Statement Stating Arming Stating Stating Stating Stating statement_step (arm_step d) block_step (for_step d) if_step (while_step d)

  -- on a block, an arm, an `if`, a loop
  abbrev pub block_stated : Block → Stating
  block_stated = fold-Block Stating Arming Stating Stating Stating Stating statement_step (arm_step d) block_step (for_step d) if_step (while_step d)

  abbrev pub arm_stated : Arm → Arming
  arm_stated = fold-Arm Stating Arming Stating Stating Stating Stating statement_step (arm_step d) block_step (for_step d) if_step (while_step d)

  abbrev pub branch_stated : If → Stating
  branch_stated = fold-If Stating Arming Stating Stating Stating Stating statement_step (arm_step d) block_step (for_step d) if_step (while_step d)

  abbrev pub while_loop_stated : While → Stating
  while_loop_stated = fold-While Stating Arming Stating Stating Stating Stating statement_step (arm_step d) block_step (for_step d) if_step (while_step d)

  abbrev pub for_loop_stated : For → Stating
  for_loop_stated = fold-For Stating Arming Stating Stating Stating Stating statement_step (arm_step d) block_step (for_step d) if_step (while_step d)
