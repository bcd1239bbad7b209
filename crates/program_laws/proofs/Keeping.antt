-- Statements change nothing of a scope but its blocks and its variables.
use Rattle.std.proofs.Common.{◌≡◌, ℕ, List, [], ◌∷◌, map, Option, Some, None, Ok, Err, Bool, true, false, refl, sym, subst, ◌∙◌}
use Rattle.ctl_tree.specs.declared.expression.Expr.{Expr}
use Rattle.ctl_tree.specs.declared.declaration.Initialiser.{Initialiser}
use Rattle.ctl_tree.specs.declared.declaration.Variable.{Variable}
use Rattle.ctl_tree.specs.declared.declaration.Constant.{Constant}
use Rattle.ctl_tree.specs.declared.statement.Assignment.{Assignment}
use Rattle.ctl_tree.specs.declared.statement.ForStart.{ForStart}
use Rattle.ctl_tree.specs.declared.statement.ForStart.TheVariants.{Variable as VariableStart, Assignment as AssignmentStart}
use Rattle.ctl_tree.specs.declared.statement.Statement.{Statement, roll-Statement}
use Rattle.ctl_tree.specs.declared.statement.Block.{Block, roll-Block}
use Rattle.ctl_tree.specs.declared.statement.If.{If, roll-If}
use Rattle.ctl_tree.specs.declared.statement.Arm.{Arm, roll-Arm}
use Rattle.ctl_tree.specs.declared.statement.While.{While, roll-While}
use Rattle.ctl_tree.specs.declared.statement.For.{For, roll-For}
use Rattle.ctl_tree.specs.declared.statement.Statement.TheOpen.{Statement-F, Block-F, If-F, Arm-F, While-F, For-F, Block as BlockForm, Constant as ConstantForm, Variable as VariableForm, Assignment as AssignmentForm, Call as CallStatement, If as IfForm, While as WhileForm, For as ForForm, Return as ReturnForm, Print as PrintForm, Empty as EmptyForm}
use Rattle.ctl_tree.specs.declared.statement.Statement.TheFolds.{fold-roll-Statement, fold-roll-Block, fold-roll-If, fold-roll-Arm, fold-roll-While, fold-roll-For, map-Statement, map-Block, map-If, map-Arm, map-While, map-For, ind-Block}
use Rattle.ctl_types.specs.declared.shape.Shape.{Shape}
use Rattle.ctl_types.specs.Shapes.{base_of}
use Rattle.ctl_types.specs.Definitions.{Defined}
use Rattle.ctl_scope.specs.declared.block.Block.{Block as ScopeBlock}
use Rattle.ctl_scope.specs.Scope.{ScopeForm}
use Rattle.ctl_scope.specs.Changes.{entered, left, left_from, after_function, is_declared}
use Rattle.ctl_check_rules.specs.Faults.{Verdict, ◌>>=◌, rule_at}
use Rattle.ctl_check_rules.specs.Shapes.{stated_sizes}
use Rattle.ctl_check_expr.specs.Checking.{checked}
use Rattle.ctl_check_init.specs.Initialisers.{begun}
use Rattle.ctl_check_init.specs.Takings.{test_rule}
use Rattle.ctl_check_statement.specs.declared.stated.Declared.{Declared}
use Rattle.ctl_check_statement.specs.declared.stated.Stated.{Stated}
use Rattle.ctl_check_statement.specs.declared.stated.Statements.{Statements}
use Rattle.ctl_check_statement.specs.declared.stated.Arms.{Arms}
use Rattle.ctl_check_statement.specs.declared.stated.Started.{Started}
use Rattle.ctl_check_statement.specs.declared.stated.Head.{Head}
use Rattle.ctl_check_statement.specs.Leading.{Led, led}
use Rattle.ctl_check_statement.specs.Declarations.{declaring, declaring_rule, first_rule, declared_with, shape_checked, begun_with, variable_declared, constant_declared}
use Rattle.ctl_check_statement.specs.Printing.{print_stated}
use Rattle.ctl_check_statement.specs.Statements as verdict
use Rattle.ctl_check_statement.specs.Statements.{Stating, Arming, own_scope, with_statement, no_statements, next_stated, all_stated, block_made, inside_stated, with_arm, no_arms, all_armed, else_made, otherwise_stated, are_tested, if_rule, while_ruled, for_ruled, head_with, head_stated, started, for_parts, declaration_made, declaration_started, declaration_stated, stated, block_stated, arm_stated, branch_stated, while_loop_stated, for_loop_stated}
use Rattle.program_laws.proofs.Verdicts.{Good, good_then, good_any, good_more, good_at, good_if, good_unless}

-- outside functions both are the same
abbrev pub Keeps : ScopeForm → ScopeForm → Type 0
Keeps s t = after_function t ≡ after_function s

abbrev pub StatingKeeps : Stating → Type 0
StatingKeeps a = (s : ScopeForm) → Good (λ (o : Led Stated). Keeps s o.scope) (a s)

abbrev ArmingKeeps : Arming → Type 0
ArmingKeeps a = (before : Led Arms) → Good (λ (o : Led Arms). Keeps before.scope o.scope) (a before)

-- ---- what changes nothing, and scopes of their own

led_keeps : {A : Type 0} (v : Verdict A) (s : ScopeForm) → Good (λ (o : Led A). Keeps s o.scope) (led v s)
led_keeps (Ok a) s = refl
led_keeps (Err fault) s = tt

left_keeps : (s : ScopeForm) → after_function (left s) ≡ after_function s
left_keeps s = by s.blocks where
  by : (blocks : List ScopeBlock) → after_function (left_from blocks s) ≡ after_function s
  by [] = refl
  by (b ∷ []) = refl
  by (b ∷ c ∷ blocks) = refl

own_keeps : (a : Stating) → StatingKeeps a → StatingKeeps (own_scope a)
own_keeps a h s =
    good_then (λ (o : Led Stated). Keeps (entered s) o.scope) (λ (o : Led Stated). Keeps s o.scope) (a (entered s)) (λ after. Ok (record { made = after.made; scope = left after.scope })) (h (entered s))
    (λ after k. left_keeps after.scope ∙ k)

-- ---- declarations

module _ (s : ScopeForm) (d : Defined) where
  begun_keeps : (is_constant : Bool) (name : List ℕ) (token : ℕ) (shape : Shape) (i : Option Initialiser) → Good (λ (o : Led Declared). Keeps s o.scope) (begun_with s d is_constant name token shape i)
  begun_keeps is_constant name token shape None =
      good_at (λ (o : Led Declared). Keeps s o.scope) s.unit token (declaring_rule s is_constant name (stated_sizes shape) (base_of shape) None 0)
      (good_unless (λ (o : Led Declared). Keeps s o.scope) (is_declared s.blocks name) _ (Ok (declaring s is_constant name (stated_sizes shape) (base_of shape) None 0)) (λ e. refl))
  begun_keeps is_constant name token shape (Some i) =
      good_any (λ (o : Led Declared). Keeps s o.scope) (begun s d i (Some shape)) (λ first. declared_with s is_constant name token (base_of shape) first)
      (λ first. good_any (λ (o : Led Declared). Keeps s o.scope) (rule_at s.unit token (first_rule s name (base_of shape) first)) (λ b. Ok (declaring s is_constant name b.sizes (base_of shape) (Some b.form) b.depth)) (λ b. refl))

  variable_keeps : (v : Variable) → Good (λ (o : Led Declared). Keeps s o.scope) (variable_declared s d v)
  variable_keeps v = good_any (λ (o : Led Declared). Keeps s o.scope) (shape_checked s d _ v.shape v.sizes) (λ shape. begun_with s d false v.name v.token shape v.value) (λ shape. begun_keeps false v.name v.token shape v.value)

  constant_keeps : (c : Constant) → Good (λ (o : Led Declared). Keeps s o.scope) (constant_declared s d c)
  constant_keeps c = good_any (λ (o : Led Declared). Keeps s o.scope) (shape_checked s d true c.shape c.sizes) (λ shape. begun_with s d true c.name c.token shape (Some c.value)) (λ shape. begun_keeps true c.name c.token shape (Some c.value))

declaration_keeps : (s : ScopeForm) (v : Verdict (Led Declared)) → Good (λ (o : Led Declared). Keeps s o.scope) v → Good (λ (o : Led Stated). Keeps s o.scope) (declaration_stated v)
declaration_keeps s v g = good_then (λ (o : Led Declared). Keeps s o.scope) (λ (o : Led Stated). Keeps s o.scope) v (λ after. Ok (record { made = declaration_made after.made; scope = after.scope })) g (λ o k. k)

-- ---- loops

module _ (d : Defined) where
  started_keeps : (f : ForStart) (s : ScopeForm) → Good (λ (o : Led Started). Keeps s o.scope) (started d f s)
  started_keeps (VariableStart v) s = good_then (λ (o : Led Declared). Keeps s o.scope) (λ (o : Led Started). Keeps s o.scope) (variable_declared s d v) (λ after. Ok (record { made = declaration_started after.made; scope = after.scope })) (variable_keeps s d v) (λ o k. k)
  started_keeps (AssignmentStart a) s = led_keeps (verdict.assignment_started s d a) s

  head_keeps : (f : ForStart) (e : Expr) (a : Assignment) (s : ScopeForm) → Good (λ (o : Led Head). Keeps s o.scope) (head_stated d f e a s)
  head_keeps f e a s =
      good_then (λ (o : Led Started). Keeps s o.scope) (λ (o : Led Head). Keeps s o.scope) (started d f s) (λ first. led (head_with first.scope d e a first.made) first.scope) (started_keeps f s)
      (λ first k. good_more (λ (o : Led Head). Keeps first.scope o.scope) (λ (o : Led Head). Keeps s o.scope) (led (head_with first.scope d e a first.made) first.scope) (led_keeps (head_with first.scope d e a first.made) first.scope) (λ o l. l ∙ k))

  for_keeps : (f : ForStart) (e : Expr) (next : Assignment) (a : Stating) (token : ℕ) → StatingKeeps a → StatingKeeps (for_parts d f e next a token)
  for_keeps f e next a token h s =
      good_then (λ (o : Led Head). Keeps s o.scope) (λ (o : Led Stated). Keeps s o.scope) (head_stated d f e next s) (λ head. own_scope a head.scope >>= (λ after. led (for_ruled s.unit token head.made after.made) after.scope)) (head_keeps f e next s)
      (λ head k.
      good_then (λ (o : Led Stated). Keeps head.scope o.scope) (λ (o : Led Stated). Keeps s o.scope) (own_scope a head.scope) (λ after. led (for_ruled s.unit token head.made after.made) after.scope) (own_keeps a h head.scope)
      (λ after l. good_more (λ (o : Led Stated). Keeps after.scope o.scope) (λ (o : Led Stated). Keeps s o.scope) (led (for_ruled s.unit token head.made after.made) after.scope) (led_keeps (for_ruled s.unit token head.made after.made) after.scope) (λ o m. m ∙ (l ∙ k))))

  while_keeps : (e : Expr) (a : Stating) (token : ℕ) → StatingKeeps a → (s : ScopeForm) → Good (λ (o : Led Stated). Keeps s o.scope) (checked s d e >>= (λ c. own_scope a s >>= (λ body. led (while_ruled s.unit token c body.made) body.scope)))
  while_keeps e a token h s =
      good_any (λ (o : Led Stated). Keeps s o.scope) (checked s d e) (λ c. own_scope a s >>= (λ body. led (while_ruled s.unit token c body.made) body.scope))
      (λ c. good_then (λ (o : Led Stated). Keeps s o.scope) (λ (o : Led Stated). Keeps s o.scope) (own_scope a s) (λ body. led (while_ruled s.unit token c body.made) body.scope) (own_keeps a h s)
      (λ body k. good_more (λ (o : Led Stated). Keeps body.scope o.scope) (λ (o : Led Stated). Keeps s o.scope) (led (while_ruled s.unit token c body.made) body.scope) (led_keeps (while_ruled s.unit token c body.made) body.scope) (λ o l. l ∙ k)))

  arm_keeps : (e : Expr) (a : Stating) → StatingKeeps a → (before : Led Arms) → Good (λ (o : Led Arms). Keeps before.scope o.scope) (checked before.scope d e >>= (λ c. own_scope a before.scope >>= (λ body. Ok (record { made = with_arm before.made c body.made (test_rule c); scope = body.scope }))))
  arm_keeps e a h before =
      good_any (λ (o : Led Arms). Keeps before.scope o.scope) (checked before.scope d e) (λ c. own_scope a before.scope >>= (λ body. Ok (record { made = with_arm before.made c body.made (test_rule c); scope = body.scope })))
      (λ c. good_then (λ (o : Led Stated). Keeps before.scope o.scope) (λ (o : Led Arms). Keeps before.scope o.scope) (own_scope a before.scope) (λ body. Ok (record { made = with_arm before.made c body.made (test_rule c); scope = body.scope })) (own_keeps a h before.scope)
      (λ body k. k))

-- ---- an `if`

the_same : (a b : Stating) → Some a ≡ Some b → a ≡ b
the_same a b e = cc

otherwise_keeps : (o : Option Stating) → ((a : Stating) → o ≡ Some a → StatingKeeps a) → (arms : Led Arms) → Good (λ (t : Led Stated). Keeps arms.scope t.scope) (otherwise_stated o arms)
otherwise_keeps None h arms = refl
otherwise_keeps (Some a) h arms =
    good_then (λ (t : Led Stated). Keeps arms.scope t.scope) (λ (t : Led Stated). Keeps arms.scope t.scope) (own_scope a arms.scope) (λ otherwise. Ok (record { made = else_made arms.made otherwise.made; scope = otherwise.scope })) (own_keeps a (h a refl) arms.scope) (λ t k. k)

if_keeps : (arms : List Arming) (otherwise : Option Stating) (token : ℕ) → ((before : Led Arms) → Good (λ (o : Led Arms). Keeps before.scope o.scope) (all_armed arms before)) → ((a : Stating) → otherwise ≡ Some a → StatingKeeps a)
    → StatingKeeps (verdict.if_step (record { arms = arms; otherwise = otherwise; token = token }))
if_keeps arms otherwise token h k s =
    let start : Led Arms = record { made = no_arms; scope = s } in
    good_then (λ (o : Led Arms). Keeps s o.scope) (λ (t : Led Stated). Keeps s t.scope) (all_armed arms start) (λ after. otherwise_stated otherwise after >>= (λ a. rule_at s.unit token (if_rule after.made a))) (h start)
    (λ after l.
    good_then (λ (t : Led Stated). Keeps after.scope t.scope) (λ (t : Led Stated). Keeps s t.scope) (otherwise_stated otherwise after) (λ a. rule_at s.unit token (if_rule after.made a)) (otherwise_keeps otherwise k after)
    (λ a m. good_at (λ (t : Led Stated). Keeps s t.scope) s.unit token (if_rule after.made a) (good_if (λ (t : Led Stated). Keeps s t.scope) (are_tested after.made) a _ (λ e. m ∙ l))))

-- ---- induction

module _ (d : Defined) (result : Option Shape) where
  abbrev StatementKeeps : Statement → Type 0
  StatementKeeps e = StatingKeeps (stated d result e)

  abbrev BlockKeeps : Block → Type 0
  BlockKeeps e = StatingKeeps (block_stated d result e)

  abbrev IfKeeps : If → Type 0
  IfKeeps e = StatingKeeps (branch_stated d result e)

  abbrev WhileKeeps : While → Type 0
  WhileKeeps e = StatingKeeps (while_loop_stated d result e)

  abbrev ForKeeps : For → Type 0
  ForKeeps e = StatingKeeps (for_loop_stated d result e)

  abbrev ArmKeeps : Arm → Type 0
  ArmKeeps e = ArmingKeeps (arm_stated d result e)

  abbrev SuchStatement : Type 0
  SuchStatement = (e : Statement) × StatementKeeps e

  abbrev SuchBlock : Type 0
  SuchBlock = (e : Block) × BlockKeeps e

  abbrev SuchIf : Type 0
  SuchIf = (e : If) × IfKeeps e

  abbrev SuchArm : Type 0
  SuchArm = (e : Arm) × ArmKeeps e

  abbrev SuchWhile : Type 0
  SuchWhile = (e : While) × WhileKeeps e

  abbrev SuchFor : Type 0
  SuchFor = (e : For) × ForKeeps e

  -- ---- the parts of a form

  all_keep : (es : List SuchStatement) (before : Led Statements) → Good (λ (o : Led Statements). Keeps before.scope o.scope) (all_stated (map (stated d result) (map (λ (e : SuchStatement). e.0) es)) before)
  all_keep [] before = refl
  all_keep (e ∷ es) before =
      good_then (λ (o : Led Statements). Keeps before.scope o.scope) (λ (o : Led Statements). Keeps before.scope o.scope) (next_stated (stated d result e.0) before) (all_stated (map (stated d result) (map (λ (e : SuchStatement). e.0) es)))
      (good_then (λ (o : Led Stated). Keeps before.scope o.scope) (λ (o : Led Statements). Keeps before.scope o.scope) (stated d result e.0 before.scope) (λ after. Ok (record { made = with_statement before.made after.made; scope = after.scope })) (e.1 before.scope) (λ o k. k))
      (λ after k. good_more (λ (o : Led Statements). Keeps after.scope o.scope) (λ (o : Led Statements). Keeps before.scope o.scope) (all_stated (map (stated d result) (map (λ (e : SuchStatement). e.0) es)) after) (all_keep es after) (λ o l. l ∙ k))

  inside_keeps : (es : List SuchStatement) → StatingKeeps (inside_stated (map (stated d result) (map (λ (e : SuchStatement). e.0) es)))
  inside_keeps es s =
      good_then (λ (o : Led Statements). Keeps s o.scope) (λ (o : Led Stated). Keeps s o.scope) (all_stated (map (stated d result) (map (λ (e : SuchStatement). e.0) es)) (record { made = no_statements; scope = s })) (λ inside. Ok (record { made = block_made inside.made; scope = inside.scope }))
      (all_keep es (record { made = no_statements; scope = s })) (λ o k. k)

  arms_keep : (es : List SuchArm) (before : Led Arms) → Good (λ (o : Led Arms). Keeps before.scope o.scope) (all_armed (map (arm_stated d result) (map (λ (e : SuchArm). e.0) es)) before)
  arms_keep [] before = refl
  arms_keep (e ∷ es) before =
      good_then (λ (o : Led Arms). Keeps before.scope o.scope) (λ (o : Led Arms). Keeps before.scope o.scope) (arm_stated d result e.0 before) (all_armed (map (arm_stated d result) (map (λ (e : SuchArm). e.0) es))) (e.1 before)
      (λ after k. good_more (λ (o : Led Arms). Keeps after.scope o.scope) (λ (o : Led Arms). Keeps before.scope o.scope) (all_armed (map (arm_stated d result) (map (λ (e : SuchArm). e.0) es)) after) (arms_keep es after) (λ o l. l ∙ k))

  -- ---- forms

  statement_case : (y : Statement-F SuchStatement SuchArm SuchBlock SuchFor SuchIf SuchWhile) → StatementKeeps (roll-Statement (map-Statement SuchStatement SuchArm SuchBlock SuchFor SuchIf SuchWhile Statement Arm Block For If While (λ e. e.0) (λ e. e.0) (λ e. e.0) (λ e. e.0) (λ e. e.0) (λ e. e.0) y))
  statement_case y =
      subst (λ (a : Stating). StatingKeeps a) (sym (fold-roll-Statement Stating Arming Stating Stating Stating Stating (verdict.statement_step d result) (verdict.arm_step d) verdict.block_step (verdict.for_step d) verdict.if_step (verdict.while_step d) (map-Statement SuchStatement SuchArm SuchBlock SuchFor SuchIf SuchWhile Statement Arm Block For If While (λ e. e.0) (λ e. e.0) (λ e. e.0) (λ e. e.0) (λ e. e.0) (λ e. e.0) y))) (by y)
    where
      by : (y : Statement-F SuchStatement SuchArm SuchBlock SuchFor SuchIf SuchWhile)
          → StatingKeeps (verdict.statement_step d result (map-Statement Statement Arm Block For If While Stating Arming Stating Stating Stating Stating (stated d result) (arm_stated d result) (block_stated d result) (for_loop_stated d result) (branch_stated d result) (while_loop_stated d result) (map-Statement SuchStatement SuchArm SuchBlock SuchFor SuchIf SuchWhile Statement Arm Block For If While (λ e. e.0) (λ e. e.0) (λ e. e.0) (λ e. e.0) (λ e. e.0) (λ e. e.0) y)))
      by (BlockForm block) s = block.1 s
      by (ConstantForm constant) s = declaration_keeps s (constant_declared s d constant) (constant_keeps s d constant)
      by (VariableForm variable) s = declaration_keeps s (variable_declared s d variable) (variable_keeps s d variable)
      by (AssignmentForm assignment) s = led_keeps (verdict.assignment_stated s d assignment) s
      by (CallStatement call) s = led_keeps (verdict.call_stated s d call) s
      by (IfForm branch) s = branch.1 s
      by (WhileForm loop) s = loop.1 s
      by (ForForm loop) s = loop.1 s
      by (ReturnForm leave) s = led_keeps (verdict.return_stated s d result leave) s
      by (PrintForm print) s = led_keeps (print_stated s d print) s
      by (EmptyForm empty) s = refl

  block_case : (y : Block-F SuchStatement SuchArm SuchBlock SuchFor SuchIf SuchWhile) → BlockKeeps (roll-Block (map-Block SuchStatement SuchArm SuchBlock SuchFor SuchIf SuchWhile Statement Arm Block For If While (λ e. e.0) (λ e. e.0) (λ e. e.0) (λ e. e.0) (λ e. e.0) (λ e. e.0) y))
  block_case y =
      subst (λ (a : Stating). StatingKeeps a) (sym (fold-roll-Block Stating Arming Stating Stating Stating Stating (verdict.statement_step d result) (verdict.arm_step d) verdict.block_step (verdict.for_step d) verdict.if_step (verdict.while_step d) (map-Block SuchStatement SuchArm SuchBlock SuchFor SuchIf SuchWhile Statement Arm Block For If While (λ e. e.0) (λ e. e.0) (λ e. e.0) (λ e. e.0) (λ e. e.0) (λ e. e.0) y)))
      (own_keeps (inside_stated (map (stated d result) (map (λ (e : SuchStatement). e.0) y.statements))) (inside_keeps y.statements))

  while_case : (y : While-F SuchStatement SuchArm SuchBlock SuchFor SuchIf SuchWhile) → WhileKeeps (roll-While (map-While SuchStatement SuchArm SuchBlock SuchFor SuchIf SuchWhile Statement Arm Block For If While (λ e. e.0) (λ e. e.0) (λ e. e.0) (λ e. e.0) (λ e. e.0) (λ e. e.0) y))
  while_case y =
      subst (λ (a : Stating). StatingKeeps a) (sym (fold-roll-While Stating Arming Stating Stating Stating Stating (verdict.statement_step d result) (verdict.arm_step d) verdict.block_step (verdict.for_step d) verdict.if_step (verdict.while_step d) (map-While SuchStatement SuchArm SuchBlock SuchFor SuchIf SuchWhile Statement Arm Block For If While (λ e. e.0) (λ e. e.0) (λ e. e.0) (λ e. e.0) (λ e. e.0) (λ e. e.0) y)))
      (while_keeps d y.test (stated d result y.body.0) y.token y.body.1)

  for_case : (y : For-F SuchStatement SuchArm SuchBlock SuchFor SuchIf SuchWhile) → ForKeeps (roll-For (map-For SuchStatement SuchArm SuchBlock SuchFor SuchIf SuchWhile Statement Arm Block For If While (λ e. e.0) (λ e. e.0) (λ e. e.0) (λ e. e.0) (λ e. e.0) (λ e. e.0) y))
  for_case y =
      subst (λ (a : Stating). StatingKeeps a) (sym (fold-roll-For Stating Arming Stating Stating Stating Stating (verdict.statement_step d result) (verdict.arm_step d) verdict.block_step (verdict.for_step d) verdict.if_step (verdict.while_step d) (map-For SuchStatement SuchArm SuchBlock SuchFor SuchIf SuchWhile Statement Arm Block For If While (λ e. e.0) (λ e. e.0) (λ e. e.0) (λ e. e.0) (λ e. e.0) (λ e. e.0) y)))
      (own_keeps (for_parts d y.start y.test y.next (stated d result y.body.0) y.token) (for_keeps d y.start y.test y.next (stated d result y.body.0) y.token y.body.1))

  arm_case : (y : Arm-F SuchStatement SuchArm SuchBlock SuchFor SuchIf SuchWhile) → ArmKeeps (roll-Arm (map-Arm SuchStatement SuchArm SuchBlock SuchFor SuchIf SuchWhile Statement Arm Block For If While (λ e. e.0) (λ e. e.0) (λ e. e.0) (λ e. e.0) (λ e. e.0) (λ e. e.0) y))
  arm_case y =
      subst (λ (a : Arming). ArmingKeeps a) (sym (fold-roll-Arm Stating Arming Stating Stating Stating Stating (verdict.statement_step d result) (verdict.arm_step d) verdict.block_step (verdict.for_step d) verdict.if_step (verdict.while_step d) (map-Arm SuchStatement SuchArm SuchBlock SuchFor SuchIf SuchWhile Statement Arm Block For If While (λ e. e.0) (λ e. e.0) (λ e. e.0) (λ e. e.0) (λ e. e.0) (λ e. e.0) y)))
      (arm_keeps d y.test (stated d result y.body.0) y.body.1)

  if_case : (y : If-F SuchStatement SuchArm SuchBlock SuchFor SuchIf SuchWhile) → IfKeeps (roll-If (map-If SuchStatement SuchArm SuchBlock SuchFor SuchIf SuchWhile Statement Arm Block For If While (λ e. e.0) (λ e. e.0) (λ e. e.0) (λ e. e.0) (λ e. e.0) (λ e. e.0) y))
  if_case y = by y.otherwise where
    by : (otherwise : Option SuchStatement) → IfKeeps (roll-If (map-If SuchStatement SuchArm SuchBlock SuchFor SuchIf SuchWhile Statement Arm Block For If While (λ e. e.0) (λ e. e.0) (λ e. e.0) (λ e. e.0) (λ e. e.0) (λ e. e.0) (record { arms = y.arms; otherwise = otherwise; token = y.token })))
    by None =
        subst (λ (a : Stating). StatingKeeps a) (sym (fold-roll-If Stating Arming Stating Stating Stating Stating (verdict.statement_step d result) (verdict.arm_step d) verdict.block_step (verdict.for_step d) verdict.if_step (verdict.while_step d) (map-If SuchStatement SuchArm SuchBlock SuchFor SuchIf SuchWhile Statement Arm Block For If While (λ e. e.0) (λ e. e.0) (λ e. e.0) (λ e. e.0) (λ e. e.0) (λ e. e.0) (record { arms = y.arms; otherwise = None; token = y.token }))))
        (if_keeps (map (arm_stated d result) (map (λ (e : SuchArm). e.0) y.arms)) None y.token (arms_keep y.arms) (λ a e. absurd (cc)))
    by (Some last) =
        subst (λ (a : Stating). StatingKeeps a) (sym (fold-roll-If Stating Arming Stating Stating Stating Stating (verdict.statement_step d result) (verdict.arm_step d) verdict.block_step (verdict.for_step d) verdict.if_step (verdict.while_step d) (map-If SuchStatement SuchArm SuchBlock SuchFor SuchIf SuchWhile Statement Arm Block For If While (λ e. e.0) (λ e. e.0) (λ e. e.0) (λ e. e.0) (λ e. e.0) (λ e. e.0) (record { arms = y.arms; otherwise = Some last; token = y.token }))))
        (if_keeps (map (arm_stated d result) (map (λ (e : SuchArm). e.0) y.arms)) (Some (stated d result last.0)) y.token (arms_keep y.arms) (λ a e. subst (λ (a : Stating). StatingKeeps a) (the_same (stated d result last.0) a e) last.1))

  -- a block
  pub block_keeps : (e : Block) → BlockKeeps e
  block_keeps = ind-Block StatementKeeps ArmKeeps BlockKeeps ForKeeps IfKeeps WhileKeeps
      (λ x y is. subst (λ x. StatementKeeps (roll-Statement x)) is (statement_case y))
      (λ x y is. subst (λ x. ArmKeeps (roll-Arm x)) is (arm_case y))
      (λ x y is. subst (λ x. BlockKeeps (roll-Block x)) is (block_case y))
      (λ x y is. subst (λ x. ForKeeps (roll-For x)) is (for_case y))
      (λ x y is. subst (λ x. IfKeeps (roll-If x)) is (if_case y))
      (λ x y is. subst (λ x. WhileKeeps (roll-While x)) is (while_case y))
