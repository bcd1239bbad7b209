-- Induction over statements: each statement that the checker accepts is fine.
use Rattle.std.proofs.Common.{◌≡◌, ℕ, ◌<◌, List, [], ◌∷◌, ◌++◌, map, Option, Some, None, Bool, true, false, ◌&&◌, refl, sym, ap, subst, ◌∙◌, All}
use Rattle.std.specs.List.{concat}
use Rattle.std.proofs.lemmas.List.Elements.{All-head, All-tail}
use Rattle.ctl_tree.specs.declared.statement.Statement.{Statement, roll-Statement}
use Rattle.ctl_tree.specs.declared.statement.Block.{Block, roll-Block}
use Rattle.ctl_tree.specs.declared.statement.If.{If, roll-If}
use Rattle.ctl_tree.specs.declared.statement.Arm.{Arm, roll-Arm}
use Rattle.ctl_tree.specs.declared.statement.While.{While, roll-While}
use Rattle.ctl_tree.specs.declared.statement.For.{For, roll-For}
use Rattle.ctl_tree.specs.declared.statement.Statement.TheOpen.{Statement-F, Block-F, If-F, Arm-F, While-F, For-F, Block as BlockForm, Constant as ConstantForm, Variable as VariableForm, Assignment as AssignmentForm, Call as CallStatement, If as IfForm, While as WhileForm, For as ForForm, Return as ReturnForm, Print as PrintForm, Empty as EmptyForm}
use Rattle.ctl_tree.specs.declared.statement.Statement.TheFolds.{fold-Statement, fold-Block, fold-If, fold-Arm, fold-While, fold-For, fold-roll-Statement, fold-roll-Block, fold-roll-If, fold-roll-Arm, fold-roll-While, fold-roll-For, map-Statement, map-Block, map-If, map-Arm, map-While, map-For, ind-Statement, ind-Block}
use Rattle.ctl_tree.specs.OwnTokens.{Tokens, Below, expr_tokens, statement_tokens, block_tokens, arm_tokens, statement_step as tokens_step, arm_step as arm_tokens_step, block_step as block_tokens_step, for_step as for_tokens_step, if_step as if_tokens_step, while_step as while_tokens_step}
use Rattle.ctl_types.specs.declared.shape.Shape.{Shape}
use Rattle.ctl_types.specs.Typing.{result_type}
use Rattle.ctl_types.specs.Scoping.{simple, scope_statement}
use Rattle.ctl_types.specs.Definitions.{Defined}
use Rattle.ctl_scope.specs.Scope.{ScopeForm}
use Rattle.ctl_scope.specs.Beside.{scene}
use Rattle.ctl_check_statement.specs.declared.stated.Arms.{Arms}
use Rattle.ctl_check_statement.specs.Leading.{Led}
use Rattle.ctl_check_statement.specs.Returning.{one_returns, all_return, else_returns, returns_step, arm_returns, block_returns, for_returns, if_returns, while_returns, surely_returns, block_surely_returns}
use Rattle.ctl_check_statement.specs.Declarations.{variable_declared, constant_declared}
use Rattle.ctl_check_statement.specs.Statements as verdict
use Rattle.ctl_check_statement.specs.Statements.{Stating, Arming, stated, block_stated, arm_stated, branch_stated, while_loop_stated, for_loop_stated}
use Rattle.definition_laws.proofs.Standing.{Standing}
use Rattle.definition_laws.proofs.Verdicts.{Good}
use Rattle.definition_laws.proofs.Sequences.{fine_simple}
use Rattle.definition_laws.proofs.Blocks.{Holding, Held, StatedWell}
use Rattle.definition_laws.proofs.Needs.{Needs}
use Rattle.definition_laws.proofs.Arms.{HeldArm, ArmedWell, arm_good}
use Rattle.definition_laws.proofs.Statements.{stays, made_as, assignment_good, call_good, return_good, print_good, declared_good, block_good, if_good, while_good, for_good}
use Rattle.ctl_types.specs.declared.statement.TypedStatement.TheOpen as form

-- whether an `if`, an arm and a loop surely return, and their tokens
abbrev branch_returns : If → Bool
branch_returns = fold-If Bool Bool Bool Bool Bool Bool returns_step arm_returns block_returns for_returns if_returns while_returns

abbrev one_arm_returns : Arm → Bool
one_arm_returns = fold-Arm Bool Bool Bool Bool Bool Bool returns_step arm_returns block_returns for_returns if_returns while_returns

abbrev loop_returns : While → Bool
loop_returns = fold-While Bool Bool Bool Bool Bool Bool returns_step arm_returns block_returns for_returns if_returns while_returns

abbrev for_loop_returns : For → Bool
for_loop_returns = fold-For Bool Bool Bool Bool Bool Bool returns_step arm_returns block_returns for_returns if_returns while_returns

abbrev branch_tokens : If → Tokens
branch_tokens = fold-If Tokens Tokens Tokens Tokens Tokens Tokens tokens_step arm_tokens_step block_tokens_step for_tokens_step if_tokens_step while_tokens_step

abbrev loop_tokens : While → Tokens
loop_tokens = fold-While Tokens Tokens Tokens Tokens Tokens Tokens tokens_step arm_tokens_step block_tokens_step for_tokens_step if_tokens_step while_tokens_step

abbrev for_loop_tokens : For → Tokens
for_loop_tokens = fold-For Tokens Tokens Tokens Tokens Tokens Tokens tokens_step arm_tokens_step block_tokens_step for_tokens_step if_tokens_step while_tokens_step

module _ (d : Defined) (n : ℕ) (result : Option Shape) (needs : Needs d n result) where
  abbrev Holds' : Stating → Bool → Tokens → Type 0
  Holds' = Holding (stays d n result needs) d n (result_type result)

  -- ---- what is claimed of each form

  abbrev StatementFine : Statement → Type 0
  StatementFine e = Holds' (stated d result e) (surely_returns e) (statement_tokens e)

  abbrev BlockFine : Block → Type 0
  BlockFine e = Holds' (block_stated d result e) (block_surely_returns e) (block_tokens e)

  abbrev IfFine : If → Type 0
  IfFine e = Holds' (branch_stated d result e) (branch_returns e) (branch_tokens e)

  abbrev WhileFine : While → Type 0
  WhileFine e = Holds' (while_loop_stated d result e) false (loop_tokens e)

  abbrev ForFine : For → Type 0
  ForFine e = Holds' (for_loop_stated d result e) false (for_loop_tokens e)

  abbrev ArmFine : Arm → Type 0
  ArmFine e = (before : Led Arms) → Standing d n before.scope → Below n (arm_tokens e) → Good (ArmedWell (stays d n result needs) d n result before (one_arm_returns e)) (arm_stated d result e before)

  abbrev SuchStatement : Type 0
  SuchStatement = (e : Statement) × StatementFine e

  abbrev SuchBlock : Type 0
  SuchBlock = (e : Block) × BlockFine e

  abbrev SuchIf : Type 0
  SuchIf = (e : If) × IfFine e

  abbrev SuchArm : Type 0
  SuchArm = (e : Arm) × ArmFine e

  abbrev SuchWhile : Type 0
  SuchWhile = (e : While) × WhileFine e

  abbrev SuchFor : Type 0
  SuchFor = (e : For) × ForFine e

  abbrev Claim : ScopeForm → Bool → Stating → Type 0
  Claim s r a = Good (StatedWell (stays d n result needs) d n (result_type result) s r) (a s)

  as_rolled : (a a' : Stating) (r r' : Bool) (t t' : Tokens) → a ≡ a' → r ≡ r' → t ≡ t' → Holds' a' r' t' → Holds' a r t
  as_rolled a a' r r' t t' p q e h s stands below = subst (λ (a : Stating). Claim s r a) (sym p) (subst (λ r. Claim s r a') (sym q) (h s stands (subst (λ (t : Tokens). Below n t) e below)))

  -- ---- the parts of a form

  abbrev held : SuchStatement → Held (stays d n result needs) d n (result_type result)
  held e = record { stating = stated d result e.0; returns = surely_returns e.0; own = statement_tokens e.0; holds = e.1 }

  abbrev held_arm : SuchArm → HeldArm (stays d n result needs) d n result
  held_arm e = record { arming = arm_stated d result e.0; returns = one_arm_returns e.0; own = arm_tokens e.0; holds = e.1 }

  twice : {A B C : Type 0} (f : A → B) (g : B → C) (xs : List A) → map g (map f xs) ≡ map (λ x. g (f x)) xs
  twice f g [] = refl
  twice f g (x ∷ xs) = ap (λ ys. g (f x) ∷ ys) (twice f g xs)

  -- the two ways to what is made of the parts
  same_parts : {A B C H : Type 0} (f : A → B) (g : B → C) (h : A → H) (k : H → C) → ((x : A) → g (f x) ≡ k (h x)) → (xs : List A) → map g (map f xs) ≡ map k (map h xs)
  same_parts f g h k e [] = refl
  same_parts f g h k e (x ∷ xs) = ap (λ y. y ∷ map g (map f xs)) (e x) ∙ ap (λ ys. k (h x) ∷ ys) (same_parts f g h k e xs)

  -- ---- forms

  statement_case : (y : Statement-F SuchStatement SuchArm SuchBlock SuchFor SuchIf SuchWhile) → StatementFine (roll-Statement (map-Statement SuchStatement SuchArm SuchBlock SuchFor SuchIf SuchWhile Statement Arm Block For If While (λ e. e.0) (λ e. e.0) (λ e. e.0) (λ e. e.0) (λ e. e.0) (λ e. e.0) y))
  statement_case y = as_rolled _ _ _ _ _ _
      (fold-roll-Statement Stating Arming Stating Stating Stating Stating (verdict.statement_step d result) (verdict.arm_step d) verdict.block_step (verdict.for_step d) verdict.if_step (verdict.while_step d) (map-Statement SuchStatement SuchArm SuchBlock SuchFor SuchIf SuchWhile Statement Arm Block For If While (λ e. e.0) (λ e. e.0) (λ e. e.0) (λ e. e.0) (λ e. e.0) (λ e. e.0) y))
      (fold-roll-Statement Bool Bool Bool Bool Bool Bool returns_step arm_returns block_returns for_returns if_returns while_returns (map-Statement SuchStatement SuchArm SuchBlock SuchFor SuchIf SuchWhile Statement Arm Block For If While (λ e. e.0) (λ e. e.0) (λ e. e.0) (λ e. e.0) (λ e. e.0) (λ e. e.0) y))
      (fold-roll-Statement Tokens Tokens Tokens Tokens Tokens Tokens tokens_step arm_tokens_step block_tokens_step for_tokens_step if_tokens_step while_tokens_step (map-Statement SuchStatement SuchArm SuchBlock SuchFor SuchIf SuchWhile Statement Arm Block For If While (λ e. e.0) (λ e. e.0) (λ e. e.0) (λ e. e.0) (λ e. e.0) (λ e. e.0) y))
      (by y)
    where
      by : (y : Statement-F SuchStatement SuchArm SuchBlock SuchFor SuchIf SuchWhile)
          → Holds' (verdict.statement_step d result (map-Statement Statement Arm Block For If While Stating Arming Stating Stating Stating Stating (stated d result) (arm_stated d result) (block_stated d result) (for_loop_stated d result) (branch_stated d result) (while_loop_stated d result) (map-Statement SuchStatement SuchArm SuchBlock SuchFor SuchIf SuchWhile Statement Arm Block For If While (λ e. e.0) (λ e. e.0) (λ e. e.0) (λ e. e.0) (λ e. e.0) (λ e. e.0) y)))
          (returns_step (map-Statement Statement Arm Block For If While Bool Bool Bool Bool Bool Bool surely_returns one_arm_returns block_surely_returns for_loop_returns branch_returns loop_returns (map-Statement SuchStatement SuchArm SuchBlock SuchFor SuchIf SuchWhile Statement Arm Block For If While (λ e. e.0) (λ e. e.0) (λ e. e.0) (λ e. e.0) (λ e. e.0) (λ e. e.0) y)))
          (tokens_step (map-Statement Statement Arm Block For If While Tokens Tokens Tokens Tokens Tokens Tokens statement_tokens arm_tokens block_tokens for_loop_tokens branch_tokens loop_tokens (map-Statement SuchStatement SuchArm SuchBlock SuchFor SuchIf SuchWhile Statement Arm Block For If While (λ e. e.0) (λ e. e.0) (λ e. e.0) (λ e. e.0) (λ e. e.0) (λ e. e.0) y)))
      by (BlockForm block) s h below = block.1 s h below
      by (ConstantForm constant) s h below = declared_good d n result needs s true (constant_declared s d constant) (needs.constant s h constant below)
      by (VariableForm variable) s h below = declared_good d n result needs s false (variable_declared s d variable) (needs.variable s h variable below)
      by (AssignmentForm assignment) s h below = assignment_good d n result needs s h assignment below
      by (CallStatement call) s h below = call_good d n result needs s h call below
      by (IfForm branch) s h below = branch.1 s h below
      by (WhileForm loop) s h below = loop.1 s h below
      by (ForForm loop) s h below = loop.1 s h below
      by (ReturnForm leave) s h below = return_good d n result needs s h leave below
      by (PrintForm print) s h below = print_good d n result needs s h print below
      by (EmptyForm empty) s h below = made_as d n result needs (scene s d) form.Empty (simple true 0) s s false 0 (λ scope. refl) (fine_simple d n s 0 h)

  block_case : (y : Block-F SuchStatement SuchArm SuchBlock SuchFor SuchIf SuchWhile) → BlockFine (roll-Block (map-Block SuchStatement SuchArm SuchBlock SuchFor SuchIf SuchWhile Statement Arm Block For If While (λ e. e.0) (λ e. e.0) (λ e. e.0) (λ e. e.0) (λ e. e.0) (λ e. e.0) y))
  block_case y =
      let x = map-Block SuchStatement SuchArm SuchBlock SuchFor SuchIf SuchWhile Statement Arm Block For If While (λ e. e.0) (λ e. e.0) (λ e. e.0) (λ e. e.0) (λ e. e.0) (λ e. e.0) y in
      let es = map held y.statements in
      as_rolled _ _ _ _ _ _
      (fold-roll-Block Stating Arming Stating Stating Stating Stating (verdict.statement_step d result) (verdict.arm_step d) verdict.block_step (verdict.for_step d) verdict.if_step (verdict.while_step d) x ∙ ap (λ (parts : List Stating). verdict.own_scope (verdict.inside_stated parts)) (same_parts (λ (e : SuchStatement). e.0) (stated d result) held (λ (e : Held (stays d n result needs) d n (result_type result)). e.stating) (λ e. refl) y.statements))
      (fold-roll-Block Bool Bool Bool Bool Bool Bool returns_step arm_returns block_returns for_returns if_returns while_returns x ∙ ap (λ (bs : List Bool). one_returns bs) (same_parts (λ (e : SuchStatement). e.0) surely_returns held (λ (e : Held (stays d n result needs) d n (result_type result)). e.returns) (λ e. refl) y.statements))
      (fold-roll-Block Tokens Tokens Tokens Tokens Tokens Tokens tokens_step arm_tokens_step block_tokens_step for_tokens_step if_tokens_step while_tokens_step x ∙ ap (λ (ts : List Tokens). y.token ∷ concat ts) (same_parts (λ (e : SuchStatement). e.0) statement_tokens held (λ (e : Held (stays d n result needs) d n (result_type result)). e.own) (λ e. refl) y.statements))
      (λ s h below. block_good d n result needs es s h (All-tail (λ token. token < n) y.token (concat (map (λ (e : Held (stays d n result needs) d n (result_type result)). e.own) es)) below))

  while_case : (y : While-F SuchStatement SuchArm SuchBlock SuchFor SuchIf SuchWhile) → WhileFine (roll-While (map-While SuchStatement SuchArm SuchBlock SuchFor SuchIf SuchWhile Statement Arm Block For If While (λ e. e.0) (λ e. e.0) (λ e. e.0) (λ e. e.0) (λ e. e.0) (λ e. e.0) y))
  while_case y =
      let x = map-While SuchStatement SuchArm SuchBlock SuchFor SuchIf SuchWhile Statement Arm Block For If While (λ e. e.0) (λ e. e.0) (λ e. e.0) (λ e. e.0) (λ e. e.0) (λ e. e.0) y in
      as_rolled _ _ _ _ _ _
      (fold-roll-While Stating Arming Stating Stating Stating Stating (verdict.statement_step d result) (verdict.arm_step d) verdict.block_step (verdict.for_step d) verdict.if_step (verdict.while_step d) x)
      refl
      (fold-roll-While Tokens Tokens Tokens Tokens Tokens Tokens tokens_step arm_tokens_step block_tokens_step for_tokens_step if_tokens_step while_tokens_step x)
      (λ s h below. while_good d n result needs y.test (held y.body) y.token s h below)

  for_case : (y : For-F SuchStatement SuchArm SuchBlock SuchFor SuchIf SuchWhile) → ForFine (roll-For (map-For SuchStatement SuchArm SuchBlock SuchFor SuchIf SuchWhile Statement Arm Block For If While (λ e. e.0) (λ e. e.0) (λ e. e.0) (λ e. e.0) (λ e. e.0) (λ e. e.0) y))
  for_case y =
      let x = map-For SuchStatement SuchArm SuchBlock SuchFor SuchIf SuchWhile Statement Arm Block For If While (λ e. e.0) (λ e. e.0) (λ e. e.0) (λ e. e.0) (λ e. e.0) (λ e. e.0) y in
      as_rolled _ _ _ _ _ _
      (fold-roll-For Stating Arming Stating Stating Stating Stating (verdict.statement_step d result) (verdict.arm_step d) verdict.block_step (verdict.for_step d) verdict.if_step (verdict.while_step d) x)
      refl
      (fold-roll-For Tokens Tokens Tokens Tokens Tokens Tokens tokens_step arm_tokens_step block_tokens_step for_tokens_step if_tokens_step while_tokens_step x)
      (λ s h below. for_good d n result needs y.start y.test y.next (held y.body) y.token s h below)

  arm_case : (y : Arm-F SuchStatement SuchArm SuchBlock SuchFor SuchIf SuchWhile) → ArmFine (roll-Arm (map-Arm SuchStatement SuchArm SuchBlock SuchFor SuchIf SuchWhile Statement Arm Block For If While (λ e. e.0) (λ e. e.0) (λ e. e.0) (λ e. e.0) (λ e. e.0) (λ e. e.0) y))
  arm_case y before h below =
      let x = map-Arm SuchStatement SuchArm SuchBlock SuchFor SuchIf SuchWhile Statement Arm Block For If While (λ e. e.0) (λ e. e.0) (λ e. e.0) (λ e. e.0) (λ e. e.0) (λ e. e.0) y in
      let p = fold-roll-Arm Stating Arming Stating Stating Stating Stating (verdict.statement_step d result) (verdict.arm_step d) verdict.block_step (verdict.for_step d) verdict.if_step (verdict.while_step d) x in
      let q = fold-roll-Arm Bool Bool Bool Bool Bool Bool returns_step arm_returns block_returns for_returns if_returns while_returns x in
      let e = fold-roll-Arm Tokens Tokens Tokens Tokens Tokens Tokens tokens_step arm_tokens_step block_tokens_step for_tokens_step if_tokens_step while_tokens_step x in
      let b = held y.body in
      subst (λ (a : Arming). Good (ArmedWell (stays d n result needs) d n result before (one_arm_returns (roll-Arm x))) (a before)) (sym p)
      (subst (λ r. Good (ArmedWell (stays d n result needs) d n result before r) (verdict.arm_step d (map-Arm Statement Arm Block For If While Stating Arming Stating Stating Stating Stating (stated d result) (arm_stated d result) (block_stated d result) (for_loop_stated d result) (branch_stated d result) (while_loop_stated d result) x) before)) (sym q)
      (arm_good (stays d n result needs) d n result y.test b.stating b.returns b.own b.holds (λ s h below. needs.test s h y.test below) before h (subst (λ (t : Tokens). Below n t) e below)))

  abbrev HeldOne : Type 0
  HeldOne = Held (stays d n result needs) d n (result_type result)

  abbrev HeldArms : Type 0
  HeldArms = HeldArm (stays d n result needs) d n result

  -- an `if` without `else`, and with one
  if_alone : (arms : List SuchArm) (token : ℕ) → IfFine (roll-If (map-If SuchStatement SuchArm SuchBlock SuchFor SuchIf SuchWhile Statement Arm Block For If While (λ e. e.0) (λ e. e.0) (λ e. e.0) (λ e. e.0) (λ e. e.0) (λ e. e.0) (record { arms = arms; otherwise = None; token = token })))
  if_alone arms token =
      let x = map-If SuchStatement SuchArm SuchBlock SuchFor SuchIf SuchWhile Statement Arm Block For If While (λ e. e.0) (λ e. e.0) (λ e. e.0) (λ e. e.0) (λ e. e.0) (λ e. e.0) (record { arms = arms; otherwise = None; token = token }) in
      let es = map held_arm arms in
      as_rolled _ _ _ _ _ _
      (fold-roll-If Stating Arming Stating Stating Stating Stating (verdict.statement_step d result) (verdict.arm_step d) verdict.block_step (verdict.for_step d) verdict.if_step (verdict.while_step d) x ∙ ap (λ (parts : List Arming). verdict.if_step (record { arms = parts; otherwise = None; token = token })) (same_parts (λ (e : SuchArm). e.0) (arm_stated d result) held_arm (λ (e : HeldArms). e.arming) (λ e. refl) arms))
      (fold-roll-If Bool Bool Bool Bool Bool Bool returns_step arm_returns block_returns for_returns if_returns while_returns x ∙ ap (λ (bs : List Bool). all_return bs && false) (same_parts (λ (e : SuchArm). e.0) one_arm_returns held_arm (λ (e : HeldArms). e.returns) (λ e. refl) arms))
      (fold-roll-If Tokens Tokens Tokens Tokens Tokens Tokens tokens_step arm_tokens_step block_tokens_step for_tokens_step if_tokens_step while_tokens_step x ∙ ap (λ (ts : List Tokens). token ∷ (concat ts ++ [])) (same_parts (λ (e : SuchArm). e.0) arm_tokens held_arm (λ (e : HeldArms). e.own) (λ e. refl) arms))
      (λ s h below. if_good d n result needs es None token s h (All-tail (λ token. token < n) token (concat (map (λ (e : HeldArms). e.own) es) ++ []) below))

  if_else : (arms : List SuchArm) (last : SuchStatement) (token : ℕ) → IfFine (roll-If (map-If SuchStatement SuchArm SuchBlock SuchFor SuchIf SuchWhile Statement Arm Block For If While (λ e. e.0) (λ e. e.0) (λ e. e.0) (λ e. e.0) (λ e. e.0) (λ e. e.0) (record { arms = arms; otherwise = Some last; token = token })))
  if_else arms last token =
      let x = map-If SuchStatement SuchArm SuchBlock SuchFor SuchIf SuchWhile Statement Arm Block For If While (λ e. e.0) (λ e. e.0) (λ e. e.0) (λ e. e.0) (λ e. e.0) (λ e. e.0) (record { arms = arms; otherwise = Some last; token = token }) in
      let es = map held_arm arms in
      let b = held last in
      as_rolled _ _ _ _ _ _
      (fold-roll-If Stating Arming Stating Stating Stating Stating (verdict.statement_step d result) (verdict.arm_step d) verdict.block_step (verdict.for_step d) verdict.if_step (verdict.while_step d) x ∙ ap (λ (parts : List Arming). verdict.if_step (record { arms = parts; otherwise = Some b.stating; token = token })) (same_parts (λ (e : SuchArm). e.0) (arm_stated d result) held_arm (λ (e : HeldArms). e.arming) (λ e. refl) arms))
      (fold-roll-If Bool Bool Bool Bool Bool Bool returns_step arm_returns block_returns for_returns if_returns while_returns x ∙ ap (λ (bs : List Bool). all_return bs && b.returns) (same_parts (λ (e : SuchArm). e.0) one_arm_returns held_arm (λ (e : HeldArms). e.returns) (λ e. refl) arms))
      (fold-roll-If Tokens Tokens Tokens Tokens Tokens Tokens tokens_step arm_tokens_step block_tokens_step for_tokens_step if_tokens_step while_tokens_step x ∙ ap (λ (ts : List Tokens). token ∷ (concat ts ++ b.own)) (same_parts (λ (e : SuchArm). e.0) arm_tokens held_arm (λ (e : HeldArms). e.own) (λ e. refl) arms))
      (λ s h below. if_good d n result needs es (Some b) token s h (All-tail (λ token. token < n) token (concat (map (λ (e : HeldArms). e.own) es) ++ b.own) below))

  if_case : (y : If-F SuchStatement SuchArm SuchBlock SuchFor SuchIf SuchWhile) → IfFine (roll-If (map-If SuchStatement SuchArm SuchBlock SuchFor SuchIf SuchWhile Statement Arm Block For If While (λ e. e.0) (λ e. e.0) (λ e. e.0) (λ e. e.0) (λ e. e.0) (λ e. e.0) y))
  if_case y = by y.otherwise where
    by : (otherwise : Option SuchStatement) → IfFine (roll-If (map-If SuchStatement SuchArm SuchBlock SuchFor SuchIf SuchWhile Statement Arm Block For If While (λ e. e.0) (λ e. e.0) (λ e. e.0) (λ e. e.0) (λ e. e.0) (λ e. e.0) (record { arms = y.arms; otherwise = otherwise; token = y.token })))
    by None = if_alone y.arms y.token
    by (Some last) = if_else y.arms last y.token

  -- ---- all

  pub block_fine : (e : Block) → BlockFine e
  block_fine = ind-Block StatementFine ArmFine BlockFine ForFine IfFine WhileFine
      (λ x y is. subst (λ x. StatementFine (roll-Statement x)) is (statement_case y))
      (λ x y is. subst (λ x. ArmFine (roll-Arm x)) is (arm_case y))
      (λ x y is. subst (λ x. BlockFine (roll-Block x)) is (block_case y))
      (λ x y is. subst (λ x. ForFine (roll-For x)) is (for_case y))
      (λ x y is. subst (λ x. IfFine (roll-If x)) is (if_case y))
      (λ x y is. subst (λ x. WhileFine (roll-While x)) is (while_case y))
