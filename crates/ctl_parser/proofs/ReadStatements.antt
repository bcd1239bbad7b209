-- Statements that have been read, in boxes. An equation is used here, over plain variables, and not where the statement was read.
use Rattle.std.proofs.Common.{◌≡◌, ◌≤◌, ℕ, ◌+◌, List, [], ◌∷◌, ◌++◌, Option, Some, sym, subst, append_assoc, append-nil, ap, ◌∙◌}
use Rattle.ctl_base.specs.declared.limits.TheConstants.{NESTING}
use Rattle.ctl_tree.specs.declared.keyword.Keyword.TheVariants.{If as IfWord, While as WhileWord, For as ForWord}
use Rattle.ctl_tree.specs.declared.sign.Sign.TheVariants.{OpenRound, CloseRound}
use Rattle.ctl_tree.specs.declared.expression.Expr.{Expr}
use Rattle.ctl_tree.specs.declared.declaration.Constant.{Constant}
use Rattle.ctl_tree.specs.declared.statement.Statement.{Statement}
use Rattle.ctl_tree.specs.declared.statement.Statement.TheVariants.{Constant as ConstantForm, If, While, For}
use Rattle.ctl_tree.specs.declared.statement.Arm.{Arm, roll-Arm}
use Rattle.ctl_tree.specs.declared.statement.If.{If as IfForm, roll-If}
use Rattle.ctl_tree.specs.declared.statement.While.{While as WhileForm, roll-While}
use Rattle.ctl_tree.specs.declared.statement.For.{For as ForForm, roll-For}
use Rattle.ctl_tree.specs.Lexemes.{Lexeme, SeesSign, SeesWord}
use Rattle.ctl_tree.specs.Expressions.{IsExpr}
use Rattle.ctl_tree.specs.Declarations.{IsConstant}
use Rattle.ctl_tree.specs.Statements.{IsForStart, IsAssignment, IsStatement, IsArm, AreElses, arm, if_statement, while_statement, for_statement, constant_statement}
use Rattle.ctl_parser.specs.declared.heads.ForHead.{ForHead}
use Rattle.ctl_parser.specs.Heads.{IsExprBefore, IsForHead, expr_before, for_rest, for_head}
use Rattle.ctl_parser.specs.PrivateParts.{AreArms, are_arms}
use Rattle.ctl_parser.proofs.Ways.{two}

-- a test and a statement, of which the bracket stands behind a keyword
behind : {T : List Lexeme} {n j : ℕ} (i : ℕ) {test : Expr} {body : Statement} {k m : ℕ} → SeesSign T (i + 1) OpenRound → n + 1 ≤ NESTING → IsExpr T (Some NESTING) (n + 1) (i + 2) test m → SeesSign T m CloseRound → k ≡ m + 1
    → IsStatement T (Some NESTING) (n + 1) k body j → IsArm T (Some NESTING) n (i + 1) (roll-Arm (record { test = test; body = body })) j
behind {T} {n} {j} i {test} {body} {m = m} bracket within t close e b =
    arm m bracket within (subst (λ p. IsExpr T (Some NESTING) (n + 1) p test m) (sym (two i)) t) close (subst (λ k. IsStatement T (Some NESTING) (n + 1) k body j) e b)

module _ {T : List Lexeme} {n i j : ℕ} where
  pub constant_of : {boxed constant : Constant} → boxed ≡ constant → IsConstant T (Some NESTING) n i constant j → IsStatement T (Some NESTING) n i (ConstantForm boxed) j
  constant_of is h = subst (λ constant. IsStatement T (Some NESTING) n i (ConstantForm constant) j) (sym is) (constant_statement h)

  -- a test and a statement, whose bracket stands at a place

  tested : {test : Expr} {body : Statement} {k : ℕ} → SeesSign T i OpenRound → n + 1 ≤ NESTING → IsExprBefore T CloseRound (n + 1) (i + 1) test k → IsStatement T (Some NESTING) (n + 1) k body j
      → IsArm T (Some NESTING) n i (roll-Arm (record { test = test; body = body })) j
  tested {test} {body} bracket within (expr_before m t close e) b = arm m bracket within t close (subst (λ k. IsStatement T (Some NESTING) (n + 1) k body j) e b)

  pub arm_of : {test : Expr} {boxed body : Statement} {k : ℕ} → boxed ≡ body → SeesSign T i OpenRound → n + 1 ≤ NESTING → IsExprBefore T CloseRound (n + 1) (i + 1) test k
      → IsStatement T (Some NESTING) (n + 1) k body j → IsArm T (Some NESTING) n i (roll-Arm (record { test = test; body = boxed })) j
  arm_of {test} is bracket within t b = subst (λ body. IsArm T (Some NESTING) n i (roll-Arm (record { test = test; body = body })) j) (sym is) (tested bracket within t b)

  -- the arms of an `if`

  pub first_arm : {arms none more : List Arm} {first : Arm} {otherwise : Option Statement} {k : ℕ} → none ≡ [] → arms ≡ none ++ first ∷ [] → IsArm T (Some NESTING) n (i + 1) first k
      → AreElses T (Some NESTING) n k more otherwise j → AreArms T n i (roll-If (record { arms = arms ++ more; otherwise = otherwise; token = i })) j
  first_arm {arms} {none} {more} {first} {otherwise} empty is h are =
      subst (λ arms. AreArms T n i (roll-If (record { arms = arms ++ more; otherwise = otherwise; token = i })) j) (sym (is ∙ ap (λ none. none ++ first ∷ []) empty)) (are_arms _ h are)

  -- one more arm behind others
  pub next_arm : {arms : List Arm} (before more : List Arm) (next : Arm) (otherwise : Option Statement) → arms ≡ before ++ next ∷ []
      → AreArms T n i (roll-If (record { arms = before ++ next ∷ more; otherwise = otherwise; token = i })) j → AreArms T n i (roll-If (record { arms = arms ++ more; otherwise = otherwise; token = i })) j
  next_arm before more next otherwise is h = rw (is, append_assoc) h

  pub all_arms : {arms items : List Arm} {otherwise given : Option Statement} → arms ≡ items → given ≡ otherwise
      → AreArms T n i (roll-If (record { arms = items ++ []; otherwise = otherwise; token = i })) j → AreArms T n i (roll-If (record { arms = arms; otherwise = given; token = i })) j
  all_arms {arms} {items} {otherwise} {given} is same h =
      subst (λ arms. AreArms T n i (roll-If (record { arms = arms; otherwise = given; token = i })) j) (sym is)
      (subst (λ given. AreArms T n i (roll-If (record { arms = items; otherwise = given; token = i })) j) (sym same)
      (subst (λ items. AreArms T n i (roll-If (record { arms = items; otherwise = otherwise; token = i })) j) (append-nil items) h))

  -- the statements

  pub if_of : {form : IfForm} → SeesWord T i IfWord → AreArms T n i form j → IsStatement T (Some NESTING) n i (If form) j
  if_of word (are_arms k h are) = if_statement k word h are

  pub while_of : {boxed : WhileForm} {test : Expr} {body : Statement} {k : ℕ} → boxed ≡ roll-While (record { test = test; body = body; token = i }) → SeesWord T i WhileWord
      → SeesSign T (i + 1) OpenRound → n + 1 ≤ NESTING → IsExprBefore T CloseRound (n + 1) (i + 2) test k → IsStatement T (Some NESTING) (n + 1) k body j → IsStatement T (Some NESTING) n i (While boxed) j
  while_of is word bracket within (expr_before m t close e) b =
      subst (λ form. IsStatement T (Some NESTING) n i (While form) j) (sym is) (while_statement word (behind i bracket within t close e b))

  pub for_of : {boxed : ForForm} {head : ForHead} {body : Statement} {k : ℕ}
      → boxed ≡ roll-For (record { start = head.start; test = head.test; next = head.next; body = body; token = i }) → SeesWord T i ForWord → n + 1 ≤ NESTING
      → IsForHead T n (i + 1) head k → IsStatement T (Some NESTING) (n + 1) k body j → IsStatement T (Some NESTING) n i (For boxed) j
  for_of {body = body} is word within (for_head {start = start} k bracket s (for_rest {next = next} m p (expr_before _ t semicolon e) a close e')) b =
      let s = subst (λ place. IsForStart T (Some NESTING) n place start k) (two i) s in
      let a = subst (λ place. IsAssignment T (Some NESTING) n (n + 1) place next p) e a in
      subst (λ form. IsStatement T (Some NESTING) n i (For form) j) (sym is)
      (for_statement _ _ _ word bracket within s t semicolon a close (subst (λ k. IsStatement T (Some NESTING) (n + 1) k body j) e' b))
