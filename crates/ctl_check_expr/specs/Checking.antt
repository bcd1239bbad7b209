-- What the checker says of expressions: one fold. Of each form first its parts from the left, and then its own rule.
use Rattle.std.specs.Prelude.{ℕ, List, [], ◌∷◌, Result, Ok, Err}
use Rattle.ctl_tree.specs.declared.expression.QualifiedName.{QualifiedName}
use Rattle.ctl_tree.specs.declared.expression.Expr.{Expr}
use Rattle.ctl_tree.specs.declared.expression.Expr.TheOpen.{Expr-F, Step-F, Call-F, Chain-F, Index-F, Link-F, Path-F, Unary-F, Literal as LiteralForm, Name as NameForm, Call as CallForm, Path as PathForm, Unary as UnaryForm, Chain as ChainForm, Index as IndexForm, Field as FieldForm}
use Rattle.ctl_tree.specs.declared.expression.Expr.TheFolds.{fold-Expr, fold-Step, fold-Call, fold-Link, fold-Path, fold-Chain}
use Rattle.ctl_tree.specs.declared.expression.Step.{Step}
use Rattle.ctl_tree.specs.declared.expression.Call.{Call}
use Rattle.ctl_tree.specs.declared.expression.Link.{Link}
use Rattle.ctl_tree.specs.declared.expression.Path.{Path}
use Rattle.ctl_tree.specs.declared.expression.Chain.{Chain}
use Rattle.ctl_types.specs.declared.expression.TypedExpr.{TypedExpr}
use Rattle.ctl_types.specs.Definitions.{Defined}
use Rattle.ctl_scope.specs.Scope.{ScopeForm}
use Rattle.ctl_check_rules.specs.declared.checked.Checked.{Checked}
use Rattle.ctl_check_expr.specs.declared.checked.CheckedCall.{CheckedCall}
use Rattle.ctl_check_rules.specs.Faults.{Verdict, ◌>>=◌, rule_at}
use Rattle.ctl_check_rules.specs.Operators.{Linking, literal_checked, unary_rule, chained}
use Rattle.ctl_check_expr.specs.Places.{Stepping, IndexStep, FieldStep, name_checked, stepped_path}
use Rattle.ctl_check_expr.specs.Calls.{target, called, call_checked}

module _ (s : ScopeForm) (d : Defined) where
  -- an expression
  abbrev pub expr_step : Expr-F (Verdict Checked) Stepping (Verdict CheckedCall) (Verdict Checked) Stepping Linking (Verdict Checked) (Verdict Checked) → Verdict Checked
  expr_step (LiteralForm literal) = Ok (literal_checked literal.value literal.token)
  expr_step (NameForm name) = name_checked s d name
  expr_step (CallForm call) = do
    c ← call
    Ok (call_checked c)
  expr_step (PathForm path) = path
  expr_step (UnaryForm unary) = unary
  expr_step (ChainForm chain) = chain

  -- a step
  abbrev pub step_step : Step-F (Verdict Checked) Stepping (Verdict CheckedCall) (Verdict Checked) Stepping Linking (Verdict Checked) (Verdict Checked) → Stepping
  step_step (IndexForm index) = index
  step_step (FieldForm field) = FieldStep field

  -- a call
  abbrev pub call_step : Call-F (Verdict Checked) Stepping (Verdict CheckedCall) (Verdict Checked) Stepping Linking (Verdict Checked) (Verdict Checked) → Verdict CheckedCall
  call_step call = called s (target s d call.name) call.arguments call.token

  -- a chain: its first operand, and then its links
  abbrev pub chain_step : Chain-F (Verdict Checked) Stepping (Verdict CheckedCall) (Verdict Checked) Stepping Linking (Verdict Checked) (Verdict Checked) → Verdict Checked
  chain_step chain = do
    first ← chain.first
    chained s.unit first chain.links chain.token

  -- an index
  abbrev pub index_step : Index-F (Verdict Checked) Stepping (Verdict CheckedCall) (Verdict Checked) Stepping Linking (Verdict Checked) (Verdict Checked) → Stepping
  index_step index = IndexStep index.index index.token

  -- a link
  abbrev pub link_step : Link-F (Verdict Checked) Stepping (Verdict CheckedCall) (Verdict Checked) Stepping Linking (Verdict Checked) (Verdict Checked) → Linking
  link_step link = record { operator = link.operator; operand = link.operand; token = link.token }

  -- a path: its root, and then its steps
  abbrev pub path_step : Path-F (Verdict Checked) Stepping (Verdict CheckedCall) (Verdict Checked) Stepping Linking (Verdict Checked) (Verdict Checked) → Verdict Checked
  path_step path = do
    root ← path.root
    stepped_path s.unit d path.steps root

  -- an operator before its operand
  abbrev pub unary_step : Unary-F (Verdict Checked) Stepping (Verdict CheckedCall) (Verdict Checked) Stepping Linking (Verdict Checked) (Verdict Checked) → Verdict Checked
  unary_step unary = do
    c ← unary.operand
    rule_at s.unit unary.token (unary_rule unary.operator unary.token c)

  -- the verdict on an expression
  abbrev pub checked : Expr → Verdict Checked
  checked = fold-Expr (Verdict Checked) Stepping (Verdict CheckedCall) (Verdict Checked) Stepping Linking (Verdict Checked) (Verdict Checked) expr_step step_step call_step chain_step index_step link_step path_step unary_step

  -- on a path, a chain, a step, a call, a link
  abbrev pub checked_path : Path → Verdict Checked
  checked_path = fold-Path (Verdict Checked) Stepping (Verdict CheckedCall) (Verdict Checked) Stepping Linking (Verdict Checked) (Verdict Checked) expr_step step_step call_step chain_step index_step link_step path_step unary_step

  abbrev pub checked_chain : Chain → Verdict Checked
  checked_chain = fold-Chain (Verdict Checked) Stepping (Verdict CheckedCall) (Verdict Checked) Stepping Linking (Verdict Checked) (Verdict Checked) expr_step step_step call_step chain_step index_step link_step path_step unary_step

  abbrev pub checked_step : Step → Stepping
  checked_step = fold-Step (Verdict Checked) Stepping (Verdict CheckedCall) (Verdict Checked) Stepping Linking (Verdict Checked) (Verdict Checked) expr_step step_step call_step chain_step index_step link_step path_step unary_step

  abbrev pub checked_call : Call → Verdict CheckedCall
  checked_call = fold-Call (Verdict Checked) Stepping (Verdict CheckedCall) (Verdict Checked) Stepping Linking (Verdict Checked) (Verdict Checked) expr_step step_step call_step chain_step index_step link_step path_step unary_step

  abbrev pub checked_link : Link → Linking
  checked_link = fold-Link (Verdict Checked) Stepping (Verdict CheckedCall) (Verdict Checked) Stepping Linking (Verdict Checked) (Verdict Checked) expr_step step_step call_step chain_step index_step link_step path_step unary_step

  -- the typed form of an expression alone
  abbrev pub typed : Expr → Verdict TypedExpr
  typed e = do
    c ← checked e
    Ok c.form
