-- What is made of written expressions, one equation a form: their own tokens, and the verdicts.
use Rattle.std.proofs.Common.{◌≡◌}
use Rattle.ctl_tree.specs.declared.expression.Expr.{Expr, roll-Expr}
use Rattle.ctl_tree.specs.declared.expression.Step.{Step, roll-Step}
use Rattle.ctl_tree.specs.declared.expression.Call.{Call, roll-Call}
use Rattle.ctl_tree.specs.declared.expression.Chain.{Chain, roll-Chain}
use Rattle.ctl_tree.specs.declared.expression.Index.{Index, roll-Index}
use Rattle.ctl_tree.specs.declared.expression.Link.{Link, roll-Link}
use Rattle.ctl_tree.specs.declared.expression.Path.{Path, roll-Path}
use Rattle.ctl_tree.specs.declared.expression.Unary.{Unary, roll-Unary}
use Rattle.ctl_tree.specs.declared.expression.Expr.TheOpen.{Expr-F, Step-F, Call-F, Chain-F, Index-F, Link-F, Path-F, Unary-F}
use Rattle.ctl_tree.specs.declared.expression.Expr.TheFolds.{fold-Chain, fold-Index, fold-Path, fold-Unary, fold-roll-Expr, fold-roll-Step, fold-roll-Call, fold-roll-Chain, fold-roll-Index, fold-roll-Link, fold-roll-Path, fold-roll-Unary, map-Expr, map-Step, map-Call, map-Chain, map-Index, map-Link, map-Path, map-Unary}
use Rattle.ctl_tree.specs.Folds.{of_expr, of_step, of_call, of_chain, of_index, of_link, of_path, of_unary}
use Rattle.ctl_tree.specs.OwnTokens.{Tokens, listed, expr_tokens, step_tokens, call_tokens, link_tokens}
use Rattle.ctl_types.specs.Definitions.{Defined}
use Rattle.ctl_scope.specs.Scope.{ScopeForm}
use Rattle.ctl_check_rules.specs.declared.checked.Checked.{Checked}
use Rattle.ctl_check_rules.specs.Faults.{Verdict}
use Rattle.ctl_check_rules.specs.Operators.{Linking}
use Rattle.ctl_check_expr.specs.declared.checked.CheckedCall.{CheckedCall}
use Rattle.ctl_check_expr.specs.Places.{Stepping}
use Rattle.ctl_check_expr.specs.Checking.{expr_step, step_step, call_step, chain_step, index_step, link_step, path_step, unary_step, checked, checked_path, checked_chain, checked_step, checked_call, checked_link}

-- ---- own tokens

abbrev pub chain_tokens : Chain → Tokens
chain_tokens = fold-Chain Tokens Tokens Tokens Tokens Tokens Tokens Tokens Tokens (of_expr listed) (of_step listed) (of_call listed) (of_chain listed) (of_index listed) (of_link listed) (of_path listed) (of_unary listed)

abbrev pub index_tokens : Index → Tokens
index_tokens = fold-Index Tokens Tokens Tokens Tokens Tokens Tokens Tokens Tokens (of_expr listed) (of_step listed) (of_call listed) (of_chain listed) (of_index listed) (of_link listed) (of_path listed) (of_unary listed)

abbrev pub path_tokens : Path → Tokens
path_tokens = fold-Path Tokens Tokens Tokens Tokens Tokens Tokens Tokens Tokens (of_expr listed) (of_step listed) (of_call listed) (of_chain listed) (of_index listed) (of_link listed) (of_path listed) (of_unary listed)

abbrev pub unary_tokens : Unary → Tokens
unary_tokens = fold-Unary Tokens Tokens Tokens Tokens Tokens Tokens Tokens Tokens (of_expr listed) (of_step listed) (of_call listed) (of_chain listed) (of_index listed) (of_link listed) (of_path listed) (of_unary listed)

pub expr_own : (x : Expr-F Expr Step Call Chain Index Link Path Unary) → expr_tokens (roll-Expr x) ≡ of_expr listed (map-Expr Expr Step Call Chain Index Link Path Unary Tokens Tokens Tokens Tokens Tokens Tokens Tokens Tokens expr_tokens step_tokens call_tokens chain_tokens index_tokens link_tokens path_tokens unary_tokens x)
expr_own x = fold-roll-Expr Tokens Tokens Tokens Tokens Tokens Tokens Tokens Tokens (of_expr listed) (of_step listed) (of_call listed) (of_chain listed) (of_index listed) (of_link listed) (of_path listed) (of_unary listed) x

pub step_own : (x : Step-F Expr Step Call Chain Index Link Path Unary) → step_tokens (roll-Step x) ≡ of_step listed (map-Step Expr Step Call Chain Index Link Path Unary Tokens Tokens Tokens Tokens Tokens Tokens Tokens Tokens expr_tokens step_tokens call_tokens chain_tokens index_tokens link_tokens path_tokens unary_tokens x)
step_own x = fold-roll-Step Tokens Tokens Tokens Tokens Tokens Tokens Tokens Tokens (of_expr listed) (of_step listed) (of_call listed) (of_chain listed) (of_index listed) (of_link listed) (of_path listed) (of_unary listed) x

pub call_own : (x : Call-F Expr Step Call Chain Index Link Path Unary) → call_tokens (roll-Call x) ≡ of_call listed (map-Call Expr Step Call Chain Index Link Path Unary Tokens Tokens Tokens Tokens Tokens Tokens Tokens Tokens expr_tokens step_tokens call_tokens chain_tokens index_tokens link_tokens path_tokens unary_tokens x)
call_own x = fold-roll-Call Tokens Tokens Tokens Tokens Tokens Tokens Tokens Tokens (of_expr listed) (of_step listed) (of_call listed) (of_chain listed) (of_index listed) (of_link listed) (of_path listed) (of_unary listed) x

pub chain_own : (x : Chain-F Expr Step Call Chain Index Link Path Unary) → chain_tokens (roll-Chain x) ≡ of_chain listed (map-Chain Expr Step Call Chain Index Link Path Unary Tokens Tokens Tokens Tokens Tokens Tokens Tokens Tokens expr_tokens step_tokens call_tokens chain_tokens index_tokens link_tokens path_tokens unary_tokens x)
chain_own x = fold-roll-Chain Tokens Tokens Tokens Tokens Tokens Tokens Tokens Tokens (of_expr listed) (of_step listed) (of_call listed) (of_chain listed) (of_index listed) (of_link listed) (of_path listed) (of_unary listed) x

pub index_own : (x : Index-F Expr Step Call Chain Index Link Path Unary) → index_tokens (roll-Index x) ≡ of_index listed (map-Index Expr Step Call Chain Index Link Path Unary Tokens Tokens Tokens Tokens Tokens Tokens Tokens Tokens expr_tokens step_tokens call_tokens chain_tokens index_tokens link_tokens path_tokens unary_tokens x)
index_own x = fold-roll-Index Tokens Tokens Tokens Tokens Tokens Tokens Tokens Tokens (of_expr listed) (of_step listed) (of_call listed) (of_chain listed) (of_index listed) (of_link listed) (of_path listed) (of_unary listed) x

pub link_own : (x : Link-F Expr Step Call Chain Index Link Path Unary) → link_tokens (roll-Link x) ≡ of_link listed (map-Link Expr Step Call Chain Index Link Path Unary Tokens Tokens Tokens Tokens Tokens Tokens Tokens Tokens expr_tokens step_tokens call_tokens chain_tokens index_tokens link_tokens path_tokens unary_tokens x)
link_own x = fold-roll-Link Tokens Tokens Tokens Tokens Tokens Tokens Tokens Tokens (of_expr listed) (of_step listed) (of_call listed) (of_chain listed) (of_index listed) (of_link listed) (of_path listed) (of_unary listed) x

pub path_own : (x : Path-F Expr Step Call Chain Index Link Path Unary) → path_tokens (roll-Path x) ≡ of_path listed (map-Path Expr Step Call Chain Index Link Path Unary Tokens Tokens Tokens Tokens Tokens Tokens Tokens Tokens expr_tokens step_tokens call_tokens chain_tokens index_tokens link_tokens path_tokens unary_tokens x)
path_own x = fold-roll-Path Tokens Tokens Tokens Tokens Tokens Tokens Tokens Tokens (of_expr listed) (of_step listed) (of_call listed) (of_chain listed) (of_index listed) (of_link listed) (of_path listed) (of_unary listed) x

pub unary_own : (x : Unary-F Expr Step Call Chain Index Link Path Unary) → unary_tokens (roll-Unary x) ≡ of_unary listed (map-Unary Expr Step Call Chain Index Link Path Unary Tokens Tokens Tokens Tokens Tokens Tokens Tokens Tokens expr_tokens step_tokens call_tokens chain_tokens index_tokens link_tokens path_tokens unary_tokens x)
unary_own x = fold-roll-Unary Tokens Tokens Tokens Tokens Tokens Tokens Tokens Tokens (of_expr listed) (of_step listed) (of_call listed) (of_chain listed) (of_index listed) (of_link listed) (of_path listed) (of_unary listed) x

-- ---- verdicts

module _ (s : ScopeForm) (d : Defined) where
  abbrev pub checked_index : Index → Stepping
  checked_index = fold-Index (Verdict Checked) Stepping (Verdict CheckedCall) (Verdict Checked) Stepping Linking (Verdict Checked) (Verdict Checked) (expr_step s d) (step_step s d) (call_step s d) (chain_step s d) (index_step s d) (link_step s d) (path_step s d) (unary_step s d)

  abbrev pub checked_unary : Unary → Verdict Checked
  checked_unary = fold-Unary (Verdict Checked) Stepping (Verdict CheckedCall) (Verdict Checked) Stepping Linking (Verdict Checked) (Verdict Checked) (expr_step s d) (step_step s d) (call_step s d) (chain_step s d) (index_step s d) (link_step s d) (path_step s d) (unary_step s d)

  pub expr_verdict : (x : Expr-F Expr Step Call Chain Index Link Path Unary) → checked s d (roll-Expr x) ≡ expr_step s d (map-Expr Expr Step Call Chain Index Link Path Unary (Verdict Checked) Stepping (Verdict CheckedCall) (Verdict Checked) Stepping Linking (Verdict Checked) (Verdict Checked) (checked s d) (checked_step s d) (checked_call s d) (checked_chain s d) checked_index (checked_link s d) (checked_path s d) checked_unary x)
  expr_verdict x = fold-roll-Expr (Verdict Checked) Stepping (Verdict CheckedCall) (Verdict Checked) Stepping Linking (Verdict Checked) (Verdict Checked) (expr_step s d) (step_step s d) (call_step s d) (chain_step s d) (index_step s d) (link_step s d) (path_step s d) (unary_step s d) x

  pub step_verdict : (x : Step-F Expr Step Call Chain Index Link Path Unary) → checked_step s d (roll-Step x) ≡ step_step s d (map-Step Expr Step Call Chain Index Link Path Unary (Verdict Checked) Stepping (Verdict CheckedCall) (Verdict Checked) Stepping Linking (Verdict Checked) (Verdict Checked) (checked s d) (checked_step s d) (checked_call s d) (checked_chain s d) checked_index (checked_link s d) (checked_path s d) checked_unary x)
  step_verdict x = fold-roll-Step (Verdict Checked) Stepping (Verdict CheckedCall) (Verdict Checked) Stepping Linking (Verdict Checked) (Verdict Checked) (expr_step s d) (step_step s d) (call_step s d) (chain_step s d) (index_step s d) (link_step s d) (path_step s d) (unary_step s d) x

  pub call_verdict : (x : Call-F Expr Step Call Chain Index Link Path Unary) → checked_call s d (roll-Call x) ≡ call_step s d (map-Call Expr Step Call Chain Index Link Path Unary (Verdict Checked) Stepping (Verdict CheckedCall) (Verdict Checked) Stepping Linking (Verdict Checked) (Verdict Checked) (checked s d) (checked_step s d) (checked_call s d) (checked_chain s d) checked_index (checked_link s d) (checked_path s d) checked_unary x)
  call_verdict x = fold-roll-Call (Verdict Checked) Stepping (Verdict CheckedCall) (Verdict Checked) Stepping Linking (Verdict Checked) (Verdict Checked) (expr_step s d) (step_step s d) (call_step s d) (chain_step s d) (index_step s d) (link_step s d) (path_step s d) (unary_step s d) x

  pub chain_verdict : (x : Chain-F Expr Step Call Chain Index Link Path Unary) → checked_chain s d (roll-Chain x) ≡ chain_step s d (map-Chain Expr Step Call Chain Index Link Path Unary (Verdict Checked) Stepping (Verdict CheckedCall) (Verdict Checked) Stepping Linking (Verdict Checked) (Verdict Checked) (checked s d) (checked_step s d) (checked_call s d) (checked_chain s d) checked_index (checked_link s d) (checked_path s d) checked_unary x)
  chain_verdict x = fold-roll-Chain (Verdict Checked) Stepping (Verdict CheckedCall) (Verdict Checked) Stepping Linking (Verdict Checked) (Verdict Checked) (expr_step s d) (step_step s d) (call_step s d) (chain_step s d) (index_step s d) (link_step s d) (path_step s d) (unary_step s d) x

  pub index_verdict : (x : Index-F Expr Step Call Chain Index Link Path Unary) → checked_index (roll-Index x) ≡ index_step s d (map-Index Expr Step Call Chain Index Link Path Unary (Verdict Checked) Stepping (Verdict CheckedCall) (Verdict Checked) Stepping Linking (Verdict Checked) (Verdict Checked) (checked s d) (checked_step s d) (checked_call s d) (checked_chain s d) checked_index (checked_link s d) (checked_path s d) checked_unary x)
  index_verdict x = fold-roll-Index (Verdict Checked) Stepping (Verdict CheckedCall) (Verdict Checked) Stepping Linking (Verdict Checked) (Verdict Checked) (expr_step s d) (step_step s d) (call_step s d) (chain_step s d) (index_step s d) (link_step s d) (path_step s d) (unary_step s d) x

  pub link_verdict : (x : Link-F Expr Step Call Chain Index Link Path Unary) → checked_link s d (roll-Link x) ≡ link_step s d (map-Link Expr Step Call Chain Index Link Path Unary (Verdict Checked) Stepping (Verdict CheckedCall) (Verdict Checked) Stepping Linking (Verdict Checked) (Verdict Checked) (checked s d) (checked_step s d) (checked_call s d) (checked_chain s d) checked_index (checked_link s d) (checked_path s d) checked_unary x)
  link_verdict x = fold-roll-Link (Verdict Checked) Stepping (Verdict CheckedCall) (Verdict Checked) Stepping Linking (Verdict Checked) (Verdict Checked) (expr_step s d) (step_step s d) (call_step s d) (chain_step s d) (index_step s d) (link_step s d) (path_step s d) (unary_step s d) x

  pub path_verdict : (x : Path-F Expr Step Call Chain Index Link Path Unary) → checked_path s d (roll-Path x) ≡ path_step s d (map-Path Expr Step Call Chain Index Link Path Unary (Verdict Checked) Stepping (Verdict CheckedCall) (Verdict Checked) Stepping Linking (Verdict Checked) (Verdict Checked) (checked s d) (checked_step s d) (checked_call s d) (checked_chain s d) checked_index (checked_link s d) (checked_path s d) checked_unary x)
  path_verdict x = fold-roll-Path (Verdict Checked) Stepping (Verdict CheckedCall) (Verdict Checked) Stepping Linking (Verdict Checked) (Verdict Checked) (expr_step s d) (step_step s d) (call_step s d) (chain_step s d) (index_step s d) (link_step s d) (path_step s d) (unary_step s d) x

  pub unary_verdict : (x : Unary-F Expr Step Call Chain Index Link Path Unary) → checked_unary (roll-Unary x) ≡ unary_step s d (map-Unary Expr Step Call Chain Index Link Path Unary (Verdict Checked) Stepping (Verdict CheckedCall) (Verdict Checked) Stepping Linking (Verdict Checked) (Verdict Checked) (checked s d) (checked_step s d) (checked_call s d) (checked_chain s d) checked_index (checked_link s d) (checked_path s d) checked_unary x)
  unary_verdict x = fold-roll-Unary (Verdict Checked) Stepping (Verdict CheckedCall) (Verdict Checked) Stepping Linking (Verdict Checked) (Verdict Checked) (expr_step s d) (step_step s d) (call_step s d) (chain_step s d) (index_step s d) (link_step s d) (path_step s d) (unary_step s d) x
