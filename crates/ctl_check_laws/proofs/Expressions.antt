-- Expressions, by induction over what is written.
use Rattle.std.proofs.Common.{◌≡◌, ℕ, ◌<◌, ℤ, true, List, [], ◌∷◌, ◌++◌, map, Result, Ok, Err, refl, sym, ap, subst, ◌∙◌, All}
use Rattle.std.proofs.lemmas.List.Elements.{All-head, All-tail}
use Rattle.std.specs.List.{concat}
use Rattle.ctl_tree.specs.declared.expression.LiteralValue.{LiteralValue}
use Rattle.ctl_tree.specs.declared.expression.Expr.{Expr, roll-Expr}
use Rattle.ctl_tree.specs.declared.expression.Step.{Step, roll-Step}
use Rattle.ctl_tree.specs.declared.expression.Call.{Call, roll-Call}
use Rattle.ctl_tree.specs.declared.expression.Chain.{Chain, roll-Chain}
use Rattle.ctl_tree.specs.declared.expression.Index.{Index, roll-Index}
use Rattle.ctl_tree.specs.declared.expression.Link.{Link, roll-Link}
use Rattle.ctl_tree.specs.declared.expression.Path.{Path, roll-Path}
use Rattle.ctl_tree.specs.declared.expression.Unary.{Unary, roll-Unary}
use Rattle.ctl_tree.specs.declared.expression.Expr.TheOpen.{Expr-F, Step-F, Call-F, Chain-F, Index-F, Link-F, Path-F, Unary-F, Literal as LiteralForm, Name as NameForm, Call as CallForm, Path as PathForm, Unary as UnaryForm, Chain as ChainForm, Index as IndexForm, Field as FieldForm}
use Rattle.ctl_tree.specs.declared.expression.Expr.TheFolds.{ind-Expr, ind-Step, ind-Call, map-Expr, map-Step, map-Call, map-Chain, map-Index, map-Link, map-Path, map-Unary}
use Rattle.ctl_tree.specs.declared.statement.Place.{Place}
use Rattle.ctl_tree.specs.OwnTokens.{Tokens, Below, all_tokens, expr_tokens, step_tokens, call_tokens, link_tokens, place_tokens}
use Rattle.ctl_types.specs.Definitions.{Defined}
use Rattle.ctl_types.specs.Typing.{Variables}
use Rattle.ctl_scope.specs.Scope.{ScopeForm, visible}
use Rattle.ctl_scope.specs.Beside.{scene}
use Rattle.ctl_check_rules.specs.declared.checked.Checked.{Checked}
use Rattle.ctl_check_rules.specs.Faults.{◌>>=◌, rule_at}
use Rattle.ctl_check_rules.specs.Operators.{unary_rule, chained}
use Rattle.ctl_check_expr.specs.declared.checked.CheckedCall.{CheckedCall}
use Rattle.ctl_check_expr.specs.Places.{name_checked, stepped_path}
use Rattle.ctl_check_expr.specs.Calls.{call_checked}
use Rattle.ctl_check_expr.specs.Checking.{checked, checked_path, checked_chain, checked_step, checked_call, checked_link}
use Rattle.ctl_check_expr.specs.Written.{place_checked}
use Rattle.ctl_check_laws.specs.WellTyped.{tokens_around}
use Rattle.ctl_check_laws.proofs.Basics.{all_left, all_right, Good, good_then, good_at, EachGood}
use Rattle.ctl_check_laws.proofs.Kept.{Kept}
use Rattle.ctl_check_laws.proofs.Operators.{InRange, literal_kept, unary_good, LinksGood, chained_good}
use Rattle.ctl_check_laws.proofs.Around.{Around}
use Rattle.ctl_check_laws.proofs.Places.{name_good, StepGood, StepsGood, path_good}
use Rattle.ctl_check_laws.proofs.Calls.{KeptCall, call_of_good, expression_kept}
use Rattle.ctl_check_laws.proofs.Written as written
use Rattle.ctl_check_laws.proofs.Written.{chain_tokens, index_tokens, path_tokens, unary_tokens, checked_index, checked_unary}

module _ (s : ScopeForm) (d : Defined) (vs : Variables) (g : Around s d vs) (ranges : (value : LiteralValue) → InRange value) where
  abbrev K : Checked → Type 0
  K = Kept (scene s d) vs (tokens_around s d)

  abbrev KC : CheckedCall → Type 0
  KC = KeptCall (scene s d) vs (tokens_around s d)

  -- tokens of the module, and those of parts
  along_below : {a b : Tokens} → a ≡ b → Below (tokens_around s d) a → Below (tokens_around s d) b
  along_below e w = subst (Below (tokens_around s d)) e w

  first_below : (token : ℕ) (a : Tokens) → Below (tokens_around s d) (token ∷ a) → token < tokens_around s d
  first_below token a w = All-head (λ token. token < tokens_around s d) token a w

  rest_below : (token : ℕ) (a : Tokens) → Below (tokens_around s d) (token ∷ a) → Below (tokens_around s d) a
  rest_below token a w = All-tail (λ token. token < tokens_around s d) token a w

  left_below : (a b : Tokens) → Below (tokens_around s d) (a ++ b) → Below (tokens_around s d) a
  left_below a b w = all_left (λ token. token < tokens_around s d) a b w

  right_below : (a b : Tokens) → Below (tokens_around s d) (a ++ b) → Below (tokens_around s d) b
  right_below a b w = all_right (λ token. token < tokens_around s d) a b w

  -- what is written with such tokens is accepted well, form by form
  abbrev ExprGood : Expr → Type 0
  ExprGood e = Below (tokens_around s d) (expr_tokens e) → Good K (checked s d e)

  abbrev StepGoodOf : Step → Type 0
  StepGoodOf e = Below (tokens_around s d) (step_tokens e) → StepGood s d vs g (checked_step s d e)

  abbrev CallGood : Call → Type 0
  CallGood e = Below (tokens_around s d) (call_tokens e) → Good KC (checked_call s d e)

  abbrev ChainGood : Chain → Type 0
  ChainGood e = Below (tokens_around s d) (chain_tokens e) → Good K (checked_chain s d e)

  abbrev IndexGood : Index → Type 0
  IndexGood e = Below (tokens_around s d) (index_tokens e) → StepGood s d vs g (checked_index s d e)

  abbrev LinkGood : Link → Type 0
  LinkGood e = Below (tokens_around s d) (link_tokens e) → Good K (checked_link s d e).operand

  abbrev PathGood : Path → Type 0
  PathGood e = Below (tokens_around s d) (path_tokens e) → Good K (checked_path s d e)

  abbrev UnaryGood : Unary → Type 0
  UnaryGood e = Below (tokens_around s d) (unary_tokens e) → Good K (checked_unary s d e)

  abbrev SuchExpr : Type 0
  SuchExpr = (e : Expr) × ExprGood e

  abbrev SuchStep : Type 0
  SuchStep = (e : Step) × StepGoodOf e

  abbrev SuchCall : Type 0
  SuchCall = (e : Call) × CallGood e

  abbrev SuchChain : Type 0
  SuchChain = (e : Chain) × ChainGood e

  abbrev SuchIndex : Type 0
  SuchIndex = (e : Index) × IndexGood e

  abbrev SuchLink : Type 0
  SuchLink = (e : Link) × LinkGood e

  abbrev SuchPath : Type 0
  SuchPath = (e : Path) × PathGood e

  abbrev SuchUnary : Type 0
  SuchUnary = (e : Unary) × UnaryGood e

  -- lists of parts
  arguments_good : (es : List SuchExpr) → Below (tokens_around s d) (concat (map expr_tokens (map (λ e. e.0) es))) → EachGood K (map (checked s d) (map (λ e. e.0) es))
  arguments_good [] w = tt
  arguments_good (e ∷ es) w =
      let rest = concat (map expr_tokens (map (λ e. e.0) es)) in
      (e.1 (left_below (expr_tokens e.0) rest w), arguments_good es (right_below (expr_tokens e.0) rest w))

  steps_good : (es : List SuchStep) → Below (tokens_around s d) (concat (map step_tokens (map (λ e. e.0) es))) → StepsGood s d vs g (map (checked_step s d) (map (λ e. e.0) es))
  steps_good [] w = tt
  steps_good (e ∷ es) w =
      let rest = concat (map step_tokens (map (λ e. e.0) es)) in
      (e.1 (left_below (step_tokens e.0) rest w), steps_good es (right_below (step_tokens e.0) rest w))

  links_good : (es : List SuchLink) → Below (tokens_around s d) (concat (map link_tokens (map (λ e. e.0) es))) → LinksGood (scene s d) vs (tokens_around s d) g.roomy (map (checked_link s d) (map (λ e. e.0) es))
  links_good [] w = tt
  links_good (e ∷ es) w =
      let rest = concat (map link_tokens (map (λ e. e.0) es)) in
      (e.1 (left_below (link_tokens e.0) rest w), links_good es (right_below (link_tokens e.0) rest w))

  -- the forms whose parts are good
  abbrev expr_of : Expr-F SuchExpr SuchStep SuchCall SuchChain SuchIndex SuchLink SuchPath SuchUnary → Expr-F Expr Step Call Chain Index Link Path Unary
  expr_of = map-Expr SuchExpr SuchStep SuchCall SuchChain SuchIndex SuchLink SuchPath SuchUnary Expr Step Call Chain Index Link Path Unary (λ e. e.0) (λ e. e.0) (λ e. e.0) (λ e. e.0) (λ e. e.0) (λ e. e.0) (λ e. e.0) (λ e. e.0)

  abbrev step_of : Step-F SuchExpr SuchStep SuchCall SuchChain SuchIndex SuchLink SuchPath SuchUnary → Step-F Expr Step Call Chain Index Link Path Unary
  step_of = map-Step SuchExpr SuchStep SuchCall SuchChain SuchIndex SuchLink SuchPath SuchUnary Expr Step Call Chain Index Link Path Unary (λ e. e.0) (λ e. e.0) (λ e. e.0) (λ e. e.0) (λ e. e.0) (λ e. e.0) (λ e. e.0) (λ e. e.0)

  abbrev call_of : Call-F SuchExpr SuchStep SuchCall SuchChain SuchIndex SuchLink SuchPath SuchUnary → Call-F Expr Step Call Chain Index Link Path Unary
  call_of = map-Call SuchExpr SuchStep SuchCall SuchChain SuchIndex SuchLink SuchPath SuchUnary Expr Step Call Chain Index Link Path Unary (λ e. e.0) (λ e. e.0) (λ e. e.0) (λ e. e.0) (λ e. e.0) (λ e. e.0) (λ e. e.0) (λ e. e.0)

  abbrev chain_of : Chain-F SuchExpr SuchStep SuchCall SuchChain SuchIndex SuchLink SuchPath SuchUnary → Chain-F Expr Step Call Chain Index Link Path Unary
  chain_of = map-Chain SuchExpr SuchStep SuchCall SuchChain SuchIndex SuchLink SuchPath SuchUnary Expr Step Call Chain Index Link Path Unary (λ e. e.0) (λ e. e.0) (λ e. e.0) (λ e. e.0) (λ e. e.0) (λ e. e.0) (λ e. e.0) (λ e. e.0)

  abbrev index_of : Index-F SuchExpr SuchStep SuchCall SuchChain SuchIndex SuchLink SuchPath SuchUnary → Index-F Expr Step Call Chain Index Link Path Unary
  index_of = map-Index SuchExpr SuchStep SuchCall SuchChain SuchIndex SuchLink SuchPath SuchUnary Expr Step Call Chain Index Link Path Unary (λ e. e.0) (λ e. e.0) (λ e. e.0) (λ e. e.0) (λ e. e.0) (λ e. e.0) (λ e. e.0) (λ e. e.0)

  abbrev link_of : Link-F SuchExpr SuchStep SuchCall SuchChain SuchIndex SuchLink SuchPath SuchUnary → Link-F Expr Step Call Chain Index Link Path Unary
  link_of = map-Link SuchExpr SuchStep SuchCall SuchChain SuchIndex SuchLink SuchPath SuchUnary Expr Step Call Chain Index Link Path Unary (λ e. e.0) (λ e. e.0) (λ e. e.0) (λ e. e.0) (λ e. e.0) (λ e. e.0) (λ e. e.0) (λ e. e.0)

  abbrev path_of : Path-F SuchExpr SuchStep SuchCall SuchChain SuchIndex SuchLink SuchPath SuchUnary → Path-F Expr Step Call Chain Index Link Path Unary
  path_of = map-Path SuchExpr SuchStep SuchCall SuchChain SuchIndex SuchLink SuchPath SuchUnary Expr Step Call Chain Index Link Path Unary (λ e. e.0) (λ e. e.0) (λ e. e.0) (λ e. e.0) (λ e. e.0) (λ e. e.0) (λ e. e.0) (λ e. e.0)

  abbrev unary_of : Unary-F SuchExpr SuchStep SuchCall SuchChain SuchIndex SuchLink SuchPath SuchUnary → Unary-F Expr Step Call Chain Index Link Path Unary
  unary_of = map-Unary SuchExpr SuchStep SuchCall SuchChain SuchIndex SuchLink SuchPath SuchUnary Expr Step Call Chain Index Link Path Unary (λ e. e.0) (λ e. e.0) (λ e. e.0) (λ e. e.0) (λ e. e.0) (λ e. e.0) (λ e. e.0) (λ e. e.0)

  expr_case : (y : Expr-F SuchExpr SuchStep SuchCall SuchChain SuchIndex SuchLink SuchPath SuchUnary) → ExprGood (roll-Expr (expr_of y))
  expr_case (LiteralForm literal) w =
      let x = expr_of (LiteralForm literal) in
      let v = along_below (written.expr_own x) w in
      subst (Good K) (sym (written.expr_verdict s d x)) (literal_kept (scene s d) vs (tokens_around s d) g.roomy literal.value literal.token (ranges literal.value) (first_below literal.token [] v))
  expr_case (NameForm name) w =
      let x = expr_of (NameForm name) in
      let v = along_below (written.expr_own x) w in
      subst (Good K) (sym (written.expr_verdict s d x)) (name_good s d vs g name (first_below name.token [] v))
  expr_case (CallForm call) w =
      let x = expr_of (CallForm call) in
      let v = along_below (written.expr_own x) w in
      subst (Good K) (sym (written.expr_verdict s d x)) (good_then KC K (checked_call s d call.0) (λ c. Ok (call_checked c)) (call.1 v) (λ c h. expression_kept s d vs g c h))
  expr_case (PathForm path) w =
      let x = expr_of (PathForm path) in
      subst (Good K) (sym (written.expr_verdict s d x)) (path.1 (along_below (written.expr_own x) w))
  expr_case (UnaryForm unary) w =
      let x = expr_of (UnaryForm unary) in
      subst (Good K) (sym (written.expr_verdict s d x)) (unary.1 (along_below (written.expr_own x) w))
  expr_case (ChainForm chain) w =
      let x = expr_of (ChainForm chain) in
      subst (Good K) (sym (written.expr_verdict s d x)) (chain.1 (along_below (written.expr_own x) w))

  step_case : (y : Step-F SuchExpr SuchStep SuchCall SuchChain SuchIndex SuchLink SuchPath SuchUnary) → StepGoodOf (roll-Step (step_of y))
  step_case (IndexForm index) w =
      let x = step_of (IndexForm index) in
      subst (StepGood s d vs g) (sym (written.step_verdict s d x)) (index.1 (along_below (written.step_own x) w))
  step_case (FieldForm field) w =
      let x = step_of (FieldForm field) in
      let v = along_below (written.step_own x) w in
      subst (StepGood s d vs g) (sym (written.step_verdict s d x)) (first_below field.token [] v)

  call_case : (y : Call-F SuchExpr SuchStep SuchCall SuchChain SuchIndex SuchLink SuchPath SuchUnary) → CallGood (roll-Call (call_of y))
  call_case y w =
      let x = call_of y in
      let v = along_below (written.call_own x) w in
      let tokens = concat (map expr_tokens (map (λ (e : SuchExpr). e.0) y.arguments)) in
      let b = rest_below y.name.token tokens (rest_below y.token (y.name.token ∷ tokens) v) in
      subst (Good KC) (sym (written.call_verdict s d x)) (call_of_good s d vs g y.name (map (checked s d) (map (λ e. e.0) y.arguments)) y.token (arguments_good y.arguments b) (first_below y.token (y.name.token ∷ tokens) v))

  chain_case : (y : Chain-F SuchExpr SuchStep SuchCall SuchChain SuchIndex SuchLink SuchPath SuchUnary) → ChainGood (roll-Chain (chain_of y))
  chain_case y w =
      let x = chain_of y in
      let v = along_below (written.chain_own x) w in
      let tokens = concat (map link_tokens (map (λ (e : SuchLink). e.0) y.links)) in
      let a = rest_below y.token (expr_tokens y.first.0 ++ tokens) v in
      let links = map (checked_link s d) (map (λ (e : SuchLink). e.0) y.links) in
      subst (Good K) (sym (written.chain_verdict s d x)) (good_then K K (checked s d y.first.0) (λ first. chained s.unit first links y.token) (y.first.1 (left_below (expr_tokens y.first.0) tokens a)) (λ first h. chained_good (scene s d) vs (tokens_around s d) g.roomy s.unit first links y.token h (links_good y.links (right_below (expr_tokens y.first.0) tokens a)) (first_below y.token (expr_tokens y.first.0 ++ tokens) v)))

  index_case : (y : Index-F SuchExpr SuchStep SuchCall SuchChain SuchIndex SuchLink SuchPath SuchUnary) → IndexGood (roll-Index (index_of y))
  index_case y w =
      let x = index_of y in
      let v = along_below (written.index_own x) w in
      let a = rest_below y.token (expr_tokens y.index.0) v in
      subst (StepGood s d vs g) (sym (written.index_verdict s d x)) (y.index.1 a, first_below y.token (expr_tokens y.index.0) v)

  link_case : (y : Link-F SuchExpr SuchStep SuchCall SuchChain SuchIndex SuchLink SuchPath SuchUnary) → LinkGood (roll-Link (link_of y))
  link_case y w =
      let x = link_of y in
      let v = along_below (written.link_own x) w in
      let a = rest_below y.token (expr_tokens y.operand.0) v in
      subst (λ l. Good K l.operand) (sym (written.link_verdict s d x)) (y.operand.1 a)

  path_case : (y : Path-F SuchExpr SuchStep SuchCall SuchChain SuchIndex SuchLink SuchPath SuchUnary) → PathGood (roll-Path (path_of y))
  path_case y w =
      let x = path_of y in
      let v = along_below (written.path_own x) w in
      let tokens = concat (map step_tokens (map (λ (e : SuchStep). e.0) y.steps)) in
      let steps = map (checked_step s d) (map (λ (e : SuchStep). e.0) y.steps) in
      subst (Good K) (sym (written.path_verdict s d x)) (good_then K K (checked s d y.root.0) (λ root. stepped_path s.unit d steps root) (y.root.1 (left_below (expr_tokens y.root.0) tokens v)) (λ root h. path_good s d vs g steps root (steps_good y.steps (right_below (expr_tokens y.root.0) tokens v)) h))

  unary_case : (y : Unary-F SuchExpr SuchStep SuchCall SuchChain SuchIndex SuchLink SuchPath SuchUnary) → UnaryGood (roll-Unary (unary_of y))
  unary_case y w =
      let x = unary_of y in
      let v = along_below (written.unary_own x) w in
      let a = rest_below y.token (expr_tokens y.operand.0) v in
      subst (Good K) (sym (written.unary_verdict s d x)) (good_then K K (checked s d y.operand.0) (λ c. rule_at s.unit y.token (unary_rule y.operator y.token c)) (y.operand.1 a) (λ c h. good_at K s.unit y.token (unary_rule y.operator y.token c) (unary_good (scene s d) vs (tokens_around s d) g.roomy y.operator y.token c h (first_below y.token (expr_tokens y.operand.0) v))))

  pub expr_good : (e : Expr) → ExprGood e
  expr_good = ind-Expr ExprGood StepGoodOf CallGood ChainGood IndexGood LinkGood PathGood UnaryGood (λ x y is. subst (λ x. ExprGood (roll-Expr x)) is (expr_case y)) (λ x y is. subst (λ x. StepGoodOf (roll-Step x)) is (step_case y)) (λ x y is. subst (λ x. CallGood (roll-Call x)) is (call_case y)) (λ x y is. subst (λ x. ChainGood (roll-Chain x)) is (chain_case y)) (λ x y is. subst (λ x. IndexGood (roll-Index x)) is (index_case y)) (λ x y is. subst (λ x. LinkGood (roll-Link x)) is (link_case y)) (λ x y is. subst (λ x. PathGood (roll-Path x)) is (path_case y)) (λ x y is. subst (λ x. UnaryGood (roll-Unary x)) is (unary_case y))

  pub call_good : (e : Call) → CallGood e
  call_good = ind-Call ExprGood StepGoodOf CallGood ChainGood IndexGood LinkGood PathGood UnaryGood (λ x y is. subst (λ x. ExprGood (roll-Expr x)) is (expr_case y)) (λ x y is. subst (λ x. StepGoodOf (roll-Step x)) is (step_case y)) (λ x y is. subst (λ x. CallGood (roll-Call x)) is (call_case y)) (λ x y is. subst (λ x. ChainGood (roll-Chain x)) is (chain_case y)) (λ x y is. subst (λ x. IndexGood (roll-Index x)) is (index_case y)) (λ x y is. subst (λ x. LinkGood (roll-Link x)) is (link_case y)) (λ x y is. subst (λ x. PathGood (roll-Path x)) is (path_case y)) (λ x y is. subst (λ x. UnaryGood (roll-Unary x)) is (unary_case y))

  one_good : (e : Step) → StepGoodOf e
  one_good = ind-Step ExprGood StepGoodOf CallGood ChainGood IndexGood LinkGood PathGood UnaryGood (λ x y is. subst (λ x. ExprGood (roll-Expr x)) is (expr_case y)) (λ x y is. subst (λ x. StepGoodOf (roll-Step x)) is (step_case y)) (λ x y is. subst (λ x. CallGood (roll-Call x)) is (call_case y)) (λ x y is. subst (λ x. ChainGood (roll-Chain x)) is (chain_case y)) (λ x y is. subst (λ x. IndexGood (roll-Index x)) is (index_case y)) (λ x y is. subst (λ x. LinkGood (roll-Link x)) is (link_case y)) (λ x y is. subst (λ x. PathGood (roll-Path x)) is (path_case y)) (λ x y is. subst (λ x. UnaryGood (roll-Unary x)) is (unary_case y))

  written_good : (steps : List Step) → Below (tokens_around s d) (all_tokens step_tokens steps) → StepsGood s d vs g (map (checked_step s d) steps)
  written_good [] w = tt
  written_good (e ∷ steps) w = (one_good e (left_below (step_tokens e) (all_tokens step_tokens steps) w), written_good steps (right_below (step_tokens e) (all_tokens step_tokens steps) w))

  pub place_good : (p : Place) → Below (tokens_around s d) (place_tokens p) → Good K (place_checked s d p.root p.steps)
  place_good p w =
      let steps = map (checked_step s d) p.steps in
      let rest = all_tokens step_tokens p.steps in
      good_then K K (name_checked s d p.root) (λ root. stepped_path s.unit d steps root) (name_good s d vs g p.root (first_below p.root.token rest w)) (λ root h. path_good s d vs g steps root (written_good p.steps (rest_below p.root.token rest w)) h)
