-- Folds over expressions. One record says what is made of each form from what is made of its parts.
use Rattle.std.specs.Prelude.{ℕ, List}
use Rattle.ctl_tree.specs.declared.expression.QualifiedName.{QualifiedName}
use Rattle.ctl_tree.specs.declared.expression.Literal.{Literal}
use Rattle.ctl_tree.specs.declared.expression.FieldAccess.{FieldAccess}
use Rattle.ctl_tree.specs.declared.expression.UnaryOperator.{UnaryOperator}
use Rattle.ctl_tree.specs.declared.expression.Operator.{Operator}
use Rattle.ctl_tree.specs.declared.expression.Expr.{Expr}
use Rattle.ctl_tree.specs.declared.expression.Expr.TheOpen.{Expr-F, Step-F, Call-F, Chain-F, Index-F, Link-F, Path-F, Unary-F, Literal as LiteralForm, Name as NameForm, Call as CallForm, Path as PathForm, Unary as UnaryForm, Chain as ChainForm, Index as IndexForm, Field as FieldForm}
use Rattle.ctl_tree.specs.declared.expression.Expr.TheFolds.{fold-Expr, fold-Step, fold-Call, fold-Link}
use Rattle.ctl_tree.specs.declared.expression.Step.{Step}
use Rattle.ctl_tree.specs.declared.expression.Call.{Call}
use Rattle.ctl_tree.specs.declared.expression.Link.{Link}

-- an E is made of an expression and of a call, an S of a step, an L of a link. The number is the own token
pub record ExprFold (E S L : Type 0) : Type 0 where
  pub literal : Literal → E
  pub name : QualifiedName → E
  pub call : QualifiedName → List E → ℕ → E
  pub path : E → List S → E
  pub unary : UnaryOperator → E → ℕ → E
  pub chain : E → List L → ℕ → E
  pub index : E → ℕ → S
  pub field : FieldAccess → S
  pub link : Operator → E → ℕ → L

abbrev pub of_expr : {E S L : Type 0} → ExprFold E S L → Expr-F E S E E S L E E → E
of_expr f (LiteralForm literal) = f.literal literal
of_expr f (NameForm name) = f.name name
of_expr f (CallForm call) = call
of_expr f (PathForm path) = path
of_expr f (UnaryForm unary) = unary
of_expr f (ChainForm chain) = chain

abbrev pub of_step : {E S L : Type 0} → ExprFold E S L → Step-F E S E E S L E E → S
of_step f (IndexForm index) = index
of_step f (FieldForm field) = f.field field

abbrev pub of_call : {E S L : Type 0} → ExprFold E S L → Call-F E S E E S L E E → E
of_call f call = f.call call.name call.arguments call.token

abbrev pub of_chain : {E S L : Type 0} → ExprFold E S L → Chain-F E S E E S L E E → E
of_chain f chain = f.chain chain.first chain.links chain.token

abbrev pub of_index : {E S L : Type 0} → ExprFold E S L → Index-F E S E E S L E E → S
of_index f index = f.index index.index index.token

abbrev pub of_link : {E S L : Type 0} → ExprFold E S L → Link-F E S E E S L E E → L
of_link f link = f.link link.operator link.operand link.token

abbrev pub of_path : {E S L : Type 0} → ExprFold E S L → Path-F E S E E S L E E → E
of_path f path = f.path path.root path.steps

abbrev pub of_unary : {E S L : Type 0} → ExprFold E S L → Unary-F E S E E S L E E → E
of_unary f unary = f.unary unary.operator unary.operand unary.token

abbrev pub expr_fold : {E S L : Type 0} → ExprFold E S L → Expr → E
expr_fold {E = E} {S = S} {L = L} f = fold-Expr E S E E S L E E (of_expr f) (of_step f) (of_call f) (of_chain f) (of_index f) (of_link f) (of_path f) (of_unary f)

abbrev pub step_fold : {E S L : Type 0} → ExprFold E S L → Step → S
step_fold {E = E} {S = S} {L = L} f = fold-Step E S E E S L E E (of_expr f) (of_step f) (of_call f) (of_chain f) (of_index f) (of_link f) (of_path f) (of_unary f)

abbrev pub call_fold : {E S L : Type 0} → ExprFold E S L → Call → E
call_fold {E = E} {S = S} {L = L} f = fold-Call E S E E S L E E (of_expr f) (of_step f) (of_call f) (of_chain f) (of_index f) (of_link f) (of_path f) (of_unary f)

abbrev pub link_fold : {E S L : Type 0} → ExprFold E S L → Link → L
link_fold {E = E} {S = S} {L = L} f = fold-Link E S E E S L E E (of_expr f) (of_step f) (of_call f) (of_chain f) (of_index f) (of_link f) (of_path f) (of_unary f)
