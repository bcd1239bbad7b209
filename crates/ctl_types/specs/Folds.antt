-- Folds over the typed forms. One record says what is made of each form from what is made of its parts.
use Rattle.ctl_types.specs.declared.expression.Argument.{Argument}
use Rattle.ctl_types.specs.declared.expression.TypedExpr.{TypedExpr}
use Rattle.ctl_types.specs.declared.expression.TypedStep.{TypedStep}
use Rattle.ctl_types.specs.declared.expression.Operand.{Operand}
use Rattle.ctl_types.specs.declared.expression.TypedCall.{TypedCall}
use Rattle.ctl_types.specs.declared.expression.TypedLink.{TypedLink}
use Rattle.ctl_types.specs.declared.expression.TypedPlace.{TypedPlace}
use Rattle.ctl_types.specs.declared.expression.Argument.TheOpen.{Argument-F, TypedExpr-F, TypedStep-F, Operand-F, TypedCall-F, TypedLink-F, TypedPlace-F}
use Rattle.ctl_types.specs.declared.expression.Argument.TheFolds.{fold-Argument, fold-TypedExpr, fold-TypedStep, fold-Operand, fold-TypedCall, fold-TypedLink, fold-TypedPlace}

-- an A is made of an argument, an E of an expression, an S of a step, an O of an operand, a C of a call, an L of a
-- link, a P of a place
pub record ExprFold (A E S O C L P : Type 0) : Type 0 where
  pub argument : Argument-F A E S O C L P → A
  pub expr : TypedExpr-F A E S O C L P → E
  pub step : TypedStep-F A E S O C L P → S
  pub operand : Operand-F A E S O C L P → O
  pub call : TypedCall-F A E S O C L P → C
  pub link : TypedLink-F A E S O C L P → L
  pub place : TypedPlace-F A E S O C L P → P

module _ {A E S O C L P : Type 0} (f : ExprFold A E S O C L P) where
  abbrev pub argument_fold : Argument → A
  argument_fold = fold-Argument A E S O C L P f.argument f.expr f.step f.operand f.call f.link f.place

  abbrev pub expr_fold : TypedExpr → E
  expr_fold = fold-TypedExpr A E S O C L P f.argument f.expr f.step f.operand f.call f.link f.place

  abbrev pub step_fold : TypedStep → S
  step_fold = fold-TypedStep A E S O C L P f.argument f.expr f.step f.operand f.call f.link f.place

  abbrev pub operand_fold : Operand → O
  operand_fold = fold-Operand A E S O C L P f.argument f.expr f.step f.operand f.call f.link f.place

  abbrev pub call_fold : TypedCall → C
  call_fold = fold-TypedCall A E S O C L P f.argument f.expr f.step f.operand f.call f.link f.place

  abbrev pub link_fold : TypedLink → L
  link_fold = fold-TypedLink A E S O C L P f.argument f.expr f.step f.operand f.call f.link f.place

  abbrev pub place_fold : TypedPlace → P
  place_fold = fold-TypedPlace A E S O C L P f.argument f.expr f.step f.operand f.call f.link f.place
