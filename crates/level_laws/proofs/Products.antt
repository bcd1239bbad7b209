-- Two folds at once: what they make together is what each makes.
use Rattle.std.proofs.Common.{◌≡◌, List, [], ◌∷◌, map, Some, None, ap, ◌∙◌, refl}
use Rattle.ctl_types.specs.declared.expression.TypedExpr.{TypedExpr}
use Rattle.ctl_types.specs.declared.expression.Operand.{Operand}
use Rattle.ctl_types.specs.declared.expression.TypedCall.{TypedCall}
use Rattle.ctl_types.specs.declared.expression.TypedPlace.{TypedPlace}
use Rattle.ctl_types.specs.declared.expression.Argument.TheOpen as form
use Rattle.ctl_types.specs.declared.expression.Argument.TheOpen.{Argument-F, TypedExpr-F, TypedStep-F, Operand-F, TypedCall-F, TypedLink-F, TypedPlace-F}
use Rattle.ctl_types.specs.declared.expression.Argument.TheFolds.{map-Argument, map-TypedExpr, map-TypedStep, map-Operand, map-TypedCall, map-TypedLink, map-TypedPlace}
use Rattle.ctl_types.specs.declared.statement.Initialiser.{Initialiser}
use Rattle.ctl_types.specs.declared.statement.Initialiser.TheOpen as initial
use Rattle.ctl_types.specs.declared.statement.Initialiser.TheOpen.{Initialiser-F}
use Rattle.ctl_types.specs.declared.statement.Initialiser.TheFolds.{fold-Initialiser, map-Initialiser}
use Rattle.ctl_types.specs.declared.statement.TypedStatement.{TypedStatement}
use Rattle.ctl_types.specs.declared.statement.TypedStatement.TheOpen.{TypedStatement-F, Arm-F, Empty, Block, Declare, Assign, Call, If, While, For, Return, Print}
use Rattle.ctl_types.specs.declared.statement.TypedStatement.TheFolds.{fold-TypedStatement, map-TypedStatement, map-Arm}
use Rattle.ctl_types.specs.Folds.{ExprFold, expr_fold, operand_fold, call_fold, place_fold}
use Rattle.ctl_types.specs.Pairs.{Pair, KeepsExprs, expr_pair, operand_pair, call_pair, place_pair, initialiser_pair, statement_pair}

-- what one fold makes is told by what the other makes
abbrev pub Told : {A B : Type 0} → (A → B) → A → B → Type 0
Told h x y = h x ≡ y

told_each : {A B : Type 0} (h : A → B) (ps : List (Pair (Told h))) → map h (map (λ (p : Pair (Told h)). p.0) ps) ≡ map (λ (p : Pair (Told h)). p.1) ps
told_each h [] = refl
told_each h (p ∷ ps) = ap (λ x. x ∷ map h (map (λ (p : Pair (Told h)). p.0) ps)) p.2 ∙ ap (λ xs. p.1 ∷ xs) (told_each h ps)

module _ {XA XE XS XO XC XL XP YA YE YS YO YC YL YP : Type 0} (k : ExprFold XA XE XS XO XC XL XP) (f : ExprFold YA YE YS YO YC YL YP) (hA : XA → YA) (hE : XE → YE) (hS : XS → YS) (hO : XO → YO) (hC : XC → YC) (hL : XL → YL) (hP : XP → YP) where
  -- the steps of the first tell those of the second
  pub record Tells : Type 0 where
    pub argument : (y : Argument-F XA XE XS XO XC XL XP) → hA (k.argument y) ≡ f.argument (map-Argument XA XE XS XO XC XL XP YA YE YS YO YC YL YP hA hE hS hO hC hL hP y)
    pub expr : (y : TypedExpr-F XA XE XS XO XC XL XP) → hE (k.expr y) ≡ f.expr (map-TypedExpr XA XE XS XO XC XL XP YA YE YS YO YC YL YP hA hE hS hO hC hL hP y)
    pub step : (y : TypedStep-F XA XE XS XO XC XL XP) → hS (k.step y) ≡ f.step (map-TypedStep XA XE XS XO XC XL XP YA YE YS YO YC YL YP hA hE hS hO hC hL hP y)
    pub operand : (y : Operand-F XA XE XS XO XC XL XP) → hO (k.operand y) ≡ f.operand (map-Operand XA XE XS XO XC XL XP YA YE YS YO YC YL YP hA hE hS hO hC hL hP y)
    pub call : (y : TypedCall-F XA XE XS XO XC XL XP) → hC (k.call y) ≡ f.call (map-TypedCall XA XE XS XO XC XL XP YA YE YS YO YC YL YP hA hE hS hO hC hL hP y)
    pub link : (y : TypedLink-F XA XE XS XO XC XL XP) → hL (k.link y) ≡ f.link (map-TypedLink XA XE XS XO XC XL XP YA YE YS YO YC YL YP hA hE hS hO hC hL hP y)
    pub place : (y : TypedPlace-F XA XE XS XO XC XL XP) → hP (k.place y) ≡ f.place (map-TypedPlace XA XE XS XO XC XL XP YA YE YS YO YC YL YP hA hE hS hO hC hL hP y)

  abbrev RA : XA → YA → Type 0
  RA = Told hA

  abbrev RE : XE → YE → Type 0
  RE = Told hE

  abbrev RS : XS → YS → Type 0
  RS = Told hS

  abbrev RO : XO → YO → Type 0
  RO = Told hO

  abbrev RC : XC → YC → Type 0
  RC = Told hC

  abbrev RL : XL → YL → Type 0
  RL = Told hL

  abbrev RP : XP → YP → Type 0
  RP = Told hP

  argument_layer : (y : Argument-F (Pair RA) (Pair RE) (Pair RS) (Pair RO) (Pair RC) (Pair RL) (Pair RP)) → map-Argument XA XE XS XO XC XL XP YA YE YS YO YC YL YP hA hE hS hO hC hL hP (map-Argument (Pair RA) (Pair RE) (Pair RS) (Pair RO) (Pair RC) (Pair RL) (Pair RP) XA XE XS XO XC XL XP (λ e. e.0) (λ e. e.0) (λ e. e.0) (λ e. e.0) (λ e. e.0) (λ e. e.0) (λ e. e.0) y) ≡ map-Argument (Pair RA) (Pair RE) (Pair RS) (Pair RO) (Pair RC) (Pair RL) (Pair RP) YA YE YS YO YC YL YP (λ e. e.1) (λ e. e.1) (λ e. e.1) (λ e. e.1) (λ e. e.1) (λ e. e.1) (λ e. e.1) y
  argument_layer (form.Input o node) = ap (λ o. form.Input o node) o.2
  argument_layer (form.Output place c node) = ap (λ place. form.Output place c node) place.2
  argument_layer form.Missing = refl

  expr_layer : (y : TypedExpr-F (Pair RA) (Pair RE) (Pair RS) (Pair RO) (Pair RC) (Pair RL) (Pair RP)) → map-TypedExpr XA XE XS XO XC XL XP YA YE YS YO YC YL YP hA hE hS hO hC hL hP (map-TypedExpr (Pair RA) (Pair RE) (Pair RS) (Pair RO) (Pair RC) (Pair RL) (Pair RP) XA XE XS XO XC XL XP (λ e. e.0) (λ e. e.0) (λ e. e.0) (λ e. e.0) (λ e. e.0) (λ e. e.0) (λ e. e.0) y) ≡ map-TypedExpr (Pair RA) (Pair RE) (Pair RS) (Pair RO) (Pair RC) (Pair RL) (Pair RP) YA YE YS YO YC YL YP (λ e. e.1) (λ e. e.1) (λ e. e.1) (λ e. e.1) (λ e. e.1) (λ e. e.1) (λ e. e.1) y
  expr_layer (form.Literal x) = refl
  expr_layer (form.Constant n) = refl
  expr_layer (form.Variable x) = refl
  expr_layer (form.Unary op k o) = ap (λ o. form.Unary op k o) o.2
  expr_layer (form.Chain o links) = ap (λ o. form.Chain o (map hL (map (λ (p : Pair RL). p.0) links))) o.2 ∙ ap (λ links. form.Chain o.1 links) (told_each hL links)
  expr_layer (form.Logic l os) = ap (λ os. form.Logic l os) (told_each hO os)
  expr_layer (form.Path e steps) = ap (λ e. form.Path e (map hS (map (λ (p : Pair RS). p.0) steps))) e.2 ∙ ap (λ steps. form.Path e.1 steps) (told_each hS steps)
  expr_layer (form.Size e size) = ap (λ e. form.Size e size) e.2
  expr_layer (form.Call c) = ap (λ c. form.Call c) c.2

  step_layer : (y : TypedStep-F (Pair RA) (Pair RE) (Pair RS) (Pair RO) (Pair RC) (Pair RL) (Pair RP)) → map-TypedStep XA XE XS XO XC XL XP YA YE YS YO YC YL YP hA hE hS hO hC hL hP (map-TypedStep (Pair RA) (Pair RE) (Pair RS) (Pair RO) (Pair RC) (Pair RL) (Pair RP) XA XE XS XO XC XL XP (λ e. e.0) (λ e. e.0) (λ e. e.0) (λ e. e.0) (λ e. e.0) (λ e. e.0) (λ e. e.0) y) ≡ map-TypedStep (Pair RA) (Pair RE) (Pair RS) (Pair RO) (Pair RC) (Pair RL) (Pair RP) YA YE YS YO YC YL YP (λ e. e.1) (λ e. e.1) (λ e. e.1) (λ e. e.1) (λ e. e.1) (λ e. e.1) (λ e. e.1) y
  step_layer (form.Index e node) = ap (λ e. form.Index e node) e.2
  step_layer (form.Field n) = refl

  operand_layer : (y : Operand-F (Pair RA) (Pair RE) (Pair RS) (Pair RO) (Pair RC) (Pair RL) (Pair RP)) → map-Operand XA XE XS XO XC XL XP YA YE YS YO YC YL YP hA hE hS hO hC hL hP (map-Operand (Pair RA) (Pair RE) (Pair RS) (Pair RO) (Pair RC) (Pair RL) (Pair RP) XA XE XS XO XC XL XP (λ e. e.0) (λ e. e.0) (λ e. e.0) (λ e. e.0) (λ e. e.0) (λ e. e.0) (λ e. e.0) y) ≡ map-Operand (Pair RA) (Pair RE) (Pair RS) (Pair RO) (Pair RC) (Pair RL) (Pair RP) YA YE YS YO YC YL YP (λ e. e.1) (λ e. e.1) (λ e. e.1) (λ e. e.1) (λ e. e.1) (λ e. e.1) (λ e. e.1) y
  operand_layer y = ap (λ v. record { value = v; conversion = y.conversion }) y.value.2

  call_layer : (y : TypedCall-F (Pair RA) (Pair RE) (Pair RS) (Pair RO) (Pair RC) (Pair RL) (Pair RP)) → map-TypedCall XA XE XS XO XC XL XP YA YE YS YO YC YL YP hA hE hS hO hC hL hP (map-TypedCall (Pair RA) (Pair RE) (Pair RS) (Pair RO) (Pair RC) (Pair RL) (Pair RP) XA XE XS XO XC XL XP (λ e. e.0) (λ e. e.0) (λ e. e.0) (λ e. e.0) (λ e. e.0) (λ e. e.0) (λ e. e.0) y) ≡ map-TypedCall (Pair RA) (Pair RE) (Pair RS) (Pair RO) (Pair RC) (Pair RL) (Pair RP) YA YE YS YO YC YL YP (λ e. e.1) (λ e. e.1) (λ e. e.1) (λ e. e.1) (λ e. e.1) (λ e. e.1) (λ e. e.1) y
  call_layer y = ap (λ arguments. record { callee = y.callee; sizes = y.sizes; arguments = arguments; node = y.node }) (told_each hA y.arguments)

  link_layer : (y : TypedLink-F (Pair RA) (Pair RE) (Pair RS) (Pair RO) (Pair RC) (Pair RL) (Pair RP)) → map-TypedLink XA XE XS XO XC XL XP YA YE YS YO YC YL YP hA hE hS hO hC hL hP (map-TypedLink (Pair RA) (Pair RE) (Pair RS) (Pair RO) (Pair RC) (Pair RL) (Pair RP) XA XE XS XO XC XL XP (λ e. e.0) (λ e. e.0) (λ e. e.0) (λ e. e.0) (λ e. e.0) (λ e. e.0) (λ e. e.0) y) ≡ map-TypedLink (Pair RA) (Pair RE) (Pair RS) (Pair RO) (Pair RC) (Pair RL) (Pair RP) YA YE YS YO YC YL YP (λ e. e.1) (λ e. e.1) (λ e. e.1) (λ e. e.1) (λ e. e.1) (λ e. e.1) (λ e. e.1) y
  link_layer y = ap (λ v. record { left = y.left; operator = y.operator; kind = y.kind; right = v }) y.right.2

  place_layer : (y : TypedPlace-F (Pair RA) (Pair RE) (Pair RS) (Pair RO) (Pair RC) (Pair RL) (Pair RP)) → map-TypedPlace XA XE XS XO XC XL XP YA YE YS YO YC YL YP hA hE hS hO hC hL hP (map-TypedPlace (Pair RA) (Pair RE) (Pair RS) (Pair RO) (Pair RC) (Pair RL) (Pair RP) XA XE XS XO XC XL XP (λ e. e.0) (λ e. e.0) (λ e. e.0) (λ e. e.0) (λ e. e.0) (λ e. e.0) (λ e. e.0) y) ≡ map-TypedPlace (Pair RA) (Pair RE) (Pair RS) (Pair RO) (Pair RC) (Pair RL) (Pair RP) YA YE YS YO YC YL YP (λ e. e.1) (λ e. e.1) (λ e. e.1) (λ e. e.1) (λ e. e.1) (λ e. e.1) (λ e. e.1) y
  place_layer y = ap (λ steps. record { variable = y.variable; steps = steps }) (told_each hS y.steps)

  told : Tells → KeepsExprs RA RE RS RO RC RL RP k f
  told m = record {
    argument = λ y. m.argument (map-Argument (Pair RA) (Pair RE) (Pair RS) (Pair RO) (Pair RC) (Pair RL) (Pair RP) XA XE XS XO XC XL XP (λ e. e.0) (λ e. e.0) (λ e. e.0) (λ e. e.0) (λ e. e.0) (λ e. e.0) (λ e. e.0) y) ∙ ap f.argument (argument_layer y);
    expr = λ y. m.expr (map-TypedExpr (Pair RA) (Pair RE) (Pair RS) (Pair RO) (Pair RC) (Pair RL) (Pair RP) XA XE XS XO XC XL XP (λ e. e.0) (λ e. e.0) (λ e. e.0) (λ e. e.0) (λ e. e.0) (λ e. e.0) (λ e. e.0) y) ∙ ap f.expr (expr_layer y);
    step = λ y. m.step (map-TypedStep (Pair RA) (Pair RE) (Pair RS) (Pair RO) (Pair RC) (Pair RL) (Pair RP) XA XE XS XO XC XL XP (λ e. e.0) (λ e. e.0) (λ e. e.0) (λ e. e.0) (λ e. e.0) (λ e. e.0) (λ e. e.0) y) ∙ ap f.step (step_layer y);
    operand = λ y. m.operand (map-Operand (Pair RA) (Pair RE) (Pair RS) (Pair RO) (Pair RC) (Pair RL) (Pair RP) XA XE XS XO XC XL XP (λ e. e.0) (λ e. e.0) (λ e. e.0) (λ e. e.0) (λ e. e.0) (λ e. e.0) (λ e. e.0) y) ∙ ap f.operand (operand_layer y);
    call = λ y. m.call (map-TypedCall (Pair RA) (Pair RE) (Pair RS) (Pair RO) (Pair RC) (Pair RL) (Pair RP) XA XE XS XO XC XL XP (λ e. e.0) (λ e. e.0) (λ e. e.0) (λ e. e.0) (λ e. e.0) (λ e. e.0) (λ e. e.0) y) ∙ ap f.call (call_layer y);
    link = λ y. m.link (map-TypedLink (Pair RA) (Pair RE) (Pair RS) (Pair RO) (Pair RC) (Pair RL) (Pair RP) XA XE XS XO XC XL XP (λ e. e.0) (λ e. e.0) (λ e. e.0) (λ e. e.0) (λ e. e.0) (λ e. e.0) (λ e. e.0) y) ∙ ap f.link (link_layer y);
    place = λ y. m.place (map-TypedPlace (Pair RA) (Pair RE) (Pair RS) (Pair RO) (Pair RC) (Pair RL) (Pair RP) XA XE XS XO XC XL XP (λ e. e.0) (λ e. e.0) (λ e. e.0) (λ e. e.0) (λ e. e.0) (λ e. e.0) (λ e. e.0) y) ∙ ap f.place (place_layer y);
  }

  pub expr_told : Tells → (e : TypedExpr) → hE (expr_fold k e) ≡ expr_fold f e
  expr_told m e = expr_pair RA RE RS RO RC RL RP k f (told m) e

  pub operand_told : Tells → (e : Operand) → hO (operand_fold k e) ≡ operand_fold f e
  operand_told m e = operand_pair RA RE RS RO RC RL RP k f (told m) e

  pub call_told : Tells → (e : TypedCall) → hC (call_fold k e) ≡ call_fold f e
  call_told m e = call_pair RA RE RS RO RC RL RP k f (told m) e

  pub place_told : Tells → (e : TypedPlace) → hP (place_fold k e) ≡ place_fold f e
  place_told m e = place_pair RA RE RS RO RC RL RP k f (told m) e

module _ {AA AE AS AO AC AL AP BA BE BS BO BC BL BP : Type 0} (f : ExprFold AA AE AS AO AC AL AP) (g : ExprFold BA BE BS BO BC BL BP) where
  -- both at once
  abbrev pub both_folds : ExprFold (AA × BA) (AE × BE) (AS × BS) (AO × BO) (AC × BC) (AL × BL) (AP × BP)
  both_folds = record {
    argument = λ y. (f.argument (map-Argument (AA × BA) (AE × BE) (AS × BS) (AO × BO) (AC × BC) (AL × BL) (AP × BP) AA AE AS AO AC AL AP (λ e. e.0) (λ e. e.0) (λ e. e.0) (λ e. e.0) (λ e. e.0) (λ e. e.0) (λ e. e.0) y), g.argument (map-Argument (AA × BA) (AE × BE) (AS × BS) (AO × BO) (AC × BC) (AL × BL) (AP × BP) BA BE BS BO BC BL BP (λ e. e.1) (λ e. e.1) (λ e. e.1) (λ e. e.1) (λ e. e.1) (λ e. e.1) (λ e. e.1) y));
    expr = λ y. (f.expr (map-TypedExpr (AA × BA) (AE × BE) (AS × BS) (AO × BO) (AC × BC) (AL × BL) (AP × BP) AA AE AS AO AC AL AP (λ e. e.0) (λ e. e.0) (λ e. e.0) (λ e. e.0) (λ e. e.0) (λ e. e.0) (λ e. e.0) y), g.expr (map-TypedExpr (AA × BA) (AE × BE) (AS × BS) (AO × BO) (AC × BC) (AL × BL) (AP × BP) BA BE BS BO BC BL BP (λ e. e.1) (λ e. e.1) (λ e. e.1) (λ e. e.1) (λ e. e.1) (λ e. e.1) (λ e. e.1) y));
    step = λ y. (f.step (map-TypedStep (AA × BA) (AE × BE) (AS × BS) (AO × BO) (AC × BC) (AL × BL) (AP × BP) AA AE AS AO AC AL AP (λ e. e.0) (λ e. e.0) (λ e. e.0) (λ e. e.0) (λ e. e.0) (λ e. e.0) (λ e. e.0) y), g.step (map-TypedStep (AA × BA) (AE × BE) (AS × BS) (AO × BO) (AC × BC) (AL × BL) (AP × BP) BA BE BS BO BC BL BP (λ e. e.1) (λ e. e.1) (λ e. e.1) (λ e. e.1) (λ e. e.1) (λ e. e.1) (λ e. e.1) y));
    operand = λ y. (f.operand (map-Operand (AA × BA) (AE × BE) (AS × BS) (AO × BO) (AC × BC) (AL × BL) (AP × BP) AA AE AS AO AC AL AP (λ e. e.0) (λ e. e.0) (λ e. e.0) (λ e. e.0) (λ e. e.0) (λ e. e.0) (λ e. e.0) y), g.operand (map-Operand (AA × BA) (AE × BE) (AS × BS) (AO × BO) (AC × BC) (AL × BL) (AP × BP) BA BE BS BO BC BL BP (λ e. e.1) (λ e. e.1) (λ e. e.1) (λ e. e.1) (λ e. e.1) (λ e. e.1) (λ e. e.1) y));
    call = λ y. (f.call (map-TypedCall (AA × BA) (AE × BE) (AS × BS) (AO × BO) (AC × BC) (AL × BL) (AP × BP) AA AE AS AO AC AL AP (λ e. e.0) (λ e. e.0) (λ e. e.0) (λ e. e.0) (λ e. e.0) (λ e. e.0) (λ e. e.0) y), g.call (map-TypedCall (AA × BA) (AE × BE) (AS × BS) (AO × BO) (AC × BC) (AL × BL) (AP × BP) BA BE BS BO BC BL BP (λ e. e.1) (λ e. e.1) (λ e. e.1) (λ e. e.1) (λ e. e.1) (λ e. e.1) (λ e. e.1) y));
    link = λ y. (f.link (map-TypedLink (AA × BA) (AE × BE) (AS × BS) (AO × BO) (AC × BC) (AL × BL) (AP × BP) AA AE AS AO AC AL AP (λ e. e.0) (λ e. e.0) (λ e. e.0) (λ e. e.0) (λ e. e.0) (λ e. e.0) (λ e. e.0) y), g.link (map-TypedLink (AA × BA) (AE × BE) (AS × BS) (AO × BO) (AC × BC) (AL × BL) (AP × BP) BA BE BS BO BC BL BP (λ e. e.1) (λ e. e.1) (λ e. e.1) (λ e. e.1) (λ e. e.1) (λ e. e.1) (λ e. e.1) y));
    place = λ y. (f.place (map-TypedPlace (AA × BA) (AE × BE) (AS × BS) (AO × BO) (AC × BC) (AL × BL) (AP × BP) AA AE AS AO AC AL AP (λ e. e.0) (λ e. e.0) (λ e. e.0) (λ e. e.0) (λ e. e.0) (λ e. e.0) (λ e. e.0) y), g.place (map-TypedPlace (AA × BA) (AE × BE) (AS × BS) (AO × BO) (AC × BC) (AL × BL) (AP × BP) BA BE BS BO BC BL BP (λ e. e.1) (λ e. e.1) (λ e. e.1) (λ e. e.1) (λ e. e.1) (λ e. e.1) (λ e. e.1) y));
  }

  first_tells : Tells both_folds f (λ (e : AA × BA). e.0) (λ (e : AE × BE). e.0) (λ (e : AS × BS). e.0) (λ (e : AO × BO). e.0) (λ (e : AC × BC). e.0) (λ (e : AL × BL). e.0) (λ (e : AP × BP). e.0)
  first_tells = record { argument = λ y. refl; expr = λ y. refl; step = λ y. refl; operand = λ y. refl; call = λ y. refl; link = λ y. refl; place = λ y. refl }

  pub expr_first : (e : TypedExpr) → (expr_fold both_folds e).0 ≡ expr_fold f e
  expr_first = expr_told both_folds f (λ (e : AA × BA). e.0) (λ (e : AE × BE). e.0) (λ (e : AS × BS). e.0) (λ (e : AO × BO). e.0) (λ (e : AC × BC). e.0) (λ (e : AL × BL). e.0) (λ (e : AP × BP). e.0) first_tells

  pub operand_first : (e : Operand) → (operand_fold both_folds e).0 ≡ operand_fold f e
  operand_first = operand_told both_folds f (λ (e : AA × BA). e.0) (λ (e : AE × BE). e.0) (λ (e : AS × BS). e.0) (λ (e : AO × BO). e.0) (λ (e : AC × BC). e.0) (λ (e : AL × BL). e.0) (λ (e : AP × BP). e.0) first_tells

  pub call_first : (e : TypedCall) → (call_fold both_folds e).0 ≡ call_fold f e
  call_first = call_told both_folds f (λ (e : AA × BA). e.0) (λ (e : AE × BE). e.0) (λ (e : AS × BS). e.0) (λ (e : AO × BO). e.0) (λ (e : AC × BC). e.0) (λ (e : AL × BL). e.0) (λ (e : AP × BP). e.0) first_tells

  pub place_first : (e : TypedPlace) → (place_fold both_folds e).0 ≡ place_fold f e
  place_first = place_told both_folds f (λ (e : AA × BA). e.0) (λ (e : AE × BE). e.0) (λ (e : AS × BS). e.0) (λ (e : AO × BO). e.0) (λ (e : AC × BC). e.0) (λ (e : AL × BL). e.0) (λ (e : AP × BP). e.0) first_tells

  second_tells : Tells both_folds g (λ (e : AA × BA). e.1) (λ (e : AE × BE). e.1) (λ (e : AS × BS). e.1) (λ (e : AO × BO). e.1) (λ (e : AC × BC). e.1) (λ (e : AL × BL). e.1) (λ (e : AP × BP). e.1)
  second_tells = record { argument = λ y. refl; expr = λ y. refl; step = λ y. refl; operand = λ y. refl; call = λ y. refl; link = λ y. refl; place = λ y. refl }

  pub expr_second : (e : TypedExpr) → (expr_fold both_folds e).1 ≡ expr_fold g e
  expr_second = expr_told both_folds g (λ (e : AA × BA). e.1) (λ (e : AE × BE). e.1) (λ (e : AS × BS). e.1) (λ (e : AO × BO). e.1) (λ (e : AC × BC). e.1) (λ (e : AL × BL). e.1) (λ (e : AP × BP). e.1) second_tells

  pub operand_second : (e : Operand) → (operand_fold both_folds e).1 ≡ operand_fold g e
  operand_second = operand_told both_folds g (λ (e : AA × BA). e.1) (λ (e : AE × BE). e.1) (λ (e : AS × BS). e.1) (λ (e : AO × BO). e.1) (λ (e : AC × BC). e.1) (λ (e : AL × BL). e.1) (λ (e : AP × BP). e.1) second_tells

  pub call_second : (e : TypedCall) → (call_fold both_folds e).1 ≡ call_fold g e
  call_second = call_told both_folds g (λ (e : AA × BA). e.1) (λ (e : AE × BE). e.1) (λ (e : AS × BS). e.1) (λ (e : AO × BO). e.1) (λ (e : AC × BC). e.1) (λ (e : AL × BL). e.1) (λ (e : AP × BP). e.1) second_tells

  pub place_second : (e : TypedPlace) → (place_fold both_folds e).1 ≡ place_fold g e
  place_second = place_told both_folds g (λ (e : AA × BA). e.1) (λ (e : AE × BE). e.1) (λ (e : AS × BS). e.1) (λ (e : AO × BO). e.1) (λ (e : AC × BC). e.1) (λ (e : AL × BL). e.1) (λ (e : AP × BP). e.1) second_tells

-- ---- initialisers and statements

initialiser_layer : {X Y : Type 0} (h : X → Y) (y : Initialiser-F (Pair (Told h))) → map-Initialiser X Y h (map-Initialiser (Pair (Told h)) X (λ e. e.0) y) ≡ map-Initialiser (Pair (Told h)) Y (λ e. e.1) y
initialiser_layer h (initial.Value o) = refl
initialiser_layer h (initial.Elements shape is) = ap (λ k. initial.Elements shape k) (told_each h is)
initialiser_layer h (initial.Fields n is) = ap (λ k. initial.Fields n k) (told_each h is)

initialiser_told : {X Y : Type 0} (h : X → Y) (s : Initialiser-F X → X) (t : Initialiser-F Y → Y) → ((y : Initialiser-F X) → h (s y) ≡ t (map-Initialiser X Y h y)) → (e : Initialiser) → h (fold-Initialiser X s e) ≡ fold-Initialiser Y t e
initialiser_told {X} {Y} h s t m e = initialiser_pair (Told h) s t (λ y. m (map-Initialiser (Pair (Told h)) X (λ e. e.0) y) ∙ ap t (initialiser_layer h y)) e

module _ {A B : Type 0} (s : Initialiser-F A → A) (t : Initialiser-F B → B) where
  abbrev pub both_initialisers : Initialiser-F (A × B) → A × B
  both_initialisers y = (s (map-Initialiser (A × B) A (λ e. e.0) y), t (map-Initialiser (A × B) B (λ e. e.1) y))

  pub initialiser_first : (e : Initialiser) → (fold-Initialiser (A × B) both_initialisers e).0 ≡ fold-Initialiser A s e
  initialiser_first = initialiser_told (λ (e : A × B). e.0) both_initialisers s (λ y. refl)

  pub initialiser_second : (e : Initialiser) → (fold-Initialiser (A × B) both_initialisers e).1 ≡ fold-Initialiser B t e
  initialiser_second = initialiser_told (λ (e : A × B). e.1) both_initialisers t (λ y. refl)

module _ {X X2 Y Y2 : Type 0} (h : X → Y) (h2 : X2 → Y2) where
  abbrev R : X → Y → Type 0
  R = Told h

  abbrev R2 : X2 → Y2 → Type 0
  R2 = Told h2

  statement_layer : (y : TypedStatement-F (Pair R) (Pair R2)) → map-TypedStatement X X2 Y Y2 h h2 (map-TypedStatement (Pair R) (Pair R2) X X2 (λ e. e.0) (λ e. e.0) y) ≡ map-TypedStatement (Pair R) (Pair R2) Y Y2 (λ e. e.1) (λ e. e.1) y
  statement_layer Empty = refl
  statement_layer (Block all) = ap (λ k. Block k) (told_each h all)
  statement_layer (Declare d) = refl
  statement_layer (Assign d) = refl
  statement_layer (Call c) = refl
  statement_layer (If arms None) = ap (λ k. If k None) (told_each h2 arms)
  statement_layer (If arms (Some b)) = ap (λ k. If k (Some (h b.0))) (told_each h2 arms) ∙ ap (λ b. If (map (λ (p : Pair R2). p.1) arms) (Some b)) b.2
  statement_layer (While test body node) = ap (λ b. While test b node) body.2
  statement_layer (For first test next body node) = ap (λ b. For first test next b node) body.2
  statement_layer (Return o) = refl
  statement_layer (Print items) = refl

  arm_layer : (y : Arm-F (Pair R) (Pair R2)) → map-Arm X X2 Y Y2 h h2 (map-Arm (Pair R) (Pair R2) X X2 (λ e. e.0) (λ e. e.0) y) ≡ map-Arm (Pair R) (Pair R2) Y Y2 (λ e. e.1) (λ e. e.1) y
  arm_layer y = ap (λ b. record { test = y.test; body = b }) y.body.2

  statement_told : (s : TypedStatement-F X X2 → X) (s2 : Arm-F X X2 → X2) (t : TypedStatement-F Y Y2 → Y) (t2 : Arm-F Y Y2 → Y2) → ((y : TypedStatement-F X X2) → h (s y) ≡ t (map-TypedStatement X X2 Y Y2 h h2 y)) → ((y : Arm-F X X2) → h2 (s2 y) ≡ t2 (map-Arm X X2 Y Y2 h h2 y)) → (e : TypedStatement) → h (fold-TypedStatement X X2 s s2 e) ≡ fold-TypedStatement Y Y2 t t2 e
  statement_told s s2 t t2 m m2 e = statement_pair R R2 s s2 t t2 (λ y. m (map-TypedStatement (Pair R) (Pair R2) X X2 (λ e. e.0) (λ e. e.0) y) ∙ ap t (statement_layer y)) (λ y. m2 (map-Arm (Pair R) (Pair R2) X X2 (λ e. e.0) (λ e. e.0) y) ∙ ap t2 (arm_layer y)) e

module _ {A A2 B B2 : Type 0} (s : TypedStatement-F A A2 → A) (s2 : Arm-F A A2 → A2) (t : TypedStatement-F B B2 → B) (t2 : Arm-F B B2 → B2) where
  abbrev pub both_statements : TypedStatement-F (A × B) (A2 × B2) → A × B
  both_statements y = (s (map-TypedStatement (A × B) (A2 × B2) A A2 (λ e. e.0) (λ e. e.0) y), t (map-TypedStatement (A × B) (A2 × B2) B B2 (λ e. e.1) (λ e. e.1) y))

  abbrev pub both_arms : Arm-F (A × B) (A2 × B2) → A2 × B2
  both_arms y = (s2 (map-Arm (A × B) (A2 × B2) A A2 (λ e. e.0) (λ e. e.0) y), t2 (map-Arm (A × B) (A2 × B2) B B2 (λ e. e.1) (λ e. e.1) y))

  pub statement_first : (e : TypedStatement) → (fold-TypedStatement (A × B) (A2 × B2) both_statements both_arms e).0 ≡ fold-TypedStatement A A2 s s2 e
  statement_first = statement_told (λ (e : A × B). e.0) (λ (e : A2 × B2). e.0) both_statements both_arms s s2 (λ y. refl) (λ y. refl)

  pub statement_second : (e : TypedStatement) → (fold-TypedStatement (A × B) (A2 × B2) both_statements both_arms e).1 ≡ fold-TypedStatement B B2 t t2 e
  statement_second = statement_told (λ (e : A × B). e.1) (λ (e : A2 × B2). e.1) both_statements both_arms t t2 (λ y. refl) (λ y. refl)
