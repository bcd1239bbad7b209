-- Two folds of one tree: a relation between what they make holds of every tree where their steps keep it on layers
-- whose children stand in it. With one fold taken twice this is induction. These are means for proofs about the typed forms
-- here and in the crates above; no contract cites them.
use Rattle.std.specs.Prelude.{◌≡◌, List, [], ◌∷◌, map, Some, None, refl}
use Rattle.std.proofs.Common.{ap, sym, ◌∙◌, subst}
use Rattle.ctl_types.specs.declared.value.Value.{Value}
use Rattle.ctl_types.specs.declared.value.Value.TheOpen as value_layer
use Rattle.ctl_types.specs.declared.value.Value.TheOpen.{Value-F}
use Rattle.ctl_types.specs.declared.value.Value.TheFolds.{fold-Value, fold-roll-Value, ind-Value, map-Value}
use Rattle.ctl_types.specs.declared.statement.Initialiser.{Initialiser}
use Rattle.ctl_types.specs.declared.statement.Initialiser.TheOpen as initial
use Rattle.ctl_types.specs.declared.statement.Initialiser.TheOpen.{Initialiser-F}
use Rattle.ctl_types.specs.declared.statement.Initialiser.TheFolds.{fold-Initialiser, fold-roll-Initialiser, ind-Initialiser, map-Initialiser}
use Rattle.ctl_types.specs.declared.statement.TypedStatement.{TypedStatement}
use Rattle.ctl_types.specs.declared.statement.Arm.{Arm}
use Rattle.ctl_types.specs.declared.statement.TypedStatement.TheOpen.{TypedStatement-F, Arm-F, Empty, Block, Declare, Assign, Call, If, While, For, Return, Print}
use Rattle.ctl_types.specs.declared.statement.TypedStatement.TheFolds.{fold-TypedStatement, fold-Arm, fold-roll-TypedStatement, fold-roll-Arm, ind-TypedStatement, map-TypedStatement, map-Arm}
use Rattle.ctl_types.specs.declared.expression.Argument.{Argument}
use Rattle.ctl_types.specs.declared.expression.TypedExpr.{TypedExpr}
use Rattle.ctl_types.specs.declared.expression.TypedStep.{TypedStep}
use Rattle.ctl_types.specs.declared.expression.Operand.{Operand}
use Rattle.ctl_types.specs.declared.expression.TypedCall.{TypedCall}
use Rattle.ctl_types.specs.declared.expression.TypedLink.{TypedLink}
use Rattle.ctl_types.specs.declared.expression.TypedPlace.{TypedPlace}
use Rattle.ctl_types.specs.declared.expression.Argument.TheOpen as form
use Rattle.ctl_types.specs.declared.expression.Argument.TheOpen.{Argument-F, TypedExpr-F, TypedStep-F, Operand-F, TypedCall-F, TypedLink-F, TypedPlace-F}
use Rattle.ctl_types.specs.declared.expression.Argument.TheFolds.{fold-roll-Argument, ind-Argument, map-Argument, fold-roll-TypedExpr, ind-TypedExpr, map-TypedExpr, fold-roll-TypedStep, ind-TypedStep, map-TypedStep, fold-roll-Operand, ind-Operand, map-Operand, fold-roll-TypedCall, ind-TypedCall, map-TypedCall, fold-roll-TypedLink, ind-TypedLink, map-TypedLink, fold-roll-TypedPlace, ind-TypedPlace, map-TypedPlace}
use Rattle.ctl_types.specs.Folds.{ExprFold, argument_fold, expr_fold, step_fold, operand_fold, call_fold, link_fold, place_fold}

-- what two folds make of one child, which stands in the relation
abbrev pub Pair : {A B : Type 0} → (A → B → Type 0) → Type 0
Pair {A} {B} R = (a : A) × (b : B) × R a b

each : {X Y Z : Type 0} (f : X → Y) (g : Y → Z) (es : List X) → map g (map f es) ≡ map (λ e. g (f e)) es
each f g [] = refl
each f g (e ∷ es) = ap (λ k. g (f e) ∷ k) (each f g es)

-- a relation along two equations
along : {A B : Type 0} (R : A → B → Type 0) {a a' : A} {b b' : B} → a ≡ a' → b ≡ b' → R a b → R a' b'
along R {a} {a'} {b} {b'} p q h = subst (λ z. R z b') p (subst (λ w. R a w) q h)

-- ---- values

twice_Value : {X Y Z : Type 0} (f : X → Y) (g : Y → Z) (y : Value-F X) → map-Value Y Z g (map-Value X Y f y) ≡ map-Value X Z (λ e. g (f e)) y
twice_Value f g (value_layer.One s) = refl
twice_Value f g (value_layer.List vs) = ap (λ k. value_layer.List k) (each f g vs)
twice_Value f g (value_layer.Fields vs) = ap (λ k. value_layer.Fields k) (each f g vs)

-- the steps keep the relation
abbrev pub KeepsValue : {A B : Type 0} (R : A → B → Type 0) (s : Value-F A → A) (t : Value-F B → B) → Type 0
KeepsValue {A} {B} R s t = (y : Value-F (Pair R)) → R (s (map-Value (Pair R) A (λ e. e.0) y)) (t (map-Value (Pair R) B (λ e. e.1) y))

pub value_pair : {A B : Type 0} (R : A → B → Type 0) (s : Value-F A → A) (t : Value-F B → B) → KeepsValue R s t → (e : Value) → R (fold-Value A s e) (fold-Value B t e)
value_pair {A} {B} R s t k = ind-Value (λ e. R (fold-Value A s e) (fold-Value B t e)) (λ x y is.
    let f : Value → A = fold-Value A s in
    let g : Value → B = fold-Value B t in
    let Such : Type 0 = (e : Value) × R (f e) (g e) in
    let up : Such → Pair R = λ e. (f e.0, g e.0, e.1) in
    let a : map-Value (Pair R) A (λ e. e.0) (map-Value Such (Pair R) up y) ≡ map-Value Value A f x = twice_Value up (λ e. e.0) y ∙ sym (twice_Value (λ (e : Such). e.0) f y) ∙ ap (map-Value Value A f) is in
    let b : map-Value (Pair R) B (λ e. e.1) (map-Value Such (Pair R) up y) ≡ map-Value Value B g x = twice_Value up (λ e. e.1) y ∙ sym (twice_Value (λ (e : Such). e.0) g y) ∙ ap (map-Value Value B g) is in
    along R (ap s a ∙ sym (fold-roll-Value A s x)) (ap t b ∙ sym (fold-roll-Value B t x)) (k (map-Value Such (Pair R) up y)))

-- ---- initialisers

twice_Initialiser : {X Y Z : Type 0} (f : X → Y) (g : Y → Z) (y : Initialiser-F X) → map-Initialiser Y Z g (map-Initialiser X Y f y) ≡ map-Initialiser X Z (λ e. g (f e)) y
twice_Initialiser f g (initial.Value o) = refl
twice_Initialiser f g (initial.Elements shape is) = ap (λ k. initial.Elements shape k) (each f g is)
twice_Initialiser f g (initial.Fields n is) = ap (λ k. initial.Fields n k) (each f g is)

-- the steps keep the relation
abbrev pub KeepsInitialiser : {A B : Type 0} (R : A → B → Type 0) (s : Initialiser-F A → A) (t : Initialiser-F B → B) → Type 0
KeepsInitialiser {A} {B} R s t = (y : Initialiser-F (Pair R)) → R (s (map-Initialiser (Pair R) A (λ e. e.0) y)) (t (map-Initialiser (Pair R) B (λ e. e.1) y))

pub initialiser_pair : {A B : Type 0} (R : A → B → Type 0) (s : Initialiser-F A → A) (t : Initialiser-F B → B) → KeepsInitialiser R s t → (e : Initialiser) → R (fold-Initialiser A s e) (fold-Initialiser B t e)
initialiser_pair {A} {B} R s t k = ind-Initialiser (λ e. R (fold-Initialiser A s e) (fold-Initialiser B t e)) (λ x y is.
    let f : Initialiser → A = fold-Initialiser A s in
    let g : Initialiser → B = fold-Initialiser B t in
    let Such : Type 0 = (e : Initialiser) × R (f e) (g e) in
    let up : Such → Pair R = λ e. (f e.0, g e.0, e.1) in
    let a : map-Initialiser (Pair R) A (λ e. e.0) (map-Initialiser Such (Pair R) up y) ≡ map-Initialiser Initialiser A f x = twice_Initialiser up (λ e. e.0) y ∙ sym (twice_Initialiser (λ (e : Such). e.0) f y) ∙ ap (map-Initialiser Initialiser A f) is in
    let b : map-Initialiser (Pair R) B (λ e. e.1) (map-Initialiser Such (Pair R) up y) ≡ map-Initialiser Initialiser B g x = twice_Initialiser up (λ e. e.1) y ∙ sym (twice_Initialiser (λ (e : Such). e.0) g y) ∙ ap (map-Initialiser Initialiser B g) is in
    along R (ap s a ∙ sym (fold-roll-Initialiser A s x)) (ap t b ∙ sym (fold-roll-Initialiser B t x)) (k (map-Initialiser Such (Pair R) up y)))

-- ---- statements

twice_statement : {X X' Y Y' Z Z' : Type 0} (f : X → Y) (f' : X' → Y') (g : Y → Z) (g' : Y' → Z') (y : TypedStatement-F X X') → map-TypedStatement Y Y' Z Z' g g' (map-TypedStatement X X' Y Y' f f' y) ≡ map-TypedStatement X X' Z Z' (λ e. g (f e)) (λ e. g' (f' e)) y
twice_statement f f' g g' Empty = refl
twice_statement f f' g g' (Block all) = ap (λ k. Block k) (each f g all)
twice_statement f f' g g' (Declare d) = refl
twice_statement f f' g g' (Assign a) = refl
twice_statement f f' g g' (Call c) = refl
twice_statement f f' g g' (If arms None) = ap (λ k. If k None) (each f' g' arms)
twice_statement f f' g g' (If arms (Some b)) = ap (λ k. If k (Some (g (f b)))) (each f' g' arms)
twice_statement f f' g g' (While test body node) = refl
twice_statement f f' g g' (For first test next body node) = refl
twice_statement f f' g g' (Return o) = refl
twice_statement f f' g g' (Print items) = refl

twice_arm : {X X' Y Y' Z Z' : Type 0} (f : X → Y) (f' : X' → Y') (g : Y → Z) (g' : Y' → Z') (y : Arm-F X X') → map-Arm Y Y' Z Z' g g' (map-Arm X X' Y Y' f f' y) ≡ map-Arm X X' Z Z' (λ e. g (f e)) (λ e. g' (f' e)) y
twice_arm f f' g g' y = refl

module _ {A A' B B' : Type 0} (R : A → B → Type 0) (R' : A' → B' → Type 0) where
  -- the steps of statements and arms keep the relations
  abbrev pub KeepsStatement : (s : TypedStatement-F A A' → A) (t : TypedStatement-F B B' → B) → Type 0
  KeepsStatement s t = (y : TypedStatement-F (Pair R) (Pair R')) → R (s (map-TypedStatement (Pair R) (Pair R') A A' (λ e. e.0) (λ e. e.0) y)) (t (map-TypedStatement (Pair R) (Pair R') B B' (λ e. e.1) (λ e. e.1) y))

  abbrev pub KeepsArm : (s : Arm-F A A' → A') (t : Arm-F B B' → B') → Type 0
  KeepsArm s t = (y : Arm-F (Pair R) (Pair R')) → R' (s (map-Arm (Pair R) (Pair R') A A' (λ e. e.0) (λ e. e.0) y)) (t (map-Arm (Pair R) (Pair R') B B' (λ e. e.1) (λ e. e.1) y))

  pub statement_pair : (s : TypedStatement-F A A' → A) (s' : Arm-F A A' → A') (t : TypedStatement-F B B' → B) (t' : Arm-F B B' → B') → KeepsStatement s t → KeepsArm s' t' → (e : TypedStatement) → R (fold-TypedStatement A A' s s' e) (fold-TypedStatement B B' t t' e)
  statement_pair s s' t t' k k' =
      let f : TypedStatement → A = fold-TypedStatement A A' s s' in
      let f' : Arm → A' = fold-Arm A A' s s' in
      let g : TypedStatement → B = fold-TypedStatement B B' t t' in
      let g' : Arm → B' = fold-Arm B B' t t' in
      let Such : Type 0 = (e : TypedStatement) × R (f e) (g e) in
      let Such' : Type 0 = (e : Arm) × R' (f' e) (g' e) in
      let up : Such → Pair R = λ e. (f e.0, g e.0, e.1) in
      let up' : Such' → Pair R' = λ e. (f' e.0, g' e.0, e.1) in
      ind-TypedStatement (λ e. R (f e) (g e)) (λ e. R' (f' e) (g' e)) (λ x y is.
      let a : map-TypedStatement (Pair R) (Pair R') A A' (λ e. e.0) (λ e. e.0) (map-TypedStatement Such Such' (Pair R) (Pair R') up up' y) ≡ map-TypedStatement TypedStatement Arm A A' f f' x = twice_statement up up' (λ e. e.0) (λ e. e.0) y ∙ sym (twice_statement (λ (e : Such). e.0) (λ (e : Such'). e.0) f f' y) ∙ ap (map-TypedStatement TypedStatement Arm A A' f f') is in
      let b : map-TypedStatement (Pair R) (Pair R') B B' (λ e. e.1) (λ e. e.1) (map-TypedStatement Such Such' (Pair R) (Pair R') up up' y) ≡ map-TypedStatement TypedStatement Arm B B' g g' x = twice_statement up up' (λ e. e.1) (λ e. e.1) y ∙ sym (twice_statement (λ (e : Such). e.0) (λ (e : Such'). e.0) g g' y) ∙ ap (map-TypedStatement TypedStatement Arm B B' g g') is in
      along R (ap s a ∙ sym (fold-roll-TypedStatement A A' s s' x)) (ap t b ∙ sym (fold-roll-TypedStatement B B' t t' x)) (k (map-TypedStatement Such Such' (Pair R) (Pair R') up up' y))) (λ x y is.
      let a : map-Arm (Pair R) (Pair R') A A' (λ e. e.0) (λ e. e.0) (map-Arm Such Such' (Pair R) (Pair R') up up' y) ≡ map-Arm TypedStatement Arm A A' f f' x = twice_arm up up' (λ e. e.0) (λ e. e.0) y ∙ sym (twice_arm (λ (e : Such). e.0) (λ (e : Such'). e.0) f f' y) ∙ ap (map-Arm TypedStatement Arm A A' f f') is in
      let b : map-Arm (Pair R) (Pair R') B B' (λ e. e.1) (λ e. e.1) (map-Arm Such Such' (Pair R) (Pair R') up up' y) ≡ map-Arm TypedStatement Arm B B' g g' x = twice_arm up up' (λ e. e.1) (λ e. e.1) y ∙ sym (twice_arm (λ (e : Such). e.0) (λ (e : Such'). e.0) g g' y) ∙ ap (map-Arm TypedStatement Arm B B' g g') is in
      along R' (ap s' a ∙ sym (fold-roll-Arm A A' s s' x)) (ap t' b ∙ sym (fold-roll-Arm B B' t t' x)) (k' (map-Arm Such Such' (Pair R) (Pair R') up up' y)))

-- ---- expressions

twice_argument : {XA XE XS XO XC XL XP YA YE YS YO YC YL YP ZA ZE ZS ZO ZC ZL ZP : Type 0} (fA : XA → YA) (fE : XE → YE) (fS : XS → YS) (fO : XO → YO) (fC : XC → YC) (fL : XL → YL) (fP : XP → YP) (gA : YA → ZA) (gE : YE → ZE) (gS : YS → ZS) (gO : YO → ZO) (gC : YC → ZC) (gL : YL → ZL) (gP : YP → ZP) (y : Argument-F XA XE XS XO XC XL XP) → map-Argument YA YE YS YO YC YL YP ZA ZE ZS ZO ZC ZL ZP gA gE gS gO gC gL gP (map-Argument XA XE XS XO XC XL XP YA YE YS YO YC YL YP fA fE fS fO fC fL fP y) ≡ map-Argument XA XE XS XO XC XL XP ZA ZE ZS ZO ZC ZL ZP (λ e. gA (fA e)) (λ e. gE (fE e)) (λ e. gS (fS e)) (λ e. gO (fO e)) (λ e. gC (fC e)) (λ e. gL (fL e)) (λ e. gP (fP e)) y
twice_argument fA fE fS fO fC fL fP gA gE gS gO gC gL gP (form.Input o node) = refl
twice_argument fA fE fS fO fC fL fP gA gE gS gO gC gL gP (form.Output place c node) = refl
twice_argument fA fE fS fO fC fL fP gA gE gS gO gC gL gP form.Missing = refl

twice_expr : {XA XE XS XO XC XL XP YA YE YS YO YC YL YP ZA ZE ZS ZO ZC ZL ZP : Type 0} (fA : XA → YA) (fE : XE → YE) (fS : XS → YS) (fO : XO → YO) (fC : XC → YC) (fL : XL → YL) (fP : XP → YP) (gA : YA → ZA) (gE : YE → ZE) (gS : YS → ZS) (gO : YO → ZO) (gC : YC → ZC) (gL : YL → ZL) (gP : YP → ZP) (y : TypedExpr-F XA XE XS XO XC XL XP) → map-TypedExpr YA YE YS YO YC YL YP ZA ZE ZS ZO ZC ZL ZP gA gE gS gO gC gL gP (map-TypedExpr XA XE XS XO XC XL XP YA YE YS YO YC YL YP fA fE fS fO fC fL fP y) ≡ map-TypedExpr XA XE XS XO XC XL XP ZA ZE ZS ZO ZC ZL ZP (λ e. gA (fA e)) (λ e. gE (fE e)) (λ e. gS (fS e)) (λ e. gO (fO e)) (λ e. gC (fC e)) (λ e. gL (fL e)) (λ e. gP (fP e)) y
twice_expr fA fE fS fO fC fL fP gA gE gS gO gC gL gP (form.Literal x) = refl
twice_expr fA fE fS fO fC fL fP gA gE gS gO gC gL gP (form.Constant n) = refl
twice_expr fA fE fS fO fC fL fP gA gE gS gO gC gL gP (form.Variable x) = refl
twice_expr fA fE fS fO fC fL fP gA gE gS gO gC gL gP (form.Unary op k o) = refl
twice_expr fA fE fS fO fC fL fP gA gE gS gO gC gL gP (form.Chain o links) = ap (λ k. form.Chain (gO (fO o)) k) (each fL gL links)
twice_expr fA fE fS fO fC fL fP gA gE gS gO gC gL gP (form.Logic l os) = ap (λ k. form.Logic l k) (each fO gO os)
twice_expr fA fE fS fO fC fL fP gA gE gS gO gC gL gP (form.Path e steps) = ap (λ k. form.Path (gE (fE e)) k) (each fS gS steps)
twice_expr fA fE fS fO fC fL fP gA gE gS gO gC gL gP (form.Size e size) = refl
twice_expr fA fE fS fO fC fL fP gA gE gS gO gC gL gP (form.Call c) = refl

twice_step : {XA XE XS XO XC XL XP YA YE YS YO YC YL YP ZA ZE ZS ZO ZC ZL ZP : Type 0} (fA : XA → YA) (fE : XE → YE) (fS : XS → YS) (fO : XO → YO) (fC : XC → YC) (fL : XL → YL) (fP : XP → YP) (gA : YA → ZA) (gE : YE → ZE) (gS : YS → ZS) (gO : YO → ZO) (gC : YC → ZC) (gL : YL → ZL) (gP : YP → ZP) (y : TypedStep-F XA XE XS XO XC XL XP) → map-TypedStep YA YE YS YO YC YL YP ZA ZE ZS ZO ZC ZL ZP gA gE gS gO gC gL gP (map-TypedStep XA XE XS XO XC XL XP YA YE YS YO YC YL YP fA fE fS fO fC fL fP y) ≡ map-TypedStep XA XE XS XO XC XL XP ZA ZE ZS ZO ZC ZL ZP (λ e. gA (fA e)) (λ e. gE (fE e)) (λ e. gS (fS e)) (λ e. gO (fO e)) (λ e. gC (fC e)) (λ e. gL (fL e)) (λ e. gP (fP e)) y
twice_step fA fE fS fO fC fL fP gA gE gS gO gC gL gP (form.Index e node) = refl
twice_step fA fE fS fO fC fL fP gA gE gS gO gC gL gP (form.Field n) = refl

twice_operand : {XA XE XS XO XC XL XP YA YE YS YO YC YL YP ZA ZE ZS ZO ZC ZL ZP : Type 0} (fA : XA → YA) (fE : XE → YE) (fS : XS → YS) (fO : XO → YO) (fC : XC → YC) (fL : XL → YL) (fP : XP → YP) (gA : YA → ZA) (gE : YE → ZE) (gS : YS → ZS) (gO : YO → ZO) (gC : YC → ZC) (gL : YL → ZL) (gP : YP → ZP) (y : Operand-F XA XE XS XO XC XL XP) → map-Operand YA YE YS YO YC YL YP ZA ZE ZS ZO ZC ZL ZP gA gE gS gO gC gL gP (map-Operand XA XE XS XO XC XL XP YA YE YS YO YC YL YP fA fE fS fO fC fL fP y) ≡ map-Operand XA XE XS XO XC XL XP ZA ZE ZS ZO ZC ZL ZP (λ e. gA (fA e)) (λ e. gE (fE e)) (λ e. gS (fS e)) (λ e. gO (fO e)) (λ e. gC (fC e)) (λ e. gL (fL e)) (λ e. gP (fP e)) y
twice_operand fA fE fS fO fC fL fP gA gE gS gO gC gL gP y = refl

twice_call : {XA XE XS XO XC XL XP YA YE YS YO YC YL YP ZA ZE ZS ZO ZC ZL ZP : Type 0} (fA : XA → YA) (fE : XE → YE) (fS : XS → YS) (fO : XO → YO) (fC : XC → YC) (fL : XL → YL) (fP : XP → YP) (gA : YA → ZA) (gE : YE → ZE) (gS : YS → ZS) (gO : YO → ZO) (gC : YC → ZC) (gL : YL → ZL) (gP : YP → ZP) (y : TypedCall-F XA XE XS XO XC XL XP) → map-TypedCall YA YE YS YO YC YL YP ZA ZE ZS ZO ZC ZL ZP gA gE gS gO gC gL gP (map-TypedCall XA XE XS XO XC XL XP YA YE YS YO YC YL YP fA fE fS fO fC fL fP y) ≡ map-TypedCall XA XE XS XO XC XL XP ZA ZE ZS ZO ZC ZL ZP (λ e. gA (fA e)) (λ e. gE (fE e)) (λ e. gS (fS e)) (λ e. gO (fO e)) (λ e. gC (fC e)) (λ e. gL (fL e)) (λ e. gP (fP e)) y
twice_call fA fE fS fO fC fL fP gA gE gS gO gC gL gP y = ap (λ k. record { callee = y.callee; sizes = y.sizes; arguments = k; node = y.node }) (each fA gA y.arguments)

twice_link : {XA XE XS XO XC XL XP YA YE YS YO YC YL YP ZA ZE ZS ZO ZC ZL ZP : Type 0} (fA : XA → YA) (fE : XE → YE) (fS : XS → YS) (fO : XO → YO) (fC : XC → YC) (fL : XL → YL) (fP : XP → YP) (gA : YA → ZA) (gE : YE → ZE) (gS : YS → ZS) (gO : YO → ZO) (gC : YC → ZC) (gL : YL → ZL) (gP : YP → ZP) (y : TypedLink-F XA XE XS XO XC XL XP) → map-TypedLink YA YE YS YO YC YL YP ZA ZE ZS ZO ZC ZL ZP gA gE gS gO gC gL gP (map-TypedLink XA XE XS XO XC XL XP YA YE YS YO YC YL YP fA fE fS fO fC fL fP y) ≡ map-TypedLink XA XE XS XO XC XL XP ZA ZE ZS ZO ZC ZL ZP (λ e. gA (fA e)) (λ e. gE (fE e)) (λ e. gS (fS e)) (λ e. gO (fO e)) (λ e. gC (fC e)) (λ e. gL (fL e)) (λ e. gP (fP e)) y
twice_link fA fE fS fO fC fL fP gA gE gS gO gC gL gP y = refl

twice_place : {XA XE XS XO XC XL XP YA YE YS YO YC YL YP ZA ZE ZS ZO ZC ZL ZP : Type 0} (fA : XA → YA) (fE : XE → YE) (fS : XS → YS) (fO : XO → YO) (fC : XC → YC) (fL : XL → YL) (fP : XP → YP) (gA : YA → ZA) (gE : YE → ZE) (gS : YS → ZS) (gO : YO → ZO) (gC : YC → ZC) (gL : YL → ZL) (gP : YP → ZP) (y : TypedPlace-F XA XE XS XO XC XL XP) → map-TypedPlace YA YE YS YO YC YL YP ZA ZE ZS ZO ZC ZL ZP gA gE gS gO gC gL gP (map-TypedPlace XA XE XS XO XC XL XP YA YE YS YO YC YL YP fA fE fS fO fC fL fP y) ≡ map-TypedPlace XA XE XS XO XC XL XP ZA ZE ZS ZO ZC ZL ZP (λ e. gA (fA e)) (λ e. gE (fE e)) (λ e. gS (fS e)) (λ e. gO (fO e)) (λ e. gC (fC e)) (λ e. gL (fL e)) (λ e. gP (fP e)) y
twice_place fA fE fS fO fC fL fP gA gE gS gO gC gL gP y = ap (λ k. record { variable = y.variable; steps = k }) (each fS gS y.steps)

module _ {AA AE AS AO AC AL AP BA BE BS BO BC BL BP : Type 0} (RA : AA → BA → Type 0) (RE : AE → BE → Type 0) (RS : AS → BS → Type 0) (RO : AO → BO → Type 0) (RC : AC → BC → Type 0) (RL : AL → BL → Type 0) (RP : AP → BP → Type 0) where
  -- the steps of two folds keep the relations, form by form
  pub record KeepsExprs (f : ExprFold AA AE AS AO AC AL AP) (g : ExprFold BA BE BS BO BC BL BP) : Type 0 where
    pub argument : (y : Argument-F (Pair RA) (Pair RE) (Pair RS) (Pair RO) (Pair RC) (Pair RL) (Pair RP)) → RA (f.argument (map-Argument (Pair RA) (Pair RE) (Pair RS) (Pair RO) (Pair RC) (Pair RL) (Pair RP) AA AE AS AO AC AL AP (λ e. e.0) (λ e. e.0) (λ e. e.0) (λ e. e.0) (λ e. e.0) (λ e. e.0) (λ e. e.0) y)) (g.argument (map-Argument (Pair RA) (Pair RE) (Pair RS) (Pair RO) (Pair RC) (Pair RL) (Pair RP) BA BE BS BO BC BL BP (λ e. e.1) (λ e. e.1) (λ e. e.1) (λ e. e.1) (λ e. e.1) (λ e. e.1) (λ e. e.1) y))
    pub expr : (y : TypedExpr-F (Pair RA) (Pair RE) (Pair RS) (Pair RO) (Pair RC) (Pair RL) (Pair RP)) → RE (f.expr (map-TypedExpr (Pair RA) (Pair RE) (Pair RS) (Pair RO) (Pair RC) (Pair RL) (Pair RP) AA AE AS AO AC AL AP (λ e. e.0) (λ e. e.0) (λ e. e.0) (λ e. e.0) (λ e. e.0) (λ e. e.0) (λ e. e.0) y)) (g.expr (map-TypedExpr (Pair RA) (Pair RE) (Pair RS) (Pair RO) (Pair RC) (Pair RL) (Pair RP) BA BE BS BO BC BL BP (λ e. e.1) (λ e. e.1) (λ e. e.1) (λ e. e.1) (λ e. e.1) (λ e. e.1) (λ e. e.1) y))
    pub step : (y : TypedStep-F (Pair RA) (Pair RE) (Pair RS) (Pair RO) (Pair RC) (Pair RL) (Pair RP)) → RS (f.step (map-TypedStep (Pair RA) (Pair RE) (Pair RS) (Pair RO) (Pair RC) (Pair RL) (Pair RP) AA AE AS AO AC AL AP (λ e. e.0) (λ e. e.0) (λ e. e.0) (λ e. e.0) (λ e. e.0) (λ e. e.0) (λ e. e.0) y)) (g.step (map-TypedStep (Pair RA) (Pair RE) (Pair RS) (Pair RO) (Pair RC) (Pair RL) (Pair RP) BA BE BS BO BC BL BP (λ e. e.1) (λ e. e.1) (λ e. e.1) (λ e. e.1) (λ e. e.1) (λ e. e.1) (λ e. e.1) y))
    pub operand : (y : Operand-F (Pair RA) (Pair RE) (Pair RS) (Pair RO) (Pair RC) (Pair RL) (Pair RP)) → RO (f.operand (map-Operand (Pair RA) (Pair RE) (Pair RS) (Pair RO) (Pair RC) (Pair RL) (Pair RP) AA AE AS AO AC AL AP (λ e. e.0) (λ e. e.0) (λ e. e.0) (λ e. e.0) (λ e. e.0) (λ e. e.0) (λ e. e.0) y)) (g.operand (map-Operand (Pair RA) (Pair RE) (Pair RS) (Pair RO) (Pair RC) (Pair RL) (Pair RP) BA BE BS BO BC BL BP (λ e. e.1) (λ e. e.1) (λ e. e.1) (λ e. e.1) (λ e. e.1) (λ e. e.1) (λ e. e.1) y))
    pub call : (y : TypedCall-F (Pair RA) (Pair RE) (Pair RS) (Pair RO) (Pair RC) (Pair RL) (Pair RP)) → RC (f.call (map-TypedCall (Pair RA) (Pair RE) (Pair RS) (Pair RO) (Pair RC) (Pair RL) (Pair RP) AA AE AS AO AC AL AP (λ e. e.0) (λ e. e.0) (λ e. e.0) (λ e. e.0) (λ e. e.0) (λ e. e.0) (λ e. e.0) y)) (g.call (map-TypedCall (Pair RA) (Pair RE) (Pair RS) (Pair RO) (Pair RC) (Pair RL) (Pair RP) BA BE BS BO BC BL BP (λ e. e.1) (λ e. e.1) (λ e. e.1) (λ e. e.1) (λ e. e.1) (λ e. e.1) (λ e. e.1) y))
    pub link : (y : TypedLink-F (Pair RA) (Pair RE) (Pair RS) (Pair RO) (Pair RC) (Pair RL) (Pair RP)) → RL (f.link (map-TypedLink (Pair RA) (Pair RE) (Pair RS) (Pair RO) (Pair RC) (Pair RL) (Pair RP) AA AE AS AO AC AL AP (λ e. e.0) (λ e. e.0) (λ e. e.0) (λ e. e.0) (λ e. e.0) (λ e. e.0) (λ e. e.0) y)) (g.link (map-TypedLink (Pair RA) (Pair RE) (Pair RS) (Pair RO) (Pair RC) (Pair RL) (Pair RP) BA BE BS BO BC BL BP (λ e. e.1) (λ e. e.1) (λ e. e.1) (λ e. e.1) (λ e. e.1) (λ e. e.1) (λ e. e.1) y))
    pub place : (y : TypedPlace-F (Pair RA) (Pair RE) (Pair RS) (Pair RO) (Pair RC) (Pair RL) (Pair RP)) → RP (f.place (map-TypedPlace (Pair RA) (Pair RE) (Pair RS) (Pair RO) (Pair RC) (Pair RL) (Pair RP) AA AE AS AO AC AL AP (λ e. e.0) (λ e. e.0) (λ e. e.0) (λ e. e.0) (λ e. e.0) (λ e. e.0) (λ e. e.0) y)) (g.place (map-TypedPlace (Pair RA) (Pair RE) (Pair RS) (Pair RO) (Pair RC) (Pair RL) (Pair RP) BA BE BS BO BC BL BP (λ e. e.1) (λ e. e.1) (λ e. e.1) (λ e. e.1) (λ e. e.1) (λ e. e.1) (λ e. e.1) y))

  module _ (f : ExprFold AA AE AS AO AC AL AP) (g : ExprFold BA BE BS BO BC BL BP) (keeps : KeepsExprs f g) where
    abbrev FA : Argument → AA
    FA = argument_fold f

    abbrev GA : Argument → BA
    GA = argument_fold g

    abbrev SuchA : Type 0
    SuchA = (e : Argument) × RA (FA e) (GA e)

    abbrev upA : SuchA → Pair RA
    upA e = (FA e.0, GA e.0, e.1)

    abbrev FE : TypedExpr → AE
    FE = expr_fold f

    abbrev GE : TypedExpr → BE
    GE = expr_fold g

    abbrev SuchE : Type 0
    SuchE = (e : TypedExpr) × RE (FE e) (GE e)

    abbrev upE : SuchE → Pair RE
    upE e = (FE e.0, GE e.0, e.1)

    abbrev FS : TypedStep → AS
    FS = step_fold f

    abbrev GS : TypedStep → BS
    GS = step_fold g

    abbrev SuchS : Type 0
    SuchS = (e : TypedStep) × RS (FS e) (GS e)

    abbrev upS : SuchS → Pair RS
    upS e = (FS e.0, GS e.0, e.1)

    abbrev FO : Operand → AO
    FO = operand_fold f

    abbrev GO : Operand → BO
    GO = operand_fold g

    abbrev SuchO : Type 0
    SuchO = (e : Operand) × RO (FO e) (GO e)

    abbrev upO : SuchO → Pair RO
    upO e = (FO e.0, GO e.0, e.1)

    abbrev FC : TypedCall → AC
    FC = call_fold f

    abbrev GC : TypedCall → BC
    GC = call_fold g

    abbrev SuchC : Type 0
    SuchC = (e : TypedCall) × RC (FC e) (GC e)

    abbrev upC : SuchC → Pair RC
    upC e = (FC e.0, GC e.0, e.1)

    abbrev FL : TypedLink → AL
    FL = link_fold f

    abbrev GL : TypedLink → BL
    GL = link_fold g

    abbrev SuchL : Type 0
    SuchL = (e : TypedLink) × RL (FL e) (GL e)

    abbrev upL : SuchL → Pair RL
    upL e = (FL e.0, GL e.0, e.1)

    abbrev FP : TypedPlace → AP
    FP = place_fold f

    abbrev GP : TypedPlace → BP
    GP = place_fold g

    abbrev SuchP : Type 0
    SuchP = (e : TypedPlace) × RP (FP e) (GP e)

    abbrev upP : SuchP → Pair RP
    upP e = (FP e.0, GP e.0, e.1)

    argument_case : (x : Argument-F Argument TypedExpr TypedStep Operand TypedCall TypedLink TypedPlace) (y : Argument-F SuchA SuchE SuchS SuchO SuchC SuchL SuchP) → map-Argument SuchA SuchE SuchS SuchO SuchC SuchL SuchP Argument TypedExpr TypedStep Operand TypedCall TypedLink TypedPlace (λ e. e.0) (λ e. e.0) (λ e. e.0) (λ e. e.0) (λ e. e.0) (λ e. e.0) (λ e. e.0) y ≡ x → RA (f.argument (map-Argument Argument TypedExpr TypedStep Operand TypedCall TypedLink TypedPlace AA AE AS AO AC AL AP FA FE FS FO FC FL FP x)) (g.argument (map-Argument Argument TypedExpr TypedStep Operand TypedCall TypedLink TypedPlace BA BE BS BO BC BL BP GA GE GS GO GC GL GP x))
    argument_case x y is =
        let a : map-Argument (Pair RA) (Pair RE) (Pair RS) (Pair RO) (Pair RC) (Pair RL) (Pair RP) AA AE AS AO AC AL AP (λ e. e.0) (λ e. e.0) (λ e. e.0) (λ e. e.0) (λ e. e.0) (λ e. e.0) (λ e. e.0) (map-Argument SuchA SuchE SuchS SuchO SuchC SuchL SuchP (Pair RA) (Pair RE) (Pair RS) (Pair RO) (Pair RC) (Pair RL) (Pair RP) upA upE upS upO upC upL upP y) ≡ map-Argument Argument TypedExpr TypedStep Operand TypedCall TypedLink TypedPlace AA AE AS AO AC AL AP FA FE FS FO FC FL FP x = twice_argument upA upE upS upO upC upL upP (λ e. e.0) (λ e. e.0) (λ e. e.0) (λ e. e.0) (λ e. e.0) (λ e. e.0) (λ e. e.0) y ∙ sym (twice_argument (λ (e : SuchA). e.0) (λ (e : SuchE). e.0) (λ (e : SuchS). e.0) (λ (e : SuchO). e.0) (λ (e : SuchC). e.0) (λ (e : SuchL). e.0) (λ (e : SuchP). e.0) FA FE FS FO FC FL FP y) ∙ ap (map-Argument Argument TypedExpr TypedStep Operand TypedCall TypedLink TypedPlace AA AE AS AO AC AL AP FA FE FS FO FC FL FP) is in
        let b : map-Argument (Pair RA) (Pair RE) (Pair RS) (Pair RO) (Pair RC) (Pair RL) (Pair RP) BA BE BS BO BC BL BP (λ e. e.1) (λ e. e.1) (λ e. e.1) (λ e. e.1) (λ e. e.1) (λ e. e.1) (λ e. e.1) (map-Argument SuchA SuchE SuchS SuchO SuchC SuchL SuchP (Pair RA) (Pair RE) (Pair RS) (Pair RO) (Pair RC) (Pair RL) (Pair RP) upA upE upS upO upC upL upP y) ≡ map-Argument Argument TypedExpr TypedStep Operand TypedCall TypedLink TypedPlace BA BE BS BO BC BL BP GA GE GS GO GC GL GP x = twice_argument upA upE upS upO upC upL upP (λ e. e.1) (λ e. e.1) (λ e. e.1) (λ e. e.1) (λ e. e.1) (λ e. e.1) (λ e. e.1) y ∙ sym (twice_argument (λ (e : SuchA). e.0) (λ (e : SuchE). e.0) (λ (e : SuchS). e.0) (λ (e : SuchO). e.0) (λ (e : SuchC). e.0) (λ (e : SuchL). e.0) (λ (e : SuchP). e.0) GA GE GS GO GC GL GP y) ∙ ap (map-Argument Argument TypedExpr TypedStep Operand TypedCall TypedLink TypedPlace BA BE BS BO BC BL BP GA GE GS GO GC GL GP) is in
        along RA (ap f.argument a) (ap g.argument b) (keeps.argument (map-Argument SuchA SuchE SuchS SuchO SuchC SuchL SuchP (Pair RA) (Pair RE) (Pair RS) (Pair RO) (Pair RC) (Pair RL) (Pair RP) upA upE upS upO upC upL upP y))

    expr_case : (x : TypedExpr-F Argument TypedExpr TypedStep Operand TypedCall TypedLink TypedPlace) (y : TypedExpr-F SuchA SuchE SuchS SuchO SuchC SuchL SuchP) → map-TypedExpr SuchA SuchE SuchS SuchO SuchC SuchL SuchP Argument TypedExpr TypedStep Operand TypedCall TypedLink TypedPlace (λ e. e.0) (λ e. e.0) (λ e. e.0) (λ e. e.0) (λ e. e.0) (λ e. e.0) (λ e. e.0) y ≡ x → RE (f.expr (map-TypedExpr Argument TypedExpr TypedStep Operand TypedCall TypedLink TypedPlace AA AE AS AO AC AL AP FA FE FS FO FC FL FP x)) (g.expr (map-TypedExpr Argument TypedExpr TypedStep Operand TypedCall TypedLink TypedPlace BA BE BS BO BC BL BP GA GE GS GO GC GL GP x))
    expr_case x y is =
        let a : map-TypedExpr (Pair RA) (Pair RE) (Pair RS) (Pair RO) (Pair RC) (Pair RL) (Pair RP) AA AE AS AO AC AL AP (λ e. e.0) (λ e. e.0) (λ e. e.0) (λ e. e.0) (λ e. e.0) (λ e. e.0) (λ e. e.0) (map-TypedExpr SuchA SuchE SuchS SuchO SuchC SuchL SuchP (Pair RA) (Pair RE) (Pair RS) (Pair RO) (Pair RC) (Pair RL) (Pair RP) upA upE upS upO upC upL upP y) ≡ map-TypedExpr Argument TypedExpr TypedStep Operand TypedCall TypedLink TypedPlace AA AE AS AO AC AL AP FA FE FS FO FC FL FP x = twice_expr upA upE upS upO upC upL upP (λ e. e.0) (λ e. e.0) (λ e. e.0) (λ e. e.0) (λ e. e.0) (λ e. e.0) (λ e. e.0) y ∙ sym (twice_expr (λ (e : SuchA). e.0) (λ (e : SuchE). e.0) (λ (e : SuchS). e.0) (λ (e : SuchO). e.0) (λ (e : SuchC). e.0) (λ (e : SuchL). e.0) (λ (e : SuchP). e.0) FA FE FS FO FC FL FP y) ∙ ap (map-TypedExpr Argument TypedExpr TypedStep Operand TypedCall TypedLink TypedPlace AA AE AS AO AC AL AP FA FE FS FO FC FL FP) is in
        let b : map-TypedExpr (Pair RA) (Pair RE) (Pair RS) (Pair RO) (Pair RC) (Pair RL) (Pair RP) BA BE BS BO BC BL BP (λ e. e.1) (λ e. e.1) (λ e. e.1) (λ e. e.1) (λ e. e.1) (λ e. e.1) (λ e. e.1) (map-TypedExpr SuchA SuchE SuchS SuchO SuchC SuchL SuchP (Pair RA) (Pair RE) (Pair RS) (Pair RO) (Pair RC) (Pair RL) (Pair RP) upA upE upS upO upC upL upP y) ≡ map-TypedExpr Argument TypedExpr TypedStep Operand TypedCall TypedLink TypedPlace BA BE BS BO BC BL BP GA GE GS GO GC GL GP x = twice_expr upA upE upS upO upC upL upP (λ e. e.1) (λ e. e.1) (λ e. e.1) (λ e. e.1) (λ e. e.1) (λ e. e.1) (λ e. e.1) y ∙ sym (twice_expr (λ (e : SuchA). e.0) (λ (e : SuchE). e.0) (λ (e : SuchS). e.0) (λ (e : SuchO). e.0) (λ (e : SuchC). e.0) (λ (e : SuchL). e.0) (λ (e : SuchP). e.0) GA GE GS GO GC GL GP y) ∙ ap (map-TypedExpr Argument TypedExpr TypedStep Operand TypedCall TypedLink TypedPlace BA BE BS BO BC BL BP GA GE GS GO GC GL GP) is in
        along RE (ap f.expr a) (ap g.expr b) (keeps.expr (map-TypedExpr SuchA SuchE SuchS SuchO SuchC SuchL SuchP (Pair RA) (Pair RE) (Pair RS) (Pair RO) (Pair RC) (Pair RL) (Pair RP) upA upE upS upO upC upL upP y))

    step_case : (x : TypedStep-F Argument TypedExpr TypedStep Operand TypedCall TypedLink TypedPlace) (y : TypedStep-F SuchA SuchE SuchS SuchO SuchC SuchL SuchP) → map-TypedStep SuchA SuchE SuchS SuchO SuchC SuchL SuchP Argument TypedExpr TypedStep Operand TypedCall TypedLink TypedPlace (λ e. e.0) (λ e. e.0) (λ e. e.0) (λ e. e.0) (λ e. e.0) (λ e. e.0) (λ e. e.0) y ≡ x → RS (f.step (map-TypedStep Argument TypedExpr TypedStep Operand TypedCall TypedLink TypedPlace AA AE AS AO AC AL AP FA FE FS FO FC FL FP x)) (g.step (map-TypedStep Argument TypedExpr TypedStep Operand TypedCall TypedLink TypedPlace BA BE BS BO BC BL BP GA GE GS GO GC GL GP x))
    step_case x y is =
        let a : map-TypedStep (Pair RA) (Pair RE) (Pair RS) (Pair RO) (Pair RC) (Pair RL) (Pair RP) AA AE AS AO AC AL AP (λ e. e.0) (λ e. e.0) (λ e. e.0) (λ e. e.0) (λ e. e.0) (λ e. e.0) (λ e. e.0) (map-TypedStep SuchA SuchE SuchS SuchO SuchC SuchL SuchP (Pair RA) (Pair RE) (Pair RS) (Pair RO) (Pair RC) (Pair RL) (Pair RP) upA upE upS upO upC upL upP y) ≡ map-TypedStep Argument TypedExpr TypedStep Operand TypedCall TypedLink TypedPlace AA AE AS AO AC AL AP FA FE FS FO FC FL FP x = twice_step upA upE upS upO upC upL upP (λ e. e.0) (λ e. e.0) (λ e. e.0) (λ e. e.0) (λ e. e.0) (λ e. e.0) (λ e. e.0) y ∙ sym (twice_step (λ (e : SuchA). e.0) (λ (e : SuchE). e.0) (λ (e : SuchS). e.0) (λ (e : SuchO). e.0) (λ (e : SuchC). e.0) (λ (e : SuchL). e.0) (λ (e : SuchP). e.0) FA FE FS FO FC FL FP y) ∙ ap (map-TypedStep Argument TypedExpr TypedStep Operand TypedCall TypedLink TypedPlace AA AE AS AO AC AL AP FA FE FS FO FC FL FP) is in
        let b : map-TypedStep (Pair RA) (Pair RE) (Pair RS) (Pair RO) (Pair RC) (Pair RL) (Pair RP) BA BE BS BO BC BL BP (λ e. e.1) (λ e. e.1) (λ e. e.1) (λ e. e.1) (λ e. e.1) (λ e. e.1) (λ e. e.1) (map-TypedStep SuchA SuchE SuchS SuchO SuchC SuchL SuchP (Pair RA) (Pair RE) (Pair RS) (Pair RO) (Pair RC) (Pair RL) (Pair RP) upA upE upS upO upC upL upP y) ≡ map-TypedStep Argument TypedExpr TypedStep Operand TypedCall TypedLink TypedPlace BA BE BS BO BC BL BP GA GE GS GO GC GL GP x = twice_step upA upE upS upO upC upL upP (λ e. e.1) (λ e. e.1) (λ e. e.1) (λ e. e.1) (λ e. e.1) (λ e. e.1) (λ e. e.1) y ∙ sym (twice_step (λ (e : SuchA). e.0) (λ (e : SuchE). e.0) (λ (e : SuchS). e.0) (λ (e : SuchO). e.0) (λ (e : SuchC). e.0) (λ (e : SuchL). e.0) (λ (e : SuchP). e.0) GA GE GS GO GC GL GP y) ∙ ap (map-TypedStep Argument TypedExpr TypedStep Operand TypedCall TypedLink TypedPlace BA BE BS BO BC BL BP GA GE GS GO GC GL GP) is in
        along RS (ap f.step a) (ap g.step b) (keeps.step (map-TypedStep SuchA SuchE SuchS SuchO SuchC SuchL SuchP (Pair RA) (Pair RE) (Pair RS) (Pair RO) (Pair RC) (Pair RL) (Pair RP) upA upE upS upO upC upL upP y))

    operand_case : (x : Operand-F Argument TypedExpr TypedStep Operand TypedCall TypedLink TypedPlace) (y : Operand-F SuchA SuchE SuchS SuchO SuchC SuchL SuchP) → map-Operand SuchA SuchE SuchS SuchO SuchC SuchL SuchP Argument TypedExpr TypedStep Operand TypedCall TypedLink TypedPlace (λ e. e.0) (λ e. e.0) (λ e. e.0) (λ e. e.0) (λ e. e.0) (λ e. e.0) (λ e. e.0) y ≡ x → RO (f.operand (map-Operand Argument TypedExpr TypedStep Operand TypedCall TypedLink TypedPlace AA AE AS AO AC AL AP FA FE FS FO FC FL FP x)) (g.operand (map-Operand Argument TypedExpr TypedStep Operand TypedCall TypedLink TypedPlace BA BE BS BO BC BL BP GA GE GS GO GC GL GP x))
    operand_case x y is =
        let a : map-Operand (Pair RA) (Pair RE) (Pair RS) (Pair RO) (Pair RC) (Pair RL) (Pair RP) AA AE AS AO AC AL AP (λ e. e.0) (λ e. e.0) (λ e. e.0) (λ e. e.0) (λ e. e.0) (λ e. e.0) (λ e. e.0) (map-Operand SuchA SuchE SuchS SuchO SuchC SuchL SuchP (Pair RA) (Pair RE) (Pair RS) (Pair RO) (Pair RC) (Pair RL) (Pair RP) upA upE upS upO upC upL upP y) ≡ map-Operand Argument TypedExpr TypedStep Operand TypedCall TypedLink TypedPlace AA AE AS AO AC AL AP FA FE FS FO FC FL FP x = twice_operand upA upE upS upO upC upL upP (λ e. e.0) (λ e. e.0) (λ e. e.0) (λ e. e.0) (λ e. e.0) (λ e. e.0) (λ e. e.0) y ∙ sym (twice_operand (λ (e : SuchA). e.0) (λ (e : SuchE). e.0) (λ (e : SuchS). e.0) (λ (e : SuchO). e.0) (λ (e : SuchC). e.0) (λ (e : SuchL). e.0) (λ (e : SuchP). e.0) FA FE FS FO FC FL FP y) ∙ ap (map-Operand Argument TypedExpr TypedStep Operand TypedCall TypedLink TypedPlace AA AE AS AO AC AL AP FA FE FS FO FC FL FP) is in
        let b : map-Operand (Pair RA) (Pair RE) (Pair RS) (Pair RO) (Pair RC) (Pair RL) (Pair RP) BA BE BS BO BC BL BP (λ e. e.1) (λ e. e.1) (λ e. e.1) (λ e. e.1) (λ e. e.1) (λ e. e.1) (λ e. e.1) (map-Operand SuchA SuchE SuchS SuchO SuchC SuchL SuchP (Pair RA) (Pair RE) (Pair RS) (Pair RO) (Pair RC) (Pair RL) (Pair RP) upA upE upS upO upC upL upP y) ≡ map-Operand Argument TypedExpr TypedStep Operand TypedCall TypedLink TypedPlace BA BE BS BO BC BL BP GA GE GS GO GC GL GP x = twice_operand upA upE upS upO upC upL upP (λ e. e.1) (λ e. e.1) (λ e. e.1) (λ e. e.1) (λ e. e.1) (λ e. e.1) (λ e. e.1) y ∙ sym (twice_operand (λ (e : SuchA). e.0) (λ (e : SuchE). e.0) (λ (e : SuchS). e.0) (λ (e : SuchO). e.0) (λ (e : SuchC). e.0) (λ (e : SuchL). e.0) (λ (e : SuchP). e.0) GA GE GS GO GC GL GP y) ∙ ap (map-Operand Argument TypedExpr TypedStep Operand TypedCall TypedLink TypedPlace BA BE BS BO BC BL BP GA GE GS GO GC GL GP) is in
        along RO (ap f.operand a) (ap g.operand b) (keeps.operand (map-Operand SuchA SuchE SuchS SuchO SuchC SuchL SuchP (Pair RA) (Pair RE) (Pair RS) (Pair RO) (Pair RC) (Pair RL) (Pair RP) upA upE upS upO upC upL upP y))

    call_case : (x : TypedCall-F Argument TypedExpr TypedStep Operand TypedCall TypedLink TypedPlace) (y : TypedCall-F SuchA SuchE SuchS SuchO SuchC SuchL SuchP) → map-TypedCall SuchA SuchE SuchS SuchO SuchC SuchL SuchP Argument TypedExpr TypedStep Operand TypedCall TypedLink TypedPlace (λ e. e.0) (λ e. e.0) (λ e. e.0) (λ e. e.0) (λ e. e.0) (λ e. e.0) (λ e. e.0) y ≡ x → RC (f.call (map-TypedCall Argument TypedExpr TypedStep Operand TypedCall TypedLink TypedPlace AA AE AS AO AC AL AP FA FE FS FO FC FL FP x)) (g.call (map-TypedCall Argument TypedExpr TypedStep Operand TypedCall TypedLink TypedPlace BA BE BS BO BC BL BP GA GE GS GO GC GL GP x))
    call_case x y is =
        let a : map-TypedCall (Pair RA) (Pair RE) (Pair RS) (Pair RO) (Pair RC) (Pair RL) (Pair RP) AA AE AS AO AC AL AP (λ e. e.0) (λ e. e.0) (λ e. e.0) (λ e. e.0) (λ e. e.0) (λ e. e.0) (λ e. e.0) (map-TypedCall SuchA SuchE SuchS SuchO SuchC SuchL SuchP (Pair RA) (Pair RE) (Pair RS) (Pair RO) (Pair RC) (Pair RL) (Pair RP) upA upE upS upO upC upL upP y) ≡ map-TypedCall Argument TypedExpr TypedStep Operand TypedCall TypedLink TypedPlace AA AE AS AO AC AL AP FA FE FS FO FC FL FP x = twice_call upA upE upS upO upC upL upP (λ e. e.0) (λ e. e.0) (λ e. e.0) (λ e. e.0) (λ e. e.0) (λ e. e.0) (λ e. e.0) y ∙ sym (twice_call (λ (e : SuchA). e.0) (λ (e : SuchE). e.0) (λ (e : SuchS). e.0) (λ (e : SuchO). e.0) (λ (e : SuchC). e.0) (λ (e : SuchL). e.0) (λ (e : SuchP). e.0) FA FE FS FO FC FL FP y) ∙ ap (map-TypedCall Argument TypedExpr TypedStep Operand TypedCall TypedLink TypedPlace AA AE AS AO AC AL AP FA FE FS FO FC FL FP) is in
        let b : map-TypedCall (Pair RA) (Pair RE) (Pair RS) (Pair RO) (Pair RC) (Pair RL) (Pair RP) BA BE BS BO BC BL BP (λ e. e.1) (λ e. e.1) (λ e. e.1) (λ e. e.1) (λ e. e.1) (λ e. e.1) (λ e. e.1) (map-TypedCall SuchA SuchE SuchS SuchO SuchC SuchL SuchP (Pair RA) (Pair RE) (Pair RS) (Pair RO) (Pair RC) (Pair RL) (Pair RP) upA upE upS upO upC upL upP y) ≡ map-TypedCall Argument TypedExpr TypedStep Operand TypedCall TypedLink TypedPlace BA BE BS BO BC BL BP GA GE GS GO GC GL GP x = twice_call upA upE upS upO upC upL upP (λ e. e.1) (λ e. e.1) (λ e. e.1) (λ e. e.1) (λ e. e.1) (λ e. e.1) (λ e. e.1) y ∙ sym (twice_call (λ (e : SuchA). e.0) (λ (e : SuchE). e.0) (λ (e : SuchS). e.0) (λ (e : SuchO). e.0) (λ (e : SuchC). e.0) (λ (e : SuchL). e.0) (λ (e : SuchP). e.0) GA GE GS GO GC GL GP y) ∙ ap (map-TypedCall Argument TypedExpr TypedStep Operand TypedCall TypedLink TypedPlace BA BE BS BO BC BL BP GA GE GS GO GC GL GP) is in
        along RC (ap f.call a) (ap g.call b) (keeps.call (map-TypedCall SuchA SuchE SuchS SuchO SuchC SuchL SuchP (Pair RA) (Pair RE) (Pair RS) (Pair RO) (Pair RC) (Pair RL) (Pair RP) upA upE upS upO upC upL upP y))

    link_case : (x : TypedLink-F Argument TypedExpr TypedStep Operand TypedCall TypedLink TypedPlace) (y : TypedLink-F SuchA SuchE SuchS SuchO SuchC SuchL SuchP) → map-TypedLink SuchA SuchE SuchS SuchO SuchC SuchL SuchP Argument TypedExpr TypedStep Operand TypedCall TypedLink TypedPlace (λ e. e.0) (λ e. e.0) (λ e. e.0) (λ e. e.0) (λ e. e.0) (λ e. e.0) (λ e. e.0) y ≡ x → RL (f.link (map-TypedLink Argument TypedExpr TypedStep Operand TypedCall TypedLink TypedPlace AA AE AS AO AC AL AP FA FE FS FO FC FL FP x)) (g.link (map-TypedLink Argument TypedExpr TypedStep Operand TypedCall TypedLink TypedPlace BA BE BS BO BC BL BP GA GE GS GO GC GL GP x))
    link_case x y is =
        let a : map-TypedLink (Pair RA) (Pair RE) (Pair RS) (Pair RO) (Pair RC) (Pair RL) (Pair RP) AA AE AS AO AC AL AP (λ e. e.0) (λ e. e.0) (λ e. e.0) (λ e. e.0) (λ e. e.0) (λ e. e.0) (λ e. e.0) (map-TypedLink SuchA SuchE SuchS SuchO SuchC SuchL SuchP (Pair RA) (Pair RE) (Pair RS) (Pair RO) (Pair RC) (Pair RL) (Pair RP) upA upE upS upO upC upL upP y) ≡ map-TypedLink Argument TypedExpr TypedStep Operand TypedCall TypedLink TypedPlace AA AE AS AO AC AL AP FA FE FS FO FC FL FP x = twice_link upA upE upS upO upC upL upP (λ e. e.0) (λ e. e.0) (λ e. e.0) (λ e. e.0) (λ e. e.0) (λ e. e.0) (λ e. e.0) y ∙ sym (twice_link (λ (e : SuchA). e.0) (λ (e : SuchE). e.0) (λ (e : SuchS). e.0) (λ (e : SuchO). e.0) (λ (e : SuchC). e.0) (λ (e : SuchL). e.0) (λ (e : SuchP). e.0) FA FE FS FO FC FL FP y) ∙ ap (map-TypedLink Argument TypedExpr TypedStep Operand TypedCall TypedLink TypedPlace AA AE AS AO AC AL AP FA FE FS FO FC FL FP) is in
        let b : map-TypedLink (Pair RA) (Pair RE) (Pair RS) (Pair RO) (Pair RC) (Pair RL) (Pair RP) BA BE BS BO BC BL BP (λ e. e.1) (λ e. e.1) (λ e. e.1) (λ e. e.1) (λ e. e.1) (λ e. e.1) (λ e. e.1) (map-TypedLink SuchA SuchE SuchS SuchO SuchC SuchL SuchP (Pair RA) (Pair RE) (Pair RS) (Pair RO) (Pair RC) (Pair RL) (Pair RP) upA upE upS upO upC upL upP y) ≡ map-TypedLink Argument TypedExpr TypedStep Operand TypedCall TypedLink TypedPlace BA BE BS BO BC BL BP GA GE GS GO GC GL GP x = twice_link upA upE upS upO upC upL upP (λ e. e.1) (λ e. e.1) (λ e. e.1) (λ e. e.1) (λ e. e.1) (λ e. e.1) (λ e. e.1) y ∙ sym (twice_link (λ (e : SuchA). e.0) (λ (e : SuchE). e.0) (λ (e : SuchS). e.0) (λ (e : SuchO). e.0) (λ (e : SuchC). e.0) (λ (e : SuchL). e.0) (λ (e : SuchP). e.0) GA GE GS GO GC GL GP y) ∙ ap (map-TypedLink Argument TypedExpr TypedStep Operand TypedCall TypedLink TypedPlace BA BE BS BO BC BL BP GA GE GS GO GC GL GP) is in
        along RL (ap f.link a) (ap g.link b) (keeps.link (map-TypedLink SuchA SuchE SuchS SuchO SuchC SuchL SuchP (Pair RA) (Pair RE) (Pair RS) (Pair RO) (Pair RC) (Pair RL) (Pair RP) upA upE upS upO upC upL upP y))

    place_case : (x : TypedPlace-F Argument TypedExpr TypedStep Operand TypedCall TypedLink TypedPlace) (y : TypedPlace-F SuchA SuchE SuchS SuchO SuchC SuchL SuchP) → map-TypedPlace SuchA SuchE SuchS SuchO SuchC SuchL SuchP Argument TypedExpr TypedStep Operand TypedCall TypedLink TypedPlace (λ e. e.0) (λ e. e.0) (λ e. e.0) (λ e. e.0) (λ e. e.0) (λ e. e.0) (λ e. e.0) y ≡ x → RP (f.place (map-TypedPlace Argument TypedExpr TypedStep Operand TypedCall TypedLink TypedPlace AA AE AS AO AC AL AP FA FE FS FO FC FL FP x)) (g.place (map-TypedPlace Argument TypedExpr TypedStep Operand TypedCall TypedLink TypedPlace BA BE BS BO BC BL BP GA GE GS GO GC GL GP x))
    place_case x y is =
        let a : map-TypedPlace (Pair RA) (Pair RE) (Pair RS) (Pair RO) (Pair RC) (Pair RL) (Pair RP) AA AE AS AO AC AL AP (λ e. e.0) (λ e. e.0) (λ e. e.0) (λ e. e.0) (λ e. e.0) (λ e. e.0) (λ e. e.0) (map-TypedPlace SuchA SuchE SuchS SuchO SuchC SuchL SuchP (Pair RA) (Pair RE) (Pair RS) (Pair RO) (Pair RC) (Pair RL) (Pair RP) upA upE upS upO upC upL upP y) ≡ map-TypedPlace Argument TypedExpr TypedStep Operand TypedCall TypedLink TypedPlace AA AE AS AO AC AL AP FA FE FS FO FC FL FP x = twice_place upA upE upS upO upC upL upP (λ e. e.0) (λ e. e.0) (λ e. e.0) (λ e. e.0) (λ e. e.0) (λ e. e.0) (λ e. e.0) y ∙ sym (twice_place (λ (e : SuchA). e.0) (λ (e : SuchE). e.0) (λ (e : SuchS). e.0) (λ (e : SuchO). e.0) (λ (e : SuchC). e.0) (λ (e : SuchL). e.0) (λ (e : SuchP). e.0) FA FE FS FO FC FL FP y) ∙ ap (map-TypedPlace Argument TypedExpr TypedStep Operand TypedCall TypedLink TypedPlace AA AE AS AO AC AL AP FA FE FS FO FC FL FP) is in
        let b : map-TypedPlace (Pair RA) (Pair RE) (Pair RS) (Pair RO) (Pair RC) (Pair RL) (Pair RP) BA BE BS BO BC BL BP (λ e. e.1) (λ e. e.1) (λ e. e.1) (λ e. e.1) (λ e. e.1) (λ e. e.1) (λ e. e.1) (map-TypedPlace SuchA SuchE SuchS SuchO SuchC SuchL SuchP (Pair RA) (Pair RE) (Pair RS) (Pair RO) (Pair RC) (Pair RL) (Pair RP) upA upE upS upO upC upL upP y) ≡ map-TypedPlace Argument TypedExpr TypedStep Operand TypedCall TypedLink TypedPlace BA BE BS BO BC BL BP GA GE GS GO GC GL GP x = twice_place upA upE upS upO upC upL upP (λ e. e.1) (λ e. e.1) (λ e. e.1) (λ e. e.1) (λ e. e.1) (λ e. e.1) (λ e. e.1) y ∙ sym (twice_place (λ (e : SuchA). e.0) (λ (e : SuchE). e.0) (λ (e : SuchS). e.0) (λ (e : SuchO). e.0) (λ (e : SuchC). e.0) (λ (e : SuchL). e.0) (λ (e : SuchP). e.0) GA GE GS GO GC GL GP y) ∙ ap (map-TypedPlace Argument TypedExpr TypedStep Operand TypedCall TypedLink TypedPlace BA BE BS BO BC BL BP GA GE GS GO GC GL GP) is in
        along RP (ap f.place a) (ap g.place b) (keeps.place (map-TypedPlace SuchA SuchE SuchS SuchO SuchC SuchL SuchP (Pair RA) (Pair RE) (Pair RS) (Pair RO) (Pair RC) (Pair RL) (Pair RP) upA upE upS upO upC upL upP y))

    pub argument_pair : (e : Argument) → RA (argument_fold f e) (argument_fold g e)
    argument_pair = ind-Argument (λ e. RA (FA e) (GA e)) (λ e. RE (FE e) (GE e)) (λ e. RS (FS e) (GS e)) (λ e. RO (FO e) (GO e)) (λ e. RC (FC e) (GC e)) (λ e. RL (FL e) (GL e)) (λ e. RP (FP e) (GP e)) (λ x y is. along RA (sym (fold-roll-Argument AA AE AS AO AC AL AP f.argument f.expr f.step f.operand f.call f.link f.place x)) (sym (fold-roll-Argument BA BE BS BO BC BL BP g.argument g.expr g.step g.operand g.call g.link g.place x)) (argument_case x y is)) (λ x y is. along RE (sym (fold-roll-TypedExpr AA AE AS AO AC AL AP f.argument f.expr f.step f.operand f.call f.link f.place x)) (sym (fold-roll-TypedExpr BA BE BS BO BC BL BP g.argument g.expr g.step g.operand g.call g.link g.place x)) (expr_case x y is)) (λ x y is. along RS (sym (fold-roll-TypedStep AA AE AS AO AC AL AP f.argument f.expr f.step f.operand f.call f.link f.place x)) (sym (fold-roll-TypedStep BA BE BS BO BC BL BP g.argument g.expr g.step g.operand g.call g.link g.place x)) (step_case x y is)) (λ x y is. along RO (sym (fold-roll-Operand AA AE AS AO AC AL AP f.argument f.expr f.step f.operand f.call f.link f.place x)) (sym (fold-roll-Operand BA BE BS BO BC BL BP g.argument g.expr g.step g.operand g.call g.link g.place x)) (operand_case x y is)) (λ x y is. along RC (sym (fold-roll-TypedCall AA AE AS AO AC AL AP f.argument f.expr f.step f.operand f.call f.link f.place x)) (sym (fold-roll-TypedCall BA BE BS BO BC BL BP g.argument g.expr g.step g.operand g.call g.link g.place x)) (call_case x y is)) (λ x y is. along RL (sym (fold-roll-TypedLink AA AE AS AO AC AL AP f.argument f.expr f.step f.operand f.call f.link f.place x)) (sym (fold-roll-TypedLink BA BE BS BO BC BL BP g.argument g.expr g.step g.operand g.call g.link g.place x)) (link_case x y is)) (λ x y is. along RP (sym (fold-roll-TypedPlace AA AE AS AO AC AL AP f.argument f.expr f.step f.operand f.call f.link f.place x)) (sym (fold-roll-TypedPlace BA BE BS BO BC BL BP g.argument g.expr g.step g.operand g.call g.link g.place x)) (place_case x y is))

    pub expr_pair : (e : TypedExpr) → RE (expr_fold f e) (expr_fold g e)
    expr_pair = ind-TypedExpr (λ e. RA (FA e) (GA e)) (λ e. RE (FE e) (GE e)) (λ e. RS (FS e) (GS e)) (λ e. RO (FO e) (GO e)) (λ e. RC (FC e) (GC e)) (λ e. RL (FL e) (GL e)) (λ e. RP (FP e) (GP e)) (λ x y is. along RA (sym (fold-roll-Argument AA AE AS AO AC AL AP f.argument f.expr f.step f.operand f.call f.link f.place x)) (sym (fold-roll-Argument BA BE BS BO BC BL BP g.argument g.expr g.step g.operand g.call g.link g.place x)) (argument_case x y is)) (λ x y is. along RE (sym (fold-roll-TypedExpr AA AE AS AO AC AL AP f.argument f.expr f.step f.operand f.call f.link f.place x)) (sym (fold-roll-TypedExpr BA BE BS BO BC BL BP g.argument g.expr g.step g.operand g.call g.link g.place x)) (expr_case x y is)) (λ x y is. along RS (sym (fold-roll-TypedStep AA AE AS AO AC AL AP f.argument f.expr f.step f.operand f.call f.link f.place x)) (sym (fold-roll-TypedStep BA BE BS BO BC BL BP g.argument g.expr g.step g.operand g.call g.link g.place x)) (step_case x y is)) (λ x y is. along RO (sym (fold-roll-Operand AA AE AS AO AC AL AP f.argument f.expr f.step f.operand f.call f.link f.place x)) (sym (fold-roll-Operand BA BE BS BO BC BL BP g.argument g.expr g.step g.operand g.call g.link g.place x)) (operand_case x y is)) (λ x y is. along RC (sym (fold-roll-TypedCall AA AE AS AO AC AL AP f.argument f.expr f.step f.operand f.call f.link f.place x)) (sym (fold-roll-TypedCall BA BE BS BO BC BL BP g.argument g.expr g.step g.operand g.call g.link g.place x)) (call_case x y is)) (λ x y is. along RL (sym (fold-roll-TypedLink AA AE AS AO AC AL AP f.argument f.expr f.step f.operand f.call f.link f.place x)) (sym (fold-roll-TypedLink BA BE BS BO BC BL BP g.argument g.expr g.step g.operand g.call g.link g.place x)) (link_case x y is)) (λ x y is. along RP (sym (fold-roll-TypedPlace AA AE AS AO AC AL AP f.argument f.expr f.step f.operand f.call f.link f.place x)) (sym (fold-roll-TypedPlace BA BE BS BO BC BL BP g.argument g.expr g.step g.operand g.call g.link g.place x)) (place_case x y is))

    pub step_pair : (e : TypedStep) → RS (step_fold f e) (step_fold g e)
    step_pair = ind-TypedStep (λ e. RA (FA e) (GA e)) (λ e. RE (FE e) (GE e)) (λ e. RS (FS e) (GS e)) (λ e. RO (FO e) (GO e)) (λ e. RC (FC e) (GC e)) (λ e. RL (FL e) (GL e)) (λ e. RP (FP e) (GP e)) (λ x y is. along RA (sym (fold-roll-Argument AA AE AS AO AC AL AP f.argument f.expr f.step f.operand f.call f.link f.place x)) (sym (fold-roll-Argument BA BE BS BO BC BL BP g.argument g.expr g.step g.operand g.call g.link g.place x)) (argument_case x y is)) (λ x y is. along RE (sym (fold-roll-TypedExpr AA AE AS AO AC AL AP f.argument f.expr f.step f.operand f.call f.link f.place x)) (sym (fold-roll-TypedExpr BA BE BS BO BC BL BP g.argument g.expr g.step g.operand g.call g.link g.place x)) (expr_case x y is)) (λ x y is. along RS (sym (fold-roll-TypedStep AA AE AS AO AC AL AP f.argument f.expr f.step f.operand f.call f.link f.place x)) (sym (fold-roll-TypedStep BA BE BS BO BC BL BP g.argument g.expr g.step g.operand g.call g.link g.place x)) (step_case x y is)) (λ x y is. along RO (sym (fold-roll-Operand AA AE AS AO AC AL AP f.argument f.expr f.step f.operand f.call f.link f.place x)) (sym (fold-roll-Operand BA BE BS BO BC BL BP g.argument g.expr g.step g.operand g.call g.link g.place x)) (operand_case x y is)) (λ x y is. along RC (sym (fold-roll-TypedCall AA AE AS AO AC AL AP f.argument f.expr f.step f.operand f.call f.link f.place x)) (sym (fold-roll-TypedCall BA BE BS BO BC BL BP g.argument g.expr g.step g.operand g.call g.link g.place x)) (call_case x y is)) (λ x y is. along RL (sym (fold-roll-TypedLink AA AE AS AO AC AL AP f.argument f.expr f.step f.operand f.call f.link f.place x)) (sym (fold-roll-TypedLink BA BE BS BO BC BL BP g.argument g.expr g.step g.operand g.call g.link g.place x)) (link_case x y is)) (λ x y is. along RP (sym (fold-roll-TypedPlace AA AE AS AO AC AL AP f.argument f.expr f.step f.operand f.call f.link f.place x)) (sym (fold-roll-TypedPlace BA BE BS BO BC BL BP g.argument g.expr g.step g.operand g.call g.link g.place x)) (place_case x y is))

    pub operand_pair : (e : Operand) → RO (operand_fold f e) (operand_fold g e)
    operand_pair = ind-Operand (λ e. RA (FA e) (GA e)) (λ e. RE (FE e) (GE e)) (λ e. RS (FS e) (GS e)) (λ e. RO (FO e) (GO e)) (λ e. RC (FC e) (GC e)) (λ e. RL (FL e) (GL e)) (λ e. RP (FP e) (GP e)) (λ x y is. along RA (sym (fold-roll-Argument AA AE AS AO AC AL AP f.argument f.expr f.step f.operand f.call f.link f.place x)) (sym (fold-roll-Argument BA BE BS BO BC BL BP g.argument g.expr g.step g.operand g.call g.link g.place x)) (argument_case x y is)) (λ x y is. along RE (sym (fold-roll-TypedExpr AA AE AS AO AC AL AP f.argument f.expr f.step f.operand f.call f.link f.place x)) (sym (fold-roll-TypedExpr BA BE BS BO BC BL BP g.argument g.expr g.step g.operand g.call g.link g.place x)) (expr_case x y is)) (λ x y is. along RS (sym (fold-roll-TypedStep AA AE AS AO AC AL AP f.argument f.expr f.step f.operand f.call f.link f.place x)) (sym (fold-roll-TypedStep BA BE BS BO BC BL BP g.argument g.expr g.step g.operand g.call g.link g.place x)) (step_case x y is)) (λ x y is. along RO (sym (fold-roll-Operand AA AE AS AO AC AL AP f.argument f.expr f.step f.operand f.call f.link f.place x)) (sym (fold-roll-Operand BA BE BS BO BC BL BP g.argument g.expr g.step g.operand g.call g.link g.place x)) (operand_case x y is)) (λ x y is. along RC (sym (fold-roll-TypedCall AA AE AS AO AC AL AP f.argument f.expr f.step f.operand f.call f.link f.place x)) (sym (fold-roll-TypedCall BA BE BS BO BC BL BP g.argument g.expr g.step g.operand g.call g.link g.place x)) (call_case x y is)) (λ x y is. along RL (sym (fold-roll-TypedLink AA AE AS AO AC AL AP f.argument f.expr f.step f.operand f.call f.link f.place x)) (sym (fold-roll-TypedLink BA BE BS BO BC BL BP g.argument g.expr g.step g.operand g.call g.link g.place x)) (link_case x y is)) (λ x y is. along RP (sym (fold-roll-TypedPlace AA AE AS AO AC AL AP f.argument f.expr f.step f.operand f.call f.link f.place x)) (sym (fold-roll-TypedPlace BA BE BS BO BC BL BP g.argument g.expr g.step g.operand g.call g.link g.place x)) (place_case x y is))

    pub call_pair : (e : TypedCall) → RC (call_fold f e) (call_fold g e)
    call_pair = ind-TypedCall (λ e. RA (FA e) (GA e)) (λ e. RE (FE e) (GE e)) (λ e. RS (FS e) (GS e)) (λ e. RO (FO e) (GO e)) (λ e. RC (FC e) (GC e)) (λ e. RL (FL e) (GL e)) (λ e. RP (FP e) (GP e)) (λ x y is. along RA (sym (fold-roll-Argument AA AE AS AO AC AL AP f.argument f.expr f.step f.operand f.call f.link f.place x)) (sym (fold-roll-Argument BA BE BS BO BC BL BP g.argument g.expr g.step g.operand g.call g.link g.place x)) (argument_case x y is)) (λ x y is. along RE (sym (fold-roll-TypedExpr AA AE AS AO AC AL AP f.argument f.expr f.step f.operand f.call f.link f.place x)) (sym (fold-roll-TypedExpr BA BE BS BO BC BL BP g.argument g.expr g.step g.operand g.call g.link g.place x)) (expr_case x y is)) (λ x y is. along RS (sym (fold-roll-TypedStep AA AE AS AO AC AL AP f.argument f.expr f.step f.operand f.call f.link f.place x)) (sym (fold-roll-TypedStep BA BE BS BO BC BL BP g.argument g.expr g.step g.operand g.call g.link g.place x)) (step_case x y is)) (λ x y is. along RO (sym (fold-roll-Operand AA AE AS AO AC AL AP f.argument f.expr f.step f.operand f.call f.link f.place x)) (sym (fold-roll-Operand BA BE BS BO BC BL BP g.argument g.expr g.step g.operand g.call g.link g.place x)) (operand_case x y is)) (λ x y is. along RC (sym (fold-roll-TypedCall AA AE AS AO AC AL AP f.argument f.expr f.step f.operand f.call f.link f.place x)) (sym (fold-roll-TypedCall BA BE BS BO BC BL BP g.argument g.expr g.step g.operand g.call g.link g.place x)) (call_case x y is)) (λ x y is. along RL (sym (fold-roll-TypedLink AA AE AS AO AC AL AP f.argument f.expr f.step f.operand f.call f.link f.place x)) (sym (fold-roll-TypedLink BA BE BS BO BC BL BP g.argument g.expr g.step g.operand g.call g.link g.place x)) (link_case x y is)) (λ x y is. along RP (sym (fold-roll-TypedPlace AA AE AS AO AC AL AP f.argument f.expr f.step f.operand f.call f.link f.place x)) (sym (fold-roll-TypedPlace BA BE BS BO BC BL BP g.argument g.expr g.step g.operand g.call g.link g.place x)) (place_case x y is))

    pub link_pair : (e : TypedLink) → RL (link_fold f e) (link_fold g e)
    link_pair = ind-TypedLink (λ e. RA (FA e) (GA e)) (λ e. RE (FE e) (GE e)) (λ e. RS (FS e) (GS e)) (λ e. RO (FO e) (GO e)) (λ e. RC (FC e) (GC e)) (λ e. RL (FL e) (GL e)) (λ e. RP (FP e) (GP e)) (λ x y is. along RA (sym (fold-roll-Argument AA AE AS AO AC AL AP f.argument f.expr f.step f.operand f.call f.link f.place x)) (sym (fold-roll-Argument BA BE BS BO BC BL BP g.argument g.expr g.step g.operand g.call g.link g.place x)) (argument_case x y is)) (λ x y is. along RE (sym (fold-roll-TypedExpr AA AE AS AO AC AL AP f.argument f.expr f.step f.operand f.call f.link f.place x)) (sym (fold-roll-TypedExpr BA BE BS BO BC BL BP g.argument g.expr g.step g.operand g.call g.link g.place x)) (expr_case x y is)) (λ x y is. along RS (sym (fold-roll-TypedStep AA AE AS AO AC AL AP f.argument f.expr f.step f.operand f.call f.link f.place x)) (sym (fold-roll-TypedStep BA BE BS BO BC BL BP g.argument g.expr g.step g.operand g.call g.link g.place x)) (step_case x y is)) (λ x y is. along RO (sym (fold-roll-Operand AA AE AS AO AC AL AP f.argument f.expr f.step f.operand f.call f.link f.place x)) (sym (fold-roll-Operand BA BE BS BO BC BL BP g.argument g.expr g.step g.operand g.call g.link g.place x)) (operand_case x y is)) (λ x y is. along RC (sym (fold-roll-TypedCall AA AE AS AO AC AL AP f.argument f.expr f.step f.operand f.call f.link f.place x)) (sym (fold-roll-TypedCall BA BE BS BO BC BL BP g.argument g.expr g.step g.operand g.call g.link g.place x)) (call_case x y is)) (λ x y is. along RL (sym (fold-roll-TypedLink AA AE AS AO AC AL AP f.argument f.expr f.step f.operand f.call f.link f.place x)) (sym (fold-roll-TypedLink BA BE BS BO BC BL BP g.argument g.expr g.step g.operand g.call g.link g.place x)) (link_case x y is)) (λ x y is. along RP (sym (fold-roll-TypedPlace AA AE AS AO AC AL AP f.argument f.expr f.step f.operand f.call f.link f.place x)) (sym (fold-roll-TypedPlace BA BE BS BO BC BL BP g.argument g.expr g.step g.operand g.call g.link g.place x)) (place_case x y is))

    pub place_pair : (e : TypedPlace) → RP (place_fold f e) (place_fold g e)
    place_pair = ind-TypedPlace (λ e. RA (FA e) (GA e)) (λ e. RE (FE e) (GE e)) (λ e. RS (FS e) (GS e)) (λ e. RO (FO e) (GO e)) (λ e. RC (FC e) (GC e)) (λ e. RL (FL e) (GL e)) (λ e. RP (FP e) (GP e)) (λ x y is. along RA (sym (fold-roll-Argument AA AE AS AO AC AL AP f.argument f.expr f.step f.operand f.call f.link f.place x)) (sym (fold-roll-Argument BA BE BS BO BC BL BP g.argument g.expr g.step g.operand g.call g.link g.place x)) (argument_case x y is)) (λ x y is. along RE (sym (fold-roll-TypedExpr AA AE AS AO AC AL AP f.argument f.expr f.step f.operand f.call f.link f.place x)) (sym (fold-roll-TypedExpr BA BE BS BO BC BL BP g.argument g.expr g.step g.operand g.call g.link g.place x)) (expr_case x y is)) (λ x y is. along RS (sym (fold-roll-TypedStep AA AE AS AO AC AL AP f.argument f.expr f.step f.operand f.call f.link f.place x)) (sym (fold-roll-TypedStep BA BE BS BO BC BL BP g.argument g.expr g.step g.operand g.call g.link g.place x)) (step_case x y is)) (λ x y is. along RO (sym (fold-roll-Operand AA AE AS AO AC AL AP f.argument f.expr f.step f.operand f.call f.link f.place x)) (sym (fold-roll-Operand BA BE BS BO BC BL BP g.argument g.expr g.step g.operand g.call g.link g.place x)) (operand_case x y is)) (λ x y is. along RC (sym (fold-roll-TypedCall AA AE AS AO AC AL AP f.argument f.expr f.step f.operand f.call f.link f.place x)) (sym (fold-roll-TypedCall BA BE BS BO BC BL BP g.argument g.expr g.step g.operand g.call g.link g.place x)) (call_case x y is)) (λ x y is. along RL (sym (fold-roll-TypedLink AA AE AS AO AC AL AP f.argument f.expr f.step f.operand f.call f.link f.place x)) (sym (fold-roll-TypedLink BA BE BS BO BC BL BP g.argument g.expr g.step g.operand g.call g.link g.place x)) (link_case x y is)) (λ x y is. along RP (sym (fold-roll-TypedPlace AA AE AS AO AC AL AP f.argument f.expr f.step f.operand f.call f.link f.place x)) (sym (fold-roll-TypedPlace BA BE BS BO BC BL BP g.argument g.expr g.step g.operand g.call g.link g.place x)) (place_case x y is))
