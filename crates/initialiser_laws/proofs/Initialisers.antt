-- Initialisers, by induction over what is written.
use Rattle.std.proofs.Common.{◌≡◌, ℕ, ◌<◌, List, [], ◌∷◌, ◌++◌, map, length, Option, Some, None, Result, Ok, Err, Bool, true, false, refl, sym, ap, subst, ◌∙◌, All, slice_get}
use Rattle.std.proofs.lemmas.List.Elements.{All-tail}
use Rattle.std.specs.List.{concat}
use Rattle.ctl_tree.specs.declared.expression.Expr.{Expr}
use Rattle.ctl_tree.specs.declared.declaration.Initialiser.{Initialiser, roll-Initialiser}
use Rattle.ctl_tree.specs.declared.declaration.BraceList.{BraceList, roll-BraceList}
use Rattle.ctl_tree.specs.declared.declaration.Initialiser.TheOpen.{Initialiser-F, BraceList-F, Expr as ExprForm, List as ListForm}
use Rattle.ctl_tree.specs.declared.declaration.Initialiser.TheFolds.{ind-Initialiser, fold-BraceList, fold-roll-Initialiser, fold-roll-BraceList, map-Initialiser, map-BraceList}
use Rattle.ctl_tree.specs.OwnTokens.{Tokens, Below, expr_tokens, initialiser_tokens, initialiser_step, brace_list_step}
use Rattle.ctl_types.specs.declared.shape.Shape.{Shape, roll-Shape, out-Shape}
use Rattle.ctl_types.specs.declared.shape.Shape.TheOpen as layer
use Rattle.ctl_types.specs.declared.shape.Shape.TheOpen.{Shape-F}
use Rattle.ctl_types.specs.declared.shape.Shape.TheViews.{roll-out-Shape}
use Rattle.ctl_types.specs.Shapes.{field_shapes}
use Rattle.ctl_types.specs.Definitions.{Defined}
use Rattle.ctl_types.specs.Typing.{Variables, expr_type}
use Rattle.ctl_scope.specs.Scope.{ScopeForm}
use Rattle.ctl_scope.specs.Beside.{scene}
use Rattle.ctl_check_rules.specs.declared.checked.Checked.{Checked}
use Rattle.ctl_check_rules.specs.Faults.{◌>>=◌, rule_at}
use Rattle.ctl_check_expr.specs.Checking.{checked}
use Rattle.ctl_check_init.specs.Initialisers.{Beginning, value_begun, left_over, list_given, list_begun, begin_step, list_step, begun, begun_list}
use Rattle.ctl_check_laws.specs.Accepted.{IsAccepted}
use Rattle.ctl_check_laws.specs.Taking.{FittingHasType, StatedSizesFit}
use Rattle.ctl_check_laws.specs.WellTyped.{tokens_around}
use Rattle.initialiser_laws.specs.Wanted.{may_be_wanted}
use Rattle.initialiser_laws.proofs.Basics.{all_left, all_right, Good, good_after}
use Rattle.initialiser_laws.proofs.Parts.{OptionGood, PartGood, EachPart, value_good, array_good, FieldShapes, struct_good}

-- the own tokens of a list
abbrev brace_tokens : BraceList → Tokens
brace_tokens = fold-BraceList Tokens Tokens initialiser_step brace_list_step

module _ (s : ScopeForm) (d : Defined) (vs : Variables) (roomy : 0 < (scene s d).too_deep) (fitting_law : FittingHasType) (stated_law : StatedSizesFit) (fields : (n : ℕ) → FieldShapes (scene s d) vs roomy fitting_law stated_law (field_shapes d.structs n)) (expressions : (e : Expr) (c : Checked) → Below (tokens_around s d) (expr_tokens e) → checked s d e ≡ Ok c → IsAccepted (scene s d) (expr_type (scene s d) vs c.form) c.sizes c.base c.depth) where
  abbrev Fits : Shape → Beginning → Type 0
  Fits shape b = Good (OptionGood (scene s d) vs roomy fitting_law stated_law shape) (b (Some shape))

  abbrev PartFits : Beginning → Type 0
  PartFits = PartGood (scene s d) vs roomy fitting_law stated_law

  abbrev EachFits : List Beginning → Type 0
  EachFits = EachPart (scene s d) vs roomy fitting_law stated_law

  abbrev InitialiserGood : Initialiser → Type 0
  InitialiserGood i = Below (tokens_around s d) (initialiser_tokens i) → PartFits (begun s d i)

  abbrev ListGood : BraceList → Type 0
  ListGood l = Below (tokens_around s d) (brace_tokens l) → PartFits (begun_list s d l)

  abbrev SuchInitialiser : Type 0
  SuchInitialiser = (i : Initialiser) × InitialiserGood i

  abbrev SuchList : Type 0
  SuchList = (l : BraceList) × ListGood l

  -- a list where a shape is wanted
  given_good : (token : ℕ) (parts : List Beginning) (y : Shape-F Shape) → may_be_wanted (scene s d) (roll-Shape y) ≡ true → EachFits parts → Good (OptionGood (scene s d) vs roomy fitting_law stated_law (roll-Shape y)) (list_given s d token parts y)
  given_good token parts (layer.Scalar k) w h = good_after (OptionGood (scene s d) vs roomy fitting_law stated_law (roll-Shape (layer.Scalar k))) (left_over parts) _ (λ e q. tt)
  given_good token parts (layer.Struct n) w h = struct_good (scene s d) vs roomy fitting_law stated_law n s.unit token parts w (fields n) h
  given_good token parts (layer.Array inner x) w h = array_good (scene s d) vs roomy fitting_law stated_law inner x s.unit token parts w h

  list_good : (token : ℕ) (parts : List Beginning) → EachFits parts → PartFits (list_begun s d token parts)
  list_good token parts h shape w =
      subst (λ shape'. Good (OptionGood (scene s d) vs roomy fitting_law stated_law shape') (list_given s d token parts (out-Shape shape))) (roll-out-Shape shape) (given_good token parts (out-Shape shape) (ap (may_be_wanted (scene s d)) (roll-out-Shape shape) ∙ w) h)

  elements_good : (es : List SuchInitialiser) → Below (tokens_around s d) (concat (map initialiser_tokens (map (λ e. e.0) es))) → EachFits (map (begun s d) (map (λ e. e.0) es))
  elements_good [] w = tt
  elements_good (e ∷ es) w =
      let rest = concat (map initialiser_tokens (map (λ e. e.0) es)) in
      (e.1 (all_left (λ token. token < tokens_around s d) (initialiser_tokens e.0) rest w), elements_good es (all_right (λ token. token < tokens_around s d) (initialiser_tokens e.0) rest w))

  abbrev initialiser_of : Initialiser-F SuchInitialiser SuchList → Initialiser-F Initialiser BraceList
  initialiser_of = map-Initialiser SuchInitialiser SuchList Initialiser BraceList (λ e. e.0) (λ e. e.0)

  abbrev list_of : BraceList-F SuchInitialiser SuchList → BraceList-F Initialiser BraceList
  list_of = map-BraceList SuchInitialiser SuchList Initialiser BraceList (λ e. e.0) (λ e. e.0)

  initialiser_begun : (x : Initialiser-F Initialiser BraceList) → begun s d (roll-Initialiser x) ≡ begin_step s d (map-Initialiser Initialiser BraceList Beginning Beginning (begun s d) (begun_list s d) x)
  initialiser_begun x = fold-roll-Initialiser Beginning Beginning (begin_step s d) (list_step s d) x

  list_is_begun : (x : BraceList-F Initialiser BraceList) → begun_list s d (roll-BraceList x) ≡ list_step s d (map-BraceList Initialiser BraceList Beginning Beginning (begun s d) (begun_list s d) x)
  list_is_begun x = fold-roll-BraceList Beginning Beginning (begin_step s d) (list_step s d) x

  initialiser_own : (x : Initialiser-F Initialiser BraceList) → initialiser_tokens (roll-Initialiser x) ≡ initialiser_step (map-Initialiser Initialiser BraceList Tokens Tokens initialiser_tokens brace_tokens x)
  initialiser_own x = fold-roll-Initialiser Tokens Tokens initialiser_step brace_list_step x

  list_own : (x : BraceList-F Initialiser BraceList) → brace_tokens (roll-BraceList x) ≡ brace_list_step (map-BraceList Initialiser BraceList Tokens Tokens initialiser_tokens brace_tokens x)
  list_own x = fold-roll-BraceList Tokens Tokens initialiser_step brace_list_step x

  initialiser_case : (y : Initialiser-F SuchInitialiser SuchList) → InitialiserGood (roll-Initialiser (initialiser_of y))
  initialiser_case (ExprForm e) w shape k =
      let x = initialiser_of (ExprForm e) in
      let v = subst (Below (tokens_around s d)) (initialiser_own x) w in
      subst (Fits shape) (sym (initialiser_begun x)) (good_after (OptionGood (scene s d) vs roomy fitting_law stated_law shape) (checked s d e) (λ c. Ok (value_begun (Some shape) c)) (λ c q. value_good (scene s d) vs roomy fitting_law stated_law shape c (expressions e c v q)))
  initialiser_case (ListForm l) w shape k =
      let x = initialiser_of (ListForm l) in
      subst (Fits shape) (sym (initialiser_begun x)) (l.1 (subst (Below (tokens_around s d)) (initialiser_own x) w) shape k)

  list_case : (y : BraceList-F SuchInitialiser SuchList) → ListGood (roll-BraceList (list_of y))
  list_case y w =
      let x = list_of y in
      let rest = concat (map initialiser_tokens (map (λ (e : SuchInitialiser). e.0) y.elements)) in
      let v = All-tail (λ token. token < tokens_around s d) y.token rest (subst (Below (tokens_around s d)) (list_own x) w) in
      subst PartFits (sym (list_is_begun x)) (list_good y.token (map (begun s d) (map (λ (e : SuchInitialiser). e.0) y.elements)) (elements_good y.elements v))

  pub initialiser_good : (i : Initialiser) → InitialiserGood i
  initialiser_good = ind-Initialiser InitialiserGood ListGood (λ x y is. subst (λ x. InitialiserGood (roll-Initialiser x)) is (initialiser_case y)) (λ x y is. subst (λ x. ListGood (roll-BraceList x)) is (list_case y))
