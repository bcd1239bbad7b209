-- The types of the typed forms, one equation a form.
use Rattle.std.proofs.Common.{◌≡◌, ℕ, zero, suc, ◌<◌, max, List, [], ◌∷◌, ◌++◌, map, length, Option, Some, None, Bool, true, false, ◌&&◌, nat_lt, refl, sym, ap, subst, ◌∙◌, arith, slice_get, lt-ltb}
use Rattle.fix_num.specs.declared.TheConstants.{FRACTION}
use Rattle.ctl_base.specs.declared.kind.Node.{Node}
use Rattle.ctl_base.specs.declared.kind.ScalarKind.{ScalarKind}
use Rattle.ctl_base.specs.declared.kind.ScalarKind.TheVariants as kind
use Rattle.ctl_tree.specs.declared.expression.UnaryOperator.{UnaryOperator}
use Rattle.ctl_types.specs.declared.scalar.Scalar.{Scalar as Number}
use Rattle.ctl_types.specs.declared.shape.Base.{Base}
use Rattle.ctl_types.specs.declared.shape.Base.TheVariants.{Scalar, Struct}
use Rattle.ctl_types.specs.declared.shape.Size.{Size}
use Rattle.ctl_types.specs.declared.expression.Conversion.{Conversion}
use Rattle.ctl_types.specs.declared.expression.LinkOperator.{LinkOperator}
use Rattle.ctl_types.specs.declared.expression.Logic.{Logic}
use Rattle.ctl_types.specs.declared.expression.Callee.{Callee}
use Rattle.ctl_types.specs.declared.expression.TypedExpr.{TypedExpr, roll-TypedExpr, out-TypedExpr}
use Rattle.ctl_types.specs.declared.expression.TypedStep.{TypedStep, roll-TypedStep}
use Rattle.ctl_types.specs.declared.expression.Operand.{Operand, roll-Operand}
use Rattle.ctl_types.specs.declared.expression.TypedCall.{TypedCall, roll-TypedCall}
use Rattle.ctl_types.specs.declared.expression.TypedLink.{TypedLink, roll-TypedLink}
use Rattle.ctl_types.specs.declared.expression.TypedPlace.{TypedPlace, roll-TypedPlace, out-TypedPlace}
use Rattle.ctl_types.specs.declared.expression.Argument.{Argument, roll-Argument}
use Rattle.ctl_types.specs.declared.expression.Argument.TheOpen as form
use Rattle.ctl_types.specs.declared.expression.Argument.TheFolds.{fold-roll-Argument, fold-roll-TypedExpr, fold-roll-TypedStep, fold-roll-Operand, fold-roll-TypedCall, fold-roll-TypedLink, fold-roll-TypedPlace, fold_out-TypedPlace}
use Rattle.ctl_types.specs.Scalars.{kind_of, word_of, in_range, operator_kind}
use Rattle.ctl_types.specs.Folds.{argument_fold, step_fold, operand_fold, link_fold}
use Rattle.ctl_types.specs.Typing.{Typed, scalar_type, besides, Scene, Variables, node_stands, size_stands, signature_in, constant_type, variable_type, as_converted, OperandType, taken, is_index, element_type, field_type, steps_type, links_type, first_is, Passing, In, Out, Absent, PlaceType, call_type, link_type, unary_type, logic_type, chain_type, place_assignable, type_fold, expr_type, call_form_type, place_type}
use Rattle.ctl_check_rules.specs.Operators.{operand}
use Rattle.ctl_check_laws.specs.Accepted.{known}
use Rattle.ctl_check_laws.proofs.Basics.{both}

-- ---- types that are known

-- a scalar of a kind
abbrev pub scalar : ScalarKind → ℕ → Typed
scalar k depth = scalar_type true k depth

pub scalar_with : (b : Bool) (k : ScalarKind) (m n : ℕ) → b ≡ true → m ≡ n → scalar_type b k m ≡ scalar k n
scalar_with b k m n p q = ap (λ b. scalar_type b k m) p ∙ ap (scalar_type true k) q

pub known_of : (t : Typed) (sizes : List Size) (base : Option Base) (depth : ℕ) → t.well ≡ true → t.sizes ≡ sizes → t.base ≡ base → t.depth ≡ depth → t ≡ known sizes base depth
known_of t sizes base depth w s b d =
    ap (λ (w : Bool). record { well = w; sizes = t.sizes; base = t.base; depth = t.depth }) w ∙ ap (λ sizes. known sizes t.base t.depth) s ∙ ap (λ base. known sizes base t.depth) b ∙ ap (known sizes base) d

pub known_as : (s s' : List Size) (b b' : Option Base) (m n : ℕ) → s ≡ s' → b ≡ b' → m ≡ n → known s b m ≡ known s' b' n
known_as s s' b b' m n p q r = ap (λ s. known s b m) p ∙ ap (λ b. known s' b m) q ∙ ap (known s' b') r

pub besides_known : (b : Bool) (m : ℕ) (t : Typed) (sizes : List Size) (base : Option Base) (depth : ℕ) → b ≡ true → t ≡ known sizes base depth → besides b m t ≡ known sizes base (max m depth)
besides_known b m t sizes base depth p q = ap (λ b. besides b m t) p ∙ ap (besides true m) q

pub besides_none : (b : Bool) (t : Typed) (sizes : List Size) (base : Option Base) (depth : ℕ) → b ≡ true → t ≡ known sizes base depth → besides b 0 t ≡ known sizes base depth
besides_none b t sizes base depth p q = besides_known b 0 t sizes base depth p q ∙ ap (known sizes base) (let e : max 0 depth ≡ depth = omega arith in e)

-- what is known beside a test is known without it
pub besides_back : (b : Bool) (t : Typed) (sizes : List Size) (base : Option Base) (depth : ℕ) → besides b 0 t ≡ known sizes base depth → t ≡ known sizes base depth
besides_back b t sizes base depth e =
    let d : max 0 t.depth ≡ depth = ap (λ (t : Typed). t.depth) e in
    known_of t sizes base depth (both b t.well (ap (λ (t : Typed). t.well) e)).1 (ap (λ (t : Typed). t.sizes) e) (ap (λ (t : Typed). t.base) e) (omega arith)

-- ---- lists of steps and links

pub steps_last : {A : Type 0} (f : A → Typed → Typed) (steps : List A) (step : A) (t : Typed) → steps_type (map f (steps ++ step ∷ [])) t ≡ f step (steps_type (map f steps) t)
steps_last f [] step t = refl
steps_last f (s ∷ steps) step t = steps_last f steps step (f s t)

pub links_last : {A : Type 0} (f : A → Typed → Typed) (links : List A) (link : A) (t : Typed) → links_type (map f (links ++ link ∷ [])) t ≡ f link (links_type (map f links) t)
links_last f [] link t = refl
links_last f (l ∷ links) link t = links_last f links link (f l t)

pub some_many : {A : Type 0} (x : A) (xs : List A) → nat_lt 0 (length (x ∷ xs)) ≡ true
some_many x xs = lt-ltb _ _ (let l : 0 < length (x ∷ xs) = omega arith in l)

-- ---- forms

module _ (x : Scene) (vs : Variables) where
  -- what is made of the parts
  abbrev pub argument_of : Argument → Passing
  argument_of = argument_fold (type_fold x vs)

  abbrev pub step_of : TypedStep → Typed → Typed
  step_of = step_fold (type_fold x vs)

  abbrev pub operand_of : Operand → OperandType
  operand_of = operand_fold (type_fold x vs)

  abbrev pub link_of : TypedLink → Typed → Typed
  link_of = link_fold (type_fold x vs)

  pub literal_is : (a : Number) → expr_type x vs (roll-TypedExpr (form.Literal a)) ≡ scalar_type (in_range FRACTION (kind_of a) (word_of a)) (kind_of a) 0
  literal_is a = fold-roll-TypedExpr _ _ _ _ _ _ _ _ _ _ _ _ _ _ (form.Literal a)

  pub constant_is : (n : ℕ) → expr_type x vs (roll-TypedExpr (form.Constant n)) ≡ constant_type (slice_get x.constants n)
  constant_is n = fold-roll-TypedExpr _ _ _ _ _ _ _ _ _ _ _ _ _ _ (form.Constant n)

  pub variable_is : (n : ℕ) → expr_type x vs (roll-TypedExpr (form.Variable n)) ≡ variable_type (slice_get vs n)
  variable_is n = fold-roll-TypedExpr _ _ _ _ _ _ _ _ _ _ _ _ _ _ (form.Variable n)

  pub operand_is : (e : TypedExpr) (c : Conversion) → operand_of (operand e c) ≡ record { value = expr_type x vs e; conversion = c }
  operand_is e c = fold-roll-Operand _ _ _ _ _ _ _ _ _ _ _ _ _ _ (record { value = e; conversion = c })

  pub unary_is : (op : UnaryOperator) (k : ScalarKind) (o : Operand) → expr_type x vs (roll-TypedExpr (form.Unary op k o)) ≡ unary_type op k (operand_of o)
  unary_is op k o = fold-roll-TypedExpr _ _ _ _ _ _ _ _ _ _ _ _ _ _ (form.Unary op k o)

  pub chain_is : (o : Operand) (links : List TypedLink) → expr_type x vs (roll-TypedExpr (form.Chain o links)) ≡ chain_type (operand_of o) (map link_of links)
  chain_is o links = fold-roll-TypedExpr _ _ _ _ _ _ _ _ _ _ _ _ _ _ (form.Chain o links)

  pub link_is : (op : LinkOperator) (k : ScalarKind) (left : Conversion) (right : Operand) (t : Typed) → link_of (roll-TypedLink (record { operator = op; kind = k; left = left; right = right })) t ≡ link_type op k (record { value = t; conversion = left }) (operand_of right)
  link_is op k left right t = ap (λ (f : Typed → Typed). f t) (fold-roll-TypedLink _ _ _ _ _ _ _ _ _ _ _ _ _ _ (record { operator = op; kind = k; left = left; right = right }))

  pub logic_is : (l : Logic) (os : List Operand) → expr_type x vs (roll-TypedExpr (form.Logic l os)) ≡ logic_type (map taken (map operand_of os))
  logic_is l os = fold-roll-TypedExpr _ _ _ _ _ _ _ _ _ _ _ _ _ _ (form.Logic l os)

  pub path_is : (root : TypedExpr) (steps : List TypedStep) → expr_type x vs (roll-TypedExpr (form.Path root steps)) ≡ besides (nat_lt 0 (length (map step_of steps))) 0 (steps_type (map step_of steps) (expr_type x vs root))
  path_is root steps = fold-roll-TypedExpr _ _ _ _ _ _ _ _ _ _ _ _ _ _ (form.Path root steps)

  pub index_is : (e : TypedExpr) (node : Node) (t : Typed) → step_of (roll-TypedStep (form.Index e node)) t ≡ besides (is_index (expr_type x vs e) && node_stands x node) (expr_type x vs e).depth (element_type t)
  index_is e node t = ap (λ (f : Typed → Typed). f t) (fold-roll-TypedStep _ _ _ _ _ _ _ _ _ _ _ _ _ _ (form.Index e node))

  pub field_is : (n : ℕ) (t : Typed) → step_of (roll-TypedStep (form.Field n)) t ≡ field_type x t n
  field_is n t = ap (λ (f : Typed → Typed). f t) (fold-roll-TypedStep _ _ _ _ _ _ _ _ _ _ _ _ _ _ (form.Field n))

  pub size_is : (e : TypedExpr) (size : Size) → expr_type x vs (roll-TypedExpr (form.Size e size)) ≡ scalar_type (((expr_type x vs e).well && first_is size (expr_type x vs e).sizes) && size_stands x size) kind.Int (expr_type x vs e).depth
  size_is e size = fold-roll-TypedExpr _ _ _ _ _ _ _ _ _ _ _ _ _ _ (form.Size e size)

  pub call_form_is : (c : TypedCall) → expr_type x vs (roll-TypedExpr (form.Call c)) ≡ call_form_type x vs c
  call_form_is c = fold-roll-TypedExpr _ _ _ _ _ _ _ _ _ _ _ _ _ _ (form.Call c)

  pub call_is : (callee : Callee) (sizes : List Size) (arguments : List Argument) (node : Node) → call_form_type x vs (roll-TypedCall (record { callee = callee; sizes = sizes; arguments = arguments; node = node })) ≡ besides (node_stands x node) 0 (call_type x (signature_in x callee) sizes (map argument_of arguments))
  call_is callee sizes arguments node = fold-roll-TypedCall _ _ _ _ _ _ _ _ _ _ _ _ _ _ (record { callee = callee; sizes = sizes; arguments = arguments; node = node })

  pub input_is : (o : Operand) (node : Node) → argument_of (roll-Argument (form.Input o node)) ≡ In (besides (node_stands x node) 0 (taken (operand_of o)))
  input_is o node = fold-roll-Argument _ _ _ _ _ _ _ _ _ _ _ _ _ _ (form.Input o node)

  pub output_is : (p : TypedPlace) (c : Conversion) (node : Node) → argument_of (roll-Argument (form.Output p c node)) ≡ Out (besides (node_stands x node) 0 (as_converted c (place_type x vs p).type)) (place_type x vs p).is_assignable
  output_is p c node = fold-roll-Argument _ _ _ _ _ _ _ _ _ _ _ _ _ _ (form.Output p c node)

  pub missing_is : argument_of (roll-Argument form.Missing) ≡ Absent
  missing_is = fold-roll-Argument _ _ _ _ _ _ _ _ _ _ _ _ _ _ form.Missing

  pub assignable_is : (p : TypedPlace) → (place_type x vs p).is_assignable ≡ place_assignable (slice_get vs (out-TypedPlace p).variable)
  assignable_is p = ap (λ (t : PlaceType). t.is_assignable) (fold_out-TypedPlace _ _ _ _ _ _ _ _ _ _ _ _ _ _ p)
