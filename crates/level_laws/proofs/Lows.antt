-- Calls go to functions before: expressions.
use Rattle.std.proofs.Common.{◌≡◌, ◌<◌, ◌+◌, ℕ, zero, suc, List, [], ◌∷◌, ◌++◌, map, Option, Some, None, Bool, true, true≢false, ◌||◌, length, slice_get, sym, refl, arith}
use Rattle.ctl_base.specs.declared.kind.ScalarKind.TheVariants as kind
use Rattle.ctl_types.specs.declared.shape.Base.{Base}
use Rattle.ctl_types.specs.declared.shape.LocalShape.{LocalShape}
use Rattle.ctl_types.specs.declared.shape.Shape.{Shape}
use Rattle.ctl_types.specs.declared.shape.Size.{Size}
use Rattle.ctl_types.specs.declared.expression.Callee.{Callee}
use Rattle.ctl_types.specs.declared.expression.Callee.TheVariants as callee
use Rattle.ctl_types.specs.declared.expression.TypedExpr.{TypedExpr}
use Rattle.ctl_types.specs.declared.expression.Operand.{Operand}
use Rattle.ctl_types.specs.declared.expression.TypedCall.{TypedCall}
use Rattle.ctl_types.specs.declared.expression.TypedPlace.{TypedPlace}
use Rattle.ctl_types.specs.declared.expression.Argument.TheOpen as form
use Rattle.ctl_types.specs.declared.expression.Argument.TheOpen.{Argument-F, TypedExpr-F, TypedStep-F}
use Rattle.ctl_types.specs.declared.expression.Argument.TheFolds.{map-Argument, map-TypedExpr, map-TypedStep}
use Rattle.ctl_types.specs.declared.statement.Initialiser.{Initialiser}
use Rattle.ctl_types.specs.declared.statement.Initialiser.TheOpen as initial
use Rattle.ctl_types.specs.Pairs.{Pair, KeepsExprs, KeepsInitialiser, expr_pair, operand_pair, call_pair, place_pair, initialiser_pair}
use Rattle.ctl_types.specs.Typing.{Typed, OperandType, PlaceType, Passing, Scene, Variables, Formal, Signature, all_have, each_has, as_converted, taken, steps_type, links_type, all_scalars, arguments_suit, call_type, signature_in, type_fold, expr_type, operand_type, call_form_type, place_type, type_initialiser}
use Rattle.ctl_types.specs.Scoping.{first_type, left_type}
use Rattle.level_rules.specs.declared.instance.Instance.{Instance}
use Rattle.level_rules.specs.Rules.{Known, Around, Look, still, seen_all, seen_logic, PlaceLook, ArgumentLook, arguments_found, outputs_found, seen_callee, look_argument, look_step, look_form, look_fold, look_expr, look_operand, look_call, look_place, initialiser_step, look_first, look_returned}
use Rattle.level_rules.specs.Listed.{AllBefore}
use Rattle.level_laws.proofs.Falls.{All}
use Rattle.level_laws.proofs.Typed.{both, has_well, scalar_well, converted_well, taken_well, index_well, element_well, field_well, passing_well, suit_well}

pub before_both : (n : ℕ) (xs ys : List Instance) → AllBefore n xs → AllBefore n ys → AllBefore n (xs ++ ys)
before_both n [] ys h k = k
before_both n (x ∷ xs) ys h k = (h.0, before_both n xs ys h.1 k)

get_under : {A : Type 0} (xs : List A) (k : ℕ) (x : A) → slice_get xs k ≡ Some x → k < length xs
get_under [] k x e = absurd (none_some e) where
  none_some : {A : Type 0} {a : A} → ◌≡◌ {A = Option A} None (Some a) → ⊥
  none_some e = cc
get_under (y ∷ xs) zero x e = omega arith
get_under (y ∷ xs) (suc k) x e = let h = get_under xs k x e in omega arith

module _ (known : Known) (sc : Scene) where
  -- what is found calls functions before
  abbrev pub Lows : Look → Type 0
  Lows look = (s : Around) (c : Bool) → AllBefore (length sc.functions) (look s c).found.calls

  abbrev n : ℕ
  n = length sc.functions

  still_low : Lows still
  still_low s c = tt

  pub all_low : (ls : List Look) → All Lows ls → Lows (seen_all ls)
  all_low [] e s c = tt
  all_low (l ∷ ls) e s c = before_both n _ _ (e.0 s c) (all_low ls e.1 s c)

  logic_low : (ls : List Look) → All Lows ls → Lows (seen_logic ls)
  logic_low [] e s c = tt
  logic_low (l ∷ ls) e s c = before_both n _ _ (e.0 s c) (logic_low ls e.1 s (c || (l s c).varies))

  abbrev LowsArgument : ArgumentLook → Type 0
  LowsArgument l = Lows l.look

  arguments_low : (ls : List ArgumentLook) → All LowsArgument ls → (us : List Bool) (k : ℕ) (s : Around) (c : Bool) → AllBefore n (arguments_found us k ls s c).calls
  arguments_low [] e us k s c = tt
  arguments_low (l ∷ ls) e us k s c = before_both n _ _ (before_both n _ [] (e.0 s c) tt) (arguments_low ls e.1 us (k + 1) s c)

  outputs_low : (ls : List ArgumentLook) (f : ℕ → Bool) (k : ℕ) (s : Around) (c : Bool) → AllBefore n (outputs_found f k ls s c).calls
  outputs_low [] f k s c = tt
  outputs_low (l ∷ ls) f k s c = outputs_low ls f (k + 1) s c

  called_low : (c : Callee) (sizes : List Size) (ls : List ArgumentLook) (f : Signature) → signature_in sc c ≡ Some f → All LowsArgument ls → Lows (seen_callee known c sizes ls)
  called_low (callee.Program k) sizes ls f e h s c = before_both n _ _ (before_both n _ _ (arguments_low ls h _ 0 s c) (get_under sc.functions k f e, tt)) (outputs_low ls _ 0 s c)
  called_low (callee.Library id) sizes ls f e h s c = before_both n _ _ (arguments_low ls h [] 0 s c) (outputs_low ls _ 0 s c)

  module _ (vars : Variables) where
    abbrev LE : Look → Typed → Type 0
    LE look t = t.well ≡ true → Lows look

    abbrev LC : Look → Typed → Type 0
    LC look t = t.well ≡ true → Lows look

    abbrev LS : Look → (Typed → Typed) → Type 0
    LS look g = (t : Typed) → (g t).well ≡ true → (t.well ≡ true) × Lows look

    abbrev LL : Look → (Typed → Typed) → Type 0
    LL look g = (t : Typed) → (g t).well ≡ true → (t.well ≡ true) × Lows look

    abbrev LO : Look → OperandType → Type 0
    LO look o = o.value.well ≡ true → Lows look

    abbrev LP : PlaceLook → PlaceType → Type 0
    LP look place = place.type.well ≡ true → Lows look.indices

    abbrev LA : ArgumentLook → Passing → Type 0
    LA look passing = passing_well passing ≡ true → Lows look.look

    steps_low : (ps : List (Pair LS)) (t : Typed) → (steps_type (map (λ (p : Pair LS). p.1) ps) t).well ≡ true → (t.well ≡ true) × All Lows (map (λ (p : Pair LS). p.0) ps)
    steps_low [] t h = (h, tt)
    steps_low (p ∷ ps) t h = let r = steps_low ps (p.1 t) h in let k = p.2 t r.0 in (k.0, (k.1, r.1))

    links_low : (ps : List (Pair LL)) (t : Typed) → (links_type (map (λ (p : Pair LL). p.1) ps) t).well ≡ true → (t.well ≡ true) × All Lows (map (λ (p : Pair LL). p.0) ps)
    links_low [] t h = (h, tt)
    links_low (p ∷ ps) t h = let r = links_low ps (p.1 t) h in let k = p.2 t r.0 in (k.0, (k.1, r.1))

    operands_low : (ps : List (Pair LO)) → all_scalars kind.Bool (map taken (map (λ (p : Pair LO). p.1) ps)) ≡ true → All Lows (map (λ (p : Pair LO). p.0) ps)
    operands_low [] h = tt
    operands_low (p ∷ ps) h = let k = both _ _ h in (p.2 (taken_well p.1 (scalar_well kind.Bool (taken p.1) k.0)), operands_low ps k.1)

    suits_low : (sizes : List Size) (formals : List Formal) (ps : List (Pair LA)) → arguments_suit sizes formals (map (λ (p : Pair LA). p.1) ps) ≡ true → All LowsArgument (map (λ (p : Pair LA). p.0) ps)
    suits_low sizes [] [] h = tt
    suits_low sizes [] (p ∷ ps) h = absurd (true≢false (sym h))
    suits_low sizes (q ∷ formals) [] h = tt
    suits_low sizes (q ∷ formals) (p ∷ ps) h = let k = both _ _ h in (p.2 (suit_well sizes q p.1 (both _ _ k.0).0), suits_low sizes formals ps k.1)

    call_low : (c : Callee) (sizes : List Size) (ps : List (Pair LA)) → (call_type sc (signature_in sc c) sizes (map (λ (p : Pair LA). p.1) ps)).well ≡ true → Lows (seen_callee known c sizes (map (λ (p : Pair LA). p.0) ps))
    call_low c sizes ps h = at (signature_in sc c) refl h where
      at : (f : Option Signature) → signature_in sc c ≡ f → (call_type sc f sizes (map (λ (p : Pair LA). p.1) ps)).well ≡ true → Lows (seen_callee known c sizes (map (λ (p : Pair LA). p.0) ps))
      at None e h = absurd (true≢false (sym h))
      at (Some f) e h = called_low c sizes _ f e (suits_low sizes f.formals ps (both _ _ h).1)

    in_argument : (y : Argument-F (Pair LA) (Pair LE) (Pair LS) (Pair LO) (Pair LC) (Pair LL) (Pair LP)) → LA (look_argument (map-Argument (Pair LA) (Pair LE) (Pair LS) (Pair LO) (Pair LC) (Pair LL) (Pair LP) ArgumentLook Look Look Look Look Look PlaceLook (λ e. e.0) (λ e. e.0) (λ e. e.0) (λ e. e.0) (λ e. e.0) (λ e. e.0) (λ e. e.0) y)) ((type_fold sc vars).argument (map-Argument (Pair LA) (Pair LE) (Pair LS) (Pair LO) (Pair LC) (Pair LL) (Pair LP) Passing Typed (Typed → Typed) OperandType Typed (Typed → Typed) PlaceType (λ e. e.1) (λ e. e.1) (λ e. e.1) (λ e. e.1) (λ e. e.1) (λ e. e.1) (λ e. e.1) y))
    in_argument (form.Input o node) = λ h. o.2 (taken_well o.1 (both _ _ h).1)
    in_argument (form.Output place c node) = λ h. place.2 (converted_well c place.1.type (both _ _ h).1)
    in_argument form.Missing = λ h. still_low

    in_step : (y : TypedStep-F (Pair LA) (Pair LE) (Pair LS) (Pair LO) (Pair LC) (Pair LL) (Pair LP)) → LS (look_step (map-TypedStep (Pair LA) (Pair LE) (Pair LS) (Pair LO) (Pair LC) (Pair LL) (Pair LP) ArgumentLook Look Look Look Look Look PlaceLook (λ e. e.0) (λ e. e.0) (λ e. e.0) (λ e. e.0) (λ e. e.0) (λ e. e.0) (λ e. e.0) y)) ((type_fold sc vars).step (map-TypedStep (Pair LA) (Pair LE) (Pair LS) (Pair LO) (Pair LC) (Pair LL) (Pair LP) Passing Typed (Typed → Typed) OperandType Typed (Typed → Typed) PlaceType (λ e. e.1) (λ e. e.1) (λ e. e.1) (λ e. e.1) (λ e. e.1) (λ e. e.1) (λ e. e.1) y))
    in_step (form.Index e node) = λ t h. let k = both _ _ h in (element_well t.well t.sizes t.base t.depth k.1, e.2 (index_well e.1 (both _ _ k.0).0))
    in_step (form.Field n) = λ t h. (field_well sc t.well t.sizes t.base t.depth n h, still_low)

    in_expr : (y : TypedExpr-F (Pair LA) (Pair LE) (Pair LS) (Pair LO) (Pair LC) (Pair LL) (Pair LP)) → LE (look_form known (map-TypedExpr (Pair LA) (Pair LE) (Pair LS) (Pair LO) (Pair LC) (Pair LL) (Pair LP) ArgumentLook Look Look Look Look Look PlaceLook (λ e. e.0) (λ e. e.0) (λ e. e.0) (λ e. e.0) (λ e. e.0) (λ e. e.0) (λ e. e.0) y)) ((type_fold sc vars).expr (map-TypedExpr (Pair LA) (Pair LE) (Pair LS) (Pair LO) (Pair LC) (Pair LL) (Pair LP) Passing Typed (Typed → Typed) OperandType Typed (Typed → Typed) PlaceType (λ e. e.1) (λ e. e.1) (λ e. e.1) (λ e. e.1) (λ e. e.1) (λ e. e.1) (λ e. e.1) y))
    in_expr (form.Literal x) = λ h. still_low
    in_expr (form.Constant n) = λ h. still_low
    in_expr (form.Variable x) = λ h s c. tt
    in_expr (form.Unary op k o) = λ h. o.2 (taken_well o.1 (scalar_well k (taken o.1) (both _ _ h).1))
    in_expr (form.Chain o links) = λ h. let k = links_low links o.1.value (both _ _ h).1 in all_low (o.0 ∷ map (λ (p : Pair LL). p.0) links) (o.2 k.0, k.1)
    in_expr (form.Logic l os) = λ h. logic_low _ (operands_low os (both _ _ h).1)
    in_expr (form.Path e steps) = λ h. let k = steps_low steps e.1 (both _ _ h).1 in all_low (e.0 ∷ map (λ (p : Pair LS). p.0) steps) (e.2 k.0, k.1)
    in_expr (form.Size e size) = λ h. e.2 (both _ _ (both _ _ h).0).0
    in_expr (form.Call c) = c.2

    in_exprs : KeepsExprs LA LE LS LO LC LL LP (look_fold known) (type_fold sc vars)
    in_exprs = record {
      argument = in_argument;
      expr = in_expr;
      step = in_step;
      operand = λ o h. o.value.2 h;
      call = λ c h. call_low c.callee c.sizes c.arguments (both _ _ h).1;
      link = λ l t h. let k = both _ _ (both _ _ h).1 in (converted_well l.left t (scalar_well l.kind (as_converted l.left t) k.0), l.right.2 (taken_well l.right.1 (scalar_well l.kind (taken l.right.1) k.1)));
      place = λ p h. all_low _ (steps_low p.steps _ h).1;
    }

    pub expr_low : (e : TypedExpr) → (expr_type sc vars e).well ≡ true → Lows (look_expr known e)
    expr_low e = expr_pair LA LE LS LO LC LL LP (look_fold known) (type_fold sc vars) in_exprs e

    pub operand_low : (e : Operand) → (operand_type sc vars e).well ≡ true → Lows (look_operand known e)
    operand_low e h = operand_pair LA LE LS LO LC LL LP (look_fold known) (type_fold sc vars) in_exprs e (taken_well _ h)

    pub call_form_low : (e : TypedCall) → (call_form_type sc vars e).well ≡ true → Lows (look_call known e)
    call_form_low e = call_pair LA LE LS LO LC LL LP (look_fold known) (type_fold sc vars) in_exprs e

    pub place_low : (e : TypedPlace) → (place_type sc vars e).type.well ≡ true → Lows (look_place known e).indices
    place_low e = place_pair LA LE LS LO LC LL LP (look_fold known) (type_fold sc vars) in_exprs e

    -- ---- initialisers

    abbrev LI : Look → Typed → Type 0
    LI look t = t.well ≡ true → Lows look

    haves_low : (ps : List (Pair LI)) (sizes : List Size) (base : Option Base) → all_have (map (λ (p : Pair LI). p.1) ps) sizes base ≡ true → All Lows (map (λ (p : Pair LI). p.0) ps)
    haves_low [] sizes base h = tt
    haves_low (p ∷ ps) sizes base h = let k = both _ _ h in (p.2 (has_well p.1 sizes base k.0), haves_low ps sizes base k.1)

    fields_low : (ps : List (Pair LI)) (shapes : List Shape) → each_has (map (λ (p : Pair LI). p.1) ps) shapes ≡ true → All Lows (map (λ (p : Pair LI). p.0) ps)
    fields_low [] shapes h = tt
    fields_low (p ∷ ps) [] h = absurd (true≢false (sym h))
    fields_low (p ∷ ps) (shape ∷ shapes) h = let k = both _ _ h in (p.2 (has_well p.1 _ _ k.0), fields_low ps shapes k.1)

    in_initialisers : KeepsInitialiser LI (initialiser_step known) (type_initialiser sc vars)
    in_initialisers (initial.Value e) = operand_low e
    in_initialisers (initial.Elements shape is) = λ h. all_low _ (haves_low is _ _ (both _ _ (both _ _ h).1).1)
    in_initialisers (initial.Fields n is) = λ h. all_low _ (fields_low is _ (both _ _ h).1)

    pub first_low : (result : Typed) (shape : LocalShape) (i : Option Initialiser) → (first_type sc result vars shape i).well ≡ true → Lows (look_first known i)
    first_low result shape None h = still_low
    first_low result shape (Some i) h = initialiser_pair LI (initialiser_step known) (type_initialiser sc vars) in_initialisers i h

    pub returned_low : (result : Typed) (o : Option Operand) → (left_type sc result vars o).well ≡ true → Lows (look_returned known o)
    returned_low result None h = still_low
    returned_low result (Some o) h = operand_low o (both _ _ h).1
