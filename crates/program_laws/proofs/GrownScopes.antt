-- Statements and functions that are well typed stay so where there is a struct or a constant more.
use Rattle.std.proofs.Common.{◌≡◌, ℕ, suc, ◌+◌, List, [], ◌∷◌, ◌++◌, map, length, Option, Some, None, is_some, Bool, true, false, ◌&&◌, ◌||◌, ◌==◌, not, nat_lt, nat_le, refl, sym, ap, ◌∙◌}
use Rattle.std.specs.Prelude.{max}
use Rattle.ctl_base.specs.declared.kind.ScalarKind.TheVariants as kind
use Rattle.ctl_base.specs.declared.limits.TheConstants.{SCALARS}
use Rattle.ctl_types.specs.declared.shape.Shape.{Shape}
use Rattle.ctl_types.specs.declared.shape.LocalShape.{LocalShape}
use Rattle.ctl_types.specs.declared.value.Value.{Value}
use Rattle.ctl_types.specs.declared.expression.Operand.{Operand}
use Rattle.ctl_types.specs.declared.statement.Initialiser.{Initialiser}
use Rattle.ctl_types.specs.declared.statement.Declaration.{Declaration}
use Rattle.ctl_types.specs.declared.statement.Assignment.{Assignment}
use Rattle.ctl_types.specs.declared.statement.ForStart.{ForStart}
use Rattle.ctl_types.specs.declared.statement.ForStart.TheVariants as start
use Rattle.ctl_types.specs.declared.statement.PrintItem.{PrintItem}
use Rattle.ctl_types.specs.declared.statement.PrintItem.TheVariants as item
use Rattle.ctl_types.specs.declared.statement.TypedStatement.{TypedStatement, out-TypedStatement}
use Rattle.ctl_types.specs.declared.statement.TypedStatement.TheOpen.{Empty, Block, Declare, Assign, Call, If, While, For, Return, Print}
use Rattle.ctl_types.specs.declared.program.Struct.{Struct as StructForm}
use Rattle.ctl_types.specs.declared.program.Parameter.{Parameter}
use Rattle.ctl_types.specs.declared.program.Function.{Function}
use Rattle.ctl_types.specs.declared.program.Constant.{Constant}
use Rattle.ctl_types.specs.Shapes.{extents, base_of, open_count, local, whole, whole_of}
use Rattle.ctl_types.specs.Values.{sizes_at, sizes_fit, scalars}
use Rattle.ctl_types.specs.Typing.{Typed, has, besides, is_scalar, are_stated, shape_stands, node_stands, Variables, Scene, Signature, formals_from, signature_of, result_type, expr_type, operand_type, PlaceType, place_type}
use Rattle.ctl_types.specs.Scoping.{Scope, Scoped, Scoping, simple, asked, own_scope, scope_all, scope_arms, tested, looped, may_declare, begins_well, declared_in, first_type, scope_declaration, assignment_type, scope_assignment, scope_start, item_type, scope_items, left_type, scope_return, scope_arm, scope_step, scope_statement, default_stands, parameters_stand, result_stands, is_void, inside, is_block, body_scope, function_signature, function_stands, with_functions, functions_stand, constant_stands, constants_stand}
use Rattle.ctl_types.specs.Pairs.{Pair, KeepsStatement, KeepsArm, statement_pair}
use Rattle.program_laws.proofs.Verdicts.{both, and_true}
use Rattle.program_laws.proofs.Grown.{Known, grown, Grown, shape_known, shape_grown, fits_grown}
use Rattle.program_laws.proofs.GrownTypes.{has_well, expr_grown, operand_grown, call_grown, place_grown, initialiser_grown}

-- what is well typed does the same
abbrev pub ScopeAlike : Scoping → Scoping → Type 0
ScopeAlike a b = (scope : Scope) → (a scope).well ≡ true → b scope ≡ a scope

asked_alike : (t : Bool) (a b : Scoping) → ScopeAlike a b → ScopeAlike (asked t a) (asked t b)
asked_alike t a b h scope w = ap (λ (x : Scoped). record { well = t && x.well; after = x.after; returns = x.returns; depth = x.depth }) (h scope (both t _ w).1)

own_alike : (a b : Scoping) → ScopeAlike a b → ScopeAlike (own_scope a) (own_scope b)
own_alike a b h scope w = ap (λ (x : Scoped). record { well = x.well; after = record { variables = scope.variables; used = x.after.used }; returns = x.returns; depth = x.depth }) (h scope w)

looped_alike : (a b : Scoping) → ScopeAlike a b → ScopeAlike (looped a) (looped b)
looped_alike a b h scope w = ap (λ (x : Scoped). record { well = x.well; after = x.after; returns = false; depth = x.depth }) (h scope w)

tested_alike : (t u : Typed) (stands : Bool) (a b : Scoping) (scope : Scope) → (t.well ≡ true → u ≡ t) → ScopeAlike a b → (tested t stands a scope).well ≡ true → tested u stands b scope ≡ tested t stands a scope
tested_alike t u stands a b scope e h w =
    let c = both (is_scalar kind.Bool t && stands) _ w in
    let d = both (is_scalar kind.Bool t) _ c.0 in
    ap (λ (t : Typed). tested t stands b scope) (e (has_well t _ _ d.0)) ∙ ap (λ (x : Scoped). record { well = (is_scalar kind.Bool t && stands) && x.well; after = x.after; returns = x.returns; depth = max t.depth x.depth }) (h scope c.1)

abbrev one_then : Scoped → Scoped → Scoped
one_then x y = record { well = x.well && y.well; after = y.after; returns = x.returns || y.returns; depth = max x.depth y.depth }

all_alike : (ss : List (Pair ScopeAlike)) → ScopeAlike (scope_all (map (λ (e : Pair ScopeAlike). e.0) ss)) (scope_all (map (λ (e : Pair ScopeAlike). e.1) ss))
all_alike [] scope w = refl
all_alike (s ∷ ss) scope w =
    let b = both (s.0 scope).well _ w in
    ap (λ (x : Scoped). one_then x (scope_all (map (λ (e : Pair ScopeAlike). e.1) ss) x.after)) (s.2 scope b.0) ∙ ap (λ (y : Scoped). one_then (s.0 scope) y) (all_alike ss (s.0 scope).after b.1)

abbrev one_or : Scoped → Scoped → Scoped
one_or x y = record { well = x.well && y.well; after = y.after; returns = x.returns && y.returns; depth = max x.depth y.depth }

arms_alike : (arms : List (Pair ScopeAlike)) (a b : Scoping) → ScopeAlike a b → ScopeAlike (scope_arms (map (λ (e : Pair ScopeAlike). e.0) arms) a) (scope_arms (map (λ (e : Pair ScopeAlike). e.1) arms) b)
arms_alike [] a b h scope w = h scope w
arms_alike (s ∷ arms) a b h scope w =
    let c = both (s.0 scope).well _ w in
    ap (λ (x : Scoped). one_or x (scope_arms (map (λ (e : Pair ScopeAlike). e.1) arms) b x.after)) (s.2 scope c.0) ∙ ap (λ (y : Scoped). one_or (s.0 scope) y) (arms_alike arms a b h (s.0 scope).after c.1)

long : (arms : List (Pair ScopeAlike)) → length (map (λ (e : Pair ScopeAlike). e.1) arms) ≡ length (map (λ (e : Pair ScopeAlike). e.0) arms)
long [] = refl
long (a ∷ arms) = ap suc (long arms)

if_alike : (arms : List (Pair ScopeAlike)) (a b : Scoping) → ScopeAlike a b → ScopeAlike (asked (nat_lt 0 (length (map (λ (e : Pair ScopeAlike). e.0) arms))) (scope_arms (map (λ (e : Pair ScopeAlike). e.0) arms) a)) (asked (nat_lt 0 (length (map (λ (e : Pair ScopeAlike). e.1) arms))) (scope_arms (map (λ (e : Pair ScopeAlike). e.1) arms) b))
if_alike arms a b h scope w =
    let t = nat_lt 0 (length (map (λ (e : Pair ScopeAlike). e.0) arms)) in
    ap (λ n. asked (nat_lt 0 n) (scope_arms (map (λ (e : Pair ScopeAlike). e.1) arms) b) scope) (long arms) ∙ asked_alike t (scope_arms (map (λ (e : Pair ScopeAlike). e.0) arms) a) (scope_arms (map (λ (e : Pair ScopeAlike). e.1) arms) b) (arms_alike arms a b h) scope w

module _ (structs : List StructForm) (counts : List ℕ) (constants : List Shape) where
  abbrev more : Scene → Scene
  more s = grown structs counts constants s

  abbrev More : Scene → Type 0
  More s = Grown structs counts constants s

  shape_alike : (s : Scene) (g : More s) (l : LocalShape) → shape_stands s l ≡ true → shape_stands (more s) l ≡ shape_stands s l
  shape_alike s g l h = shape_grown structs counts constants s g l h ∙ sym h

  module _ (s : Scene) (g : More s) (result : Typed) where
    first_alike : (scope : Variables) (shape : LocalShape) (o : Option Initialiser) → (first_type s result scope shape o).well ≡ true → first_type (more s) result scope shape o ≡ first_type s result scope shape o
    first_alike scope shape None w = refl
    first_alike scope shape (Some i) w = initialiser_grown structs counts constants s g scope i w

    abbrev declaration_of : Declaration → Scope → Bool → Typed → Scoped
    declaration_of d scope stands t = record { well = (may_declare scope d.variable && begins_well d) && (stands && has t d.shape.sizes (Some d.shape.base)); after = declared_in scope d.variable (record { shape = d.shape; is_assignable = not d.is_constant }); returns = false; depth = t.depth }

    declaration_alike : (d : Declaration) → ScopeAlike (scope_declaration s result d) (scope_declaration (more s) result d)
    declaration_alike d scope w =
        let a = both (may_declare scope d.variable && begins_well d) _ w in
        let b = both (shape_stands s d.shape) _ a.1 in
        let t = first_type s result scope.variables d.shape d.first in
        ap (λ stands. declaration_of d scope stands (first_type (more s) result scope.variables d.shape d.first)) (shape_alike s g d.shape b.0) ∙ ap (λ t. declaration_of d scope (shape_stands s d.shape) t) (first_alike scope.variables d.shape d.first (has_well t _ _ b.1))

    assignment_alike : (a : Assignment) → ScopeAlike (scope_assignment s result a) (scope_assignment (more s) result a)
    assignment_alike a scope w =
        let p = place_type s scope.variables a.place in
        let t = operand_type s scope.variables a.value in
        let b = both (p.is_assignable && p.type.well) _ w in
        let c = both (has t p.type.sizes p.type.base) _ b.1 in
        let made : PlaceType → Typed → Scoped = λ p t. simple (assignment_type s result p t).well (assignment_type s result p t).depth scope in
        ap (λ p. made p (operand_type (more s) scope.variables a.value)) (place_grown structs counts constants s g scope.variables a.place (both p.is_assignable _ b.0).1) ∙ ap (λ t. made p t) (operand_grown structs counts constants s g scope.variables a.value (has_well t _ _ c.0))

    start_alike : (i : ForStart) → ScopeAlike (scope_start s result i) (scope_start (more s) result i)
    start_alike (start.Declare d) = asked_alike (not d.is_constant) (scope_declaration s result d) (scope_declaration (more s) result d) (declaration_alike d)
    start_alike (start.Assign a) = assignment_alike a

    item_alike : (scope : Variables) (i : PrintItem) → (item_type s result scope i).well ≡ true → item_type (more s) result scope i ≡ item_type s result scope i
    item_alike scope (item.Text text) w = refl
    item_alike scope (item.Value e) w = ap (λ (t : Typed). record { well = t.well && is_some t.base; sizes = []; base = None; depth = t.depth }) (expr_grown structs counts constants s g scope e (both (expr_type s scope e).well _ w).0)

    items_alike : (items : List PrintItem) → ScopeAlike (scope_items s result items) (scope_items (more s) result items)
    items_alike [] scope w = refl
    items_alike (i ∷ items) scope w =
        let b = both (item_type s result scope.variables i).well _ w in
        let made : Typed → Scoped → Scoped = λ t x. simple (t.well && x.well) (max t.depth x.depth) scope in
        ap (λ t. made t (scope_items (more s) result items scope)) (item_alike scope.variables i b.0) ∙ ap (λ x. made (item_type s result scope.variables i) x) (items_alike items scope b.1)

    left_alike : (scope : Variables) (o : Option Operand) → (left_type s result scope o).well ≡ true → left_type (more s) result scope o ≡ left_type s result scope o
    left_alike scope None w = refl
    left_alike scope (Some o) w = ap (λ (t : Typed). besides (is_some t.base) 0 t) (operand_grown structs counts constants s g scope o (both (is_some (operand_type s scope o).base) _ w).1)

    return_alike : (o : Option Operand) → ScopeAlike (scope_return s result o) (scope_return (more s) result o)
    return_alike o scope w = ap (λ (t : Typed). record { well = has t result.sizes result.base; after = scope; returns = true; depth = t.depth }) (left_alike scope.variables o (has_well (left_type s result scope.variables o) _ _ w))

    -- a test, and what it decides
    test_alike : (o : Operand) (stands : Bool) (a b : Scoping) → ScopeAlike a b → ScopeAlike (λ scope. tested (operand_type s scope.variables o) stands a scope) (λ scope. tested (operand_type (more s) scope.variables o) stands b scope)
    test_alike o stands a b h scope w = tested_alike (operand_type s scope.variables o) (operand_type (more s) scope.variables o) stands a b scope (operand_grown structs counts constants s g scope.variables o) h w

    loop_alike : (o : Operand) (stands : Bool) (a b : Scoping) → ScopeAlike a b → ScopeAlike (λ scope. looped (tested (operand_type s scope.variables o) stands a) scope) (λ scope. looped (tested (operand_type (more s) scope.variables o) stands b) scope)
    loop_alike o stands a b h scope w = ap (λ (x : Scoped). record { well = x.well; after = x.after; returns = false; depth = x.depth }) (test_alike o stands a b h scope w)

    arm_case : KeepsArm ScopeAlike ScopeAlike (scope_arm s result) (scope_arm (more s) result)
    arm_case a = test_alike a.test true (own_scope a.body.0) (own_scope a.body.1) (own_alike a.body.0 a.body.1 a.body.2)

    statement_case : KeepsStatement ScopeAlike ScopeAlike (scope_step s result) (scope_step (more s) result)
    statement_case Empty = λ scope w. refl
    statement_case (Block ss) = λ scope w. own_alike (scope_all (map (λ (e : Pair ScopeAlike). e.0) ss)) (scope_all (map (λ (e : Pair ScopeAlike). e.1) ss)) (all_alike ss) scope w
    statement_case (Declare d) = λ scope w. declaration_alike d scope w
    statement_case (Assign a) = λ scope w. assignment_alike a scope w
    statement_case (Call c) = λ scope w. ap (λ (t : Typed). simple t.well t.depth scope) (call_grown structs counts constants s g scope.variables c w)
    statement_case (If arms None) = λ scope w. if_alike arms (simple true 0) (simple true 0) (λ scope w. refl) scope w
    statement_case (If arms (Some b)) = λ scope w. if_alike arms (own_scope b.0) (own_scope b.1) (own_alike b.0 b.1 b.2) scope w
    statement_case (While test body node) = λ scope w. loop_alike test (node_stands s node) (own_scope body.0) (own_scope body.1) (own_alike body.0 body.1 body.2) scope w
    statement_case (For first test next body node) = λ scope w.
        let inner : List (Pair ScopeAlike) = (own_scope body.0, own_scope body.1, own_alike body.0 body.1 body.2) ∷ (scope_assignment s result next, scope_assignment (more s) result next, assignment_alike next) ∷ [] in
        let turn : Scoping × Scoping = (scope_all (map (λ (e : Pair ScopeAlike). e.0) inner), scope_all (map (λ (e : Pair ScopeAlike). e.1) inner)) in
        let all : List (Pair ScopeAlike) = (scope_start s result first, scope_start (more s) result first, start_alike first) ∷ (λ scope. looped (tested (operand_type s scope.variables test) (node_stands s node) turn.0) scope, λ scope. looped (tested (operand_type (more s) scope.variables test) (node_stands s node) turn.1) scope, loop_alike test (node_stands s node) turn.0 turn.1 (all_alike inner)) ∷ [] in
        own_alike (scope_all (map (λ (e : Pair ScopeAlike). e.0) all)) (scope_all (map (λ (e : Pair ScopeAlike). e.1) all)) (all_alike all) scope w
    statement_case (Return o) = λ scope w. return_alike o scope w
    statement_case (Print items) = λ scope w. asked_alike (nat_lt 0 (length items)) (scope_items s result items) (scope_items (more s) result items) (items_alike items) scope w

    pub statement_grown : (e : TypedStatement) → ScopeAlike (scope_statement s result e) (scope_statement (more s) result e)
    statement_grown e = statement_pair ScopeAlike ScopeAlike (scope_step s result) (scope_arm s result) (scope_step (more s) result) (scope_arm (more s) result) statement_case arm_case e

  -- ---- functions

  default_grown : (s : Scene) (g : More s) (shape : Shape) (o : Option Value) → Known s.structs (base_of shape) → default_stands s.structs shape o ≡ true → default_stands structs shape o ≡ true
  default_grown s g shape None k h = refl
  default_grown s g shape (Some v) k h =
      let b = both (sizes_fit (sizes_at (extents shape) (Some v)) && nat_le (scalars v) SCALARS) _ h in
      and_true (sizes_fit (sizes_at (extents shape) (Some v)) && nat_le (scalars v) SCALARS) _ b.0 (fits_grown structs counts constants s g v (whole (sizes_at (extents shape) (Some v)) (local 0 shape).sizes (Some (base_of shape))).sizes (Some (base_of shape)) k b.1)

  parameters_grown : (s : Scene) (g : More s) (k : ℕ) (ps : List Parameter) → parameters_stand s (formals_from k ps) ps ≡ true → parameters_stand (more s) (formals_from k ps) ps ≡ true
  parameters_grown s g k [] h = refl
  parameters_grown s g k (p ∷ ps) h =
      let b = both ((shape_stands s (local k p.shape) && default_stands s.structs p.shape p.default) && node_stands s p.node) _ h in
      let c = both (shape_stands s (local k p.shape) && default_stands s.structs p.shape p.default) _ b.0 in
      let d = both (shape_stands s (local k p.shape)) _ c.0 in
      and_true ((shape_stands (more s) (local k p.shape) && default_stands structs p.shape p.default) && node_stands s p.node) _
      (and_true (shape_stands (more s) (local k p.shape) && default_stands structs p.shape p.default) _ (and_true (shape_stands (more s) (local k p.shape)) _ (shape_grown structs counts constants s g (local k p.shape) d.0) (default_grown s g p.shape p.default (shape_known structs counts constants s (local k p.shape) d.0) d.1)) c.1)
      (parameters_grown s g (k + open_count (extents p.shape)) ps b.1)

  result_grown : (s : Scene) (g : More s) (o : Option Shape) → result_stands s o ≡ true → result_stands (more s) o ≡ true
  result_grown s g None h = refl
  result_grown s g (Some m) h =
      let b = both (are_stated (local 0 m).sizes) _ h in
      and_true (are_stated (local 0 m).sizes) _ b.0 (shape_grown structs counts constants s g (local 0 m) b.1)

  -- what is asked of the body of a function
  abbrev body_stands : Function → Scoped → Bool
  body_stands f x = ((x.well && is_block (out-TypedStatement f.body)) && length x.after.used == f.variables) && (is_void f.result || x.returns)

  body_grown : (s : Scene) (g : More s) (f : Function) → body_stands f (body_scope s f) ≡ true → body_scope (more s) f ≡ body_scope s f
  body_grown s g f h =
      let b = both (((body_scope s f).well && is_block (out-TypedStatement f.body)) && length (body_scope s f).after.used == f.variables) _ h in
      let c = both ((body_scope s f).well && is_block (out-TypedStatement f.body)) _ b.0 in
      statement_grown (inside s f) g (result_type f.result) f.body _ (both (body_scope s f).well _ c.0).0

  function_grown : (s : Scene) (g : More s) (f : Function) → function_stands s f ≡ true → (function_stands (more s) f ≡ true) × (function_signature (more s) f ≡ function_signature s f)
  function_grown s g f h =
      let b = both ((node_stands s f.node && parameters_stand (inside s f) (signature_of 0 f).formals f.parameters) && result_stands s f.result) _ h in
      let c = both (node_stands s f.node && parameters_stand (inside s f) (signature_of 0 f).formals f.parameters) _ b.0 in
      let d = both (node_stands s f.node) _ c.0 in
      let e = body_grown s g f b.1 in
      let head = and_true (node_stands s f.node && parameters_stand (inside (more s) f) (signature_of 0 f).formals f.parameters) _ (and_true (node_stands s f.node) _ d.0 (parameters_grown (inside s f) g 0 f.parameters d.1)) (result_grown s g f.result c.1) in
      (and_true ((node_stands s f.node && parameters_stand (inside (more s) f) (signature_of 0 f).formals f.parameters) && result_stands (more s) f.result) _ head (ap (λ x. body_stands f x) e ∙ b.1), ap (λ (x : Scoped). signature_of (suc x.depth) f) e)

  pub functions_grown : (s : Scene) (g : More s) (fs : List Function) → functions_stand s fs ≡ true → functions_stand (more s) fs ≡ true
  functions_grown s g [] h = refl
  functions_grown s g (f ∷ fs) h =
      let b = both (function_stands s f) _ h in
      let k = function_grown s g f b.0 in
      and_true (function_stands (more s) f) _ k.0 (ap (λ (q : Signature). functions_stand (with_functions (more s) (s.functions ++ q ∷ [])) fs) k.1 ∙ functions_grown (with_functions s (s.functions ++ function_signature s f ∷ [])) g fs b.1)

  -- ---- constants

  pub constant_grown : (s : Scene) (g : More s) (c : Constant) → constant_stands s c ≡ true → constant_stands (more s) c ≡ true
  constant_grown s g c h =
      let b = both (result_stands s (Some c.shape)) _ h in
      let d = both (are_stated (local 0 c.shape).sizes) _ b.0 in
      and_true (result_stands (more s) (Some c.shape)) _ (result_grown s g (Some c.shape) b.0) (fits_grown structs counts constants s g c.value (whole_of c.shape).sizes (whole_of c.shape).base (shape_known structs counts constants s (local 0 c.shape) d.1) b.1)

  pub constants_grown : (s : Scene) (g : More s) (cs : List Constant) → constants_stand s cs ≡ true → constants_stand (more s) cs ≡ true
  constants_grown s g [] h = refl
  constants_grown s g (c ∷ cs) h =
      let b = both (constant_stands s c) _ h in
      and_true (constant_stands (more s) c) _ (constant_grown s g c b.0) (constants_grown s g cs b.1)
