-- A function that the checker accepts stands.
use Rattle.std.proofs.Common.{◌≡◌, ℕ, zero, suc, ◌+◌, ◌-◌, ◌≤◌, ◌<◌, List, [], ◌∷◌, ◌++◌, map, replicate, length, Option, Some, None, is_some, Result, Ok, Err, Bool, true, false, not, ◌&&◌, ◌||◌, ◌==◌, if◌then◌else◌, nat_lt, refl, sym, ap, subst, ◌∙◌, arith, slice_get, lt-ltb, eq-eqb, length-append}
use Rattle.std.specs.Prelude.{get_or}
use Rattle.std.proofs.lemmas.List.Elements.{All-head}
use Rattle.std.proofs.lemmas.List.Sums.{sum_by-cons}
use Rattle.ctl_base.specs.declared.limits.TheConstants.{CALL_DEPTH}
use Rattle.ctl_tree.specs.OwnTokens.{Tokens, Below, shape_tokens, all_tokens, some_tokens, array_size_tokens, initialiser_tokens, sized_shape_tokens, parameter_tokens, block_tokens, function_tokens}
use Rattle.ctl_tree.specs.declared.declaration.Initialiser.{Initialiser}
use Rattle.ctl_tree.specs.declared.definition.SizedShape.{SizedShape}
use Rattle.ctl_tree.specs.declared.definition.Parameter.{Parameter as WrittenParameter}
use Rattle.ctl_tree.specs.declared.definition.Function.{Function as Written}
use Rattle.ctl_types.specs.declared.shape.Shape.{Shape}
use Rattle.ctl_types.specs.declared.value.Value.{Value}
use Rattle.ctl_types.specs.declared.statement.TypedStatement.{out-TypedStatement}
use Rattle.ctl_types.specs.declared.program.Parameter.{Parameter}
use Rattle.ctl_types.specs.declared.program.Function.{Function}
use Rattle.ctl_types.specs.Shapes.{base_of, extents, local, open_count, open_sizes_of, whole, struct_counts}
use Rattle.ctl_types.specs.Typing.{Scene, Variable, Variables, Formal, node_stands, shape_stands, formals_from, result_type, signature_of}
use Rattle.ctl_types.specs.Values.{Fits}
use Rattle.ctl_types.specs.Laws.{WordsAreCounted}
use Rattle.ctl_types.specs.Definitions.{Defined}
use Rattle.ctl_types.specs.Cost.{uncounted}
use Rattle.ctl_types.specs.Scoping.{Scope, Scoped, IsDefined, tokens_of, structs_stand, default_stands, parameters_stand, parameter_variables, first_scope, result_stands, is_void, is_block, inside, body_scope, scope_statement, function_signature, function_stands, scene_of}
use Rattle.ctl_types.specs.Scoping as definitions
use Rattle.ctl_laws.specs.Sound.{InitialisersGiveWell}
use Rattle.ctl_scope.specs.declared.meaning.Meaning.{Meaning}
use Rattle.ctl_scope.specs.declared.block.Block.{Block as ScopeBlock}
use Rattle.ctl_scope.specs.declared.around.Around.{Around}
use Rattle.ctl_scope.specs.declared.around.Around.TheVariants.{Head, Body}
use Rattle.ctl_scope.specs.Scope.{ScopeForm, IsScope}
use Rattle.ctl_scope.specs.Changes.{whole_name, is_defined, is_declared, with_name, in_head, in_default, in_body, after_function, with_function}
use Rattle.ctl_scope.specs.Beside.{Beside, too_deep, scene}
use Rattle.ctl_scope.specs.Laws.{FoundIsThere, ScopesStay, BesideGrow}
use Rattle.ctl_check_rules.specs.Faults.{Verdict, ◌>>=◌, rule_at, node_of}
use Rattle.ctl_check_laws.specs.Accepted.{variables_stand}
use Rattle.ctl_check_init.specs.declared.begun.Begun.{Begun}
use Rattle.ctl_check_init.specs.Initialisers.{begun, begun_rule}
use Rattle.initialiser_laws.specs.Laws.{IsInitialiser, InitialisersAreWell}
use Rattle.ctl_check_statement.specs.declared.stated.Stated.{Stated}
use Rattle.ctl_check_statement.specs.Leading.{Led}
use Rattle.ctl_check_statement.specs.Declarations.{shape_checked}
use Rattle.ctl_check_statement.specs.Returning.{block_surely_returns}
use Rattle.ctl_check_statement.specs.Statements.{block_stated}
use Rattle.definition_laws.proofs.Standing.{Standing}
use Rattle.definition_laws.proofs.BlockLaw.{BlockIsWell, BlocksAreWell}
use Rattle.ctl_check_function.specs.declared.functions.Made.{Made}
use Rattle.ctl_check_function.specs.Names.{new_rule, begun_new}
use Rattle.ctl_check_function.specs.Values.{first_value}
use Rattle.ctl_check_function.specs.Parameters.{plain_rule, plain_new, parameter_form, parameter_seen, default_valued, default_checked, parameter_with, parameter_checked, next_parameter, parameters_checked}
use Rattle.ctl_check_function.specs.Functions.{given_checked, result_checked, function_rule, function_made, function_named, function_stated, function_headed, function_begun, function_checked}
use Rattle.ctl_check_function.specs.Laws.{Resting, AreTokens, FunctionFits, FunctionsFit}
use Rattle.definition_laws.proofs.Verdicts.{Good, good_then, good_any, good_more, good_all, good_at, good_unless, good_of, both, and_true, below_left, below_right, below_tail}
use Rattle.definition_laws.proofs.Shapes.{ShapeWell, shape_good, well_stands, stated_stands}
use Rattle.definition_laws.proofs.Keeping.{Keeps, block_keeps, block_made_block}
use Rattle.definition_laws.proofs.Heads.{rule_good}
use Rattle.definition_laws.proofs.Values.{wanted, new_good, value_good}
use Rattle.definition_laws.proofs.Defaults.{default_right}

-- ---- open sizes

abbrev shapes_in : List Parameter → List Shape
shapes_in qs = map (λ (q : Parameter). q.shape) qs

abbrev open_in : List Parameter → ℕ
open_in qs = open_sizes_of (shapes_in qs)

abbrev own_open : Parameter → ℕ
own_open q = open_count (extents q.shape)

open_cons : (q : Parameter) (qs : List Parameter) → open_in (q ∷ qs) ≡ own_open q + open_in qs
open_cons q qs = sum_by-cons (λ (s : Shape). open_count (extents s)) q.shape (shapes_in qs)

open_more : (qs : List Parameter) (q : Parameter) → open_in (qs ++ q ∷ []) ≡ open_in qs + own_open q
open_more [] q = let e = open_cons q [] in let z : open_in [] ≡ 0 = refl in omega arith
open_more (p ∷ qs) q = let e = open_cons p (qs ++ q ∷ []) in let f = open_cons p qs in let g = open_more qs q in omega arith

-- ---- parameters that stand

pub record ParameterWell (d : Defined) (q : Parameter) : Type 0 where
  pub shape : ShapeWell d true q.shape
  pub default : default_stands d.structs q.shape q.default ≡ true
  pub node : node_stands (scene_of d) q.node ≡ true

abbrev AllWell : Defined → List Parameter → Type 0
AllWell d [] = Unit {0}
AllWell d (q ∷ qs) = ParameterWell d q × AllWell d qs

more_well : (d : Defined) (qs : List Parameter) (q : Parameter) → AllWell d qs → ParameterWell d q → AllWell d (qs ++ q ∷ [])
more_well d [] q h w = (w, tt)
more_well d (p ∷ qs) q h w = (h.0, more_well d qs q h.1 w)

-- the scene inside a function, with so many open sizes
abbrev scene_in : Defined → ℕ → ℕ → Scene
scene_in d deep opens = record (scene_of d) { too_deep = deep; opens = opens }

parameters_right : (d : Defined) (deep opens k : ℕ) (qs : List Parameter) → AllWell d qs → k + open_in qs ≤ opens → parameters_stand (scene_in d deep opens) (formals_from k qs) qs ≡ true
parameters_right d deep opens k [] h l = refl
parameters_right d deep opens k (q ∷ qs) h l =
    let x = scene_in d deep opens in
    let e = open_cons q qs in
    and_true ((shape_stands x (local k q.shape) && default_stands d.structs q.shape q.default) && node_stands x q.node) _
    (and_true (shape_stands x (local k q.shape) && default_stands d.structs q.shape q.default) _ (and_true (shape_stands x (local k q.shape)) _ (well_stands d true q.shape h.0.shape x refl refl k (omega arith)) h.0.default) h.0.node)
    (parameters_right d deep opens (k + own_open q) qs h.1 (omega arith))

variables_right : (d : Defined) (deep opens k : ℕ) (qs : List Parameter) → AllWell d qs → k + open_in qs ≤ opens → variables_stand (scene_in d deep opens) (parameter_variables (formals_from k qs)) ≡ true
variables_right d deep opens k [] h l = refl
variables_right d deep opens k (q ∷ qs) h l =
    let x = scene_in d deep opens in
    let e = open_cons q qs in
    and_true (shape_stands x (local k q.shape)) _ (well_stands d true q.shape h.0.shape x refl refl k (omega arith)) (variables_right d deep opens (k + own_open q) qs h.1 (omega arith))

-- the variable of a parameter
abbrev variable_of : ℕ → Parameter → Variable
variable_of k q = record { shape = local k q.shape; is_assignable = q.is_output }

variables_more : (k : ℕ) (qs : List Parameter) (q : Parameter) → parameter_variables (formals_from k (qs ++ q ∷ [])) ≡ parameter_variables (formals_from k qs) ++ Some (variable_of (k + open_in qs) q) ∷ []
variables_more k [] q = let z : open_in [] ≡ 0 = refl in let e : k ≡ k + open_in [] = omega arith in ap (λ k. Some (variable_of k q) ∷ []) e
variables_more k (p ∷ qs) q =
    let e = open_cons p qs in
    let f : (k + own_open p) + open_in qs ≡ k + open_in (p ∷ qs) = omega arith in
    ap (λ (vs : Variables). Some (variable_of k p) ∷ vs) (variables_more (k + own_open p) qs q ∙ ap (λ j. parameter_variables (formals_from (k + own_open p) qs) ++ Some (variable_of j q) ∷ []) f)

variables_long : (k : ℕ) (qs : List Parameter) → length (parameter_variables (formals_from k qs)) ≡ length qs
variables_long k [] = refl
variables_long k (q ∷ qs) = ap suc (variables_long (k + own_open q) qs)

-- ---- scopes inside a function

-- what is outside is as it was
beside_inside : (s t : ScopeForm) (d : Defined) → after_function t ≡ s → Beside s d → Beside t d
beside_inside s t d e h =
    let b : Beside (after_function t) d = subst (λ (z : ScopeForm). Beside z d) (sym e) h in
    record { counts = b.counts; constants = b.constants; depths = b.depths; functions = b.functions }

named_long : (name : List ℕ) (m : Meaning) (blocks : List ScopeBlock) → 0 < length blocks → 0 < length (with_name name m blocks)
named_long name m [] h = h
named_long name m (b ∷ blocks) h = omega arith

-- an initialiser does not read how many open sizes there are
opens_unread : (s : ScopeForm) (d : Defined) (i : Initialiser) (shape : Shape) → begun (record s { opens = 0 }) d i (Some shape) ≡ begun s d i (Some shape)
opens_unread s d i shape = refl

-- what the head of a function is, behind some of its parameters
pub record HeadRight (s : ScopeForm) (d : Defined) (name : List ℕ) (h : Led (List Parameter)) : Type 0 where
  pub outside : after_function h.scope ≡ s
  pub scope : IsScope h.scope
  pub around : h.scope.around ≡ Head name
  pub sees : h.scope.sees_variables ≡ true
  pub inside : 0 < length h.scope.blocks
  pub opens : h.scope.opens ≡ open_in h.made
  pub variables : h.scope.variables ≡ parameter_variables (formals_from 0 h.made)
  pub well : AllWell d h.made

-- all laws together
pub record Laws : Type 0 where
  pub initialisers : InitialisersAreWell
  pub sound : InitialisersGiveWell (Unit {0}) uncounted
  pub words : WordsAreCounted
  pub found : FoundIsThere
  pub scopes : ScopesStay
  pub blocks : BlocksAreWell
  pub grow : BesideGrow

module _ (laws : Laws) (s : ScopeForm) (d : Defined) (is : IsScope s) (defined : IsDefined d) (rest : Resting s d) (name : List ℕ) (is_entry : Bool) where
  abbrev tokens : ℕ
  tokens = get_or (tokens_of d.units) s.unit 0

  same_unit : (t : ScopeForm) → after_function t ≡ s → t.unit ≡ s.unit
  same_unit t e = ap (λ (z : ScopeForm). z.unit) e

  -- ---- defaults

  -- a default sees no variables, so it is as an initialiser outside functions
  default_is : (t : ScopeForm) → after_function t ≡ s → IsScope t → t.around ≡ Head name → (shape : Shape) → ShapeWell d true shape → (i : Initialiser) → Below tokens (initialiser_tokens i) → (given : Option Begun) → begun (in_default t) d i (Some shape) ≡ Ok given
      → (b : Begun) → begun_rule t.counts (base_of shape) given ≡ Ok b → IsInitialiser (scene_of d) [] shape b
  default_is t outside inside around shape w i below given e b f =
      let u : ScopeForm = record (in_default t) { opens = 0 } in
      let h = beside_inside s t d outside rest.beside in
      let same : scene u d ≡ scene_of d = ap (λ (a : Around). record (scene_of d) { too_deep = too_deep a; opens = 0 }) around in
      subst (λ (x : Scene). IsInitialiser x [] shape b) same
      (laws.initialisers u d [] shape i given b (record { beside = record { counts = h.counts; constants = h.constants; depths = h.depths; functions = h.functions }; defined = defined; variables = refl }) (λ k v e. e)
      (subst (λ n. Below n (initialiser_tokens i)) (ap (λ n. get_or (tokens_of d.units) n 0) (sym (same_unit t outside))) below) (wanted d true shape (scene u d) w refl) (opens_unread (in_default t) d i shape ∙ e) f)

  structs_all : structs_stand [] [] d.structs ≡ true
  structs_all = (both (structs_stand [] [] d.structs) _ defined.stand).0

  -- ---- one parameter

  module _ (t : ScopeForm) (outside : after_function t ≡ s) (inside : IsScope t) (around : t.around ≡ Head name) (p : WrittenParameter) (below : Below tokens (parameter_tokens p)) where
    node_right : node_stands (scene_of d) (node_of t.unit p.token) ≡ true
    node_right = lt-ltb p.token (get_or (tokens_of d.units) t.unit 0) (subst (λ n. p.token < n) (ap (λ n. get_or (tokens_of d.units) n 0) (sym (same_unit t outside))) (All-head (λ token. token < tokens) p.token (shape_tokens p.shape ++ all_tokens array_size_tokens p.sizes ++ some_tokens initialiser_tokens p.value) below))

    abbrev DefaultRight : Shape → Value → Type 0
    DefaultRight shape v = default_stands d.structs shape (Some v) ≡ true

    valued_right : (shape : Shape) → ShapeWell d true shape → (i : Initialiser) → Below tokens (initialiser_tokens i) → (given : Option Begun) → begun (in_default t) d i (Some shape) ≡ Ok given → Good (DefaultRight shape) (default_valued d is_entry (in_default t) p shape given)
    valued_right shape w i own given e =
        let u = in_default t in
        let New : Begun → Type 0 = λ b. (is_declared u.blocks p.name ≡ false) × (begun_rule u.counts (base_of shape) given ≡ Ok b) in
        good_then New (DefaultRight shape) (rule_at u.unit p.token (begun_new u.counts (is_declared u.blocks p.name) (base_of shape) given)) (λ b. rule_at u.unit p.token (plain_rule is_entry shape) >>= (λ plain. rule_at u.unit p.token (first_value d b.form)))
        (good_at New u.unit p.token (begun_new u.counts (is_declared u.blocks p.name) (base_of shape) given) (new_good u.counts (is_declared u.blocks p.name) (base_of shape) given))
        (λ b h.
        let begins = default_is t outside inside around shape w i own given e b h.1 in
        good_any (DefaultRight shape) (rule_at u.unit p.token (plain_rule is_entry shape)) (λ plain. rule_at u.unit p.token (first_value d b.form))
        (λ plain. good_at (DefaultRight shape) u.unit p.token (first_value d b.form)
        (good_more (λ (v : Value). Fits d.structs (whole [] b.sizes (Some (base_of shape))) v) (DefaultRight shape) (first_value d b.form) (value_good laws.sound d defined b.form b.sizes (Some (base_of shape)) b.depth begins.accepted.type)
        (λ v fit. default_right laws.words d.structs structs_all shape (scene_of d) refl refl b.sizes v begins.fits begins.accepted.shape fit))))

    abbrev FormRight : Parameter → Type 0
    FormRight q = ParameterWell d q

    with_right : (shape : Shape) → ShapeWell d true shape → (i : Option Initialiser) → Below tokens (some_tokens initialiser_tokens i) → Good FormRight (parameter_with d is_entry t p shape i)
    with_right shape w None own = good_any FormRight (plain_new is_entry t p shape) (λ plain. Ok (parameter_form t.unit p shape None)) (λ plain. record { shape = w; default = refl; node = node_right })
    with_right shape w (Some i) own =
        good_then (DefaultRight shape) FormRight (default_checked d is_entry (in_default t) p shape i) (λ v. Ok (parameter_form t.unit p shape (Some v)))
        (good_then (λ (given : Option Begun). begun (in_default t) d i (Some shape) ≡ Ok given) (DefaultRight shape) (begun (in_default t) d i (Some shape)) (λ given. default_valued d is_entry (in_default t) p shape given)
        (good_all (λ (given : Option Begun). begun (in_default t) d i (Some shape) ≡ Ok given) (begun (in_default t) d i (Some shape)) (λ given e. e))
        (λ given e. valued_right shape w i own given e))
        (λ v h. record { shape = w; default = h; node = node_right })

    parameter_right : Good FormRight (parameter_checked d is_entry t p)
    parameter_right =
        let front = shape_tokens p.shape ++ all_tokens array_size_tokens p.sizes in
        let own = below_right tokens front (some_tokens initialiser_tokens p.value) (below_tail tokens p.token (front ++ some_tokens initialiser_tokens p.value) below) in
        good_then (ShapeWell d true) FormRight (shape_checked t d true p.shape p.sizes) (λ shape. parameter_with d is_entry t p shape p.value) (shape_good laws.found t d inside defined (beside_inside s t d outside rest.beside) true p.shape p.sizes)
        (λ shape w. with_right shape w p.value own)

  -- ---- all parameters

  next_right : (h : Led (List Parameter)) (q : Parameter) → HeadRight s d name h → ParameterWell d q → HeadRight s d name (record { made = h.made ++ q ∷ []; scope = parameter_seen q h.scope })
  next_right h q r w =
      let e = open_more h.made q in
      let o = r.opens in
      record {
        outside = r.outside;
        scope = (laws.scopes h.scope r.scope).parameter q.name (variable_of h.scope.opens q) (own_open q);
        around = r.around;
        sees = r.sees;
        inside = named_long q.name _ h.scope.blocks r.inside;
        opens = omega arith;
        variables =
            ap (λ (vs : Variables). vs ++ Some (variable_of h.scope.opens q) ∷ []) r.variables
            ∙ ap (λ k. parameter_variables (formals_from 0 h.made) ++ Some (variable_of k q) ∷ []) (o ∙ from_zero (open_in h.made))
            ∙ sym (variables_more 0 h.made q);
        well = more_well d h.made q r.well w;
      }
    where
      from_zero : (n : ℕ) → n ≡ 0 + n
      from_zero n = omega arith

  parameters_good : (ps : List WrittenParameter) (h : Led (List Parameter)) → HeadRight s d name h → Below tokens (all_tokens parameter_tokens ps) → Good (HeadRight s d name) (parameters_checked d is_entry ps h)
  parameters_good [] h r below = r
  parameters_good (p ∷ ps) h r below =
      good_then (HeadRight s d name) (HeadRight s d name) (next_parameter d is_entry p h) (parameters_checked d is_entry ps)
      (good_then (ParameterWell d) (HeadRight s d name) (parameter_checked d is_entry h.scope p) (λ q. Ok (record { made = h.made ++ q ∷ []; scope = parameter_seen q h.scope })) (parameter_right h.scope r.outside r.scope r.around p (below_left tokens (parameter_tokens p) (all_tokens parameter_tokens ps) below))
      (λ q w. next_right h q r w))
      (λ after w. parameters_good ps after w (below_right tokens (parameter_tokens p) (all_tokens parameter_tokens ps) below))

  -- ---- results

  abbrev ResultRight : Option Shape → Type 0
  ResultRight r = (x : Scene) → x.structs ≡ d.structs → x.counts ≡ struct_counts d.structs → result_stands x r ≡ true

  result_right : (t : ScopeForm) → after_function t ≡ s → IsScope t → (r : Option SizedShape) → Good ResultRight (result_checked t d r)
  result_right t outside inside None = λ x a b. refl
  result_right t outside inside (Some r) =
      good_then (ShapeWell d false) ResultRight (shape_checked t d false r.shape r.sizes) (λ shape. Ok (Some shape)) (shape_good laws.found t d inside defined (beside_inside s t d outside rest.beside) false r.shape r.sizes)
      (λ shape w x a b. stated_stands d shape w x a b)

-- ---- a function of its parts

returns_right : (result : Option Shape) (returns : Bool) → (is_some result && not returns) ≡ false → (is_void result || returns) ≡ true
returns_right None returns e = refl
returns_right (Some shape) true e = refl
returns_right (Some shape) false e = absurd (cc)

module _ (laws : Laws) (s : ScopeForm) (d : Defined) (is : IsScope s) (defined : IsDefined d) (rest : Resting s d) (f : Written) (own : AreTokens s d (function_tokens f)) where
  abbrev count : ℕ
  count = get_or (tokens_of d.units) s.unit 0

  -- what a body gives
  body_right : (head : Led (List Parameter)) → HeadRight s d f.name head → Standing d count (in_body f.name head.scope)
  body_right head r =
      let t = head.scope in
      let h = beside_inside s t d r.outside rest.beside in
      let e : t.opens ≡ 0 + open_in head.made = r.opens ∙ from_zero (open_in head.made) in
      record {
        scope = (laws.scopes t r.scope).body f.name;
        beside = record { counts = h.counts; constants = h.constants; depths = h.depths; functions = h.functions };
        unit = ap (λ (z : ScopeForm). get_or (tokens_of d.units) z.unit 0) r.outside;
        sees = r.sees;
        inside = r.inside;
        variables = ap (λ (vs : Variables). variables_stand (scene_in d CALL_DEPTH t.opens) vs) r.variables ∙ variables_right d CALL_DEPTH t.opens 0 head.made r.well (omega arith);
      }
    where
      from_zero : (n : ℕ) → n ≡ 0 + n
      from_zero n = omega arith

  -- the function that is made
  abbrev made_in : Option Shape → Led (List Parameter) → Led Stated → Made
  made_in result head body = function_made f body.scope result head.made body.made

  body_is : (result : Option Shape) (head : Led (List Parameter)) (body : Led Stated) → HeadRight s d f.name head → (w : BlockIsWell (scene (in_body f.name head.scope) d) (result_type result) (in_body f.name head.scope) (block_surely_returns f.body) body)
      → (made_in result head body).function.variables ≡ length w.more
      → body_scope (scene_of d) (made_in result head body).function ≡ record { well = true; after = record { variables = body.scope.variables; used = w.used }; returns = block_surely_returns f.body; depth = body.made.depth }
  body_is result head body r w long =
      let x : inside (scene_of d) (made_in result head body).function ≡ scene (in_body f.name head.scope) d = ap (λ k. scene_in d CALL_DEPTH k) (sym r.opens) in
      ap (λ (x : Scene). scope_statement x (result_type result) body.made.form (first_scope (formals_from 0 head.made) (made_in result head body).function.variables)) x
      ∙ ap (λ k. scope_statement (scene (in_body f.name head.scope) d) (result_type result) body.made.form (record { variables = parameter_variables (formals_from 0 head.made) ++ replicate k None; used = [] })) long
      ∙ ap (λ (vs : Variables). scope_statement (scene (in_body f.name head.scope) d) (result_type result) body.made.form (record { variables = vs ++ replicate (length w.more) None; used = [] })) (sym r.variables)
      ∙ w.runs

  made_fits : (result : Option Shape) → ((x : Scene) → x.structs ≡ d.structs → x.counts ≡ struct_counts d.structs → result_stands x result ≡ true) → (head : Led (List Parameter)) → HeadRight s d f.name head
      → (body : Led Stated) → BlockIsWell (scene (in_body f.name head.scope) d) (result_type result) (in_body f.name head.scope) (block_surely_returns f.body) body → is_block (out-TypedStatement body.made.form) ≡ true → after_function body.scope ≡ s
      → is_defined s f.name ≡ false → (is_some result && not (block_surely_returns f.body)) ≡ false → FunctionFits s d (record { made = made_in result head body; scope = with_function f.name (made_in result head body).depth (after_function body.scope) })
  made_fits result gives head r body w block same fresh returned =
      let g = (made_in result head body).function in
      let vl = variables_long 0 head.made in
      let bl : length body.scope.variables ≡ length (parameter_variables (formals_from 0 head.made)) + length w.more = ap (λ (vs : Variables). length vs) (w.variables ∙ ap (λ (vs : Variables). vs ++ w.more) r.variables) ∙ length-append (parameter_variables (formals_from 0 head.made)) w.more in
      let long : g.variables ≡ length w.more = omega arith in
      let ran = body_is result head body r w long in
      let name : g.name ≡ whole_name s f.name = ap (λ (t : ScopeForm). whole_name t f.name) same in
      let unit : body.scope.unit ≡ s.unit = ap (λ (t : ScopeForm). t.unit) same in
      let node : node_stands (scene_of d) g.node ≡ true = lt-ltb f.token (get_or (tokens_of d.units) body.scope.unit 0) (subst (λ n. f.token < n) (ap (λ n. get_or (tokens_of d.units) n 0) (sym unit)) (All-head (λ token. token < count) f.token (some_tokens sized_shape_tokens f.result ++ all_tokens parameter_tokens f.parameters ++ block_tokens f.body) own)) in
      let parameters : parameters_stand (inside (scene_of d) g) (formals_from 0 head.made) head.made ≡ true = parameters_right d CALL_DEPTH (open_in head.made) 0 head.made r.well (omega arith) in
      let depth : (function_signature (scene_of d) g).depth ≡ suc body.made.depth = ap (λ (o : Scoped). suc o.depth) ran in
      let well : (body_scope (scene_of d) g).well ≡ true = ap (λ (o : Scoped). o.well) ran in
      let used : (length (body_scope (scene_of d) g).after.used == g.variables) ≡ true = ap (λ (o : Scoped). length o.after.used == g.variables) ran ∙ eq-eqb (length w.used) g.variables (w.declared ∙ sym long) in
      let returns : (is_void result || (body_scope (scene_of d) g).returns) ≡ true = ap (λ (o : Scoped). is_void result || o.returns) ran ∙ returns_right result (block_surely_returns f.body) returned in
      let grown = (laws.grow s d f.name rest.beside).function g name fresh in
      let grown' : Beside (with_function f.name (suc body.made.depth) s) (definitions.with_function d g) = subst (λ k. Beside (with_function f.name k s) (definitions.with_function d g)) depth grown in
      record {
        stands = and_true ((node_stands (scene_of d) g.node && parameters_stand (inside (scene_of d) g) (formals_from 0 head.made) head.made) && result_stands (scene_of d) result) _
            (and_true (node_stands (scene_of d) g.node && parameters_stand (inside (scene_of d) g) (formals_from 0 head.made) head.made) _ (and_true (node_stands (scene_of d) g.node) _ node parameters) (gives (scene_of d) refl refl))
            (and_true (((body_scope (scene_of d) g).well && is_block (out-TypedStatement g.body)) && (length (body_scope (scene_of d) g).after.used == g.variables)) _
            (and_true ((body_scope (scene_of d) g).well && is_block (out-TypedStatement g.body)) _ (and_true (body_scope (scene_of d) g).well _ well block) used) returns);
        resting = record {
          beside = subst (λ (t : ScopeForm). Beside (with_function f.name (suc body.made.depth) t) (definitions.with_function d g)) (sym same) grown';
          outside = ap (λ (t : ScopeForm). with_function f.name (suc body.made.depth) t) (ap (λ (t : ScopeForm). after_function t) same ∙ rest.outside ∙ sym same);
        };
        stays = record { unit = unit; spaces = ap (λ (t : ScopeForm). t.spaces) same };
      }

  -- a function under its name
  named_fits : (is_entry : Bool) (result : Option Shape) → ((x : Scene) → x.structs ≡ d.structs → x.counts ≡ struct_counts d.structs → result_stands x result ≡ true) → (head : Led (List Parameter)) → HeadRight s d f.name head
      → (body : Led Stated) → BlockIsWell (scene (in_body f.name head.scope) d) (result_type result) (in_body f.name head.scope) (block_surely_returns f.body) body → is_block (out-TypedStatement body.made.form) ≡ true → after_function body.scope ≡ s
      → Good (FunctionFits s d) (function_named is_entry f (after_function body.scope) (made_in result head body))
  named_fits is_entry result gives head r body w block same =
      let t = after_function body.scope in
      let Ruled : Unit {0} → Type 0 = λ fine. (is_defined t f.name ≡ false) × ((is_some result && not (block_surely_returns f.body)) ≡ false) × (is_entry ≡ true → is_some result ≡ false) in
      good_then Ruled (FunctionFits s d) (rule_at t.unit f.token (function_rule (is_defined t f.name) (is_some result) (block_surely_returns f.body) is_entry)) (λ fine. Ok (record { made = made_in result head body; scope = with_function f.name (made_in result head body).depth t }))
      (good_at Ruled t.unit f.token (function_rule (is_defined t f.name) (is_some result) (block_surely_returns f.body) is_entry) (rule_good (is_defined t f.name) (is_some result) (block_surely_returns f.body) is_entry))
      (λ fine h. made_fits result gives head r body w block same (ap (λ (t : ScopeForm). is_defined t f.name) (sym same) ∙ h.0) h.1)

  begun_fits : (is_entry : Bool) → Good (FunctionFits s d) (function_checked s d is_entry f)
  begun_fits is_entry =
      let start = in_head f.name s in
      let first : Led (List Parameter) = record { made = []; scope = start } in
      let stays = laws.scopes s is in
      let front = some_tokens sized_shape_tokens f.result ++ all_tokens parameter_tokens f.parameters in
      let tail = below_tail count f.token (front ++ block_tokens f.body) own in
      let ahead = below_right count (some_tokens sized_shape_tokens f.result) (all_tokens parameter_tokens f.parameters) (below_left count front (block_tokens f.body) tail) in
      let last = below_right count front (block_tokens f.body) tail in
      let begins : HeadRight s d f.name first = record { outside = rest.outside; scope = stays.head f.name; around = refl; sees = refl; inside = omega arith; opens = refl; variables = refl; well = tt } in
      good_then (λ (r : Option Shape). (x : Scene) → x.structs ≡ d.structs → x.counts ≡ struct_counts d.structs → result_stands x r ≡ true) (FunctionFits s d) (result_checked start d f.result) (λ result. function_headed d is_entry f result start)
      (result_right laws s d is defined rest f.name is_entry start rest.outside (stays.head f.name) f.result)
      (λ result gives.
      good_then (HeadRight s d f.name) (FunctionFits s d) (parameters_checked d is_entry f.parameters first) (λ head. function_stated d is_entry f result head.made (in_body f.name head.scope))
      (parameters_good laws s d is defined rest f.name is_entry f.parameters first begins ahead)
      (λ head r.
      let t = in_body f.name head.scope in
      good_then (λ (body : Led Stated). block_stated d result f.body t ≡ Ok body) (FunctionFits s d) (block_stated d result f.body t) (λ body. function_named is_entry f (after_function body.scope) (function_made f body.scope result head.made body.made))
      (good_all (λ (body : Led Stated). block_stated d result f.body t ≡ Ok body) (block_stated d result f.body t) (λ body e. e))
      (λ body e. named_fits is_entry result gives head r body
      (laws.blocks t d count result f.body body defined (body_right head r) (gives (scene t d) refl refl) last e)
      (good_of (λ (o : Led Stated). is_block (out-TypedStatement o.made.form) ≡ true) (block_stated d result f.body t) (block_made_block d result f.body t) body e)
      (good_of (λ (o : Led Stated). Keeps t o.scope) (block_stated d result f.body t) (block_keeps d result f.body t) body e ∙ r.outside))))

pub functions_all_fit : Laws → FunctionsFit
functions_all_fit laws s d is_entry f r is defined rest own e = good_of (FunctionFits s d) (function_checked s d is_entry f) (begun_fits laws s d is defined rest f own is_entry) r e
