-- A constant that the checker accepts stands.
use Rattle.std.proofs.Common.{◌≡◌, ℕ, ◌<◌, List, [], ◌∷◌, ◌++◌, map, Option, Some, None, Result, Ok, Err, Bool, true, false, ◌&&◌, refl, sym, ap, subst, ◌∙◌, slice_get}
use Rattle.std.specs.Prelude.{get_or}
use Rattle.ctl_tree.specs.OwnTokens.{Tokens, Below, shape_tokens, all_tokens, array_size_tokens, initialiser_tokens, constant_tokens}
use Rattle.ctl_tree.specs.declared.declaration.Constant.{Constant as Written}
use Rattle.ctl_types.specs.declared.shape.Shape.{Shape}
use Rattle.ctl_types.specs.declared.value.Value.{Value}
use Rattle.ctl_types.specs.declared.program.Constant.{Constant}
use Rattle.ctl_types.specs.Shapes.{base_of, whole, whole_of}
use Rattle.ctl_types.specs.Typing.{Scene, Variable, Variables}
use Rattle.ctl_types.specs.Values.{Fits, fits}
use Rattle.ctl_types.specs.Definitions.{Defined}
use Rattle.ctl_types.specs.Cost.{uncounted}
use Rattle.ctl_types.specs.Scoping.{IsDefined, tokens_of, result_stands, constant_stands, scene_before, scene_of}
use Rattle.ctl_types.specs.Scoping as definitions
use Rattle.ctl_program.specs.Laws.{SignaturesStay}
use Rattle.ctl_laws.specs.Sound.{InitialisersGiveWell}
use Rattle.ctl_scope.specs.Scope.{ScopeForm, IsScope, visible}
use Rattle.ctl_scope.specs.Changes.{is_defined, with_constant}
use Rattle.ctl_scope.specs.Beside.{Beside, scene}
use Rattle.ctl_scope.specs.Laws.{FoundIsThere, BesideGrow}
use Rattle.ctl_check_rules.specs.Faults.{Verdict, ◌>>=◌, rule_at}
use Rattle.ctl_check_laws.specs.Accepted.{variables_stand, Holds}
use Rattle.ctl_check_laws.specs.WellTyped.{Standing, tokens_around}
use Rattle.ctl_check_init.specs.declared.begun.Begun.{Begun}
use Rattle.ctl_check_init.specs.Initialisers.{begun, begun_rule, sized}
use Rattle.initialiser_laws.specs.Laws.{IsInitialiser, InitialisersAreWell}
use Rattle.ctl_check_statement.specs.Leading.{Led}
use Rattle.ctl_check_statement.specs.Declarations.{shape_checked}
use Rattle.ctl_check_function.specs.Values.{first_value}
use Rattle.ctl_check_function.specs.Names.{begun_new}
use Rattle.ctl_check_function.specs.Constants.{constant_valued, constant_begun, constant_formed, constant_checked}
use Rattle.ctl_check_function.specs.Laws.{Resting, Stays, AreTokens, ConstantFits, ConstantsFit}
use Rattle.definition_laws.proofs.Verdicts.{Good, good_then, good_all, good_at, good_of, both, and_true, below_left, below_right, below_tail}
use Rattle.definition_laws.proofs.Shapes.{ShapeWell, shape_good}
use Rattle.definition_laws.proofs.Values.{wanted, new_good, value_good, sized_stands}

-- ---- outside functions

pub scene_outside : (s : ScopeForm) (d : Defined) → Resting s d → scene s d ≡ scene_of d
scene_outside s d h = ap (λ (s : ScopeForm). scene s d) (sym h.outside)

pub none_visible : (s : ScopeForm) (d : Defined) → Resting s d → visible s ≡ []
none_visible s d h = ap (λ (s : ScopeForm). visible s) (sym h.outside)

pub standing_outside : (s : ScopeForm) (d : Defined) → IsDefined d → Resting s d → Standing s d
standing_outside s d is h = record { beside = h.beside; defined = is; variables = ap (λ (vs : Variables). variables_stand (scene s d) vs) (none_visible s d h) }

-- ---- constants

module _ (initialisers : InitialisersAreWell) (sound : InitialisersGiveWell (Unit {0}) uncounted) (found : FoundIsThere) (s : ScopeForm) (d : Defined) (c : Written) (is : IsScope s) (defined : IsDefined d) (rest : Resting s d) (tokens : AreTokens s d (constant_tokens c)) where
  -- an initialiser outside functions
  initialiser_good : (shape : Shape) → ShapeWell d true shape → (given : Option Begun) → begun s d c.value (Some shape) ≡ Ok given → (b : Begun) → begun_rule s.counts (base_of shape) given ≡ Ok b → IsInitialiser (scene_of d) [] shape b
  initialiser_good shape w given e b f =
      let front = shape_tokens c.shape ++ all_tokens array_size_tokens c.sizes in
      let own = below_right _ front (initialiser_tokens c.value) (below_tail _ c.token (front ++ initialiser_tokens c.value) tokens) in
      subst (λ (x : Scene). IsInitialiser x [] shape b) (scene_outside s d rest)
      (initialisers s d [] shape c.value given b (standing_outside s d defined rest) (subst (λ (vs : Variables). Holds [] vs) (sym (none_visible s d rest)) (λ k v e. e)) own (wanted d true shape (scene s d) w refl) e f)

  abbrev Well : Constant → Type 0
  Well made = constant_stands (scene_before d) made ≡ true

  valued_good : (shape : Shape) → ShapeWell d true shape → (given : Option Begun) → begun s d c.value (Some shape) ≡ Ok given → Good Well (constant_valued s d c shape given)
  valued_good shape w given e =
      good_then (λ (b : Begun). (is_defined s c.name ≡ false) × (begun_rule s.counts (base_of shape) given ≡ Ok b)) Well (rule_at s.unit c.token (begun_new s.counts (is_defined s c.name) (base_of shape) given)) (λ b. rule_at s.unit c.token (first_value d b.form) >>= (λ v. Ok (record { shape = sized b.sizes (base_of shape); value = v })))
      (good_at (λ (b : Begun). (is_defined s c.name ≡ false) × (begun_rule s.counts (base_of shape) given ≡ Ok b)) s.unit c.token (begun_new s.counts (is_defined s c.name) (base_of shape) given) (new_good s.counts (is_defined s c.name) (base_of shape) given))
      (λ b h.
      let i = initialiser_good shape w given e b h.1 in
      good_then (λ (v : Value). Fits d.structs (whole [] b.sizes (Some (base_of shape))) v) Well (rule_at s.unit c.token (first_value d b.form)) (λ v. Ok (record { shape = sized b.sizes (base_of shape); value = v }))
      (good_at (λ (v : Value). Fits d.structs (whole [] b.sizes (Some (base_of shape))) v) s.unit c.token (first_value d b.form) (value_good sound d defined b.form b.sizes (Some (base_of shape)) b.depth i.accepted.type))
      (λ v fit.
      let stands = sized_stands (scene_before d) d.structs b.sizes (base_of shape) v refl i.accepted.shape fit in
      and_true (result_stands (scene_before d) (Some (sized b.sizes (base_of shape)))) _ stands.0 stands.1))

  formed_good : Good Well (constant_formed s d c)
  formed_good =
      good_then (ShapeWell d true) Well (shape_checked s d true c.shape c.sizes) (constant_begun s d c) (shape_good found s d is defined rest.beside true c.shape c.sizes)
      (λ shape w. good_then (λ (given : Option Begun). begun s d c.value (Some shape) ≡ Ok given) Well (begun s d c.value (Some shape)) (constant_valued s d c shape)
      (good_all (λ (given : Option Begun). begun s d c.value (Some shape) ≡ Ok given) (begun s d c.value (Some shape)) (λ given e. e))
      (λ given e. valued_good shape w given e))

pub constants_all_fit : InitialisersAreWell → InitialisersGiveWell (Unit {0}) uncounted → FoundIsThere → BesideGrow → SignaturesStay → ConstantsFit
constants_all_fit initialisers sound found grow stay s d c r is defined rest tokens e =
    good_of (ConstantFits s d) (constant_checked s d c)
    (good_then (λ (made : Constant). constant_stands (scene_before d) made ≡ true) (ConstantFits s d) (constant_formed s d c) (λ made. Ok (record { made = made; scope = with_constant c.name s })) (formed_good initialisers sound found s d c is defined rest tokens)
    (λ made stands. record {
      stands = stands;
      resting = record { beside = (grow s d c.name rest.beside).constant made (stay.constant d defined made); outside = ap (λ (s : ScopeForm). with_constant c.name s) rest.outside };
      stays = record { unit = refl; spaces = refl };
    }))
    r e
