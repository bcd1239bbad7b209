-- Initialisers outside functions, and their values.
use Rattle.std.proofs.Common.{◌≡◌, ℕ, ◌<◌, ◌≤◌, List, [], ◌∷◌, ◌++◌, map, Option, Some, None, Result, Ok, Err, Bool, true, false, ◌&&◌, if◌then◌else◌, nat_le, nat_lt, refl, sym, ap, subst, ◌∙◌, arith, slice_get, ltb-true}
use Rattle.ctl_base.specs.declared.limits.TheConstants.{ARRAY_SIZE, TURNS}
use Rattle.ctl_types.specs.declared.shape.Extent.{Extent}
use Rattle.ctl_types.specs.declared.shape.Extent.TheVariants as extent
use Rattle.ctl_types.specs.declared.shape.Size.{Size}
use Rattle.ctl_types.specs.declared.shape.Size.TheVariants as size
use Rattle.ctl_types.specs.declared.shape.Base.{Base}
use Rattle.ctl_types.specs.declared.shape.Shape.{Shape}
use Rattle.ctl_types.specs.declared.shape.LocalShape.{LocalShape}
use Rattle.ctl_types.specs.declared.statement.Initialiser.{Initialiser}
use Rattle.ctl_types.specs.declared.value.Value.{Value}
use Rattle.ctl_types.specs.declared.program.Struct.{Struct}
use Rattle.ctl_types.specs.Shapes.{Whole, whole, whole_of, extents, base_of, numbered, local}
use Rattle.ctl_types.specs.Typing.{Typed, Scene, are_stated, size_stands, sizes_stand, base_stands, shape_stands, initialiser_type}
use Rattle.ctl_types.specs.Values.{Fits, fits}
use Rattle.ctl_types.specs.Definitions.{Defined}
use Rattle.ctl_types.specs.Cost.{uncounted}
use Rattle.ctl_types.specs.Run.{Outcome, initial_value}
use Rattle.ctl_types.specs.Scoping.{IsDefined, result_stands, scene_of}
use Rattle.ctl_laws.specs.Sound.{GivesWell, InitialisersGiveWell}
use Rattle.ctl_scope.specs.declared.kind.CheckKind.{CheckKind}
use Rattle.ctl_check_laws.specs.Accepted.{known}
use Rattle.ctl_check_init.specs.declared.begun.Begun.{Begun}
use Rattle.ctl_check_init.specs.Initialisers.{extent_of, sized, begun_rule}
use Rattle.ctl_check_function.specs.Names.{begun_new}
use Rattle.ctl_check_function.specs.Values.{first_outcome, outcome_value, first_value}
use Rattle.initialiser_laws.specs.Wanted.{extents_within, may_be_wanted}
use Rattle.initialiser_laws.specs.Laws.{IsInitialiser}
use Rattle.definition_laws.proofs.Verdicts.{Good, good_all, good_unless, both, and_true}
use Rattle.definition_laws.proofs.Shapes.{extents_made, base_made, ExtentsStand, ShapeWell, base_there}

-- ---- what may be wanted

within : (may_be_open : Bool) (xs : List Extent) → ExtentsStand may_be_open xs → extents_within xs ≡ true
within may_be_open [] h = refl
within may_be_open (extent.Stated n ∷ xs) h = and_true (nat_le n ARRAY_SIZE) _ (both (nat_le 1 n) _ h.0).1 (within may_be_open xs h.1)
within may_be_open (extent.Unstated ∷ xs) h = within may_be_open xs h.1

pub wanted : (d : Defined) (may_be_open : Bool) (shape : Shape) (x : Scene) → ShapeWell d may_be_open shape → x.structs ≡ d.structs → may_be_wanted x shape ≡ true
wanted d may_be_open shape x w e = and_true (extents_within (extents shape)) _ (within may_be_open (extents shape) w.stand) (base_there x d.structs (base_of shape) e w.known)

-- a name that is new, and an initialiser that fits
pub new_good : (counts : List ℕ) (twice : Bool) (b : Base) (given : Option Begun) → Good (λ (i : Begun). (twice ≡ false) × (begun_rule counts b given ≡ Ok i)) (begun_new counts twice b given)
new_good counts twice b given =
    good_unless (λ (i : Begun). (twice ≡ false) × (begun_rule counts b given ≡ Ok i)) twice _ (begun_rule counts b given)
    (λ e. good_all (λ (i : Begun). (twice ≡ false) × (begun_rule counts b given ≡ Ok i)) (begun_rule counts b given) (λ i f. (e, f)))

-- ---- sizes

pub stands_stated : (x : Scene) → x.opens ≡ 0 → (sizes : List Size) → sizes_stand x sizes ≡ true → are_stated sizes ≡ true
stands_stated x e [] h = refl
stands_stated x e (size.Stated n ∷ sizes) h = stands_stated x e sizes (both (size_stands x (size.Stated n)) _ h).1
stands_stated x e (size.Open k ∷ sizes) h = let l = ltb-true k x.opens (both (nat_lt k x.opens) _ h).0 in absurd (omega arith)

pub numbered_same : (k : ℕ) (sizes : List Size) → are_stated sizes ≡ true → numbered k (map extent_of sizes) ≡ sizes
numbered_same k [] h = refl
numbered_same k (size.Stated n ∷ sizes) h = ap (λ (rest : List Size). size.Stated n ∷ rest) (numbered_same k sizes h)
numbered_same k (size.Open j ∷ sizes) h = absurd (cc)

-- the shape of stated sizes
pub local_sized : (sizes : List Size) (b : Base) → are_stated sizes ≡ true → local 0 (sized sizes b) ≡ record { sizes = sizes; base = b }
local_sized sizes b h =
    ap (λ (xs : List Extent). record { sizes = numbered 0 xs; base = base_of (sized sizes b) }) (extents_made (map extent_of sizes) b)
    ∙ ap (λ (c : Base). record { sizes = numbered 0 (map extent_of sizes); base = c }) (base_made (map extent_of sizes) b)
    ∙ ap (λ (ns : List Size). record { sizes = ns; base = b }) (numbered_same 0 sizes h)

-- ---- values

outcome_good : (structs : List Struct) (w : Whole) (o : Outcome (Unit {0}) uncounted Value) → GivesWell (Unit {0}) uncounted structs [] [] w o → Good (λ (v : Value). Fits structs w v) (outcome_value o)
outcome_good structs w (Ok got) h = h.1
outcome_good structs w (Err fault) h = tt

-- the value of a well typed initialiser is of its shape
pub value_good : InitialisersGiveWell (Unit {0}) uncounted → (d : Defined) → IsDefined d → (i : Initialiser) (sizes : List Size) (b : Option Base) (depth : ℕ) → initialiser_type (scene_of d) [] i ≡ known sizes b depth
    → Good (λ (v : Value). Fits d.structs (whole [] sizes b) v) (first_value d i)
value_good sound d is i sizes b depth type =
    outcome_good d.structs (whole [] sizes b) (first_outcome d i)
    (subst (λ (t : Typed). GivesWell (Unit {0}) uncounted d.structs [] [] (whole [] t.sizes t.base) (first_outcome d i)) type (sound d is i TURNS tt (ap (λ (t : Typed). t.well) type)))

-- a value of a shape whose sizes are stated
pub sized_stands : (x : Scene) (structs : List Struct) (sizes : List Size) (b : Base) (v : Value) → x.opens ≡ 0 → shape_stands x (record { sizes = sizes; base = b }) ≡ true → Fits structs (whole [] sizes (Some b)) v
    → (result_stands x (Some (sized sizes b)) ≡ true) × (fits structs v (whole_of (sized sizes b)).sizes (whole_of (sized sizes b)).base ≡ true)
sized_stands x structs sizes b v none stands fit =
    let stated = stands_stated x none sizes (both (sizes_stand x sizes) _ (both (sizes_stand x sizes && base_stands x b) _ stands).0).0 in
    let is = sym (local_sized sizes b stated) in (
      subst (λ (l : LocalShape). (are_stated l.sizes && shape_stands x l) ≡ true) is (and_true (are_stated sizes) _ stated stands),
      subst (λ (l : LocalShape). fits structs v (whole [] l.sizes (Some l.base)).sizes (Some l.base) ≡ true) is fit,
    )
