-- The laws, from those of expressions.
use Rattle.std.proofs.Common.{◌≡◌, ℕ, ◌+◌, ◌<◌, max, List, [], ◌∷◌, ◌++◌, map, length, Option, Some, None, is_some, Result, Ok, Err, Bool, true, false, ◌&&◌, ◌==◌, if◌then◌else◌, nat_le, refl, sym, ap, subst, ◌∙◌, arith, slice_get, eqb-true}
use Rattle.std.specs.Prelude.{◌*◌}
use Rattle.std.proofs.lemmas.List.Elements.{All-tail}
use Rattle.ctl_base.specs.declared.kind.ScalarKind.TheVariants as kind
use Rattle.ctl_base.specs.declared.limits.TheConstants.{SCALARS}
use Rattle.ctl_tree.specs.declared.expression.Expr.{Expr}
use Rattle.ctl_tree.specs.OwnTokens.{Below, some_tokens, expr_tokens, place_tokens}
use Rattle.ctl_types.specs.declared.shape.Base.{Base}
use Rattle.ctl_types.specs.declared.shape.Base.TheVariants.{Scalar}
use Rattle.ctl_types.specs.declared.shape.Size.{Size}
use Rattle.ctl_types.specs.declared.shape.Size.TheVariants.{Stated, Open}
use Rattle.ctl_types.specs.declared.shape.Shape.{Shape}
use Rattle.ctl_types.specs.declared.expression.Conversion.{Conversion}
use Rattle.ctl_types.specs.declared.expression.TypedPlace.{TypedPlace, out-TypedPlace}
use Rattle.ctl_types.specs.Shapes.{extents, base_of, local, product, base_scalars}
use Rattle.ctl_types.specs.Definitions.{Defined}
use Rattle.ctl_types.specs.Typing.{Typed, Variables, Scene, has, same_size, same_sizes, same_bases, are_stated, size_counted, base_stands, sizes_stand, place_assignable, result_type, expr_type, operand_type, place_type, PlaceType}
use Rattle.ctl_types.specs.Scoping.{result_stands, assignment_type, left_type}
use Rattle.ctl_scope.specs.declared.kind.CheckKind.TheVariants.{BadSize}
use Rattle.ctl_scope.specs.declared.around.Around.{Around}
use Rattle.ctl_scope.specs.declared.around.Around.TheVariants.{Outside, Head, Body}
use Rattle.ctl_scope.specs.Scope.{ScopeForm, visible}
use Rattle.ctl_scope.specs.Beside.{scene, too_deep}
use Rattle.ctl_check_rules.specs.declared.checked.Checked.{Checked}
use Rattle.ctl_check_rules.specs.Operators.{operand}
use Rattle.ctl_check_rules.specs.Shapes.{extents_fit, base_conversion, fitting}
use Rattle.ctl_check_expr.specs.Places.{place_of}
use Rattle.ctl_check_expr.specs.Checking.{checked}
use Rattle.ctl_check_expr.specs.Written.{place_checked}
use Rattle.ctl_check_init.specs.declared.begun.Begun.{Begun}
use Rattle.ctl_check_init.specs.declared.assignments.Assigned.{Assigned}
use Rattle.ctl_check_init.specs.declared.takings.Taken.{Taken}
use Rattle.ctl_check_init.specs.declared.takings.Returned.{Returned}
use Rattle.ctl_check_init.specs.Initialisers.{sizes_within, is_within, begun, begun_rule}
use Rattle.ctl_check_init.specs.Assignments.{conversion_to, storing, stored_by, stored_in, stored_at, assignment_rule, assigned_to, assigned}
use Rattle.ctl_check_init.specs.Takings.{taken_by, test_rule, given_back, value_rule, nothing_rule, returned_value, returned}
use Rattle.ctl_check_laws.specs.Accepted.{known, value_stands, IsAccepted, Holds}
use Rattle.ctl_check_laws.specs.Taking.{ConversionHasType, FittingHasType, StatedSizesFit, PlaceHasType}
use Rattle.ctl_check_laws.specs.WellTyped.{tokens_around, Standing, TypedIsWellTyped, TypedPlaceIsWellTyped, FieldsStand}
use Rattle.initialiser_laws.specs.Wanted.{extents_within, may_be_wanted}
use Rattle.initialiser_laws.specs.Laws.{IsInitialiser, InitialisersAreWell, IsWell, AssignmentsAreWell, TestsAreBool, IsReturned, ReturnsAreWell}
use Rattle.initialiser_laws.proofs.Basics.{both, and_true, all_left, all_right, known_has, Good, good_after, good_at, good_ok}
use Rattle.initialiser_laws.proofs.Shapes.{stated_local}
use Rattle.initialiser_laws.proofs.Parts.{OptionGood, BegunGood}
use Rattle.initialiser_laws.proofs.Initialisers.{initialiser_good}

roomy : (a : Around) → 0 < too_deep a
roomy Outside = omega arith
roomy (Head f) = omega arith
roomy (Body f) = omega arith

size_is : (a b : Size) → same_size a b ≡ true → a ≡ b
size_is (Stated m) (Stated n) h = ap Stated (eqb-true m n h)
size_is (Open m) (Open n) h = ap Open (eqb-true m n h)
size_is (Stated m) (Open n) h = absurd (cc)
size_is (Open m) (Stated n) h = absurd (cc)

sizes_are : (a b : List Size) → same_sizes a b ≡ true → a ≡ b
sizes_are [] [] h = refl
sizes_are [] (e ∷ es) h = absurd (cc)
sizes_are (d ∷ ds) [] h = absurd (cc)
sizes_are (d ∷ ds) (e ∷ es) h = let b = both (same_size d e) _ h in let p = size_is d e b.0 in let q = sizes_are ds es b.1 in cc

-- ---- initialisers

module _ (typed : TypedIsWellTyped) (fitting_law : FittingHasType) (stated_law : StatedSizesFit) (fields : FieldsStand) where
  whole : (s : ScopeForm) (d : Defined) (vs : Variables) (shape : Shape) (a b : Begun) (t : Bool) → Standing s d → may_be_wanted (scene s d) shape ≡ true → BegunGood (scene s d) vs (roomy s.around) fitting_law stated_law shape a → is_within s.counts a.sizes (base_of shape) ≡ t → (if t then Ok a else Err BadSize) ≡ Ok b → IsInitialiser (scene s d) vs shape b
  whole s d vs shape a b false h k g w q = absurd (cc)
  whole s d vs shape a b true h k g w q =
      let e : a ≡ b = cc in
      let l = both (sizes_within a.sizes) _ w in
      let y = g.well l.0 in
      let there = (both (extents_within (extents shape)) _ k).1 in
      let few : nat_le (product (map size_counted a.sizes) * base_scalars (scene s d).counts (base_of shape)) SCALARS ≡ true = ap (λ counts. nat_le (product (map size_counted a.sizes) * base_scalars counts (base_of shape)) SCALARS) (sym h.beside.counts) ∙ l.1 in
      subst (IsInitialiser (scene s d) vs shape) e (record {
        accepted = record { type = y.type; shape = and_true (sizes_stand (scene s d) a.sizes && base_stands (scene s d) (base_of shape)) _ (and_true (sizes_stand (scene s d) a.sizes) _ y.stand there) few; depth = y.depth };
        fits = g.fits;
        stated = λ c. stated_law (extents shape) a.sizes c g.fits ∙ sym (stated_local shape c);
      })

  first_whole : (s : ScopeForm) (d : Defined) (vs : Variables) (shape : Shape) (first : Option Begun) (b : Begun) → Standing s d → may_be_wanted (scene s d) shape ≡ true → OptionGood (scene s d) vs (roomy s.around) fitting_law stated_law shape first → begun_rule s.counts (base_of shape) first ≡ Ok b → IsInitialiser (scene s d) vs shape b
  first_whole s d vs shape None b h k g q = absurd (cc)
  first_whole s d vs shape (Some a) b h k g q = whole s d vs shape a b (is_within s.counts a.sizes (base_of shape)) h k g refl q

  pub initialisers_are_well : InitialisersAreWell
  initialisers_are_well s d vs shape i first b h a w k q r =
      let g = good_ok (OptionGood (scene s d) vs (roomy s.around) fitting_law stated_law shape) (begun s d i (Some shape)) first q (initialiser_good s d vs (roomy s.around) fitting_law stated_law (λ n k shape e. fields s d h n k shape e) (λ e c v p. typed s d vs e c h a v p) i w shape k) in
      first_whole s d vs shape first b h k g r

-- ---- assignments

module _ (x : Scene) (vs : Variables) (result : Typed) (conversion_law : ConversionHasType) (place_law : PlaceHasType) where
  -- the assignment that is made is well typed
  abbrev AssignedWell : Assigned → Type 0
  AssignedWell g = IsWell x (assignment_type x result (place_type x vs g.assignment.place) (operand_type x vs g.assignment.value)) g.depth

  stored_is : (p c : Checked) (conversion : Conversion) → storing p c ≡ Some conversion → (are_stated p.sizes ≡ true) × (p.sizes ≡ c.sizes) × (wanted : Base) × (p.base ≡ Some wanted) × (base_conversion p.sizes wanted c.base ≡ Some conversion)
  stored_is p c conversion e = by (are_stated p.sizes && same_sizes p.sizes c.sizes) refl p.base refl where
    by : (t : Bool) → (are_stated p.sizes && same_sizes p.sizes c.sizes) ≡ t → (o : Option Base) → p.base ≡ o → (are_stated p.sizes ≡ true) × (p.sizes ≡ c.sizes) × (wanted : Base) × (p.base ≡ Some wanted) × (base_conversion p.sizes wanted c.base ≡ Some conversion)
    by true f o g =
        let z : conversion_to p.sizes p.base c.base ≡ Some conversion = subst (λ t. (if t then conversion_to p.sizes p.base c.base else None) ≡ Some conversion) f e in
        let b = both (are_stated p.sizes) _ f in
        wanted_by o g (subst (λ base. conversion_to p.sizes base c.base ≡ Some conversion) g z) where
          wanted_by : (o : Option Base) → p.base ≡ o → conversion_to p.sizes o c.base ≡ Some conversion → (are_stated p.sizes ≡ true) × (p.sizes ≡ c.sizes) × (wanted : Base) × (p.base ≡ Some wanted) × (base_conversion p.sizes wanted c.base ≡ Some conversion)
          wanted_by None g z = absurd (cc)
          wanted_by (Some wanted) g z = let b = both (are_stated p.sizes) _ f in (b.0, sizes_are p.sizes c.sizes b.1, wanted, g, z)
    by false f o g = let z : (if false then conversion_to p.sizes p.base c.base else None) ≡ Some conversion = subst (λ t. (if t then conversion_to p.sizes p.base c.base else None) ≡ Some conversion) f e in absurd (cc)

  stored_kept : (place : TypedPlace) (p c : Checked) (o : Option Conversion) → IsAccepted x (expr_type x vs p.form) p.sizes p.base p.depth → IsAccepted x (expr_type x vs c.form) c.sizes c.base c.depth → (place_type x vs place).type ≡ known p.sizes p.base p.depth → (place_type x vs place).is_assignable ≡ true → storing p c ≡ o → Good AssignedWell (stored_by place p c o)
  stored_kept place p c None h k t a e = tt
  stored_kept place p c (Some conversion) h k t a e =
      let f = stored_is p c conversion e in
      let wanted = f.2 in
      let y = place_type x vs place in
      let v = operand_type x vs (operand c.form conversion) in
      let own : v ≡ known c.sizes (Some wanted) c.depth = conversion_law x vs c.form conversion wanted c.sizes c.base c.depth k.type (subst (λ sizes. base_conversion sizes wanted c.base ≡ Some conversion) f.1 f.4) in
      let sizes : y.type.sizes ≡ c.sizes = ap (λ (t : Typed). t.sizes) t ∙ f.1 in
      let base : y.type.base ≡ Some wanted = ap (λ (t : Typed). t.base) t ∙ f.3 in
      let suits : has v y.type.sizes y.type.base ≡ true = ap (λ base. has v y.type.sizes base) base ∙ known_has v c.sizes y.type.sizes wanted c.depth own sizes in
      let stated : are_stated v.sizes ≡ true = ap (λ (t : Typed). are_stated t.sizes) own ∙ ap are_stated (sym f.1) ∙ f.0 in
      let well : y.type.well ≡ true = ap (λ (t : Typed). t.well) t in
      let l = h.depth in
      let m = k.depth in
      record {
        well = and_true (y.is_assignable && y.type.well) _ (and_true y.is_assignable _ a well) (and_true (has v y.type.sizes y.type.base) _ suits stated);
        depth = ap (λ (t : Typed). max t.depth v.depth) t ∙ ap (λ (t : Typed). max p.depth t.depth) own;
        below = let z : max p.depth c.depth < x.too_deep = omega arith in z;
      }

  kept_in : (scope : Variables) (place : TypedPlace) (p c : Checked) (t : Bool) → Holds vs scope → IsAccepted x (expr_type x vs p.form) p.sizes p.base p.depth → IsAccepted x (expr_type x vs c.form) c.sizes c.base c.depth → place_of p.form ≡ Some place → place_assignable (slice_get scope (out-TypedPlace place).variable) ≡ t → Good AssignedWell (stored_in place p c t)
  kept_in scope place p c false a h k e q = tt
  kept_in scope place p c true a h k e q =
      let l = place_law x vs p.form place p.sizes p.base p.depth h.type e in
      stored_kept place p c (storing p c) h k l.type (l.assigned scope a q) refl

  kept_at : (scope : Variables) (p c : Checked) (o : Option TypedPlace) → Holds vs scope → IsAccepted x (expr_type x vs p.form) p.sizes p.base p.depth → IsAccepted x (expr_type x vs c.form) c.sizes c.base c.depth → place_of p.form ≡ o → Good AssignedWell (stored_at scope p c o)
  kept_at scope p c None a h k e = tt
  kept_at scope p c (Some place) a h k e = kept_in scope place p c (place_assignable (slice_get scope (out-TypedPlace place).variable)) a h k e refl

pub assignments_are_well : TypedIsWellTyped → TypedPlaceIsWellTyped → ConversionHasType → PlaceHasType → AssignmentsAreWell
assignments_are_well typed placed conversion_law place_law s d vs result a g h l w q =
    let rest = place_tokens a.place ++ expr_tokens a.value in
    let t = All-tail (λ token. token < tokens_around s d) a.token rest w in
    let left = all_left (λ token. token < tokens_around s d) (place_tokens a.place) (expr_tokens a.value) t in
    let right = all_right (λ token. token < tokens_around s d) (place_tokens a.place) (expr_tokens a.value) t in
    let P = AssignedWell (scene s d) vs result conversion_law place_law in
    good_ok P (assigned s d a) g q (good_after P (place_checked s d a.place.root a.place.steps) (assigned_to s d a) (λ p e.
    let i = placed s d vs a.place p h l left e in
    good_after P (checked s d a.value) _ (λ c f.
    let j = typed s d vs a.value c h l right f in
    good_at P s.unit a.token (assignment_rule (visible s) p c) (kept_at (scene s d) vs result conversion_law place_law (visible s) p c (place_of p.form) l i j refl))))

-- ---- tests

none_fit : (sizes : List Size) → extents_fit [] sizes ≡ true → sizes ≡ []
none_fit [] h = refl
none_fit (size ∷ sizes) h = absurd (cc)

pub tests_are_bool : FittingHasType → TestsAreBool
tests_are_bool fitting_law x vs c t h q = by (fitting [] (Scalar kind.Bool) c.sizes c.base) refl q where
  by : (o : Option Conversion) → fitting [] (Scalar kind.Bool) c.sizes c.base ≡ o → taken_by c o ≡ Ok t → (t.depth ≡ c.depth) × (operand_type x vs t.operand ≡ known [] (Some (Scalar kind.Bool)) t.depth)
  by None e r = absurd (cc)
  by (Some conversion) e r =
      let f = fitting_law x vs c.form conversion [] (Scalar kind.Bool) c.sizes c.base c.depth h e in
      let m : record { operand = operand c.form conversion; depth = c.depth } ≡ t = cc in
      subst (λ (t : Taken). (t.depth ≡ c.depth) × (operand_type x vs t.operand ≡ known [] (Some (Scalar kind.Bool)) t.depth)) m (refl, f.type ∙ ap (λ sizes. known sizes (Some (Scalar kind.Bool)) c.depth) (none_fit c.sizes f.fits))

-- ---- returns

module _ (fitting_law : FittingHasType) (stated_law : StatedSizesFit) (s : ScopeForm) (d : Defined) (vs : Variables) where
  given_kept : (shape : Shape) (c : Checked) (o : Option Conversion) → result_stands (scene s d) (Some shape) ≡ true → IsAccepted (scene s d) (expr_type (scene s d) vs c.form) c.sizes c.base c.depth → fitting (extents shape) (base_of shape) c.sizes c.base ≡ o → Good (IsReturned (scene s d) vs (Some shape)) (given_back c o)
  given_kept shape c None r h e = tt
  given_kept shape c (Some conversion) r h e =
      let f = fitting_law (scene s d) vs c.form conversion (extents shape) (base_of shape) c.sizes c.base c.depth h.type e in
      let v = operand_type (scene s d) vs (operand c.form conversion) in
      let sizes : c.sizes ≡ (local 0 shape).sizes = stated_law (extents shape) c.sizes (both (are_stated (local 0 shape).sizes) _ r).0 f.fits in
      let some : is_some v.base ≡ true = ap (λ (t : Typed). is_some t.base) f.type in
      let suits : has v (local 0 shape).sizes (Some (base_of shape)) ≡ true = known_has v c.sizes (local 0 shape).sizes (base_of shape) c.depth f.type (sym sizes) in
      let deep : v.depth ≡ c.depth = ap (λ (t : Typed). t.depth) f.type in
      record {
        type = ap (λ b. (b && v.well) && (same_sizes v.sizes (local 0 shape).sizes && same_bases v.base (Some (base_of shape)))) some ∙ suits;
        depth = let z : max 0 v.depth ≡ c.depth = omega arith in z;
        below = h.depth;
      }

  value_kept : (result : Option Shape) (c : Checked) → result_stands (scene s d) result ≡ true → IsAccepted (scene s d) (expr_type (scene s d) vs c.form) c.sizes c.base c.depth → Good (IsReturned (scene s d) vs result) (value_rule result c)
  value_kept None c r h = tt
  value_kept (Some shape) c r h = given_kept shape c (fitting (extents shape) (base_of shape) c.sizes c.base) r h refl

  nothing_kept : (result : Option Shape) → Good (IsReturned (scene s d) vs result) (nothing_rule result)
  nothing_kept None = record { type = refl; depth = refl; below = roomy s.around }
  nothing_kept (Some shape) = tt

  returned_kept : (token : ℕ) (result : Option Shape) (o : Option Expr) → TypedIsWellTyped → Standing s d → Holds vs (visible s) → Below (tokens_around s d) (some_tokens expr_tokens o) → result_stands (scene s d) result ≡ true → Good (IsReturned (scene s d) vs result) (returned_value s d token result o)
  returned_kept token result None typed h l w r = good_at (IsReturned (scene s d) vs result) s.unit token (nothing_rule result) (nothing_kept result)
  returned_kept token result (Some e) typed h l w r =
      good_after (IsReturned (scene s d) vs result) (checked s d e) _ (λ c q.
      good_at (IsReturned (scene s d) vs result) s.unit token (value_rule result c) (value_kept result c r (typed s d vs e c h l w q)))

pub returns_are_well : TypedIsWellTyped → FittingHasType → StatedSizesFit → ReturnsAreWell
returns_are_well typed fitting_law stated_law s d vs result r g h l w k q =
    let t = All-tail (λ token. token < tokens_around s d) r.token (some_tokens expr_tokens r.value) w in
    good_ok (IsReturned (scene s d) vs result) (returned s d result r) g q (returned_kept fitting_law stated_law s d vs r.token result r.value typed h l t k)
