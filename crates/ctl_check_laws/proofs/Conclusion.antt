-- The laws, from what is known of numbers.
use Rattle.std.proofs.Common.{◌≡◌, ◌∙◌, ℤ, pos, ◌-ℤ◌, Ok, Bool, true, ◌==◌, unsigned_abs, arith, eq-eqb}
use Rattle.std.proofs.lemmas.Int.{ints}
use Rattle.fix_num.specs.declared.TheConstants.{FRACTION}
use Rattle.fix_num.specs.Fixed.{SaturationClamps}
use Rattle.fix_num.specs.Half.{half, half_unit, IsHalf, HalfKeeps}
use Rattle.fix_num.specs.Ranges.{HalvesStayInRange}
use Rattle.ctl_base.specs.declared.kind.ScalarKind.TheVariants as kind
use Rattle.ctl_tree.specs.declared.expression.LiteralValue.{LiteralValue}
use Rattle.ctl_types.specs.Scalars.{in_range}
use Rattle.ctl_scope.specs.Beside.{scene}
use Rattle.ctl_types.specs.declared.expression.TypedPlace.{out-TypedPlace}
use Rattle.ctl_check_expr.specs.Checking.{checked, checked_call}
use Rattle.ctl_check_expr.specs.Written.{place_checked}
use Rattle.ctl_check_laws.specs.Taking.{PlaceHasType}
use Rattle.ctl_check_laws.specs.WellTyped.{tokens_around, TypedIsWellTyped, TypedCallIsWellTyped, TypedPlaceIsWellTyped}
use Rattle.ctl_check_laws.proofs.Basics.{good_ok}
use Rattle.ctl_check_laws.proofs.Kept.{Kept}
use Rattle.ctl_check_laws.proofs.Operators.{InRange, literal_range}
use Rattle.ctl_check_laws.proofs.Types.{assignable_is}
use Rattle.ctl_check_laws.proofs.Places.{place_known, assignable_held}
use Rattle.ctl_check_laws.proofs.Calls.{KeptCall}
use Rattle.ctl_check_laws.proofs.Defined.{around}
use Rattle.ctl_check_laws.proofs.Expressions.{expr_good, call_good, place_good}

distance : (a b : ℤ) → a ≡ b → unsigned_abs (a -ℤ b) == 0 ≡ true
distance a b e = let d : unsigned_abs (a -ℤ b) ≡ 0 = omega (arith, ints) in eq-eqb _ _ d

-- what a half is taken for is the raw of a half
halved : HalvesStayInRange → HalfKeeps → (z : ℤ) → in_range FRACTION kind.Half (half FRACTION z) ≡ true
halved halves keeps z = distance (half FRACTION (half FRACTION z)) (half FRACTION z) (keeps FRACTION (half FRACTION z) ((halves FRACTION (omega arith)).half z))

-- each literal is in its range
pub literals_in_range : SaturationClamps → HalvesStayInRange → HalfKeeps → (value : LiteralValue) → InRange value
literals_in_range clamps halves keeps value = literal_range (λ z. (clamps z).raw) (halved halves keeps) value

module _ (ranges : (value : LiteralValue) → InRange value) where
  pub typed_is_well_typed : TypedIsWellTyped
  typed_is_well_typed s d vs e c h a w q = (good_ok (Kept (scene s d) vs (tokens_around s d)) (checked s d e) c q (expr_good s d vs (around s d h vs a) ranges e w)).form

  pub typed_call_is_well_typed : TypedCallIsWellTyped
  typed_call_is_well_typed s d vs e c h a w q = (good_ok (KeptCall (scene s d) vs (tokens_around s d)) (checked_call s d e) c q (call_good s d vs (around s d h vs a) ranges e w)).form

  pub typed_place_is_well_typed : TypedPlaceIsWellTyped
  typed_place_is_well_typed s d vs p c h a w q = (good_ok (Kept (scene s d) vs (tokens_around s d)) (place_checked s d p.root p.steps) c q (place_good s d vs (around s d h vs a) ranges p w)).form

-- a place has the type of its expression
pub place_has_type : PlaceHasType
place_has_type x vs e p sizes base depth t q = record {
  type = place_known x vs e p sizes base depth t q;
  assigned = λ scope h a. assignable_is x vs p ∙ assignable_held scope vs (out-TypedPlace p).variable h a;
}
