-- The definitions that stand before all modules keep the rules.
use Rattle.std.proofs.Common.{◌≡◌, List, [], ◌∷◌, map, true, refl}
use Rattle.fix_num.specs.Half.{HalfKeeps}
use Rattle.fix_num.specs.Ranges.{ArithmeticStaysInRange}
use Rattle.ctl_stdlib.specs.declared.constants.LibraryConstant.{LibraryConstant}
use Rattle.ctl_stdlib.specs.declared.constants.LibraryConstant.TheVariants.{Pi, Euler, HalfMax, FloatMax, IntMax, IntMin, UnsignedMax}
use Rattle.ctl_tree.specs.Units.{SourceUnit}
use Rattle.ctl_types.specs.Definitions.{constant_of, library_structs}
use Rattle.ctl_types.specs.Typing.{Scene}
use Rattle.ctl_types.specs.Scoping.{structs_stand, constant_stands, constants_stand, scene_before, library_definitions, IsDefined}
use Rattle.program_laws.proofs.Constants.{constant_in_range}
use Rattle.program_laws.proofs.Shapes.{extents_scalar, extents_array, base_scalar, base_array, fits_one}

structs_do : structs_stand [] [] library_structs ≡ true
structs_do = simp (extents_scalar, extents_array, base_scalar, base_array) refl

constant_does : HalfKeeps → ArithmeticStaysInRange → (s : Scene) (c : LibraryConstant) → constant_stands s (constant_of c) ≡ true
constant_does keeps stays s Pi = let h = constant_in_range keeps stays Pi in simp (extents_scalar, base_scalar, fits_one, h) refl
constant_does keeps stays s Euler = let h = constant_in_range keeps stays Euler in simp (extents_scalar, base_scalar, fits_one, h) refl
constant_does keeps stays s HalfMax = let h = constant_in_range keeps stays HalfMax in simp (extents_scalar, base_scalar, fits_one, h) refl
constant_does keeps stays s FloatMax = simp (extents_scalar, base_scalar, fits_one) refl
constant_does keeps stays s IntMax = simp (extents_scalar, base_scalar, fits_one) refl
constant_does keeps stays s IntMin = simp (extents_scalar, base_scalar, fits_one) refl
constant_does keeps stays s UnsignedMax = simp (extents_scalar, base_scalar, fits_one) refl

constants_do : HalfKeeps → ArithmeticStaysInRange → (s : Scene) (cs : List LibraryConstant) → constants_stand s (map constant_of cs) ≡ true
constants_do keeps stays s [] = refl
constants_do keeps stays s (c ∷ cs) = rw (constant_does keeps stays s c) (constants_do keeps stays s cs)

pub library_stands : HalfKeeps → ArithmeticStaysInRange → (units : List SourceUnit) → IsDefined (library_definitions units)
library_stands keeps stays units = record {
  structs = ([], refl);
  constants = ([], refl);
  stand = rw (structs_do, constants_do keeps stays (scene_before (library_definitions units)) (Pi ∷ Euler ∷ HalfMax ∷ FloatMax ∷ IntMax ∷ IntMin ∷ UnsignedMax ∷ [])) refl;
}
