-- Which values fit where a shape is wanted.
use Rattle.std.proofs.Common.{◌≡◌, ℕ, List, [], ◌∷◌, map, Option, Some, None, Bool, true, false, if◌then◌else◌, refl, sym, ap, subst, ◌∙◌}
use Rattle.ctl_types.specs.declared.shape.Base.{Base}
use Rattle.ctl_types.specs.declared.shape.Base.TheVariants.{Scalar, Struct}
use Rattle.ctl_types.specs.declared.shape.Extent.{Extent}
use Rattle.ctl_types.specs.declared.shape.Size.{Size}
use Rattle.ctl_types.specs.declared.expression.Conversion.{Conversion}
use Rattle.ctl_types.specs.declared.expression.Conversion.TheVariants.{Same, Between}
use Rattle.ctl_types.specs.declared.expression.TypedExpr.{TypedExpr}
use Rattle.ctl_types.specs.Shapes.{numbered, through}
use Rattle.ctl_types.specs.Typing.{Typed, Scene, Variables, are_stated, same_base, as_converted, taken, expr_type, operand_type}
use Rattle.ctl_check_rules.specs.Operators.{between, operand}
use Rattle.ctl_check_rules.specs.Shapes.{extents_fit, open_sizes_in, base_conversion, fitting}
use Rattle.ctl_check_laws.specs.Accepted.{known}
use Rattle.ctl_check_laws.specs.Taking.{IsFitting, FittingHasType, ConversionHasType, StatedSizesFit}
use Rattle.ctl_check_laws.proofs.Shapes.{bases_same, stated_through, through_fits}
use Rattle.ctl_check_laws.proofs.Types as types
use Rattle.ctl_check_laws.proofs.Operators.{converted_of}

-- a value to which this is done has the base that is wanted
pub base_is : (sizes : List Size) (wanted : Base) (given : Option Base) (c : Conversion) (t : Typed) (depth : ℕ) → base_conversion sizes wanted given ≡ Some c → t ≡ known sizes given depth → as_converted c t ≡ known sizes (Some wanted) depth
base_is sizes wanted None c t depth e q = absurd (cc)
base_is [] (Scalar k) (Some (Scalar a)) c t depth e q =
    let p : between a k ≡ c = cc in
    ap (λ c. as_converted c t) (sym p) ∙ converted_of a k t depth q
base_is [] (Scalar k) (Some (Struct n)) c t depth e q = absurd (cc)
base_is [] (Struct m) (Some given) c t depth e q = same (same_base (Struct m) given) refl where
  same : (b : Bool) → same_base (Struct m) given ≡ b → as_converted c t ≡ known [] (Some (Struct m)) depth
  same true f =
      let p : Same ≡ c = let z : (if same_base (Struct m) given then Some Same else None) ≡ Some c = e in let y : (if true then Some Same else None) ≡ Some c = subst (λ b. (if b then Some Same else None) ≡ Some c) f z in cc in
      ap (λ c. as_converted c t) (sym p) ∙ q ∙ ap (λ base. known [] (Some base) depth) (sym (bases_same (Struct m) given f))
  same false f = let z : (if same_base (Struct m) given then Some Same else None) ≡ Some c = e in let y : (if false then Some Same else None) ≡ Some c = subst (λ b. (if b then Some Same else None) ≡ Some c) f z in absurd (cc)
base_is (size ∷ sizes) wanted (Some given) c t depth e q = same (same_base wanted given) refl where
  same : (b : Bool) → same_base wanted given ≡ b → as_converted c t ≡ known (size ∷ sizes) (Some wanted) depth
  same true f =
      let p : Same ≡ c = let z : (if same_base wanted given then Some Same else None) ≡ Some c = e in let y : (if true then Some Same else None) ≡ Some c = subst (λ b. (if b then Some Same else None) ≡ Some c) f z in cc in
      ap (λ c. as_converted c t) (sym p) ∙ q ∙ ap (λ base. known (size ∷ sizes) (Some base) depth) (sym (bases_same wanted given f))
  same false f = let z : (if same_base wanted given then Some Same else None) ≡ Some c = e in let y : (if false then Some Same else None) ≡ Some c = subst (λ b. (if b then Some Same else None) ≡ Some c) f z in absurd (cc)

pub fitting_is : (xs : List Extent) (wanted : Base) (sizes : List Size) (given : Option Base) (c : Conversion) → fitting xs wanted sizes given ≡ Some c → (extents_fit xs sizes ≡ true) × (base_conversion sizes wanted given ≡ Some c)
fitting_is xs wanted sizes given c e = by (extents_fit xs sizes) refl where
  by : (b : Bool) → extents_fit xs sizes ≡ b → (extents_fit xs sizes ≡ true) × (base_conversion sizes wanted given ≡ Some c)
  by true f = (f, subst (λ b. (if b then base_conversion sizes wanted given else None) ≡ Some c) f e)
  by false f = let z : (if false then base_conversion sizes wanted given else None) ≡ Some c = subst (λ b. (if b then base_conversion sizes wanted given else None) ≡ Some c) f e in absurd (cc)

-- what is done to a value of a known type gives the base that is wanted
pub conversion_has_type : ConversionHasType
conversion_has_type x vs e c wanted sizes base depth t q = ap taken (types.operand_is x vs e c) ∙ base_is sizes wanted base c (expr_type x vs e) depth q t

-- where no extent is open, the sizes that fit are those of the extents
pub stated_sizes_fit : StatedSizesFit
stated_sizes_fit xs sizes a f = sym (through_fits xs sizes [] [] 0 refl f) ∙ stated_through _ (numbered 0 xs) a

-- a value that fits
pub fitting_has_type : FittingHasType
fitting_has_type x vs e c xs wanted sizes base depth t q =
    let f = fitting_is xs wanted sizes base c q in
    record { fits = f.0; type = conversion_has_type x vs e c wanted sizes base depth t f.1 }
