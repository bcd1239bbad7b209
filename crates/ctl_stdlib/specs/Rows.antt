-- The rows of the library: the name of each function, its parameters, its result, and what it gives for its arguments.
-- F is the number of fraction bits. A word of a float or a half is its raw, that of a bool is 0 or 1.
use Rattle.std.specs.Prelude.{◌≡◌, ℕ, ℤ, Bool, true, false, List, [], ◌∷◌, Option, None, Some, codes}
use Rattle.fix_num.specs.Fixed.{fix_abs, fix_floor, fix_sqrt}
use Rattle.fix_num.specs.Half.{half}
use Rattle.fix_num.specs.Whole.{truth}
use Rattle.fix_elem.specs.Elementary.{exp, log, log10, pow10, pow, fmod, hypot}
use Rattle.fix_trig.specs.Angle.{fix_sin, fix_cos, fix_tan, fix_asin, fix_acos, fix_atan, fix_atan2}
use Rattle.table_lookup.specs.Tables.{entry}
use Rattle.ctl_stdlib.specs.Values.{sum_of, difference_of, product_of, dot_of, cross_of, length_of, row_by_33, row_by_44, product_33, product_44, transpose_33, transpose_44, inverse_33, inverse_44, line_of, curve_of, pair_line_of, pair_curve_of, at_point, to_xyz, to_rgb}
use Rattle.ctl_stdlib.specs.declared.row.LibraryId.{LibraryId}
use Rattle.ctl_stdlib.specs.declared.row.LibraryId.TheVariants.{Exp, Log, Log10, Pow10, Sqrt, Fabs, Floor, Sin, Cos, Tan, Asin, Acos, Atan, Pow, Fmod, Hypot, Atan2, ExpH, LogH, Log10H, Pow10H, PowH, AddF3F3, SubtractF3F3, MultFF3, DotF3F3, CrossF3F3, LengthF3, MultF3F33, MultF3F44, MultF33F33, MultF44F44, MultFF33, MultFF44, AddF33F33, AddF44F44, TransposeF33, TransposeF44, InvertF33, InvertF44, Lookup1D, LookupCubic1D, Interpolate1D, InterpolateCubic1D, Lookup3DF3, Lookup3DF, RgbToXyz, XyzToRgb, Assert}
use Rattle.ctl_stdlib.specs.declared.row.RowShape.{RowShape}
use Rattle.ctl_stdlib.specs.declared.row.RowShape.TheVariants.{Bool as BoolShape, Half, Float, Float3, Float33, Float44, Floats, Pairs, Lattice, Chromaticities}
use Rattle.ctl_stdlib.specs.declared.row.Param.{Param}

-- A function of the library.
pub record Row : Type 0 where
  pub name : List ℕ
  pub params : List Param
  pub result : Option RowShape
  -- the words of the result and of the outputs, from the number of fraction bits, the open sizes, the words of the table, and those of the other inputs
  pub value : ℕ → List ℕ → List ℤ → List ℤ → List ℤ
  -- whether the call goes on, from the words of the inputs
  pub answer : List ℤ → Bool

abbrev pub input : RowShape → Param
input shape = record { shape = shape; is_output = false }

abbrev pub output : RowShape → Param
output shape = record { shape = shape; is_output = true }

-- a function with a result and no outputs
abbrev pub plain : List ℕ → List Param → RowShape → (ℕ → List ℕ → List ℤ → List ℤ → List ℤ) → Row
plain name params result value = record { name = name; params = params; result = Some result; value = value; answer = λ args. true }

-- values that stand on the words of the inputs alone, and on those of the table besides
abbrev pub of_args : (ℕ → List ℤ → List ℤ) → ℕ → List ℕ → List ℤ → List ℤ → List ℤ
of_args f F sizes table args = f F args

abbrev pub of_table : (ℕ → List ℤ → List ℤ → ℤ) → ℕ → List ℕ → List ℤ → List ℤ → List ℤ
of_table f F sizes table args = f F table args ∷ []

-- a function of one float, and of two
abbrev pub of_float : List ℕ → (ℕ → ℤ → ℤ) → Row
of_float name f = plain name (input Float ∷ []) Float (λ F sizes table args. f F (entry args 0) ∷ [])

abbrev pub of_two_floats : List ℕ → (ℕ → ℤ → ℤ → ℤ) → Row
of_two_floats name f = plain name (input Float ∷ input Float ∷ []) Float (λ F sizes table args. f F (entry args 0) (entry args 1) ∷ [])

-- the half of what a function of floats gives for one half, and for two
abbrev pub of_half : List ℕ → (ℕ → ℤ → ℤ) → Row
of_half name f = plain name (input Half ∷ []) Half (λ F sizes table args. half F (f F (entry args 0)) ∷ [])

abbrev pub of_two_halves : List ℕ → (ℕ → ℤ → ℤ → ℤ) → Row
of_two_halves name f = plain name (input Half ∷ input Half ∷ []) Half (λ F sizes table args. half F (f F (entry args 0) (entry args 1)) ∷ [])

-- the row of each function
abbrev pub row : LibraryId → Row
row Exp = of_float (codes "exp") exp
row Log = of_float (codes "log") log
row Log10 = of_float (codes "log10") log10
row Pow10 = of_float (codes "pow10") pow10
row Sqrt = of_float (codes "sqrt") fix_sqrt
row Fabs = of_float (codes "fabs") (λ F x. fix_abs x)
row Floor = of_float (codes "floor") fix_floor
row Sin = of_float (codes "sin") fix_sin
row Cos = of_float (codes "cos") fix_cos
row Tan = of_float (codes "tan") fix_tan
row Asin = of_float (codes "asin") fix_asin
row Acos = of_float (codes "acos") fix_acos
row Atan = of_float (codes "atan") fix_atan
row Pow = of_two_floats (codes "pow") pow
row Fmod = of_two_floats (codes "fmod") (λ F x y. fmod x y)
row Hypot = of_two_floats (codes "hypot") (λ F x y. hypot x y)
row Atan2 = of_two_floats (codes "atan2") fix_atan2
row ExpH = of_half (codes "exp_h") exp
row LogH = of_half (codes "log_h") log
row Log10H = of_half (codes "log10_h") log10
row Pow10H = of_half (codes "pow10_h") pow10
row PowH = of_two_halves (codes "pow_h") pow
row AddF3F3 = plain (codes "add_f3_f3") (input Float3 ∷ input Float3 ∷ []) Float3 (of_args (λ F. sum_of 3))
row SubtractF3F3 = plain (codes "subtract_f3_f3") (input Float3 ∷ input Float3 ∷ []) Float3 (of_args (λ F. difference_of))
row MultFF3 = plain (codes "mult_f_f3") (input Float ∷ input Float3 ∷ []) Float3 (of_args product_of)
row DotF3F3 = plain (codes "dot_f3_f3") (input Float3 ∷ input Float3 ∷ []) Float (of_args dot_of)
row CrossF3F3 = plain (codes "cross_f3_f3") (input Float3 ∷ input Float3 ∷ []) Float3 (of_args cross_of)
row LengthF3 = plain (codes "length_f3") (input Float3 ∷ []) Float (of_args length_of)
row MultF3F33 = plain (codes "mult_f3_f33") (input Float3 ∷ input Float33 ∷ []) Float3 (of_args row_by_33)
row MultF3F44 = plain (codes "mult_f3_f44") (input Float3 ∷ input Float44 ∷ []) Float3 (of_args row_by_44)
row MultF33F33 = plain (codes "mult_f33_f33") (input Float33 ∷ input Float33 ∷ []) Float33 (of_args product_33)
row MultF44F44 = plain (codes "mult_f44_f44") (input Float44 ∷ input Float44 ∷ []) Float44 (of_args product_44)
row MultFF33 = plain (codes "mult_f_f33") (input Float ∷ input Float33 ∷ []) Float33 (of_args product_of)
row MultFF44 = plain (codes "mult_f_f44") (input Float ∷ input Float44 ∷ []) Float44 (of_args product_of)
row AddF33F33 = plain (codes "add_f33_f33") (input Float33 ∷ input Float33 ∷ []) Float33 (of_args (λ F. sum_of 9))
row AddF44F44 = plain (codes "add_f44_f44") (input Float44 ∷ input Float44 ∷ []) Float44 (of_args (λ F. sum_of 16))
row TransposeF33 = plain (codes "transpose_f33") (input Float33 ∷ []) Float33 (of_args (λ F. transpose_33))
row TransposeF44 = plain (codes "transpose_f44") (input Float44 ∷ []) Float44 (of_args (λ F. transpose_44))
row InvertF33 = plain (codes "invert_f33") (input Float33 ∷ []) Float33 (of_args inverse_33)
row InvertF44 = plain (codes "invert_f44") (input Float44 ∷ []) Float44 (of_args inverse_44)
row Lookup1D = plain (codes "lookup1D") (input Floats ∷ input Float ∷ input Float ∷ input Float ∷ []) Float (of_table line_of)
row LookupCubic1D = plain (codes "lookupCubic1D") (input Floats ∷ input Float ∷ input Float ∷ input Float ∷ []) Float (of_table curve_of)
row Interpolate1D = plain (codes "interpolate1D") (input Pairs ∷ input Float ∷ []) Float (of_table pair_line_of)
row InterpolateCubic1D = plain (codes "interpolateCubic1D") (input Pairs ∷ input Float ∷ []) Float (of_table pair_curve_of)
row Lookup3DF3 = plain (codes "lookup3D_f3") (input Lattice ∷ input Float3 ∷ input Float3 ∷ input Float3 ∷ []) Float3 at_point
row Lookup3DF = record {
  name = (codes "lookup3D_f");
  params = input Lattice ∷ input Float3 ∷ input Float3 ∷ input Float ∷ input Float ∷ input Float ∷ output Float ∷ output Float ∷ output Float ∷ [];
  result = None;
  value = at_point;
  answer = λ args. true;
}
row RgbToXyz = plain (codes "RGBtoXYZ") (input Chromaticities ∷ input Float ∷ []) Float44 (of_args to_xyz)
row XyzToRgb = plain (codes "XYZtoRGB") (input Chromaticities ∷ input Float ∷ []) Float44 (of_args to_rgb)
row Assert = record {
  name = (codes "assert");
  params = input BoolShape ∷ [];
  result = None;
  value = λ F sizes table args. [];
  answer = λ args. truth (entry args 0);
}

-- no function has this name
abbrev pub NoRow : List ℕ → Type 0
NoRow name = (id : LibraryId) → (row id).name ≡ name → ⊥
