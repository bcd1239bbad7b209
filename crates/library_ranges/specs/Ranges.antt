-- What the functions of the library give is in the range of float: each number is a raw. F is the number of fraction bits.
use Rattle.std.specs.Prelude.{ℕ, ℤ, ◌≤◌, List, All}
use Rattle.fix_num.specs.declared.TheConstants.{FRACTION}
use Rattle.fix_num.specs.Fixed.{IsRaw}
use Rattle.fix_elem.specs.Elementary.{exp, log, log10, pow10, pow, fmod, hypot}
use Rattle.fix_trig.specs.Angle.{fix_sin, fix_cos, fix_tan, fix_asin, fix_acos, fix_atan, fix_atan2}
use Rattle.ctl_stdlib.specs.Values.{sum_of, difference_of, product_of, dot_of, cross_of, length_of, row_by_33, row_by_44, product_33, product_44, transpose_33, transpose_44, inverse_33, inverse_44, line_of, curve_of, pair_line_of, pair_curve_of, at_point, to_xyz, to_rgb}
use Rattle.ctl_stdlib.specs.declared.row.LibraryId.{LibraryId}
use Rattle.ctl_stdlib.specs.Rows.{row}

-- powers, logarithms, lengths, and the remainder of a raw
pub record ElementaryInRange (F : ℕ) : Type 0 where
  pub natural_power : (x : ℤ) → IsRaw (exp F x)
  pub natural_logarithm : (x : ℤ) → IsRaw (log F x)
  pub decimal_power : (x : ℤ) → IsRaw (pow10 F x)
  pub decimal_logarithm : (x : ℤ) → IsRaw (log10 F x)
  pub power : (x y : ℤ) → IsRaw (pow F x y)
  pub remainder : (x y : ℤ) → IsRaw x → IsRaw (fmod x y)
  pub hypotenuse : (x y : ℤ) → IsRaw (hypot x y)

abbrev pub ElementaryStaysInRange : Type 0
ElementaryStaysInRange = (F : ℕ) → F ≤ 40 → ElementaryInRange F

-- the functions of angles, and the angles that they are of
pub record AnglesInRange (F : ℕ) : Type 0 where
  pub sine : (x : ℤ) → IsRaw (fix_sin F x)
  pub cosine : (x : ℤ) → IsRaw (fix_cos F x)
  pub tangent : (x : ℤ) → IsRaw (fix_tan F x)
  pub arc_sine : (x : ℤ) → IsRaw (fix_asin F x)
  pub arc_cosine : (x : ℤ) → IsRaw (fix_acos F x)
  pub arc_tangent : (x : ℤ) → IsRaw (fix_atan F x)
  pub angle : (y x : ℤ) → IsRaw (fix_atan2 F y x)

abbrev pub AnglesStayInRange : Type 0
AnglesStayInRange = (F : ℕ) → F ≤ 40 → AnglesInRange F

-- vectors and matrices: what is computed is a raw whatever the words are, and what is only moved where they are
pub record VectorsInRange (F : ℕ) : Type 0 where
  pub sum : (n : ℕ) (args : List ℤ) → All IsRaw (sum_of n args)
  pub difference : (args : List ℤ) → All IsRaw (difference_of args)
  pub scaled : (args : List ℤ) → All IsRaw (product_of F args)
  pub dot : (args : List ℤ) → All IsRaw (dot_of F args)
  pub cross : (args : List ℤ) → All IsRaw (cross_of F args)
  pub norm : (args : List ℤ) → All IsRaw (length_of F args)
  pub row_by_3 : (args : List ℤ) → All IsRaw (row_by_33 F args)
  pub row_by_4 : (args : List ℤ) → All IsRaw (row_by_44 F args)
  pub product_3 : (args : List ℤ) → All IsRaw (product_33 F args)
  pub product_4 : (args : List ℤ) → All IsRaw (product_44 F args)
  pub transpose_3 : (args : List ℤ) → All IsRaw args → All IsRaw (transpose_33 args)
  pub transpose_4 : (args : List ℤ) → All IsRaw args → All IsRaw (transpose_44 args)
  pub inverse_3 : (args : List ℤ) → All IsRaw (inverse_33 F args)
  pub inverse_4 : (args : List ℤ) → All IsRaw (inverse_44 F args)

abbrev pub VectorsStayInRange : Type 0
VectorsStayInRange = (F : ℕ) → F ≤ 40 → VectorsInRange F

-- look-ups, and the matrices of colour; a curve and a table of pairs may give a word of the table itself
pub record TablesInRange (F : ℕ) : Type 0 where
  pub line : (table args : List ℤ) → IsRaw (line_of F table args)
  pub curve : (table args : List ℤ) → All IsRaw table → IsRaw (curve_of F table args)
  pub pair_line : (table args : List ℤ) → All IsRaw table → IsRaw (pair_line_of F table args)
  pub pair_curve : (table args : List ℤ) → All IsRaw table → IsRaw (pair_curve_of F table args)
  pub lattice : (sizes : List ℕ) (table args : List ℤ) → All IsRaw (at_point F sizes table args)
  pub xyz : (args : List ℤ) → All IsRaw (to_xyz F args)
  pub rgb : (args : List ℤ) → All IsRaw (to_rgb F args)

abbrev pub TablesStayInRange : Type 0
TablesStayInRange = (F : ℕ) → F ≤ 40 → TablesInRange F

-- what a function of the library gives for raws are raws
abbrev pub RawsComeOut : Type 0
RawsComeOut = (id : LibraryId) (sizes : List ℕ) (table args : List ℤ) → All IsRaw table → All IsRaw args → All IsRaw ((row id).value FRACTION sizes table args)
