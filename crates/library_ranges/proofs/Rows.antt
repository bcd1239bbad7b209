-- Each row gives raws for raws.
use Rattle.std.proofs.Common.{ℕ, ℤ, List, [], ◌∷◌}
use Rattle.std.specs.Prelude.{All}
use Rattle.fix_num.specs.declared.TheConstants.{FRACTION}
use Rattle.fix_num.specs.Fixed.{IsRaw}
use Rattle.fix_num.specs.Half.{half}
use Rattle.fix_num.specs.Ranges.{ArithmeticInRange, HalvesInRange}
use Rattle.table_lookup.specs.Tables.{entry}
use Rattle.ctl_stdlib.specs.declared.row.LibraryId.TheVariants.{Exp, Log, Log10, Pow10, Sqrt, Fabs, Floor, Sin, Cos, Tan, Asin, Acos, Atan, Pow, Fmod, Hypot, Atan2, ExpH, LogH, Log10H, Pow10H, PowH, AddF3F3, SubtractF3F3, MultFF3, DotF3F3, CrossF3F3, LengthF3, MultF3F33, MultF3F44, MultF33F33, MultF44F44, MultFF33, MultFF44, AddF33F33, AddF44F44, TransposeF33, TransposeF44, InvertF33, InvertF44, Lookup1D, LookupCubic1D, Interpolate1D, InterpolateCubic1D, Lookup3DF3, Lookup3DF, RgbToXyz, XyzToRgb, Assert}
use Rattle.library_ranges.specs.Ranges.{ElementaryInRange, AnglesInRange, VectorsInRange, TablesInRange, RawsComeOut}
use Rattle.library_ranges.proofs.Words.{to_all, from_all, entry_raw, one_raw}

-- the laws of each family, at the number of fraction bits that the code has
pub record Laws : Type 0 where
  pub arithmetic : ArithmeticInRange FRACTION
  pub halves : HalvesInRange FRACTION
  pub elementary : ElementaryInRange FRACTION
  pub angles : AnglesInRange FRACTION
  pub vectors : VectorsInRange FRACTION
  pub tables : TablesInRange FRACTION

-- a word of the inputs
word : (args : List ℤ) (i : ℕ) → All IsRaw args → IsRaw (entry args i)
word args i a = entry_raw args i (from_all args a)

one_half : Laws → (z : ℤ) → All IsRaw (half FRACTION z ∷ [])
one_half laws z = one_raw _ (laws.halves.raw (half FRACTION z) (laws.halves.half z))

pub rows_law : Laws → RawsComeOut
rows_law laws Exp sizes table args t a = one_raw _ (laws.elementary.natural_power _)
rows_law laws Log sizes table args t a = one_raw _ (laws.elementary.natural_logarithm _)
rows_law laws Log10 sizes table args t a = one_raw _ (laws.elementary.decimal_logarithm _)
rows_law laws Pow10 sizes table args t a = one_raw _ (laws.elementary.decimal_power _)
rows_law laws Sqrt sizes table args t a = one_raw _ (laws.arithmetic.root (entry args 0) (word args 0 a)).0
rows_law laws Fabs sizes table args t a = one_raw _ (laws.arithmetic.size (entry args 0) (word args 0 a)).0
rows_law laws Floor sizes table args t a = one_raw _ (laws.arithmetic.floor (entry args 0))
rows_law laws Sin sizes table args t a = one_raw _ (laws.angles.sine (entry args 0))
rows_law laws Cos sizes table args t a = one_raw _ (laws.angles.cosine (entry args 0))
rows_law laws Tan sizes table args t a = one_raw _ (laws.angles.tangent (entry args 0))
rows_law laws Asin sizes table args t a = one_raw _ (laws.angles.arc_sine (entry args 0))
rows_law laws Acos sizes table args t a = one_raw _ (laws.angles.arc_cosine (entry args 0))
rows_law laws Atan sizes table args t a = one_raw _ (laws.angles.arc_tangent (entry args 0))
rows_law laws Pow sizes table args t a = one_raw _ (laws.elementary.power _ _)
rows_law laws Fmod sizes table args t a = one_raw _ (laws.elementary.remainder (entry args 0) (entry args 1) (word args 0 a))
rows_law laws Hypot sizes table args t a = one_raw _ (laws.elementary.hypotenuse _ _)
rows_law laws Atan2 sizes table args t a = one_raw _ (laws.angles.angle (entry args 0) (entry args 1))
rows_law laws ExpH sizes table args t a = one_half laws _
rows_law laws LogH sizes table args t a = one_half laws _
rows_law laws Log10H sizes table args t a = one_half laws _
rows_law laws Pow10H sizes table args t a = one_half laws _
rows_law laws PowH sizes table args t a = one_half laws _
rows_law laws AddF3F3 sizes table args t a = laws.vectors.sum 3 args
rows_law laws SubtractF3F3 sizes table args t a = laws.vectors.difference args
rows_law laws MultFF3 sizes table args t a = laws.vectors.scaled args
rows_law laws DotF3F3 sizes table args t a = laws.vectors.dot args
rows_law laws CrossF3F3 sizes table args t a = laws.vectors.cross args
rows_law laws LengthF3 sizes table args t a = laws.vectors.norm args
rows_law laws MultF3F33 sizes table args t a = laws.vectors.row_by_3 args
rows_law laws MultF3F44 sizes table args t a = laws.vectors.row_by_4 args
rows_law laws MultF33F33 sizes table args t a = laws.vectors.product_3 args
rows_law laws MultF44F44 sizes table args t a = laws.vectors.product_4 args
rows_law laws MultFF33 sizes table args t a = laws.vectors.scaled args
rows_law laws MultFF44 sizes table args t a = laws.vectors.scaled args
rows_law laws AddF33F33 sizes table args t a = laws.vectors.sum 9 args
rows_law laws AddF44F44 sizes table args t a = laws.vectors.sum 16 args
rows_law laws TransposeF33 sizes table args t a = laws.vectors.transpose_3 args a
rows_law laws TransposeF44 sizes table args t a = laws.vectors.transpose_4 args a
rows_law laws InvertF33 sizes table args t a = laws.vectors.inverse_3 args
rows_law laws InvertF44 sizes table args t a = laws.vectors.inverse_4 args
rows_law laws Lookup1D sizes table args t a = one_raw _ (laws.tables.line table args)
rows_law laws LookupCubic1D sizes table args t a = one_raw _ (laws.tables.curve table args t)
rows_law laws Interpolate1D sizes table args t a = one_raw _ (laws.tables.pair_line table args t)
rows_law laws InterpolateCubic1D sizes table args t a = one_raw _ (laws.tables.pair_curve table args t)
rows_law laws Lookup3DF3 sizes table args t a = laws.tables.lattice sizes table args
rows_law laws Lookup3DF sizes table args t a = laws.tables.lattice sizes table args
rows_law laws RgbToXyz sizes table args t a = laws.tables.xyz args
rows_law laws XyzToRgb sizes table args t a = laws.tables.rgb args
rows_law laws Assert sizes table args t a = to_all [] tt
