-- What all rows keep: only the first parameter is a table, and outputs are floats.
use Rattle.std.proofs.Common.{◌≡◌, List, [], ◌∷◌, Bool, true, false, not, ◌&&◌, if◌then◌else◌, refl}
use Rattle.ctl_stdlib.specs.declared.row.LibraryId.{LibraryId}
use Rattle.ctl_stdlib.specs.declared.row.LibraryId.TheVariants.{Exp, Log, Log10, Pow10, Sqrt, Fabs, Floor, Sin, Cos, Tan, Asin, Acos, Atan, Pow, Fmod, Hypot, Atan2, ExpH, LogH, Log10H, Pow10H, PowH, AddF3F3, SubtractF3F3, MultFF3, DotF3F3, CrossF3F3, LengthF3, MultF3F33, MultF3F44, MultF33F33, MultF44F44, MultFF33, MultFF44, AddF33F33, AddF44F44, TransposeF33, TransposeF44, InvertF33, InvertF44, Lookup1D, LookupCubic1D, Interpolate1D, InterpolateCubic1D, Lookup3DF3, Lookup3DF, RgbToXyz, XyzToRgb, Assert}
use Rattle.ctl_stdlib.specs.declared.row.RowShape.{RowShape}
use Rattle.ctl_stdlib.specs.declared.row.RowShape.TheVariants.{Bool as BoolShape, Half, Float, Float3, Float33, Float44, Floats, Pairs, Lattice, Chromaticities}
use Rattle.ctl_stdlib.specs.declared.row.Param.{Param}
use Rattle.ctl_stdlib.specs.Rows.{row}
use Rattle.ctl_stdlib.specs.Shapes.{is_table}

abbrev pub is_float : RowShape → Bool
is_float BoolShape = false
is_float Half = false
is_float Float = true
is_float Float3 = false
is_float Float33 = false
is_float Float44 = false
is_float Floats = false
is_float Pairs = false
is_float Lattice = false
is_float Chromaticities = false

abbrev pub no_tables : List Param → Bool
no_tables [] = true
no_tables (p ∷ params) = not (is_table p.shape) && no_tables params

abbrev pub tables_first : List Param → Bool
tables_first [] = true
tables_first (p ∷ params) = no_tables params

abbrev pub outputs_float : List Param → Bool
outputs_float [] = true
outputs_float (p ∷ params) = (if p.is_output then is_float p.shape else true) && outputs_float params

pub rows_keep : (id : LibraryId) → (tables_first (row id).params && outputs_float (row id).params) ≡ true
rows_keep Exp = refl
rows_keep Log = refl
rows_keep Log10 = refl
rows_keep Pow10 = refl
rows_keep Sqrt = refl
rows_keep Fabs = refl
rows_keep Floor = refl
rows_keep Sin = refl
rows_keep Cos = refl
rows_keep Tan = refl
rows_keep Asin = refl
rows_keep Acos = refl
rows_keep Atan = refl
rows_keep Pow = refl
rows_keep Fmod = refl
rows_keep Hypot = refl
rows_keep Atan2 = refl
rows_keep ExpH = refl
rows_keep LogH = refl
rows_keep Log10H = refl
rows_keep Pow10H = refl
rows_keep PowH = refl
rows_keep AddF3F3 = refl
rows_keep SubtractF3F3 = refl
rows_keep MultFF3 = refl
rows_keep DotF3F3 = refl
rows_keep CrossF3F3 = refl
rows_keep LengthF3 = refl
rows_keep MultF3F33 = refl
rows_keep MultF3F44 = refl
rows_keep MultF33F33 = refl
rows_keep MultF44F44 = refl
rows_keep MultFF33 = refl
rows_keep MultFF44 = refl
rows_keep AddF33F33 = refl
rows_keep AddF44F44 = refl
rows_keep TransposeF33 = refl
rows_keep TransposeF44 = refl
rows_keep InvertF33 = refl
rows_keep InvertF44 = refl
rows_keep Lookup1D = refl
rows_keep LookupCubic1D = refl
rows_keep Interpolate1D = refl
rows_keep InterpolateCubic1D = refl
rows_keep Lookup3DF3 = refl
rows_keep Lookup3DF = refl
rows_keep RgbToXyz = refl
rows_keep XyzToRgb = refl
rows_keep Assert = refl
