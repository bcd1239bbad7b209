-- The functions and the constants are told apart by their names.
use Rattle.std.proofs.Common.{◌≡◌, ℕ, ◌+◌, ◌*◌, ◌<◌, ◌==◌, if◌then◌else◌, List, [], ◌∷◌, fold, get_or, lit<, Option, None, Some, refl, ap, sym, ◌∙◌}
use Rattle.ctl_stdlib.specs.declared.row.LibraryId.{LibraryId}
use Rattle.ctl_stdlib.specs.declared.row.LibraryId.TheVariants.{Exp, Log, Log10, Pow10, Sqrt, Fabs, Floor, Sin, Cos, Tan, Asin, Acos, Atan, Pow, Fmod, Hypot, Atan2, ExpH, LogH, Log10H, Pow10H, PowH, AddF3F3, SubtractF3F3, MultFF3, DotF3F3, CrossF3F3, LengthF3, MultF3F33, MultF3F44, MultF33F33, MultF44F44, MultFF33, MultFF44, AddF33F33, AddF44F44, TransposeF33, TransposeF44, InvertF33, InvertF44, Lookup1D, LookupCubic1D, Interpolate1D, InterpolateCubic1D, Lookup3DF3, Lookup3DF, RgbToXyz, XyzToRgb, Assert}
use Rattle.ctl_stdlib.specs.declared.constants.LibraryConstant.{LibraryConstant}
use Rattle.ctl_stdlib.specs.declared.constants.LibraryConstant.TheVariants.{Pi, Euler, HalfMax, FloatMax, IntMax, IntMin, UnsignedMax}
use Rattle.ctl_stdlib.specs.Rows.{row, NoRow}
use Rattle.ctl_stdlib.specs.Constants.{constant}
use Rattle.ctl_stdlib.specs.Laws.{NamesDiffer}
use Rattle.ctl_stdlib.specs.declared.names.TheConstants.{ALL}

-- a name as one number
abbrev code_of : List ℕ → ℕ
code_of name = fold (λ (n : ℕ) (b : ℕ). 256 * n + b) 0 name

-- the first function with this number
abbrev first_with : List LibraryId → ℕ → Option LibraryId
first_with [] n = None
first_with (id ∷ ids) n = if code_of (row id).name == n then Some id else first_with ids n

abbrev function_with : ℕ → Option LibraryId
function_with n = first_with ALL n

function_of : (id : LibraryId) → function_with (code_of (row id).name) ≡ Some id
function_of Exp = refl
function_of Log = refl
function_of Log10 = refl
function_of Pow10 = refl
function_of Sqrt = refl
function_of Fabs = refl
function_of Floor = refl
function_of Sin = refl
function_of Cos = refl
function_of Tan = refl
function_of Asin = refl
function_of Acos = refl
function_of Atan = refl
function_of Pow = refl
function_of Fmod = refl
function_of Hypot = refl
function_of Atan2 = refl
function_of ExpH = refl
function_of LogH = refl
function_of Log10H = refl
function_of Pow10H = refl
function_of PowH = refl
function_of AddF3F3 = refl
function_of SubtractF3F3 = refl
function_of MultFF3 = refl
function_of DotF3F3 = refl
function_of CrossF3F3 = refl
function_of LengthF3 = refl
function_of MultF3F33 = refl
function_of MultF3F44 = refl
function_of MultF33F33 = refl
function_of MultF44F44 = refl
function_of MultFF33 = refl
function_of MultFF44 = refl
function_of AddF33F33 = refl
function_of AddF44F44 = refl
function_of TransposeF33 = refl
function_of TransposeF44 = refl
function_of InvertF33 = refl
function_of InvertF44 = refl
function_of Lookup1D = refl
function_of LookupCubic1D = refl
function_of Interpolate1D = refl
function_of InterpolateCubic1D = refl
function_of Lookup3DF3 = refl
function_of Lookup3DF = refl
function_of RgbToXyz = refl
function_of XyzToRgb = refl
function_of Assert = refl

no_function : (c : LibraryConstant) → function_with (code_of (constant c).name) ≡ None
no_function Pi = refl
no_function Euler = refl
no_function HalfMax = refl
no_function FloatMax = refl
no_function IntMax = refl
no_function IntMin = refl
no_function UnsignedMax = refl

abbrev first_constant : List LibraryConstant → ℕ → Option LibraryConstant
first_constant [] n = None
first_constant (c ∷ cs) n = if code_of (constant c).name == n then Some c else first_constant cs n

abbrev constant_with : ℕ → Option LibraryConstant
constant_with n = first_constant (Pi ∷ Euler ∷ HalfMax ∷ FloatMax ∷ IntMax ∷ IntMin ∷ UnsignedMax ∷ []) n

constant_of : (c : LibraryConstant) → constant_with (code_of (constant c).name) ≡ Some c
constant_of Pi = refl
constant_of Euler = refl
constant_of HalfMax = refl
constant_of FloatMax = refl
constant_of IntMax = refl
constant_of IntMin = refl
constant_of UnsignedMax = refl

functions_differ : (a b : LibraryId) → (row a).name ≡ (row b).name → a ≡ b
functions_differ a b e = let f : Some a ≡ Some b = sym (function_of a) ∙ ap (λ (x : List ℕ). function_with (code_of x)) e ∙ function_of b in cc

constants_differ : (a b : LibraryConstant) → (constant a).name ≡ (constant b).name → a ≡ b
constants_differ a b e = let f : Some a ≡ Some b = sym (constant_of a) ∙ ap (λ (x : List ℕ). constant_with (code_of x)) e ∙ constant_of b in cc

kept_apart : (a : LibraryId) (b : LibraryConstant) → (row a).name ≡ (constant b).name → ⊥
kept_apart a b e = let f : Some a ≡ None = sym (function_of a) ∙ ap (λ (x : List ℕ). function_with (code_of x)) e ∙ no_function b in cc

pub names_law : NamesDiffer
names_law = record { functions = functions_differ; constants = constants_differ; apart = kept_apart }

-- a name that none in the list of all has is no function's
pub no_row : (name : List ℕ) → ((k : ℕ) → k < 49 → (row (get_or ALL k Exp)).name ≡ name → ⊥) → NoRow name
no_row name h Exp = h 0 (lit< tt)
no_row name h Log = h 1 (lit< tt)
no_row name h Log10 = h 2 (lit< tt)
no_row name h Pow10 = h 3 (lit< tt)
no_row name h Sqrt = h 4 (lit< tt)
no_row name h Fabs = h 5 (lit< tt)
no_row name h Floor = h 6 (lit< tt)
no_row name h Sin = h 7 (lit< tt)
no_row name h Cos = h 8 (lit< tt)
no_row name h Tan = h 9 (lit< tt)
no_row name h Asin = h 10 (lit< tt)
no_row name h Acos = h 11 (lit< tt)
no_row name h Atan = h 12 (lit< tt)
no_row name h Pow = h 13 (lit< tt)
no_row name h Fmod = h 14 (lit< tt)
no_row name h Hypot = h 15 (lit< tt)
no_row name h Atan2 = h 16 (lit< tt)
no_row name h ExpH = h 17 (lit< tt)
no_row name h LogH = h 18 (lit< tt)
no_row name h Log10H = h 19 (lit< tt)
no_row name h Pow10H = h 20 (lit< tt)
no_row name h PowH = h 21 (lit< tt)
no_row name h AddF3F3 = h 22 (lit< tt)
no_row name h SubtractF3F3 = h 23 (lit< tt)
no_row name h MultFF3 = h 24 (lit< tt)
no_row name h DotF3F3 = h 25 (lit< tt)
no_row name h CrossF3F3 = h 26 (lit< tt)
no_row name h LengthF3 = h 27 (lit< tt)
no_row name h MultF3F33 = h 28 (lit< tt)
no_row name h MultF3F44 = h 29 (lit< tt)
no_row name h MultF33F33 = h 30 (lit< tt)
no_row name h MultF44F44 = h 31 (lit< tt)
no_row name h MultFF33 = h 32 (lit< tt)
no_row name h MultFF44 = h 33 (lit< tt)
no_row name h AddF33F33 = h 34 (lit< tt)
no_row name h AddF44F44 = h 35 (lit< tt)
no_row name h TransposeF33 = h 36 (lit< tt)
no_row name h TransposeF44 = h 37 (lit< tt)
no_row name h InvertF33 = h 38 (lit< tt)
no_row name h InvertF44 = h 39 (lit< tt)
no_row name h Lookup1D = h 40 (lit< tt)
no_row name h LookupCubic1D = h 41 (lit< tt)
no_row name h Interpolate1D = h 42 (lit< tt)
no_row name h InterpolateCubic1D = h 43 (lit< tt)
no_row name h Lookup3DF3 = h 44 (lit< tt)
no_row name h Lookup3DF = h 45 (lit< tt)
no_row name h RgbToXyz = h 46 (lit< tt)
no_row name h XyzToRgb = h 47 (lit< tt)
no_row name h Assert = h 48 (lit< tt)
