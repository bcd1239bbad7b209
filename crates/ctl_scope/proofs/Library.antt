-- The names of the library.
use Rattle.std.proofs.Common.{◌≡◌, ℕ, List, [], ◌∷◌, ◌++◌, map, Bool, true, false, Some, refl, sym, subst}
use Rattle.std.specs.Prelude.{bytes_eq}
use Rattle.std.specs.Cmp.Lexicographic.{bytes_decides}
use Rattle.ctl_stdlib.specs.declared.row.LibraryId.{LibraryId}
use Rattle.ctl_stdlib.specs.declared.row.LibraryId.TheVariants.{Exp, Log, Log10, Pow10, Sqrt, Fabs, Floor, Sin, Cos, Tan, Asin, Acos, Atan, Pow, Fmod, Hypot, Atan2, ExpH, LogH, Log10H, Pow10H, PowH, AddF3F3, SubtractF3F3, MultFF3, DotF3F3, CrossF3F3, LengthF3, MultF3F33, MultF3F44, MultF33F33, MultF44F44, MultFF33, MultFF44, AddF33F33, AddF44F44, TransposeF33, TransposeF44, InvertF33, InvertF44, Lookup1D, LookupCubic1D, Interpolate1D, InterpolateCubic1D, Lookup3DF3, Lookup3DF, RgbToXyz, XyzToRgb, Assert}
use Rattle.ctl_stdlib.specs.declared.constants.LibraryConstant.{LibraryConstant}
use Rattle.ctl_stdlib.specs.declared.constants.LibraryConstant.TheVariants.{Pi, Euler, HalfMax, FloatMax, IntMax, IntMin, UnsignedMax}
use Rattle.ctl_stdlib.specs.Rows.{row, NoRow}
use Rattle.ctl_stdlib.specs.Constants.{constant, NoConstant}
use Rattle.ctl_scope.specs.declared.meaning.Meaning.TheVariants as meaning
use Rattle.ctl_scope.specs.Names.{Names, meaning_in, library_functions, named_function, named_constant, number_of, library_structs, library_definitions, library_names}

of_function : (id : LibraryId) → meaning_in (row id).name library_names ≡ Some (meaning.Library id)
of_function Exp = refl
of_function Log = refl
of_function Log10 = refl
of_function Pow10 = refl
of_function Sqrt = refl
of_function Fabs = refl
of_function Floor = refl
of_function Sin = refl
of_function Cos = refl
of_function Tan = refl
of_function Asin = refl
of_function Acos = refl
of_function Atan = refl
of_function Pow = refl
of_function Fmod = refl
of_function Hypot = refl
of_function Atan2 = refl
of_function ExpH = refl
of_function LogH = refl
of_function Log10H = refl
of_function Pow10H = refl
of_function PowH = refl
of_function AddF3F3 = refl
of_function SubtractF3F3 = refl
of_function MultFF3 = refl
of_function DotF3F3 = refl
of_function CrossF3F3 = refl
of_function LengthF3 = refl
of_function MultF3F33 = refl
of_function MultF3F44 = refl
of_function MultF33F33 = refl
of_function MultF44F44 = refl
of_function MultFF33 = refl
of_function MultFF44 = refl
of_function AddF33F33 = refl
of_function AddF44F44 = refl
of_function TransposeF33 = refl
of_function TransposeF44 = refl
of_function InvertF33 = refl
of_function InvertF44 = refl
of_function Lookup1D = refl
of_function LookupCubic1D = refl
of_function Interpolate1D = refl
of_function InterpolateCubic1D = refl
of_function Lookup3DF3 = refl
of_function Lookup3DF = refl
of_function RgbToXyz = refl
of_function XyzToRgb = refl
of_function Assert = refl

of_constant : (c : LibraryConstant) → meaning_in (constant c).name library_definitions ≡ Some (meaning.Constant (number_of c))
of_constant Pi = refl
of_constant Euler = refl
of_constant HalfMax = refl
of_constant FloatMax = refl
of_constant IntMax = refl
of_constant IntMin = refl
of_constant UnsignedMax = refl

-- a function of the library by its name
pub function_found : (id : LibraryId) (name : List ℕ) → (row id).name ≡ name → meaning_in name library_names ≡ Some (meaning.Library id)
function_found id name e = subst (λ n. meaning_in n library_names ≡ Some (meaning.Library id)) e (of_function id)

-- a constant of the library by its name
pub constant_found : (c : LibraryConstant) (name : List ℕ) → (constant c).name ≡ name → meaning_in name library_definitions ≡ Some (meaning.Constant (number_of c))
constant_found c name e = subst (λ n. meaning_in n library_definitions ≡ Some (meaning.Constant (number_of c))) e (of_constant c)

differ : (a b : List ℕ) → (b ≡ a → ⊥) → bytes_eq a b ≡ false
differ a b h = by (bytes_eq a b) refl where
  by : (t : Bool) → bytes_eq a b ≡ t → bytes_eq a b ≡ false
  by false e = e
  by true e = absurd (h (sym ((bytes_decides a b).0 e)))

past_functions : (name : List ℕ) (ids : List LibraryId) (rest : Names) → NoRow name → meaning_in name (map named_function ids ++ rest) ≡ meaning_in name rest
past_functions name [] rest h = refl
past_functions name (id ∷ ids) rest h = rw (differ name (row id).name (h id)) (past_functions name ids rest h)

past_constants : (name : List ℕ) (cs : List LibraryConstant) (rest : Names) → NoConstant name → meaning_in name (map named_constant cs ++ rest) ≡ meaning_in name rest
past_constants name [] rest h = refl
past_constants name (c ∷ cs) rest h = rw (differ name (constant c).name (h c)) (past_constants name cs rest h)

-- what is no function is looked for among the constants and the struct
pub no_function : (name : List ℕ) → NoRow name → meaning_in name library_names ≡ meaning_in name library_definitions
no_function name h = past_functions name library_functions library_definitions h

-- what is no constant may be the struct
pub no_constant : (name : List ℕ) → NoConstant name → meaning_in name library_definitions ≡ meaning_in name library_structs
no_constant name h = past_constants name (Pi ∷ Euler ∷ HalfMax ∷ FloatMax ∷ IntMax ∷ IntMin ∷ UnsignedMax ∷ []) library_structs h
