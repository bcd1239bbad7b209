-- Names with what they stand for, and the names of the library.
use Rattle.std.specs.Prelude.{ℕ, List, [], ◌∷◌, ◌++◌, map, Option, Some, None, is_some, Bool, true, not, ◌&&◌, if◌then◌else◌, codes, bytes_eq, Vec}
use Rattle.std.specs.Coded.{Coded, coded×, coded_ℕ, coded_list}
use Rattle.std.specs.declared.alloc.Global.{Global}
use Rattle.ctl_stdlib.specs.declared.row.LibraryId.{LibraryId}
use Rattle.ctl_stdlib.specs.declared.row.LibraryId.TheVariants as row_of
use Rattle.ctl_stdlib.specs.declared.constants.LibraryConstant.{LibraryConstant}
use Rattle.ctl_stdlib.specs.declared.constants.LibraryConstant.TheVariants.{Pi, Euler, HalfMax, FloatMax, IntMax, IntMin, UnsignedMax}
use Rattle.ctl_stdlib.specs.Rows.{row}
use Rattle.ctl_stdlib.specs.Constants.{constant}
use Rattle.ctl_scope.specs.declared.meaning.Meaning.{Meaning}
use Rattle.ctl_scope.specs.declared.meaning.Meaning.TheVariants.{Constant, Struct, Library}
use Rattle.ctl_scope.specs.contracts.meaning.Meaning as meaning_row

-- names in the order of their declarations, each with its meaning
abbrev pub Names : Type 0
Names = List (List ℕ × Meaning)

-- what a name stands for among these, where it is one of them
abbrev pub meaning_in : List ℕ → Names → Option Meaning
meaning_in name [] = None
meaning_in name (n ∷ names) = if bytes_eq name n.0 then Some n.1 else meaning_in name names

-- no two names are equal
abbrev pub are_distinct : Names → Bool
are_distinct [] = true
are_distinct (n ∷ names) = not (is_some (meaning_in n.0 names)) && are_distinct names

-- the first that is there
abbrev pub first_found : Option Meaning → Option Meaning → Option Meaning
first_found (Some m) other = Some m
first_found None other = other

-- the names of a table
abbrev pub names_of : List (Vec ℕ Global × Meaning) → Names
names_of [] = []
names_of (e ∷ entries) = (e.0.items, e.1) ∷ names_of entries

-- names are stored as pairs
abbrev pub names_code : Coded Names
names_code = coded_list (coded× (coded_list coded_ℕ) meaning_row.the_row.coded)

-- ---- the library

-- the functions of the library
abbrev pub library_functions : List LibraryId
library_functions =
    row_of.Exp ∷ row_of.Log ∷ row_of.Log10 ∷ row_of.Pow10 ∷ row_of.Sqrt ∷ row_of.Fabs ∷ row_of.Floor ∷ row_of.Sin ∷ row_of.Cos ∷ row_of.Tan ∷ row_of.Asin ∷ row_of.Acos ∷ row_of.Atan
    ∷ row_of.Pow ∷ row_of.Fmod ∷ row_of.Hypot ∷ row_of.Atan2 ∷ row_of.ExpH ∷ row_of.LogH ∷ row_of.Log10H ∷ row_of.Pow10H ∷ row_of.PowH
    ∷ row_of.AddF3F3 ∷ row_of.SubtractF3F3 ∷ row_of.MultFF3 ∷ row_of.DotF3F3 ∷ row_of.CrossF3F3 ∷ row_of.LengthF3 ∷ row_of.MultF3F33 ∷ row_of.MultF3F44
    ∷ row_of.MultF33F33 ∷ row_of.MultF44F44 ∷ row_of.MultFF33 ∷ row_of.MultFF44 ∷ row_of.AddF33F33 ∷ row_of.AddF44F44 ∷ row_of.TransposeF33 ∷ row_of.TransposeF44
    ∷ row_of.InvertF33 ∷ row_of.InvertF44 ∷ row_of.Lookup1D ∷ row_of.LookupCubic1D ∷ row_of.Interpolate1D ∷ row_of.InterpolateCubic1D ∷ row_of.Lookup3DF3 ∷ row_of.Lookup3DF
    ∷ row_of.RgbToXyz ∷ row_of.XyzToRgb ∷ row_of.Assert ∷ []

-- a function of the library by its name
abbrev pub named_function : LibraryId → List ℕ × Meaning
named_function id = ((row id).name, Library id)

-- the constants of the library are the first of all constants
abbrev pub number_of : LibraryConstant → ℕ
number_of Pi = 0
number_of Euler = 1
number_of HalfMax = 2
number_of FloatMax = 3
number_of IntMax = 4
number_of IntMin = 5
number_of UnsignedMax = 6

-- a constant of the library by its name
abbrev pub named_constant : LibraryConstant → List ℕ × Meaning
named_constant c = ((constant c).name, Constant (number_of c))

-- the struct of the library is struct 0
abbrev pub library_structs : Names
library_structs = (codes "Chromaticities", Struct 0) ∷ []

-- the constants of the library, and its struct
abbrev pub library_definitions : Names
library_definitions = map named_constant (Pi ∷ Euler ∷ HalfMax ∷ FloatMax ∷ IntMax ∷ IntMin ∷ UnsignedMax ∷ []) ++ library_structs

-- the names of the library: its functions and its definitions
abbrev pub library_names : Names
library_names = map named_function library_functions ++ library_definitions
