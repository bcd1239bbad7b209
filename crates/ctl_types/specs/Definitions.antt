-- The definitions of a program, those that stand before all modules, and the entry.
use Rattle.std.specs.Prelude.{ℕ, ◌+◌, ◌-◌, List, [], ◌∷◌, map, take, drop, length, Option, Some, None, Bool, ◌&&◌, ◌==◌, if◌then◌else◌, codes, bytes_eq, take_while, reverse, not, count_by, refl}
use Rattle.std.specs.Coded.{Coded, code_by, coded×, coded_list}
use Rattle.ctl_types.specs.contracts.program.Struct as struct_row
use Rattle.ctl_types.specs.contracts.program.Constant as constant_row
use Rattle.ctl_types.specs.contracts.program.Function as function_row
use Rattle.fix_num.specs.declared.TheConstants.{FRACTION}
use Rattle.ctl_base.specs.declared.kind.ScalarKind.TheVariants.{Float}
use Rattle.ctl_stdlib.specs.declared.constants.LibraryConstant.{LibraryConstant}
use Rattle.ctl_stdlib.specs.declared.constants.LibraryConstant.TheVariants.{Pi, Euler, HalfMax, FloatMax, IntMax, IntMin, UnsignedMax}
use Rattle.ctl_stdlib.specs.Constants.{constant}
use Rattle.ctl_tree.specs.Units.{SourceUnit, unit_code}
use Rattle.ctl_types.specs.declared.shape.Shape.{roll-Shape}
use Rattle.ctl_types.specs.declared.shape.Shape.TheOpen as layer
use Rattle.ctl_types.specs.declared.shape.Extent.TheVariants.{Stated}
use Rattle.ctl_types.specs.declared.value.Value.{Value}
use Rattle.ctl_types.specs.declared.program.Field.{Field}
use Rattle.ctl_types.specs.declared.program.Struct.{Struct}
use Rattle.ctl_types.specs.declared.program.Constant.{Constant}
use Rattle.ctl_types.specs.declared.program.Function.{Function}
use Rattle.ctl_types.specs.Scalars.{scalar}
use Rattle.ctl_types.specs.Shapes.{arrays}
use Rattle.ctl_types.specs.Values.{one}

-- the units, and the definitions so far; all of them when the program is whole
pub record Defined : Type 0 where
  pub units : List SourceUnit
  pub structs : List Struct
  pub constants : List Constant
  pub functions : List Function

-- definitions are stored as their lists
abbrev pub defined_code : Coded Defined
defined_code =
    code_by (List SourceUnit × (List Struct × (List Constant × List Function))) (coded× (coded_list unit_code) (coded× (coded_list struct_row.the_row.coded) (coded× (coded_list constant_row.the_row.coded) (coded_list function_row.the_row.coded))))
    (λ d. (d.units, (d.structs, (d.constants, d.functions)))) (λ parts. record { units = parts.0; structs = parts.1.0; constants = parts.1.1.0; functions = parts.1.1.1 }) (λ d. refl)

-- the values of the constants
abbrev pub constant_values : Defined → List Value
constant_values d = map (λ (c : Constant). c.value) d.constants

-- ---- the library's

-- two floats
abbrev pub point : List ℕ → Field
point name = record { name = name; shape = arrays (Stated 2 ∷ []) (roll-Shape (layer.Scalar Float)) }

-- the struct Chromaticities is struct 0
abbrev pub chromaticities : Struct
chromaticities = record { fields = point (codes "red") ∷ point (codes "green") ∷ point (codes "blue") ∷ point (codes "white") ∷ [] }

-- the structs of the library
abbrev pub library_structs : List Struct
library_structs = chromaticities ∷ []

-- a constant of the library with its shape
abbrev pub constant_of : LibraryConstant → Constant
constant_of c = record { shape = roll-Shape (layer.Scalar (constant c).kind); value = one (scalar (constant c).kind ((constant c).word FRACTION)) }

-- the constants of the library have the first numbers
abbrev pub library_constants : List Constant
library_constants = map constant_of (Pi ∷ Euler ∷ HalfMax ∷ FloatMax ∷ IntMax ∷ IntMin ∷ UnsignedMax ∷ [])

-- ---- the entry

-- not a `/`
abbrev pub is_no_slash : ℕ → Bool
is_no_slash byte = not (byte == 47)

-- the name of a file without its folder
abbrev pub base_name : List ℕ → List ℕ
base_name file = reverse (take_while is_no_slash (reverse file))

-- without `.ctl` at its end
abbrev pub without_ending : List ℕ → List ℕ
without_ending name = if bytes_eq (drop (length name - 4) name) (codes ".ctl") then take (length name - 4) name else name

-- the name of a file without its folder and without `.ctl`
abbrev pub stem : List ℕ → List ℕ
stem file = without_ending (base_name file)

-- a name with no `:` in it, as that of a function outside all namespaces
abbrev pub is_unqualified : List ℕ → Bool
is_unqualified name = count_by (λ byte. byte == 58) name == 0

-- the number of the function of a module with a name, outside all namespaces, from number k on
abbrev pub function_named : List ℕ → ℕ → ℕ → List Function → Option ℕ
function_named name «module» k [] = None
function_named name «module» k (f ∷ functions) =
    if bytes_eq f.name name && (f.node.«module» == «module» && is_unqualified f.name) then Some k else function_named name «module» (k + 1) functions

-- the first that is there
abbrev pub first_found : Option ℕ → Option ℕ → Option ℕ
first_found (Some k) other = Some k
first_found None other = other

-- the file of the root, which is the last unit
abbrev pub root_file : List SourceUnit → List ℕ
root_file [] = []
root_file (u ∷ []) = u.file
root_file (u ∷ v ∷ units) = root_file (v ∷ units)

-- The entry: of the functions that the root defines outside all namespaces the one named main, else the one named as the
-- file without its folder and without `.ctl`.
abbrev pub entry_number : Defined → Option ℕ
entry_number d = first_found (function_named (codes "main") (length d.units - 1) 0 d.functions) (function_named (stem (root_file d.units)) (length d.units - 1) 0 d.functions)
