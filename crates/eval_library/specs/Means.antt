-- Means of the code: the words of arguments by groups, the open sizes of a shape, and the kinds and outputs of rows.
use Rattle.std.specs.Prelude.{◌≡◌, ℕ, zero, suc, ◌+◌, ℤ, List, [], ◌∷◌, get_or, Option, Some, None, Bool, true, false, if◌then◌else◌}
use Rattle.ctl_base.specs.declared.kind.ScalarKind.{ScalarKind}
use Rattle.ctl_base.specs.declared.kind.ScalarKind.TheVariants as kind
use Rattle.ctl_stdlib.specs.declared.row.Param.{Param}
use Rattle.ctl_types.specs.declared.scalar.Scalar.TheVariants.{Float}
use Rattle.ctl_types.specs.declared.value.Value.{Value}
use Rattle.ctl_types.specs.Values.{Env, Filled, one, flat, filled}
use Rattle.ctl_types.specs.Library.{holds_table, holds_input}
use Rattle.eval_library.specs.declared.words.Group.{Group}
use Rattle.eval_library.specs.declared.words.Group.TheVariants as group

-- the parameters of a group
abbrev pub chosen_by : Group → Param → Bool
chosen_by group.Table = holds_table
chosen_by group.Inputs = holds_input

-- the words of a value that may be absent
abbrev pub flat_of : Option Value → List ℤ
flat_of None = []
flat_of (Some v) = flat v

-- the words of an argument, where its parameter is of the group
abbrev pub words_by : Group → Param → Option Value → List ℤ
words_by g p v = if chosen_by g p then flat_of v else []

-- the argument of an output from the next words
abbrev pub output_from : Param → Option Value → List ℤ → Filled (Option Value)
output_from p None words = record { value = None; rest = words }
output_from p (Some v) words = if p.is_output then record { value = Some (filled v words).value; rest = (filled v words).rest } else record { value = Some v; rest = words }

-- so many open sizes, from number k on
abbrev pub opened_from : List ℕ → ℕ → ℕ → List ℕ
opened_from opens k zero = []
opened_from opens k (suc n) = get_or opens k 0 ∷ opened_from opens (k + 1) n

-- the kinds of the rows' scalars
abbrev pub is_of_rows : ScalarKind → Bool
is_of_rows kind.Bool = true
is_of_rows kind.Int = false
is_of_rows kind.Unsigned = false
is_of_rows kind.Half = true
is_of_rows kind.Float = true

abbrev pub IsFloat : Option Value → Type 0
IsFloat v = (z : ℤ) × (v ≡ Some (one (Float z)))

-- the arguments of outputs are floats
abbrev pub OutputsAreFloats : List Param → Env → Type 0
OutputsAreFloats [] frame = Unit {0}
OutputsAreFloats (p ∷ params) [] = Unit {0}
OutputsAreFloats (p ∷ params) (v ∷ frame) = (p.is_output ≡ true → IsFloat v) × OutputsAreFloats params frame
