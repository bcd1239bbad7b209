-- Laws of the rows.
use Rattle.std.specs.Prelude.{◌≡◌, ℕ, ℤ, ◌≤◌, true, List, length, All, Some}
use Rattle.fix_num.specs.Half.{IsHalf, half_unit}
use Rattle.fix_num.specs.Whole.{truth}
use Rattle.table_lookup.specs.Tables.{entry}
use Rattle.ctl_stdlib.specs.declared.row.LibraryId.{LibraryId}
use Rattle.ctl_stdlib.specs.declared.row.LibraryId.TheVariants.{Assert}
use Rattle.ctl_stdlib.specs.declared.row.RowShape.TheVariants.{Half}
use Rattle.ctl_stdlib.specs.declared.constants.LibraryConstant.{LibraryConstant}
use Rattle.ctl_stdlib.specs.Rows.{row}
use Rattle.ctl_stdlib.specs.Constants.{constant}
use Rattle.ctl_stdlib.specs.Shapes.{Fits, filled_words}

-- functions and constants are told apart by their names
pub record NamesDiffer : Type 0 where
  pub functions : (a b : LibraryId) → (row a).name ≡ (row b).name → a ≡ b
  pub constants : (a b : LibraryConstant) → (constant a).name ≡ (constant b).name → a ≡ b
  pub apart : (a : LibraryId) (b : LibraryConstant) → (row a).name ≡ (constant b).name → ⊥

-- a call that fits fills as many words as the shapes of its result and its outputs have
abbrev pub ResultsFit : Type 0
ResultsFit = (F : ℕ) (id : LibraryId) (sizes : List ℕ) (table args : List ℤ) → Fits (row id) sizes table args (filled_words (row id)) → length ((row id).value F sizes table args) ≡ filled_words (row id)

-- a function that gives a half gives one of the halves
abbrev pub HalvesComeOut : Type 0
HalvesComeOut = (F : ℕ) → F ≤ 40 → (id : LibraryId) → (row id).result ≡ Some Half → (sizes : List ℕ) (table args : List ℤ) → All (IsHalf (half_unit F)) ((row id).value F sizes table args)

-- each function goes on, but for the assertion where its word is 0
pub record OnlyAssertRefuses : Type 0 where
  pub others : (id : LibraryId) → (id ≡ Assert → ⊥) → (args : List ℤ) → (row id).answer args ≡ true
  pub assertion : (args : List ℤ) → (row Assert).answer args ≡ truth (entry args 0)
