-- Means of the code: the rows in three groups, in the order in which it looks for them.
use Rattle.std.specs.Prelude.{◌≡◌, ℕ, ℤ, ◌<◌, true, List, [], ◌∷◌, length, get_or}
use Rattle.fix_num.specs.declared.TheConstants.{FRACTION}
use Rattle.ctl_stdlib.specs.declared.row.LibraryId.{LibraryId}
use Rattle.ctl_stdlib.specs.declared.row.LibraryId.TheVariants.{Exp, Log, Log10, Pow10, Sqrt, Fabs, Floor, Sin, Cos, Tan, Asin, Acos, Atan, Pow, Fmod, Hypot, Atan2, ExpH, LogH, Log10H, Pow10H, PowH, AddF3F3, SubtractF3F3, MultFF3, DotF3F3, CrossF3F3, LengthF3, MultF3F33, MultF3F44, MultF33F33, MultF44F44, MultFF33, MultFF44, AddF33F33, AddF44F44, TransposeF33, TransposeF44, InvertF33, InvertF44}
use Rattle.ctl_stdlib.specs.Rows.{row}
use Rattle.ctl_stdlib.specs.Shapes.{filled_words}

abbrev pub numbers : List LibraryId
numbers = Exp ∷ Log ∷ Log10 ∷ Pow10 ∷ Sqrt ∷ Fabs ∷ Floor ∷ Sin ∷ Cos ∷ Tan ∷ Asin ∷ Acos ∷ Atan ∷ Pow ∷ Fmod ∷ Hypot ∷ Atan2 ∷ ExpH ∷ LogH ∷ Log10H ∷ Pow10H ∷ PowH ∷ []

abbrev pub vectors : List LibraryId
vectors = AddF3F3 ∷ SubtractF3F3 ∷ MultFF3 ∷ DotF3F3 ∷ CrossF3F3 ∷ LengthF3 ∷ MultF3F33 ∷ MultF3F44 ∷ MultF33F33 ∷ MultF44F44 ∷ MultFF33 ∷ MultFF44 ∷ AddF33F33 ∷ AddF44F44 ∷ TransposeF33 ∷ TransposeF44 ∷ InvertF33 ∷ InvertF44 ∷ []

-- none of these functions has the name
abbrev pub NoneNamed : List LibraryId → List ℕ → Type 0
NoneNamed ids name = (k : ℕ) → k < length ids → (row (get_or ids k Exp)).name ≡ name → ⊥

-- id is none of these
abbrev pub IsNoneOf : List LibraryId → LibraryId → Type 0
IsNoneOf [] id = Unit {0}
IsNoneOf (x ∷ ids) id = (id ≡ x → ⊥) × IsNoneOf ids id

-- the row of id fills these words, whatever its sizes and table are
pub record Gives (id : LibraryId) (args words : List ℤ) : Type 0 where
  pub value : (sizes : List ℕ) (table : List ℤ) → words ≡ (row id).value FRACTION sizes table args
  pub goes_on : (row id).answer args ≡ true

-- the row of id fills one word
pub record GivesOne (id : LibraryId) (args : List ℤ) (word : ℤ) : Type 0 where
  pub given : Gives id args (word ∷ [])
  pub one : filled_words (row id) ≡ 1
