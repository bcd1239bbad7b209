-- Laws of the words of values.
use Rattle.std.specs.Prelude.{◌≡◌, ℕ, ℤ, List, [], ◌++◌, length, Some, true}
use Rattle.ctl_types.specs.declared.shape.Base.{Base}
use Rattle.ctl_types.specs.declared.value.Value.{Value}
use Rattle.ctl_types.specs.declared.program.Struct.{Struct}
use Rattle.ctl_types.specs.Shapes.{Whole, scalars_of, struct_counts}
use Rattle.ctl_types.specs.Values.{part_at, put_at, flat, offset_at, fits, Fits, filled}
use Rattle.ctl_types.specs.Scoping.{structs_stand}

-- The words of the part at the end of a path are one stretch of the words of the whole. Where the part is replaced, that
-- stretch is, and the words before and behind it stay.
pub record Stretch (path : List ℕ) (v part : Value) : Type 0 where
  pub before : List ℤ
  pub after : List ℤ
  pub whole : flat v ≡ before ++ (flat part ++ after)
  pub place : length before ≡ offset_at path (Some v)
  pub replaced : (u w : Value) → put_at path u (Some v) ≡ Some w → flat w ≡ before ++ (flat u ++ after)

abbrev pub PartsAreStretches : Type 0
PartsAreStretches = (path : List ℕ) (v part : Value) → part_at path (Some v) ≡ Some part → Stretch path v part

-- a value of a shape has as many words as the shape has scalars
abbrev pub WordsAreCounted : Type 0
WordsAreCounted = (structs : List Struct) → structs_stand [] [] structs ≡ true → (v : Value) (sizes : List ℕ) (base : Base) → fits structs v sizes (Some base) ≡ true → length (flat v) ≡ scalars_of (struct_counts structs) sizes base

-- words go back: with those of another value of its shape in its place, a value is that one
abbrev pub WordsGoBack : Type 0
WordsGoBack = (structs : List Struct) (w : Whole) (a b : Value) (rest : List ℤ) → Fits structs w a → Fits structs w b → filled a (flat b ++ rest) ≡ record { value = b; rest = rest }
