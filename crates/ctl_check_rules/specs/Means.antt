-- What the code tests of kinds.
use Rattle.std.specs.Prelude.{Bool, true, false}
use Rattle.ctl_base.specs.declared.kind.ScalarKind.{ScalarKind}
use Rattle.ctl_base.specs.declared.kind.ScalarKind.TheVariants as kind

-- a kind of numbers
abbrev pub is_number : ScalarKind → Bool
is_number kind.Bool = false
is_number kind.Int = true
is_number kind.Unsigned = true
is_number kind.Half = true
is_number kind.Float = true

-- a kind of whole numbers
abbrev pub is_whole : ScalarKind → Bool
is_whole kind.Bool = false
is_whole kind.Int = true
is_whole kind.Unsigned = true
is_whole kind.Half = false
is_whole kind.Float = false

-- the kind of truth values
abbrev pub is_bool : ScalarKind → Bool
is_bool kind.Bool = true
is_bool kind.Int = false
is_bool kind.Unsigned = false
is_bool kind.Half = false
is_bool kind.Float = false
