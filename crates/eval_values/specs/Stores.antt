-- What is stored, by the parts of what stands there.
use Rattle.std.specs.Prelude.{ℕ, List, Option, Some, None, Bool, true, false, slice_set}
use Rattle.ctl_types.specs.declared.value.Value.{Value}
use Rattle.ctl_types.specs.Values.{alike}

-- parts with another one, where there is one
abbrev pub put_part : List Value → ℕ → Option Value → Option (List Value)
put_part vs i None = None
put_part vs i (Some part) = Some (slice_set vs i part)

-- whether something stands there that a value is like
abbrev pub alike_at : Option Value → Value → Bool
alike_at None v = false
alike_at (Some old) v = alike old v
