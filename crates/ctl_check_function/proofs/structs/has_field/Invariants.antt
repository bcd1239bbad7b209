use Rattle.std.proofs.Common.{◌≡◌, drop}
use Rattle.ctl_check_function.specs.Structs.{has_field}
use Rattle.ctl_check_function.proofs.structs.has_field.Given as goal

abbrev pub invariant-loop-field : goal.invariant-loop-field
invariant-loop-field l = has_field l.name (drop l.field-index l.fields) ≡ has_field l.name l.fields
