use Rattle.std.proofs.Common.{◌≡◌, drop}
use Rattle.ctl_check_expr.specs.Places.{field_from}
use Rattle.ctl_check_expr.proofs.places.field_number.Given as goal

abbrev pub invariant-loop-field : goal.invariant-loop-field
invariant-loop-field l = field_from l.name l.number (drop l.field-index l.fields) ≡ field_from l.name 0 l.fields
