use Rattle.std.proofs.Common.{◌≡◌, [], drop}
use Rattle.ctl_check_function.specs.Structs.{fields_checked}
use Rattle.ctl_check_function.proofs.structs.check_fields.Given as goal

abbrev pub invariant-loop-field : goal.invariant-loop-field
invariant-loop-field l = fields_checked l.scope l.definitions (drop l.field-index l.fields) l.before ≡ fields_checked l.scope l.definitions l.fields []
