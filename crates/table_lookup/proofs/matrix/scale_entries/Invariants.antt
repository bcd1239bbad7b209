-- What holds of the entries so far.
use Rattle.std.proofs.Common.{◌≡◌, take}
use Rattle.fix_num.specs.declared.TheConstants.{FRACTION}
use Rattle.table_lookup.specs.Matrix.{scaled}
use Rattle.table_lookup.proofs.matrix.scale_entries.Given as goal

abbrev pub invariant-entries : goal.invariant-entries
invariant-entries l = take l.i l.out ≡ scaled FRACTION l.f (take l.i l.m)
