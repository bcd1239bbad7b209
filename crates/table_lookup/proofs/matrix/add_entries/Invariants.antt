-- What holds of the entries so far.
use Rattle.std.proofs.Common.{◌≡◌, take}
use Rattle.table_lookup.specs.Matrix.{sums}
use Rattle.table_lookup.proofs.matrix.add_entries.Given as goal

abbrev pub invariant-entries : goal.invariant-entries
invariant-entries l = take l.i l.out ≡ sums (take l.i l.a) (take l.i l.b)
