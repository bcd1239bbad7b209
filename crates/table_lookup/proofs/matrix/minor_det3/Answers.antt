-- Goals of `matrix::minor_det3`.
use Rattle.std.proofs.Common.{ℤ, List, ap, ◌∙◌}
use Rattle.fix_num.specs.declared.TheConstants.{FRACTION}
use Rattle.table_lookup.specs.Matrix.{matrix, minor, det3}
use Rattle.table_lookup.proofs.Minors.{det3_of_rows}
use Rattle.table_lookup.proofs.matrix.minor_det3.Goals as goal

pub returns : goal.returns
returns c = c.det_f33.ensures ∙ ap (λ (t : List ℤ). det3 FRACTION (matrix 3 t)) c.minor3.ensures ∙ det3_of_rows FRACTION (minor c.args.i c.args.j (matrix 4 c.args.m.now))
