-- Goals of `names::name_of_table`.
use Rattle.std.proofs.Common.{◌≡◌, ap, sym}
use Rattle.ctl_stdlib.specs.declared.row.LibraryId.{LibraryId}
use Rattle.ctl_stdlib.specs.declared.row.LibraryId.TheVariants.{Assert}
use Rattle.ctl_stdlib.specs.Rows.{row}
use Rattle.ctl_stdlib.proofs.Filled.{is_assert}
use Rattle.ctl_stdlib.proofs.names.name_of_table.Goals as goal

pub returns-in_default : goal.returns-in_default
returns-in_default c =
    let e : c.args.id ≡ Assert = is_assert c.args.id c.requires.no_number c.requires.no_vector c.in_default.not-Lookup1D c.in_default.not-LookupCubic1D c.in_default.not-Interpolate1D c.in_default.not-InterpolateCubic1D c.in_default.not-Lookup3DF3 c.in_default.not-Lookup3DF c.in_default.not-RgbToXyz c.in_default.not-XyzToRgb in
    ap (λ (i : LibraryId). (row i).name) (sym e)
