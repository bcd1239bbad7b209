-- Variables as they are stored.
use Rattle.std.specs.Prelude.{Bool, refl}
use Rattle.std.specs.Coded.{Coded, code_by, coded×, coded_bool}
use Rattle.ctl_types.specs.declared.shape.LocalShape.{LocalShape}
use Rattle.ctl_types.specs.contracts.shape.LocalShape as shape_row
use Rattle.ctl_types.specs.Typing.{Variable}

-- a variable is stored as its parts
abbrev pub variable_code : Coded Variable
variable_code = code_by (LocalShape × Bool) (coded× shape_row.the_row.coded coded_bool) (λ v. (v.shape, v.is_assignable)) (λ parts. record { shape = parts.0; is_assignable = parts.1 }) (λ v. refl)
