use Rattle.std.proofs.Common.{◌≡◌, drop}
use Rattle.ctl_check_function.specs.Programs.{units_defined}
use Rattle.ctl_check.specs.Keeps.{RestsOn}
use Rattle.ctl_check.proofs.units.define_units.Given as goal

abbrev pub invariant-loop-unit : goal.invariant-loop-unit
invariant-loop-unit l =
    RestsOn l.fn.definitions l.scope l.definitions × ((l.place ≡ l.unit-index)
    × (units_defined l.place (drop l.unit-index l.units) (record { made = l.definitions; scope = l.scope }) ≡ units_defined 0 l.units (record { made = l.fn.definitions; scope = l.fn.scope })))
