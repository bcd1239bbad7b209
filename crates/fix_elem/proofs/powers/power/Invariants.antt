use Rattle.std.proofs.Common.{◌≡◌, drop}
use Rattle.fix_num.specs.declared.TheConstants.{FRACTION}
use Rattle.fix_elem.specs.Elementary.{constants, power_from, power}
use Rattle.fix_elem.proofs.Walk.{Room}
use Rattle.fix_elem.proofs.powers.power.Given as goal

abbrev pub invariant-bits : goal.invariant-bits
invariant-bits l = record { value : power_from (drop l.k (constants FRACTION)) l.e l.f ≡ power FRACTION l.f; room : Room l.e (drop l.k (constants FRACTION)) }
