use Rattle.std.proofs.Common.{◌≡◌, ◌+◌, drop}
use Rattle.fix_num.specs.declared.TheConstants.{FRACTION}
use Rattle.fix_elem.specs.Elementary.{constants, exponent}
use Rattle.fix_elem.proofs.Walk.{Room}
use Rattle.fix_elem.proofs.Search.{find}
use Rattle.fix_elem.proofs.logarithms.exponent.Given as goal

abbrev pub invariant-bits : goal.invariant-bits
invariant-bits l = record { value : l.f + find (drop l.k (constants FRACTION)) l.e l.m ≡ exponent FRACTION l.m; room : Room l.e (drop l.k (constants FRACTION)) }
