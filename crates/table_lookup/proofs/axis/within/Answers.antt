-- Goals of `axis::within`.
use Rattle.std.proofs.Common.{ℤ, ◌-ℤ◌, FitsSigned, arith}
use Rattle.std.specs.Int.{w128}
use Rattle.std.proofs.lemmas.Int.{ints, to_z-of_z}
use Rattle.fix_num.specs.Fixed.{clamped}
use Rattle.table_lookup.proofs.axis.within.Goals as goal

pub returns-clause-value : goal.returns-clause-value
unfolding clamped
returns-clause-value c =
    let z : ℤ = c.clamp.result in
    let zf : FitsSigned w128 z = record { sfits = c.clamp.type_inv } in
    let af : FitsSigned w128 c.wide.result = record { sfits = c.wide.type_inv } in
    let bf : FitsSigned w128 c.wide-2.result = record { sfits = c.wide-2.type_inv } in
    let cf : FitsSigned w128 c.wide-3.result = record { sfits = c.wide-3.type_inv } in
    let df : FitsSigned w128 c.wide-4.result = record { sfits = c.wide-4.type_inv } in
    let k = simp to_z-of_z at c.clamp.ensures.value in
    let low = simp to_z-of_z at c.clamp.ensures.lower_bound in
    let high = simp to_z-of_z at c.clamp.ensures.upper_bound in
    let gf : FitsSigned w128 (z -ℤ c.wide-4.result) = omega (arith, ints, low, high, c.wide.ensures.size, c.wide-2.ensures.size, c.wide-3.ensures.size, c.wide-4.ensures.size) in
    simp to_z-of_z (cc (k, c.wide.ensures.value, c.wide-2.ensures.value, c.wide-3.ensures.value, c.wide-4.ensures.value))
