-- Goals of `rounding::rnd`.
use Rattle.std.proofs.Common.{ℤ, pos, ◌+ℤ◌, ◌-ℤ◌, ◌<ℤ◌, ◌≤ℤ◌, sym, FitsSigned, arith}
use Rattle.std.proofs.lemmas.Int.{ints, to_z-of_z}
use Rattle.std.specs.Int.{w128}
use Rattle.fix_num.proofs.Floor.{rnd_split, rnd_more, rnd_less}
use Rattle.fix_num.proofs.rounding.rnd.Goals as goal

pub returns-then-d-rest : goal.returns-then-d-rest
returns-then-d-rest c =
    let n : ℤ = c.args.n in
    let d : ℤ = c.args.d in
    let q : ℤ = c.split-whole.result.0 in
    let r : ℤ = c.split-whole.result.1 in
    let nf : FitsSigned w128 n = c.ranges.n in
    let df : FitsSigned w128 d = c.ranges.d in
    let qf : FitsSigned w128 q = omega (arith, ints, c.split-whole.ensures.small) in
    let rf : FitsSigned w128 r = grind (arith, ints, to_z-of_z, c.split-whole.ensures.high, c.split-whole.ensures.low) in
    let e = simp to_z-of_z at c.split-whole.ensures.parts in
    let high = simp to_z-of_z at c.split-whole.ensures.high in
    let low = simp to_z-of_z at c.split-whole.ensures.low in
    let s = simp to_z-of_z at c.if-rest-ge0.true in
    let sign : pos 0 ≤ℤ r = grind (arith, ints) in
    let xf : FitsSigned w128 (d -ℤ r) = omega (arith, ints, sign, high) in
    let b = simp to_z-of_z at c.if-d-rest.true in
    let above : (d -ℤ r) ≤ℤ r = grind (arith, ints) in
    let zf : FitsSigned w128 (q +ℤ pos 1) = omega (arith, ints, c.split-whole.ensures.small) in
    simp to_z-of_z (sym (rnd_more n d q r c.requires.positive e high (omega (arith, ints, above))))

pub returns-else-d-rest : goal.returns-else-d-rest
returns-else-d-rest c =
    let n : ℤ = c.args.n in
    let d : ℤ = c.args.d in
    let q : ℤ = c.split-whole.result.0 in
    let r : ℤ = c.split-whole.result.1 in
    let nf : FitsSigned w128 n = c.ranges.n in
    let df : FitsSigned w128 d = c.ranges.d in
    let qf : FitsSigned w128 q = omega (arith, ints, c.split-whole.ensures.small) in
    let rf : FitsSigned w128 r = grind (arith, ints, to_z-of_z, c.split-whole.ensures.high, c.split-whole.ensures.low) in
    let e = simp to_z-of_z at c.split-whole.ensures.parts in
    let high = simp to_z-of_z at c.split-whole.ensures.high in
    let low = simp to_z-of_z at c.split-whole.ensures.low in
    let s = simp to_z-of_z at c.if-rest-ge0.true in
    let sign : pos 0 ≤ℤ r = grind (arith, ints) in
    let xf : FitsSigned w128 (d -ℤ r) = omega (arith, ints, sign, high) in
    let b = simp to_z-of_z at c.if-d-rest.false in
    let below : r <ℤ (d -ℤ r) = grind (arith, ints) in
    simp to_z-of_z (sym (rnd_split n d q r c.requires.positive e (omega (arith, ints, sign, c.requires.positive)) (omega (arith, ints, below))))

pub returns-then-d-rest-2 : goal.returns-then-d-rest-2
returns-then-d-rest-2 c =
    let n : ℤ = c.args.n in
    let d : ℤ = c.args.d in
    let q : ℤ = c.split-whole.result.0 in
    let r : ℤ = c.split-whole.result.1 in
    let nf : FitsSigned w128 n = c.ranges.n in
    let df : FitsSigned w128 d = c.ranges.d in
    let qf : FitsSigned w128 q = omega (arith, ints, c.split-whole.ensures.small) in
    let rf : FitsSigned w128 r = grind (arith, ints, to_z-of_z, c.split-whole.ensures.high, c.split-whole.ensures.low) in
    let e = simp to_z-of_z at c.split-whole.ensures.parts in
    let high = simp to_z-of_z at c.split-whole.ensures.high in
    let low = simp to_z-of_z at c.split-whole.ensures.low in
    let s = simp to_z-of_z at c.if-rest-ge0.false in
    let sign : r <ℤ pos 0 = grind (arith, ints) in
    let xf : FitsSigned w128 (d +ℤ r) = omega (arith, ints, sign, low) in
    let yf : FitsSigned w128 (pos 0 -ℤ r) = omega (arith, ints, sign, low) in
    let b = simp to_z-of_z at c.if-d-rest-2.true in
    let below : (d +ℤ r) <ℤ (pos 0 -ℤ r) = grind (arith, ints) in
    let zf : FitsSigned w128 (q -ℤ pos 1) = omega (arith, ints, c.split-whole.ensures.small) in
    simp to_z-of_z (sym (rnd_less n d q r c.requires.positive e low (omega (arith, ints, below))))

pub returns-else-d-rest-2 : goal.returns-else-d-rest-2
returns-else-d-rest-2 c =
    let n : ℤ = c.args.n in
    let d : ℤ = c.args.d in
    let q : ℤ = c.split-whole.result.0 in
    let r : ℤ = c.split-whole.result.1 in
    let nf : FitsSigned w128 n = c.ranges.n in
    let df : FitsSigned w128 d = c.ranges.d in
    let qf : FitsSigned w128 q = omega (arith, ints, c.split-whole.ensures.small) in
    let rf : FitsSigned w128 r = grind (arith, ints, to_z-of_z, c.split-whole.ensures.high, c.split-whole.ensures.low) in
    let e = simp to_z-of_z at c.split-whole.ensures.parts in
    let high = simp to_z-of_z at c.split-whole.ensures.high in
    let low = simp to_z-of_z at c.split-whole.ensures.low in
    let s = simp to_z-of_z at c.if-rest-ge0.false in
    let sign : r <ℤ pos 0 = grind (arith, ints) in
    let xf : FitsSigned w128 (d +ℤ r) = omega (arith, ints, sign, low) in
    let yf : FitsSigned w128 (pos 0 -ℤ r) = omega (arith, ints, sign, low) in
    let b = simp to_z-of_z at c.if-d-rest-2.false in
    let above : (pos 0 -ℤ r) ≤ℤ (d +ℤ r) = grind (arith, ints) in
    simp to_z-of_z (sym (rnd_split n d q r c.requires.positive e (omega (arith, ints, above)) (omega (arith, ints, sign, c.requires.positive))))
