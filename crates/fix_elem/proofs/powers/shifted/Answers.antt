use Rattle.std.proofs.Common.{◌≡◌, ℤ, pos, ◌≤ℤ◌, ◌^◌, FitsSigned, unsigned_abs, to_z, ap, sym, ◌∙◌, w64, arith}
use Rattle.std.specs.Int.{w128}
use Rattle.std.proofs.lemmas.Int.{ints, to_z-of_z, to_z_pos}
use Rattle.fix_num.specs.Fixed.{rnd, sat}
use Rattle.fix_elem.proofs.Shift.{shifted_near, nothing_left}
use Rattle.fix_elem.proofs.powers.shifted.Goals as goal

pub returns-then-shift-le64 : goal.returns-then-shift-le64
returns-then-shift-le64 c =
    let zf : FitsSigned w64 c.args.shift = c.ranges.shift in
    let rf : FitsSigned w128 c.rnd_shift.result = record { sfits = c.rnd_shift.type_inv } in
    let d = simp to_z-of_z at c.if-beyond.false in
    let up : pos 0 ≤ℤ c.args.shift = grind (arith, ints, d) in
    let n : to_z w128 c.args.e ≡ pos c.args.e = to_z_pos w128 c.args.e (omega (arith, c.requires)) in
    let a = simp to_z-of_z at c.rnd_shift.ensures in
    let b = simp to_z-of_z at c.saturated.ensures in
    b ∙ ap sat a ∙ ap (λ (z : ℤ). sat (rnd z (pos (2 ^ unsigned_abs c.args.shift)))) n ∙ shifted_near c.rounding_keeps_bounds.ensures c.args.e c.args.shift c.requires up

pub returns-else-shift-le64 : goal.returns-else-shift-le64
returns-else-shift-le64 c =
    let zf : FitsSigned w64 c.args.shift = c.ranges.shift in
    let d = simp to_z-of_z at c.if-shift-le64.false in
    let up : pos 64 ≤ℤ c.args.shift = grind (arith, ints, d) in
    c.from_raw-else-shift-le64.ensures ∙ sym (nothing_left c.args.e c.args.shift c.requires up)
