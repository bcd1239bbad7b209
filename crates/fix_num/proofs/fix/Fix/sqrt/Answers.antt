-- Goals of `fix::Fix::sqrt`.
use Rattle.std.proofs.Common.{◌≡◌, ℤ, pos, ◌≤ℤ◌, ◌*◌, ◌%◌, ◌^◌, ◌<◌, FitsSigned, unsigned_abs, ap, sym, ◌∙◌, w64, arith}
use Rattle.std.proofs.lemmas.Int.{ints, to_z-of_z, to_z_pos}
use Rattle.fix_num.specs.declared.TheConstants.{FRACTION}
use Rattle.fix_num.specs.Fixed.{root}
use Rattle.fix_num.proofs.Squares.{root_below, sqrt_at}
use Rattle.fix_num.proofs.fix.Fix.sqrt.Goals as goal

pub returns-else-raw-lt0 : goal.returns-else-raw-lt0
returns-else-raw-lt0 c =
    let z : ℤ = c.raw-else-raw-lt0.result in
    let zf : FitsSigned w64 z = record { sfits = c.raw-else-raw-lt0.type_inv } in
    let yf : FitsSigned w64 c.raw.result = record { sfits = c.raw.type_inv } in
    let e : z ≡ c.args.self = c.raw-else-raw-lt0.ensures in
    let y = simp to_z-of_z at c.if-raw-lt0.false in
    let up : pos 0 ≤ℤ c.args.self = grind (arith, ints, y, c.raw.ensures) in
    let small : unsigned_abs c.args.self < 2 ^ 63 = grind (arith, ints, e) in
    let i = simp to_z-of_z at c.isqrt.ensures.value in
    let m : (unsigned_abs z * 2 ^ FRACTION) % 2 ^ 128 ≡ unsigned_abs c.args.self * 2 ^ FRACTION = rw e (omega arith) in
    let k : c.isqrt.result ≡ root (unsigned_abs c.args.self * 2 ^ FRACTION) = i ∙ ap root m in
    let b : root (unsigned_abs c.args.self * 2 ^ FRACTION) < 2 ^ 63 = root_below (unsigned_abs c.args.self * 2 ^ FRACTION) (2 ^ 63) (omega arith) in
    c.from_raw-else-raw-lt0.ensures ∙ to_z_pos w64 c.isqrt.result (omega arith) ∙ ap pos k ∙ sym (sqrt_at FRACTION c.args.self up)
