-- Goals of `fix::Fix::code_out`.
use Rattle.std.proofs.Common.{◌≡◌, ℕ, ℤ, pos, negsuc, ◌≤ℤ◌, ◌*ℤ◌, ◌*◌, ◌^◌, ◌≤◌, unsigned_abs, FitsSigned, refl, ap, ◌∙◌, w64, arith}
use Rattle.std.proofs.Math.Nat.{mul-le-mul_right}
use Rattle.std.proofs.lemmas.Int.{ints, to_z-of_z}
use Rattle.fix_num.specs.declared.TheConstants.{FRACTION}
use Rattle.fix_num.specs.Fixed.{rnd, clamped, one}
use Rattle.fix_num.proofs.fix.Fix.code_out.Goals as goal

pub overflow_cast-result : goal.overflow_cast-result
overflow_cast-result c =
    let z : ℤ = c.clamp-within.result in
    let zf : FitsSigned w64 z = record { sfits = c.clamp-within.type_inv } in
    let top : ℕ = c.greatest_code.result in
    let b = simp to_z-of_z at c.rnd_natural.ensures.bound in
    let n : unsigned_abs z ≤ 2 ^ FRACTION = omega (arith, ints, c.clamp-within.ensures.lower_bound, c.clamp-within.ensures.upper_bound) in
    let m : unsigned_abs z * top ≤ 2 ^ FRACTION * top = mul-le-mul_right top n in
    let r : c.rnd_natural.result ≤ top = b top (omega arith) in
    omega (arith, c.greatest_code.ensures.high)

product_of : (z : ℤ) (k : ℕ) → pos 0 ≤ℤ z → pos (unsigned_abs z * k) ≡ z *ℤ pos k
product_of (pos n) k h = refl
product_of (negsuc n) k h = absurd (omega (arith, ints))

pub returns : goal.returns
unfolding clamped
returns c =
    let z : ℤ = c.clamp-within.result in
    let zf : FitsSigned w64 z = record { sfits = c.clamp-within.type_inv } in
    let yf : FitsSigned w64 c.raw.result = record { sfits = c.raw.type_inv } in
    let v = simp to_z-of_z at c.rnd_natural.ensures.value in
    let k = simp to_z-of_z at c.clamp-within.ensures.value in
    let up : pos 0 ≤ℤ z = omega (arith, ints, c.clamp-within.ensures.lower_bound) in
    let e : z ≡ clamped c.args.self (pos 0) (one FRACTION) = k ∙ ap (λ (x : ℤ). clamped x (pos 0) (one FRACTION)) c.raw.ensures in
    v ∙ ap (λ (x : ℤ). rnd x (one FRACTION)) (product_of z c.greatest_code.result up)
    ∙ ap (λ (x : ℤ). rnd (x *ℤ pos c.greatest_code.result) (one FRACTION)) e
    ∙ ap (λ (x : ℕ). rnd (clamped c.args.self (pos 0) (one FRACTION) *ℤ pos x) (one FRACTION)) c.greatest_code.ensures.value
