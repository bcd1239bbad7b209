use Rattle.std.proofs.Common.{◌≡◌, ℕ, ℤ, pos, negsuc, ◌-ℤ◌, ◌+ℤ◌, ◌*ℤ◌, ◌<ℤ◌, FitsSigned, unsigned_abs, to_z, of_z, ap, sym, ◌∙◌, subst, w64, arith}
use Rattle.std.specs.Int.{int_div_euclid, int_rem_euclid}
use Rattle.std.proofs.lemmas.Int.{ints, to_z-of_z}
use Rattle.fix_num.specs.declared.TheConstants.{FRACTION}
use Rattle.fix_num.specs.Fixed.{one}
use Rattle.fix_elem.specs.Elementary.{power, shifted, exp2}
use Rattle.fix_elem.proofs.powers.exp2.Goals as goal

-- what is left of a shift fits
shift_fits : (x w : ℤ) → FitsSigned w64 x → FitsSigned w64 w → x <ℤ (w *ℤ one FRACTION +ℤ one FRACTION) → FitsSigned w64 ((pos 62 -ℤ pos FRACTION) -ℤ w)
shift_fits x (pos w) xf wf h = omega (arith, ints)
shift_fits x (negsuc w) xf wf h = omega (arith, ints)

pub returns : goal.returns
unfolding exp2
returns c =
    let x : ℤ = c.args.x in
    let w : ℤ = c.div_euclid-whole.result in
    let r : ℤ = c.rem_euclid-rest.result in
    let xf : FitsSigned w64 c.raw.result = record { sfits = c.raw.type_inv } in
    let yf : FitsSigned w64 c.raw-2.result = record { sfits = c.raw-2.type_inv } in
    let wf : FitsSigned w64 w = record { sfits = c.div_euclid-whole.type_inv } in
    let rf : FitsSigned w64 r = record { sfits = c.rem_euclid-rest.type_inv } in
    let a : w ≡ int_div_euclid x (one FRACTION) = (simp to_z-of_z at c.div_euclid-whole.ensures) ∙ ap (λ (z : ℤ). int_div_euclid z (one FRACTION)) c.raw.ensures in
    let b : r ≡ int_rem_euclid x (one FRACTION) = (simp to_z-of_z at c.rem_euclid-rest.ensures.value) ∙ ap (λ (z : ℤ). int_rem_euclid z (one FRACTION)) c.raw-2.ensures in
    let high : x <ℤ (int_div_euclid x (one FRACTION) *ℤ one FRACTION +ℤ one FRACTION) = (c.floor_is_greatest.ensures x (one FRACTION) (omega (arith, ints))).0.high in
    let high' : x <ℤ (w *ℤ one FRACTION +ℤ one FRACTION) = subst (λ (z : ℤ). x <ℤ (z *ℤ one FRACTION +ℤ one FRACTION)) (sym a) high in
    let sf : FitsSigned w64 ((pos 62 -ℤ pos FRACTION) -ℤ w) = shift_fits x w (subst (λ (z : ℤ). FitsSigned w64 z) c.raw.ensures xf) wf high' in
    let p : c.power.result ≡ power FRACTION (unsigned_abs r) = simp to_z-of_z at c.power.ensures.value in
    let e : to_z w64 (of_z w64 ((pos 62 -ℤ pos FRACTION) -ℤ to_z w64 (of_z w64 w))) ≡ (pos 62 -ℤ pos FRACTION) -ℤ w = ap (λ (z : ℤ). to_z w64 (of_z w64 ((pos 62 -ℤ pos FRACTION) -ℤ z))) (to_z-of_z w64 w wf) ∙ to_z-of_z w64 ((pos 62 -ℤ pos FRACTION) -ℤ w) sf in
    let d : c.shifted.result ≡ shifted c.power.result ((pos 62 -ℤ pos FRACTION) -ℤ w) = c.shifted.ensures ∙ ap (λ (z : ℤ). shifted c.power.result z) e in
    let s : ℤ = (pos 62 -ℤ pos FRACTION) -ℤ w in
    d ∙ ap (λ (v : ℕ). shifted v s) (p ∙ ap (λ (z : ℤ). power FRACTION (unsigned_abs z)) b) ∙ ap (λ (z : ℤ). shifted (power FRACTION (unsigned_abs (int_rem_euclid x (one FRACTION)))) ((pos 62 -ℤ pos FRACTION) -ℤ z)) a
