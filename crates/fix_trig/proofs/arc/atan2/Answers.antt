-- Goals of `arc::atan2`.
use Rattle.std.proofs.Common.{◌≡◌, ℕ, ℤ, pos, max, min, unsigned_abs, FitsSigned, to_z, of_z, ap, sym, ◌∙◌, arith}
use Rattle.std.specs.Int.{w64}
use Rattle.std.proofs.lemmas.Int.{to_z-of_z}
use Rattle.fix_num.specs.declared.TheConstants.{FRACTION}
use Rattle.fix_num.specs.Constants.{half_pi}
use Rattle.fix_num.specs.Fixed.{fix_times}
use Rattle.fix_trig.specs.Angle.{found, unfolded}
use Rattle.fix_trig.proofs.Steps.{atan2_zero, atan2_at}
use Rattle.fix_trig.proofs.arc.atan2.Goals as goal

pub returns-then-u-eq0 : goal.returns-then-u-eq0
returns-then-u-eq0 c =
    let u : c.max-u.result ≡ max (unsigned_abs c.args.x) (unsigned_abs c.args.y) = grind (arith, to_z-of_z) in
    c.from_raw.ensures ∙ sym (atan2_zero FRACTION c.max-u.result c.args.y c.args.x u c.if-u-eq0.true)

pub returns : goal.returns
returns c =
    let u : c.max-u.result ≡ max (unsigned_abs c.args.x) (unsigned_abs c.args.y) = grind (arith, to_z-of_z) in
    let v : c.min-v.result ≡ min (unsigned_abs c.args.x) (unsigned_abs c.args.y) = grind (arith, to_z-of_z) in
    let fx : FitsSigned w64 c.raw-across.result = record { sfits = c.raw-across.type_inv } in
    let fy : FitsSigned w64 c.raw-up.result = record { sfits = c.raw-up.type_inv } in
    let fz : FitsSigned w64 c.unfolded.result = record { sfits = c.unfolded.type_inv } in
    let x : to_z w64 (of_z w64 c.raw-across.result) ≡ c.args.x = to_z-of_z w64 c.raw-across.result fx ∙ c.raw-across.ensures in
    let y : to_z w64 (of_z w64 c.raw-up.result) ≡ c.args.y = to_z-of_z w64 c.raw-up.result fy ∙ c.raw-up.ensures in
    let z : c.from_raw-2.result ≡ unfolded FRACTION (pos (found FRACTION c.max-u.result c.min-v.result FRACTION).angle) c.args.y c.args.x =
    c.from_raw-2.ensures
    ∙ to_z-of_z w64 c.unfolded.result fz
    ∙ c.unfolded.ensures.value
    ∙ ap (λ (n : ℤ). unfolded FRACTION (pos c.search.result) n (to_z w64 (of_z w64 c.raw-across.result))) y
    ∙ ap (λ (n : ℤ). unfolded FRACTION (pos c.search.result) c.args.y n) x
    ∙ ap (λ (n : ℕ). unfolded FRACTION (pos n) c.args.y c.args.x) c.search.ensures.value
    in
    c.times.ensures ∙ ap (λ (n : ℤ). fix_times n half_pi) z ∙ sym (atan2_at FRACTION c.max-u.result c.min-v.result c.args.y c.args.x u v c.if-u-eq0.false)
