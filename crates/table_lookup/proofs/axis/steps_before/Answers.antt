-- Goals of `axis::steps_before`.
use Rattle.std.proofs.Common.{◌≡◌, ℕ, ℤ, pos, ◌-ℤ◌, ◌*ℤ◌, ◌<ℤ◌, ◌≤ℤ◌, ◌-◌, ◌*◌, ◌^◌, ◌≤◌, unsigned_abs, FitsSigned, to_z, ◌∙◌, arith}
use Rattle.std.specs.Int.{w128}
use Rattle.std.proofs.lemmas.Int.{ints, to_z-of_z, to_z_pos, fits_signed_from_abs}
use Rattle.fix_num.specs.declared.TheConstants.{FRACTION}
use Rattle.fix_num.specs.Fixed.{rnd, one, clamped}
use Rattle.table_lookup.specs.Between.{steps_before}
use Rattle.table_lookup.proofs.Sizes.{product_size, steps_range, size_of}
use Rattle.table_lookup.proofs.axis.steps_before.Goals as goal

pub overflow_mul-steps : goal.overflow_mul-steps
overflow_mul-steps c =
    let w : ℤ = c.within.result in
    let k : ℕ = c.args.n - 1 in
    let wf : FitsSigned w128 w = record { sfits = c.within.type_inv } in
    let n : to_z w128 k ≡ pos k = to_z_pos w128 k (omega arith) in
    let small : unsigned_abs (pos k) ≤ 2 ^ 20 = omega arith in
    let ps : unsigned_abs (w *ℤ pos k) ≤ 2 ^ 64 * 2 ^ 20 = product_size w (pos k) (2 ^ 64) (2 ^ 20) c.within.ensures.size small in
    let pf : FitsSigned w128 (w *ℤ pos k) = fits_signed_from_abs w128 (w *ℤ pos k) (omega (arith, ps)) in
    rw n (simp to_z-of_z pf)

pub overflow_mul-steps-2 : goal.overflow_mul-steps-2
overflow_mul-steps-2 c =
    let w : ℤ = c.within.result in
    let k : ℕ = c.args.n - 1 in
    let wf : FitsSigned w128 w = record { sfits = c.within.type_inv } in
    let n : to_z w128 k ≡ pos k = to_z_pos w128 k (omega arith) in
    let small : unsigned_abs (pos k) ≤ 2 ^ 20 = omega arith in
    let ps : unsigned_abs (w *ℤ pos k) ≤ 2 ^ 64 * 2 ^ 20 = product_size w (pos k) (2 ^ 64) (2 ^ 20) c.within.ensures.size small in
    let pf : FitsSigned w128 (w *ℤ pos k) = fits_signed_from_abs w128 (w *ℤ pos k) (omega (arith, ps)) in
    let qs : unsigned_abs ((w *ℤ pos k) *ℤ one FRACTION) ≤ 2 ^ 84 * 2 ^ FRACTION = product_size (w *ℤ pos k) (one FRACTION) (2 ^ 84) (2 ^ FRACTION) ps (omega arith) in
    let qf : FitsSigned w128 ((w *ℤ pos k) *ℤ one FRACTION) = fits_signed_from_abs w128 ((w *ℤ pos k) *ℤ one FRACTION) (omega (arith, qs)) in
    rw n (simp to_z-of_z qf)

pub rnd-requires-clause-room : goal.rnd-requires-clause-room
rnd-requires-clause-room c =
    let w : ℤ = c.within.result in
    let k : ℕ = c.args.n - 1 in
    let wf : FitsSigned w128 w = record { sfits = c.within.type_inv } in
    let n : to_z w128 k ≡ pos k = to_z_pos w128 k (omega arith) in
    let small : unsigned_abs (pos k) ≤ 2 ^ 20 = omega arith in
    let ps : unsigned_abs (w *ℤ pos k) ≤ 2 ^ 64 * 2 ^ 20 = product_size w (pos k) (2 ^ 64) (2 ^ 20) c.within.ensures.size small in
    let pf : FitsSigned w128 (w *ℤ pos k) = fits_signed_from_abs w128 (w *ℤ pos k) (omega (arith, ps)) in
    let qs : unsigned_abs ((w *ℤ pos k) *ℤ one FRACTION) ≤ 2 ^ 84 * 2 ^ FRACTION = product_size (w *ℤ pos k) (one FRACTION) (2 ^ 84) (2 ^ FRACTION) ps (omega arith) in
    let qf : FitsSigned w128 ((w *ℤ pos k) *ℤ one FRACTION) = fits_signed_from_abs w128 ((w *ℤ pos k) *ℤ one FRACTION) (omega (arith, qs)) in
    let df : FitsSigned w128 c.span.result = record { sfits = c.span.type_inv } in
    rw n (simp to_z-of_z (omega (arith, ints, qs, c.span.ensures.size)))

pub overflow_cast-result : goal.overflow_cast-result
overflow_cast-result c =
    let w : ℤ = c.within.result in
    let k : ℕ = c.args.n - 1 in
    let wf : FitsSigned w128 w = record { sfits = c.within.type_inv } in
    let n : to_z w128 k ≡ pos k = to_z_pos w128 k (omega arith) in
    let small : unsigned_abs (pos k) ≤ 2 ^ 20 = omega arith in
    let ps : unsigned_abs (w *ℤ pos k) ≤ 2 ^ 64 * 2 ^ 20 = product_size w (pos k) (2 ^ 64) (2 ^ 20) c.within.ensures.size small in
    let pf : FitsSigned w128 (w *ℤ pos k) = fits_signed_from_abs w128 (w *ℤ pos k) (omega (arith, ps)) in
    let qs : unsigned_abs ((w *ℤ pos k) *ℤ one FRACTION) ≤ 2 ^ 84 * 2 ^ FRACTION = product_size (w *ℤ pos k) (one FRACTION) (2 ^ 84) (2 ^ FRACTION) ps (omega arith) in
    let qf : FitsSigned w128 ((w *ℤ pos k) *ℤ one FRACTION) = fits_signed_from_abs w128 ((w *ℤ pos k) *ℤ one FRACTION) (omega (arith, qs)) in
    let d : ℤ = c.span.result in
    let df : FitsSigned w128 d = record { sfits = c.span.type_inv } in
    let r : ℤ = c.rnd.result in
    let rf : FitsSigned w128 r = record { sfits = c.rnd.type_inv } in
    let e = simp to_z-of_z at (rw n at c.rnd.ensures) in
    let up : pos 0 <ℤ d = omega (arith, ints, c.span.ensures.value, c.requires.rising) in
    let h : w ≤ℤ d = omega (arith, ints, c.span.ensures.value, c.within.ensures.high) in
    let b : (pos 0 ≤ℤ r) × (r ≤ℤ pos (k * 2 ^ FRACTION)) = steps_range c.rounding_keeps_bounds.ensures w d r k (2 ^ FRACTION) up c.within.ensures.low h e in
    let low : pos 0 ≤ℤ r = b.0 in
    let high : r ≤ℤ pos (k * 2 ^ FRACTION) = b.1 in
    simp to_z-of_z (omega (arith, ints, low), omega (arith, ints, low, high))

pub returns-clause-value : goal.returns-clause-value
unfolding steps_before
returns-clause-value c =
    let w : ℤ = c.within.result in
    let k : ℕ = c.args.n - 1 in
    let wf : FitsSigned w128 w = record { sfits = c.within.type_inv } in
    let n : to_z w128 k ≡ pos k = to_z_pos w128 k (omega arith) in
    let small : unsigned_abs (pos k) ≤ 2 ^ 20 = omega arith in
    let ps : unsigned_abs (w *ℤ pos k) ≤ 2 ^ 64 * 2 ^ 20 = product_size w (pos k) (2 ^ 64) (2 ^ 20) c.within.ensures.size small in
    let pf : FitsSigned w128 (w *ℤ pos k) = fits_signed_from_abs w128 (w *ℤ pos k) (omega (arith, ps)) in
    let qs : unsigned_abs ((w *ℤ pos k) *ℤ one FRACTION) ≤ 2 ^ 84 * 2 ^ FRACTION = product_size (w *ℤ pos k) (one FRACTION) (2 ^ 84) (2 ^ FRACTION) ps (omega arith) in
    let qf : FitsSigned w128 ((w *ℤ pos k) *ℤ one FRACTION) = fits_signed_from_abs w128 ((w *ℤ pos k) *ℤ one FRACTION) (omega (arith, qs)) in
    let d : ℤ = c.span.result in
    let df : FitsSigned w128 d = record { sfits = c.span.type_inv } in
    let r : ℤ = c.rnd.result in
    let rf : FitsSigned w128 r = record { sfits = c.rnd.type_inv } in
    let e = simp to_z-of_z at (rw n at c.rnd.ensures) in
    let up : pos 0 <ℤ d = omega (arith, ints, c.span.ensures.value, c.requires.rising) in
    let h : w ≤ℤ d = omega (arith, ints, c.span.ensures.value, c.within.ensures.high) in
    let b : (pos 0 ≤ℤ r) × (r ≤ℤ pos (k * 2 ^ FRACTION)) = steps_range c.rounding_keeps_bounds.ensures w d r k (2 ^ FRACTION) up c.within.ensures.low h e in
    let low : pos 0 ≤ℤ r = b.0 in
    let high : r ≤ℤ pos (k * 2 ^ FRACTION) = b.1 in
    let m : r ≡ rnd ((clamped c.args.p c.args.lo c.args.hi -ℤ c.args.lo) *ℤ pos k *ℤ one FRACTION) (c.args.hi -ℤ c.args.lo) = cc (e, c.within.ensures.value, c.span.ensures.value) in
    simp to_z-of_z (size_of r low ∙ m)

pub returns-clause-most : goal.returns-clause-most
returns-clause-most c =
    let w : ℤ = c.within.result in
    let k : ℕ = c.args.n - 1 in
    let wf : FitsSigned w128 w = record { sfits = c.within.type_inv } in
    let n : to_z w128 k ≡ pos k = to_z_pos w128 k (omega arith) in
    let small : unsigned_abs (pos k) ≤ 2 ^ 20 = omega arith in
    let ps : unsigned_abs (w *ℤ pos k) ≤ 2 ^ 64 * 2 ^ 20 = product_size w (pos k) (2 ^ 64) (2 ^ 20) c.within.ensures.size small in
    let pf : FitsSigned w128 (w *ℤ pos k) = fits_signed_from_abs w128 (w *ℤ pos k) (omega (arith, ps)) in
    let qs : unsigned_abs ((w *ℤ pos k) *ℤ one FRACTION) ≤ 2 ^ 84 * 2 ^ FRACTION = product_size (w *ℤ pos k) (one FRACTION) (2 ^ 84) (2 ^ FRACTION) ps (omega arith) in
    let qf : FitsSigned w128 ((w *ℤ pos k) *ℤ one FRACTION) = fits_signed_from_abs w128 ((w *ℤ pos k) *ℤ one FRACTION) (omega (arith, qs)) in
    let d : ℤ = c.span.result in
    let df : FitsSigned w128 d = record { sfits = c.span.type_inv } in
    let r : ℤ = c.rnd.result in
    let rf : FitsSigned w128 r = record { sfits = c.rnd.type_inv } in
    let e = simp to_z-of_z at (rw n at c.rnd.ensures) in
    let up : pos 0 <ℤ d = omega (arith, ints, c.span.ensures.value, c.requires.rising) in
    let h : w ≤ℤ d = omega (arith, ints, c.span.ensures.value, c.within.ensures.high) in
    let b : (pos 0 ≤ℤ r) × (r ≤ℤ pos (k * 2 ^ FRACTION)) = steps_range c.rounding_keeps_bounds.ensures w d r k (2 ^ FRACTION) up c.within.ensures.low h e in
    let low : pos 0 ≤ℤ r = b.0 in
    let high : r ≤ℤ pos (k * 2 ^ FRACTION) = b.1 in
    simp to_z-of_z (omega (arith, ints, low, high))
