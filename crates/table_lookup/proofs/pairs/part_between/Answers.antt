-- Goals of `pairs::part_between`.
use Rattle.std.proofs.Common.{◌≡◌, ℤ, pos, ◌-ℤ◌, ◌*ℤ◌, ◌<ℤ◌, ◌≤ℤ◌, ◌*◌, ◌^◌, ◌≤◌, unsigned_abs, FitsSigned, ◌∙◌, w64, arith}
use Rattle.std.specs.Int.{w128}
use Rattle.std.proofs.lemmas.Int.{ints, to_z-of_z, fits_signed_from_abs}
use Rattle.fix_num.specs.declared.TheConstants.{FRACTION}
use Rattle.fix_num.specs.Fixed.{rnd, one}
use Rattle.table_lookup.specs.Tables.{part_between}
use Rattle.table_lookup.proofs.Sizes.{product_size, share_range}
use Rattle.table_lookup.proofs.pairs.part_between.Goals as goal

pub rnd-part-requires-clause-room : goal.rnd-part-requires-clause-room
rnd-part-requires-clause-room c =
    let w : ℤ = c.span.result in
    let d : ℤ = c.span-width.result in
    let wf : FitsSigned w128 w = record { sfits = c.span.type_inv } in
    let df : FitsSigned w128 d = record { sfits = c.span-width.type_inv } in
    let qs : unsigned_abs (w *ℤ one FRACTION) ≤ 2 ^ 64 * 2 ^ FRACTION = product_size w (one FRACTION) (2 ^ 64) (2 ^ FRACTION) c.span.ensures.size (omega arith) in
    let qf : FitsSigned w128 (w *ℤ one FRACTION) = fits_signed_from_abs w128 (w *ℤ one FRACTION) (omega (arith, qs)) in
    simp to_z-of_z (omega (arith, ints, qs, c.span-width.ensures.size))

pub overflow_cast-part : goal.overflow_cast-part
overflow_cast-part c =
    let w : ℤ = c.span.result in
    let d : ℤ = c.span-width.result in
    let wf : FitsSigned w128 w = record { sfits = c.span.type_inv } in
    let df : FitsSigned w128 d = record { sfits = c.span-width.type_inv } in
    let qs : unsigned_abs (w *ℤ one FRACTION) ≤ 2 ^ 64 * 2 ^ FRACTION = product_size w (one FRACTION) (2 ^ 64) (2 ^ FRACTION) c.span.ensures.size (omega arith) in
    let qf : FitsSigned w128 (w *ℤ one FRACTION) = fits_signed_from_abs w128 (w *ℤ one FRACTION) (omega (arith, qs)) in
    let r : ℤ = c.rnd-part.result in
    let rf : FitsSigned w128 r = record { sfits = c.rnd-part.type_inv } in
    let e = simp to_z-of_z at c.rnd-part.ensures in
    let up : pos 0 <ℤ d = omega (arith, ints, c.span-width.ensures.value, c.requires.low, c.requires.high) in
    let low : pos 0 ≤ℤ w = omega (arith, ints, c.span.ensures.value, c.requires.low) in
    let high : w ≤ℤ d = omega (arith, ints, c.span.ensures.value, c.span-width.ensures.value, c.requires.high) in
    let b : (pos 0 ≤ℤ r) × (r ≤ℤ one FRACTION) = rw e (share_range c.rounding_keeps_bounds.ensures w d (2 ^ FRACTION) up low high) in
    let least : pos 0 ≤ℤ r = b.0 in
    let most : r ≤ℤ one FRACTION = b.1 in
    let rg : FitsSigned w64 r = omega (arith, ints, least, most) in
    simp to_z-of_z rg

pub from_raw-requires : goal.from_raw-requires
from_raw-requires c =
    let w : ℤ = c.span.result in
    let d : ℤ = c.span-width.result in
    let wf : FitsSigned w128 w = record { sfits = c.span.type_inv } in
    let df : FitsSigned w128 d = record { sfits = c.span-width.type_inv } in
    let qs : unsigned_abs (w *ℤ one FRACTION) ≤ 2 ^ 64 * 2 ^ FRACTION = product_size w (one FRACTION) (2 ^ 64) (2 ^ FRACTION) c.span.ensures.size (omega arith) in
    let qf : FitsSigned w128 (w *ℤ one FRACTION) = fits_signed_from_abs w128 (w *ℤ one FRACTION) (omega (arith, qs)) in
    let r : ℤ = c.rnd-part.result in
    let rf : FitsSigned w128 r = record { sfits = c.rnd-part.type_inv } in
    let e = simp to_z-of_z at c.rnd-part.ensures in
    let up : pos 0 <ℤ d = omega (arith, ints, c.span-width.ensures.value, c.requires.low, c.requires.high) in
    let low : pos 0 ≤ℤ w = omega (arith, ints, c.span.ensures.value, c.requires.low) in
    let high : w ≤ℤ d = omega (arith, ints, c.span.ensures.value, c.span-width.ensures.value, c.requires.high) in
    let b : (pos 0 ≤ℤ r) × (r ≤ℤ one FRACTION) = rw e (share_range c.rounding_keeps_bounds.ensures w d (2 ^ FRACTION) up low high) in
    let least : pos 0 ≤ℤ r = b.0 in
    let most : r ≤ℤ one FRACTION = b.1 in
    let rg : FitsSigned w64 r = omega (arith, ints, least, most) in
    simp to_z-of_z (omega (arith, ints, least), omega (arith, ints, most))

pub returns-clause-value : goal.returns-clause-value
unfolding part_between
returns-clause-value c =
    let w : ℤ = c.span.result in
    let d : ℤ = c.span-width.result in
    let wf : FitsSigned w128 w = record { sfits = c.span.type_inv } in
    let df : FitsSigned w128 d = record { sfits = c.span-width.type_inv } in
    let qs : unsigned_abs (w *ℤ one FRACTION) ≤ 2 ^ 64 * 2 ^ FRACTION = product_size w (one FRACTION) (2 ^ 64) (2 ^ FRACTION) c.span.ensures.size (omega arith) in
    let qf : FitsSigned w128 (w *ℤ one FRACTION) = fits_signed_from_abs w128 (w *ℤ one FRACTION) (omega (arith, qs)) in
    let r : ℤ = c.rnd-part.result in
    let rf : FitsSigned w128 r = record { sfits = c.rnd-part.type_inv } in
    let e = simp to_z-of_z at c.rnd-part.ensures in
    let up : pos 0 <ℤ d = omega (arith, ints, c.span-width.ensures.value, c.requires.low, c.requires.high) in
    let low : pos 0 ≤ℤ w = omega (arith, ints, c.span.ensures.value, c.requires.low) in
    let high : w ≤ℤ d = omega (arith, ints, c.span.ensures.value, c.span-width.ensures.value, c.requires.high) in
    let b : (pos 0 ≤ℤ r) × (r ≤ℤ one FRACTION) = rw e (share_range c.rounding_keeps_bounds.ensures w d (2 ^ FRACTION) up low high) in
    let least : pos 0 ≤ℤ r = b.0 in
    let most : r ≤ℤ one FRACTION = b.1 in
    let rg : FitsSigned w64 r = omega (arith, ints, least, most) in
    let m = simp to_z-of_z at c.from_raw.ensures in
    let v : r ≡ rnd ((c.args.p -ℤ c.args.a) *ℤ one FRACTION) (c.args.b -ℤ c.args.a) = cc (e, c.span.ensures.value, c.span-width.ensures.value) in
    m ∙ v

pub returns-clause-from : goal.returns-clause-from
returns-clause-from c =
    let w : ℤ = c.span.result in
    let d : ℤ = c.span-width.result in
    let wf : FitsSigned w128 w = record { sfits = c.span.type_inv } in
    let df : FitsSigned w128 d = record { sfits = c.span-width.type_inv } in
    let qs : unsigned_abs (w *ℤ one FRACTION) ≤ 2 ^ 64 * 2 ^ FRACTION = product_size w (one FRACTION) (2 ^ 64) (2 ^ FRACTION) c.span.ensures.size (omega arith) in
    let qf : FitsSigned w128 (w *ℤ one FRACTION) = fits_signed_from_abs w128 (w *ℤ one FRACTION) (omega (arith, qs)) in
    let r : ℤ = c.rnd-part.result in
    let rf : FitsSigned w128 r = record { sfits = c.rnd-part.type_inv } in
    let e = simp to_z-of_z at c.rnd-part.ensures in
    let up : pos 0 <ℤ d = omega (arith, ints, c.span-width.ensures.value, c.requires.low, c.requires.high) in
    let low : pos 0 ≤ℤ w = omega (arith, ints, c.span.ensures.value, c.requires.low) in
    let high : w ≤ℤ d = omega (arith, ints, c.span.ensures.value, c.span-width.ensures.value, c.requires.high) in
    let b : (pos 0 ≤ℤ r) × (r ≤ℤ one FRACTION) = rw e (share_range c.rounding_keeps_bounds.ensures w d (2 ^ FRACTION) up low high) in
    let least : pos 0 ≤ℤ r = b.0 in
    let most : r ≤ℤ one FRACTION = b.1 in
    let rg : FitsSigned w64 r = omega (arith, ints, least, most) in
    let m = simp to_z-of_z at c.from_raw.ensures in
    rw m least

pub returns-clause-to : goal.returns-clause-to
returns-clause-to c =
    let w : ℤ = c.span.result in
    let d : ℤ = c.span-width.result in
    let wf : FitsSigned w128 w = record { sfits = c.span.type_inv } in
    let df : FitsSigned w128 d = record { sfits = c.span-width.type_inv } in
    let qs : unsigned_abs (w *ℤ one FRACTION) ≤ 2 ^ 64 * 2 ^ FRACTION = product_size w (one FRACTION) (2 ^ 64) (2 ^ FRACTION) c.span.ensures.size (omega arith) in
    let qf : FitsSigned w128 (w *ℤ one FRACTION) = fits_signed_from_abs w128 (w *ℤ one FRACTION) (omega (arith, qs)) in
    let r : ℤ = c.rnd-part.result in
    let rf : FitsSigned w128 r = record { sfits = c.rnd-part.type_inv } in
    let e = simp to_z-of_z at c.rnd-part.ensures in
    let up : pos 0 <ℤ d = omega (arith, ints, c.span-width.ensures.value, c.requires.low, c.requires.high) in
    let low : pos 0 ≤ℤ w = omega (arith, ints, c.span.ensures.value, c.requires.low) in
    let high : w ≤ℤ d = omega (arith, ints, c.span.ensures.value, c.span-width.ensures.value, c.requires.high) in
    let b : (pos 0 ≤ℤ r) × (r ≤ℤ one FRACTION) = rw e (share_range c.rounding_keeps_bounds.ensures w d (2 ^ FRACTION) up low high) in
    let least : pos 0 ≤ℤ r = b.0 in
    let most : r ≤ℤ one FRACTION = b.1 in
    let rg : FitsSigned w64 r = omega (arith, ints, least, most) in
    let m = simp to_z-of_z at c.from_raw.ensures in
    rw m most
