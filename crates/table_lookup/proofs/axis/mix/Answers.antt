-- Goals of `axis::mix`.
use Rattle.std.proofs.Common.{◌≡◌, ℤ, pos, neg_ℤ, ◌+ℤ◌, ◌-ℤ◌, ◌*ℤ◌, ◌≤ℤ◌, ◌*◌, ◌^◌, ◌≤◌, unsigned_abs, FitsSigned, ap, ◌∙◌, arith}
use Rattle.std.specs.Int.{w128}
use Rattle.std.proofs.lemmas.Int.{ints, to_z-of_z, fits_signed_from_abs}
use Rattle.fix_num.specs.declared.TheConstants.{FRACTION}
use Rattle.fix_num.specs.Fixed.{rnd, sat, one, RoundingKeepsBounds}
use Rattle.table_lookup.specs.Between.{mix}
use Rattle.table_lookup.proofs.Sizes.{product_size}
use Rattle.table_lookup.proofs.axis.mix.Goals as goal

-- a part of a span
record IsPart (s f : ℤ) : Type 0 where
  pub size : unsigned_abs (s *ℤ f) ≤ 2 ^ 64 * 2 ^ FRACTION
  pub fits : FitsSigned w128 (s *ℤ f)

part_of : (s f : ℤ) → unsigned_abs s ≤ 2 ^ 64 → pos 0 ≤ℤ f → f ≤ℤ pos (2 ^ FRACTION) → IsPart s f
part_of s f wide low high =
    let small : unsigned_abs f ≤ 2 ^ FRACTION = omega (arith, ints) in
    let size : unsigned_abs (s *ℤ f) ≤ 2 ^ 64 * 2 ^ FRACTION = product_size s f (2 ^ 64) (2 ^ FRACTION) wide small in
    record { size = size; fits = fits_signed_from_abs w128 (s *ℤ f) (omega (arith, size)) }

-- a sum with it, rounded
sum_fits : RoundingKeepsBounds → (a r z : ℤ) → unsigned_abs a ≤ 2 ^ 63 → unsigned_abs z ≤ 2 ^ 64 * 2 ^ FRACTION → r ≡ rnd z (one FRACTION) → FitsSigned w128 (a +ℤ r)
sum_fits law a r z small size e =
    let b : (neg_ℤ (pos (2 ^ 64)) ≤ℤ rnd z (one FRACTION)) × (rnd z (one FRACTION) ≤ℤ pos (2 ^ 64)) =
    law z (one FRACTION) (neg_ℤ (pos (2 ^ 64))) (pos (2 ^ 64)) (omega (arith, ints)) (omega (arith, ints, size)) (omega (arith, ints, size)) in
    omega (arith, ints, b.0, b.1, e, small)

pub rnd_shift-step-requires-clause-room : goal.rnd_shift-step-requires-clause-room
rnd_shift-step-requires-clause-room c =
    let sf : FitsSigned w128 c.span.result = record { sfits = c.span.type_inv } in
    let ff : FitsSigned w128 c.wide-part.result = record { sfits = c.wide-part.type_inv } in
    let p : IsPart c.span.result c.wide-part.result = part_of c.span.result c.wide-part.result c.span.ensures.size (rw c.wide-part.ensures.value c.requires.low) (rw c.wide-part.ensures.value c.requires.high) in
    let pf : FitsSigned w128 (c.span.result *ℤ c.wide-part.result) = p.fits in
    simp to_z-of_z (omega (arith, p.size))

pub overflow_add-wide : goal.overflow_add-wide
overflow_add-wide c =
    let sf : FitsSigned w128 c.span.result = record { sfits = c.span.type_inv } in
    let ff : FitsSigned w128 c.wide-part.result = record { sfits = c.wide-part.type_inv } in
    let p : IsPart c.span.result c.wide-part.result = part_of c.span.result c.wide-part.result c.span.ensures.size (rw c.wide-part.ensures.value c.requires.low) (rw c.wide-part.ensures.value c.requires.high) in
    let pf : FitsSigned w128 (c.span.result *ℤ c.wide-part.result) = p.fits in
    let rf : FitsSigned w128 c.rnd_shift-step.result = record { sfits = c.rnd_shift-step.type_inv } in
    let wf : FitsSigned w128 c.wide.result = record { sfits = c.wide.type_inv } in
    let e = simp to_z-of_z at c.rnd_shift-step.ensures in
    simp to_z-of_z (sum_fits c.rounding_keeps_bounds.ensures c.wide.result c.rnd_shift-step.result (c.span.result *ℤ c.wide-part.result) c.wide.ensures.size p.size e)

pub returns : goal.returns
unfolding mix
returns c =
    let sf : FitsSigned w128 c.span.result = record { sfits = c.span.type_inv } in
    let ff : FitsSigned w128 c.wide-part.result = record { sfits = c.wide-part.type_inv } in
    let p : IsPart c.span.result c.wide-part.result = part_of c.span.result c.wide-part.result c.span.ensures.size (rw c.wide-part.ensures.value c.requires.low) (rw c.wide-part.ensures.value c.requires.high) in
    let pf : FitsSigned w128 (c.span.result *ℤ c.wide-part.result) = p.fits in
    let rf : FitsSigned w128 c.rnd_shift-step.result = record { sfits = c.rnd_shift-step.type_inv } in
    let wf : FitsSigned w128 c.wide.result = record { sfits = c.wide.type_inv } in
    let e = simp to_z-of_z at c.rnd_shift-step.ensures in
    let tf : FitsSigned w128 (c.wide.result +ℤ c.rnd_shift-step.result) = sum_fits c.rounding_keeps_bounds.ensures c.wide.result c.rnd_shift-step.result (c.span.result *ℤ c.wide-part.result) c.wide.ensures.size p.size e in
    let t = simp to_z-of_z at c.saturated.ensures in
    let m : (c.wide.result +ℤ c.rnd_shift-step.result) ≡ c.args.a +ℤ rnd ((c.args.b -ℤ c.args.a) *ℤ c.args.f) (one FRACTION) = cc (e, c.span.ensures.value, c.wide-part.ensures.value, c.wide.ensures.value) in
    t ∙ ap sat m
