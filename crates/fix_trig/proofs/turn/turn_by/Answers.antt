-- Goals of `turn::turn_by`.
use Rattle.std.proofs.Common.{◌≡◌, ℕ, ℤ, pos, ◌-ℤ◌, ◌*ℤ◌, neg_ℤ, ◌+◌, ◌^◌, ◌<◌, unsigned_abs, FitsSigned, to_z, of_z, sym, ◌∙◌, subst, arith}
use Rattle.std.specs.Int.{w128}
use Rattle.std.proofs.lemmas.Int.{to_z-of_z, fits_signed_from_abs}
use Rattle.fix_num.specs.Fixed.{rnd}
use Rattle.fix_trig.specs.Turn.{UnitVector, cosine, sine}
use Rattle.fix_trig.specs.Bound.{bound, IsBounded}
use Rattle.fix_trig.specs.Means.{vector_of}
use Rattle.fix_trig.proofs.Bounds.{given_small, turn_room}
use Rattle.fix_trig.proofs.Steps.{same, negated, turned_is}
use Rattle.fix_trig.proofs.Size.{negated_size}
use Rattle.fix_trig.proofs.turn.turn_by.Goals as goal

pub difference-requires : goal.difference-requires
difference-requires c =
    let b : bound c.args.k < 2 ^ 64 = given_small c.args.k c.requires.fits in
    let ex : to_z w128 (of_z w128 c.args.at.x) ≡ c.args.at.x = same c.args.at.x (omega (arith, c.requires.within.x)) in
    let ey : to_z w128 (of_z w128 c.args.at.y) ≡ c.args.at.y = same c.args.at.y (omega (arith, c.requires.within.y)) in
    rw (ex, ey, c.constants-cosine.ensures.cosine, c.constants-cosine.ensures.sine)
    (turn_room c.args.k (unsigned_abs c.args.at.x) (unsigned_abs c.args.at.y) c.requires.fits c.requires.within.x c.requires.within.y)

pub overflow_sub-at : goal.overflow_sub-at
overflow_sub-at c =
    let b : bound c.args.k < 2 ^ 64 = given_small c.args.k c.requires.fits in
    let ex : to_z w128 (of_z w128 c.args.at.x) ≡ c.args.at.x = same c.args.at.x (omega (arith, c.requires.within.x)) in
    let s : unsigned_abs (neg_ℤ c.args.at.x) ≡ unsigned_abs c.args.at.x = negated_size c.args.at.x in
    rw (ex, negated c.args.at.x) (fits_signed_from_abs w128 (neg_ℤ c.args.at.x) (omega (arith, c.requires.within.x)))

pub difference-requires-2 : goal.difference-requires-2
difference-requires-2 c =
    let b : bound c.args.k < 2 ^ 64 = given_small c.args.k c.requires.fits in
    let ex : to_z w128 (of_z w128 c.args.at.x) ≡ c.args.at.x = same c.args.at.x (omega (arith, c.requires.within.x)) in
    let ey : to_z w128 (of_z w128 c.args.at.y) ≡ c.args.at.y = same c.args.at.y (omega (arith, c.requires.within.y)) in
    let s : unsigned_abs (neg_ℤ c.args.at.x) ≡ unsigned_abs c.args.at.x = negated_size c.args.at.x in
    let en : to_z w128 (of_z w128 (neg_ℤ c.args.at.x)) ≡ neg_ℤ c.args.at.x = same (neg_ℤ c.args.at.x) (omega (arith, c.requires.within.x)) in
    rw (ex, ey, negated c.args.at.x, en, s, c.constants-cosine.ensures.cosine, c.constants-cosine.ensures.sine)
    (turn_room c.args.k (unsigned_abs c.args.at.y) (unsigned_abs c.args.at.x) c.requires.fits c.requires.within.y c.requires.within.x)

value : goal.returns-clause-value
value c =
    let k : ℕ = c.args.k in
    let x : ℤ = c.args.at.x in
    let y : ℤ = c.args.at.y in
    let b : bound k < 2 ^ 64 = given_small k c.requires.fits in
    let ex : to_z w128 (of_z w128 x) ≡ x = same x (omega (arith, c.requires.within.x)) in
    let ey : to_z w128 (of_z w128 y) ≡ y = same y (omega (arith, c.requires.within.y)) in
    let s : unsigned_abs (neg_ℤ x) ≡ unsigned_abs x = negated_size x in
    let en : to_z w128 (of_z w128 (neg_ℤ x)) ≡ neg_ℤ x = same (neg_ℤ x) (omega (arith, c.requires.within.x)) in
    let f : FitsSigned w128 c.difference.result = record { sfits = c.difference.type_inv } in
    let g : FitsSigned w128 c.difference-2.result = record { sfits = c.difference-2.type_inv } in
    let p : c.difference.result ≡ rnd (x *ℤ pos (cosine k) -ℤ y *ℤ pos (sine k)) (pos (2 ^ 62)) = rw (ex, ey, c.constants-cosine.ensures.cosine, c.constants-cosine.ensures.sine) at c.difference.ensures in
    let q : c.difference-2.result ≡ rnd (y *ℤ pos (cosine k) -ℤ neg_ℤ x *ℤ pos (sine k)) (pos (2 ^ 62)) =
    rw (ex, ey, negated x, en, c.constants-cosine.ensures.cosine, c.constants-cosine.ensures.sine) at c.difference-2.ensures in
    turned_is k (vector_of c.args.at) (to_z w128 (of_z w128 c.difference.result)) (to_z w128 (of_z w128 c.difference-2.result)) (to_z-of_z w128 c.difference.result f ∙ p) (to_z-of_z w128 c.difference-2.result g ∙ q)

pub returns-clause-value : goal.returns-clause-value
returns-clause-value c = value c

pub returns-clause-within : goal.returns-clause-within
returns-clause-within c = subst (λ (d : UnitVector). IsBounded (bound (c.args.k + 1)) d) (sym (value c)) (c.requires.fits.keeps (vector_of c.args.at) c.requires.within)
