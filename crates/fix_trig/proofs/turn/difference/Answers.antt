-- Goals of `turn::difference`.
use Rattle.std.proofs.Common.{◌≡◌, ℤ, pos, ◌-ℤ◌, ◌*ℤ◌, ◌+◌, ◌*◌, ◌^◌, ◌<◌, unsigned_abs, FitsSigned, to_z, of_z, ap, sym, subst, ◌∙◌, arith}
use Rattle.std.specs.Int.{w128}
use Rattle.std.proofs.lemmas.Int.{to_z-of_z}
use Rattle.fix_num.specs.Fixed.{rnd}
use Rattle.fix_trig.proofs.Size.{inside, inside_fits, difference_size}
use Rattle.fix_trig.proofs.turn.difference.Goals as goal

pub overflow_sub-p : goal.overflow_sub-p
overflow_sub-p c =
    subst (λ z. FitsSigned w128 z) (sym (inside c.args.p c.args.q c.args.c c.args.s c.ranges.p c.ranges.q (omega arith) (omega arith) c.requires))
    (inside_fits c.args.p c.args.q c.args.c c.args.s c.requires)

pub rnd_shift-requires-clause-room : goal.rnd_shift-requires-clause-room
rnd_shift-requires-clause-room c =
    let e = inside c.args.p c.args.q c.args.c c.args.s c.ranges.p c.ranges.q (omega arith) (omega arith) c.requires in
    let f = inside_fits c.args.p c.args.q c.args.c c.args.s c.requires in
    let x = difference_size c.args.p c.args.q c.args.c c.args.s in
    let e' : to_z w128 (of_z w128 (c.args.p *ℤ pos c.args.c -ℤ c.args.q *ℤ pos c.args.s)) ≡ c.args.p *ℤ pos c.args.c -ℤ c.args.q *ℤ pos c.args.s = to_z-of_z w128 _ f in
    subst (λ (z : ℤ). 2 * unsigned_abs (to_z w128 (of_z w128 z)) + 2 ^ 62 < 2 ^ 127) (sym e)
    (subst (λ (z : ℤ). 2 * unsigned_abs z + 2 ^ 62 < 2 ^ 127) (sym e') (omega (arith, x, c.requires)))

pub returns : goal.returns
returns c =
    let e = inside c.args.p c.args.q c.args.c c.args.s c.ranges.p c.ranges.q (omega arith) (omega arith) c.requires in
    let f = inside_fits c.args.p c.args.q c.args.c c.args.s c.requires in
    let r : FitsSigned w128 c.rnd_shift.result = record { sfits = c.rnd_shift.type_inv } in
    to_z-of_z w128 c.rnd_shift.result r ∙ c.rnd_shift.ensures ∙ ap (λ (z : ℤ). rnd (to_z w128 (of_z w128 z)) (pos (2 ^ 62))) e ∙ ap (λ (z : ℤ). rnd z (pos (2 ^ 62))) (to_z-of_z w128 (c.args.p *ℤ pos c.args.c -ℤ c.args.q *ℤ pos c.args.s) f)
