-- Goals of `rounding::rnd_natural`.
use Rattle.std.proofs.Common.{◌+◌, ◌*◌, ◌/◌, ◌<◌, refl, arith}
use Rattle.std.proofs.Math.Nat.{div-lt_iff_lt-mul}
use Rattle.fix_num.specs.Fixed.{rnd}
use Rattle.fix_num.proofs.rounding.rnd_natural.Goals as goal

pub returns : goal.returns
unfolding rnd
returns c =
    record {
      value = refl;
      bound = λ most h.
          let k : (2 * c.args.n + c.args.d) / (2 * c.args.d) < most + 1 = (div-lt_iff_lt-mul {k = 2 * c.args.d} {x = 2 * c.args.n + c.args.d} {y = most + 1} (omega arith)).1 (omega arith) in
          omega arith;
    }
