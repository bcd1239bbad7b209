-- Goals of `fix::Fix::code_in`.
use Rattle.std.proofs.Common.{◌≡◌, ℕ, pos, ◌*◌, ◌-◌, ◌^◌, ◌<◌, ◌≤◌, ap, ◌∙◌, w64, arith}
use Rattle.std.proofs.Math.Nat.{mul-le-mul_left}
use Rattle.std.proofs.lemmas.Int.{ints, to_z_pos}
use Rattle.fix_num.specs.declared.TheConstants.{FRACTION}
use Rattle.fix_num.specs.Fixed.{rnd}
use Rattle.fix_num.proofs.fix.Fix.code_in.Goals as goal

-- a code gives at most 1.0
at_most_one : (code top bits : ℕ) → top ≡ 2 ^ bits - 1 → code < 2 ^ bits → code * 2 ^ FRACTION ≤ 2 ^ FRACTION * top
at_most_one code top bits e h = let l : 2 ^ FRACTION * code ≤ 2 ^ FRACTION * top = mul-le-mul_left (2 ^ FRACTION) (omega arith) in omega arith

pub overflow_cast-rnd_natural : goal.overflow_cast-rnd_natural
overflow_cast-rnd_natural c =
    let r : c.rnd_natural.result ≤ 2 ^ FRACTION = c.rnd_natural.ensures.bound (2 ^ FRACTION) (at_most_one c.args.code c.greatest_code.result c.args.bits c.greatest_code.ensures.value c.requires.fits) in
    omega (arith, ints)

pub from_raw-requires : goal.from_raw-requires
from_raw-requires c =
    let r : c.rnd_natural.result ≤ 2 ^ FRACTION = c.rnd_natural.ensures.bound (2 ^ FRACTION) (at_most_one c.args.code c.greatest_code.result c.args.bits c.greatest_code.ensures.value c.requires.fits) in
    (omega (arith, ints), omega (arith, ints))

pub returns : goal.returns
returns c =
    let r : c.rnd_natural.result ≤ 2 ^ FRACTION = c.rnd_natural.ensures.bound (2 ^ FRACTION) (at_most_one c.args.code c.greatest_code.result c.args.bits c.greatest_code.ensures.value c.requires.fits) in
    c.from_raw.ensures ∙ to_z_pos w64 c.rnd_natural.result (omega arith) ∙ c.rnd_natural.ensures.value
    ∙ ap (λ (k : ℕ). rnd (pos (c.args.code * 2 ^ FRACTION)) (pos k)) c.greatest_code.ensures.value
