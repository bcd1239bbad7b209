-- Goals of `halves::step_of`.
use Rattle.std.proofs.Common.{◌≡◌, ◌*◌, ◌%◌, ◌^◌, ◌≤◌, arith}
use Rattle.std.proofs.Math.Pow.{pow_mono}
use Rattle.std.proofs.lemmas.Nat.{one_shl}
use Rattle.fix_num.proofs.halves.step_of.Goals as goal

pub returns-clause-bound : goal.returns-clause-bound
returns-clause-bound c =
    let p : 2 ^ c.args.shift ≤ 2 ^ 29 = pow_mono {i = c.args.shift} {j = 29} c.requires in
    let e : 1 * 2 ^ c.args.shift % 2 ^ 64 ≡ 2 ^ c.args.shift = one_shl c.args.shift 64 (omega arith) in
    omega arith
