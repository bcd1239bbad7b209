-- Goals of `codes::greatest_code`.
use Rattle.std.proofs.Common.{◌≡◌, ◌*◌, ◌%◌, ◌^◌, ◌≤◌, arith}
use Rattle.fix_num.proofs.Floor.{two_to_depth}
use Rattle.fix_num.proofs.codes.greatest_code.Goals as goal

pub returns-clause-low : goal.returns-clause-low
returns-clause-low c =
    let h : (256 ≤ 2 ^ c.args.bits) × (2 ^ c.args.bits ≤ 65536) × (1 * 2 ^ c.args.bits % 2 ^ 64 ≡ 2 ^ c.args.bits) = two_to_depth c.args.bits (omega arith) (omega arith) in
    omega arith
