-- Goals of `spelling::number_of`.
use Rattle.std.proofs.Common.{◌≤◌, ◌^◌, arith}
use Rattle.fix_num.specs.Decimal.{number_from}
use Rattle.fix_num.proofs.Number.{number_grows}
use Rattle.fix_num.proofs.spelling.number_of.Goals as goal

pub returns-in_err-before : goal.returns-in_err-before
returns-in_err-before c =
    let h : number_from 0 c.args.whole.now ≤ number_from (number_from 0 c.args.whole.now) c.args.part.now = number_grows (number_from 0 c.args.whole.now) c.args.part.now in
    let e : 10 ^ 25 ≤ number_from 0 c.args.whole.now = c.in_err-before.ensures in
    rw c.from_residual.ensures (omega arith)
