-- Goals of `spelling::more_digits`.
use Rattle.std.proofs.Common.{◌≡◌, ℕ, ◌+◌, ◌-◌, ◌*◌, ◌≤◌, take, get_or, arith}
use Rattle.std.proofs.lemmas.List.Sums.{fold_more}
use Rattle.fix_num.specs.Decimal.{number_from}
use Rattle.fix_num.proofs.Number.{number_part}
use Rattle.fix_num.proofs.spelling.more_digits.Goals as goal

pub returns-then-value-ge-DIGIT_LIMIT : goal.returns-then-value-ge-DIGIT_LIMIT
returns-then-value-ge-DIGIT_LIMIT c =
    let i : ℕ = c.each.b-index in
    let e : number_from c.args.before (take (i + 1) c.args.digits.now) ≡ 10 * number_from c.args.before (take i c.args.digits.now) + (get_or c.args.digits.now i 0 - 48) =
    fold_more (λ (m : ℕ) (b : ℕ). 10 * m + (b - 48)) c.args.before c.args.digits.now i 0 c.each-test.true in
    let p : number_from c.args.before (take (i + 1) c.args.digits.now) ≤ number_from c.args.before c.args.digits.now = number_part c.args.before (i + 1) c.args.digits.now in
    omega arith
