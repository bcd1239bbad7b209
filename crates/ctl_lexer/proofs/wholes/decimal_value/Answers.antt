-- Goals of `wholes::decimal_value`.
use Rattle.std.proofs.Common.{◌≡◌, ℕ, ◌+◌, ◌-◌, ◌*◌, ◌≤◌, take, drop, get_or, arith, subst}
use Rattle.std.proofs.lemmas.List.{take-append-drop}
use Rattle.std.proofs.lemmas.List.Sums.{fold_more}
use Rattle.fix_num.specs.Decimal.{number}
use Rattle.ctl_lexer.proofs.wholes.decimal_value.Goals as goal

pub returns-then-value-ge-LIMIT : goal.returns-then-value-ge-LIMIT
returns-then-value-ge-LIMIT c =
    let i : ℕ = c.loop-b.b-index in
    let e : number (take (i + 1) c.args.digits.now) ≡ 10 * number (take i c.args.digits.now) + (get_or c.args.digits.now i 0 - 48) =
    fold_more (λ (m : ℕ) (b : ℕ). 10 * m + (b - 48)) 0 c.args.digits.now i 0 c.loop-b-test.true in
    let p : number (take (i + 1) c.args.digits.now) ≤ number c.args.digits.now = subst (λ ds. number (take (i + 1) c.args.digits.now) ≤ number ds) (take-append-drop (i + 1) c.args.digits.now) (c.digits_grow.ensures 0 (take (i + 1) c.args.digits.now) (drop (i + 1) c.args.digits.now)) in
    omega arith
