-- Goals of `wholes::hexadecimal_value`.
use Rattle.std.proofs.Common.{◌≡◌, ℕ, ◌+◌, ◌*◌, ◌≤◌, take, get_or, arith}
use Rattle.std.proofs.lemmas.List.Sums.{fold_more}
use Rattle.ctl_tree.specs.TokenBytes.{hexadecimal_digit, hexadecimal_number}
use Rattle.ctl_lexer.proofs.Values.{hexadecimal_part}
use Rattle.ctl_lexer.proofs.wholes.hexadecimal_value.Goals as goal

pub returns-then-value-ge-LIMIT : goal.returns-then-value-ge-LIMIT
returns-then-value-ge-LIMIT c =
    let i : ℕ = c.loop-b.b-index in
    let e : hexadecimal_number (take (i + 1) c.args.digits.now) ≡ 16 * hexadecimal_number (take i c.args.digits.now) + hexadecimal_digit (get_or c.args.digits.now i 0) =
    fold_more (λ (m : ℕ) (b : ℕ). 16 * m + hexadecimal_digit b) 0 c.args.digits.now i 0 c.loop-b-test.true in
    let p : hexadecimal_number (take (i + 1) c.args.digits.now) ≤ hexadecimal_number c.args.digits.now = hexadecimal_part (i + 1) c.args.digits.now in
    let d = c.digit_value.ensures in
    omega arith
