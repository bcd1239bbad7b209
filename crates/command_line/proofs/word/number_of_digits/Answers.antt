-- Goals of `word::number_of_digits`.
use Rattle.std.proofs.Common.{◌≡◌, ℕ, ◌+◌, ◌-◌, ◌*◌, ◌≤◌, take, drop, get_or, subst, arith}
use Rattle.std.proofs.lemmas.List.{take-append-drop}
use Rattle.std.proofs.lemmas.List.Sums.{fold_more}
use Rattle.fix_num.specs.Decimal.{number}
use Rattle.command_line.proofs.word.number_of_digits.Goals as goal

pub returns-then-from-value : goal.returns-then-from-value
returns-then-from-value c =
    let i : ℕ = c.each.b-index in
    let e : number (take (i + 1) c.args.digits.now) ≡ 10 * number (take i c.args.digits.now) + (get_or c.args.digits.now i 0 - 48) =
    fold_more (λ (m : ℕ) (b : ℕ). 10 * m + (b - 48)) 0 c.args.digits.now i 0 c.each-test.true in
    let p : number (take (i + 1) c.args.digits.now) ≤ number c.args.digits.now =
    subst (λ x. number (take (i + 1) c.args.digits.now) ≤ number x) (take-append-drop (i + 1) c.args.digits.now) (c.digits_grow.ensures 0 (take (i + 1) c.args.digits.now) (drop (i + 1) c.args.digits.now)) in
    omega arith
