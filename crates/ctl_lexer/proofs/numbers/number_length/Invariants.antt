-- The loop of `numbers::number_length`.
use Rattle.std.proofs.Common.{◌≡◌, ◌<◌, ℕ, true}
use Rattle.ctl_tree.specs.TokenBytes.{goes_on_at}
use Rattle.ctl_lexer.proofs.numbers.number_length.Given as goal

abbrev pub invariant-loop-n : goal.invariant-loop-n
invariant-loop-n l = (i : ℕ) → 0 < i → i < l.n → goes_on_at l.bytes i ≡ true
