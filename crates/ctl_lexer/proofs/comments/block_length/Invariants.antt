-- The loop of `comments::block_length`.
use Rattle.std.proofs.Common.{◌≡◌, ◌<◌, ◌≤◌, ◌+◌, ℕ, false}
use Rattle.ctl_tree.specs.Tokens.{closes_at}
use Rattle.ctl_lexer.proofs.comments.block_length.Given as goal

abbrev pub invariant-loop-n : goal.invariant-loop-n
invariant-loop-n l = (i : ℕ) → 2 ≤ i → i + 1 < l.n → closes_at l.bytes i ≡ false
