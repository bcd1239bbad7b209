-- The loop of `comments::line_length`.
use Rattle.std.proofs.Common.{◌≡◌, ◌<◌, ℕ, slice_index, false, eqb}
use Rattle.ctl_lexer.proofs.comments.line_length.Given as goal

abbrev pub invariant-loop-n : goal.invariant-loop-n
invariant-loop-n l = (i : ℕ) → i < l.n → eqb (slice_index l.bytes i) 10 ≡ false
