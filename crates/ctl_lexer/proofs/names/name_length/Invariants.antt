-- The loop of `names::name_length`.
use Rattle.std.proofs.Common.{◌≡◌, ◌<◌, ℕ, slice_index, true}
use Rattle.ctl_tree.specs.TokenBytes.{in_name}
use Rattle.ctl_lexer.proofs.names.name_length.Given as goal

abbrev pub invariant-loop-n : goal.invariant-loop-n
invariant-loop-n l = (i : ℕ) → i < l.n → in_name (slice_index l.bytes i) ≡ true
