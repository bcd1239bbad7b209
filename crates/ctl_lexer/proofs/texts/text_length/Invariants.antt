-- The loop of `texts::text_length`.
use Rattle.std.proofs.Common.{◌≡◌, ◌<◌, ℕ, slice_index, false, eqb}
use Rattle.ctl_tree.specs.TokenBytes.{is_escaped, ends_text}
use Rattle.ctl_lexer.proofs.texts.text_length.Given as goal

-- before this place no byte is a line feed, and none but the first ends a text
abbrev pub invariant-loop-n : goal.invariant-loop-n
invariant-loop-n l = record {
  escaped : l.escaped ≡ is_escaped l.bytes l.n;
  one_line : (i : ℕ) → i < l.n → eqb (slice_index l.bytes i) 10 ≡ false;
  goes_on : (i : ℕ) → 0 < i → i < l.n → ends_text l.bytes i ≡ false;
}
