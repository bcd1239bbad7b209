-- The loop of `tokens::lex`.
use Rattle.std.proofs.Common.{◌≡◌, ◌≤◌, ◌-◌, length}
use Rattle.fix_num.specs.declared.TheConstants.{FRACTION}
use Rattle.ctl_tree.specs.Tokens.{Covers}
use Rattle.ctl_tree.specs.Lines.{line_at}
use Rattle.ctl_lexer.proofs.tokens.lex.Given as goal

-- the tokens so far cover the text up to the place
abbrev pub invariant-each : goal.invariant-each
invariant-each l = record {
  within : l.at ≤ length l.bytes;
  line : l.line ≡ line_at l.bytes l.at;
  covered : Covers FRACTION l.bytes l.tokens l.at;
}

abbrev pub decreases-each : goal.decreases-each
decreases-each l = length l.bytes - l.at
