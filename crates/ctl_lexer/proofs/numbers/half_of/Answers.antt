-- Goals of `numbers::half_of`.
use Rattle.std.proofs.Common.{sym, ◌∙◌}
use Rattle.fix_num.specs.declared.TheConstants.{FRACTION}
use Rattle.ctl_lexer.proofs.Points.{no_half}
use Rattle.ctl_lexer.proofs.numbers.half_of.Goals as goal

pub returns-in_err-value : goal.returns-in_err-value
returns-in_err-value c = rw c.from_residual.ensures (no_half c.spells_once.ensures FRACTION c.args.bytes.now c.read_decimal.result c.read_decimal.ensures (sym c.ok.ensures.value ∙ c.in_err-value.was))
