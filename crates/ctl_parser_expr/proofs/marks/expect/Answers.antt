use Rattle.ctl_parser_expr.proofs.Missing.{no_sign}
use Rattle.ctl_parser_expr.proofs.Ways.{stop}
use Rattle.ctl_parser_expr.proofs.marks.expect.Goals as goal

pub returns-then-not-sees-clause-fails : goal.returns-then-not-sees-clause-fails
returns-then-not-sees-clause-fails c = λ below. stop (no_sign _ _ c.if-not-sees.ensures.told)
