use Rattle.ctl_parser_expr.proofs.Missing.{no_name}
use Rattle.ctl_parser_expr.proofs.Ways.{stop}
use Rattle.ctl_parser_expr.proofs.marks.name.Goals as goal

pub returns-then-not-sees_name-clause-fails : goal.returns-then-not-sees_name-clause-fails
returns-then-not-sees_name-clause-fails c = λ below. stop (no_name _ c.if-not-sees_name.ensures.told)
