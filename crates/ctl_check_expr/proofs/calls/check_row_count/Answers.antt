use Rattle.std.proofs.Common.{subst, sym}
use Rattle.std.specs.Option.{option_copied}
use Rattle.ctl_types.specs.declared.expression.Callee.TheVariants as callee
use Rattle.ctl_check_rules.specs.Faults.{Gives, rule_at, node_of}
use Rattle.ctl_check_expr.specs.Calls.{row_formal_of}
use Rattle.ctl_check_expr.proofs.Lists.{counted_within}
use Rattle.ctl_check_expr.proofs.calls.check_row_count.Goals as goal

pub returns : goal.returns
returns c = subst (λ v. Gives c.check_row_missing.result (rule_at c.args.unit c.args.token v)) (sym (counted_within row_formal_of (node_of c.args.unit c.args.token) (callee.Library c.args.id) c.args.params.now (option_copied c.args.gives) 0 c.args.count c.args.after c.if-count-params.false)) c.check_row_missing.ensures
