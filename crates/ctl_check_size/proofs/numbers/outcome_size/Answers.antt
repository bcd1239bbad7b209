use Rattle.std.proofs.Common.{ap, sym, ◌∙◌}
use Rattle.ctl_types.specs.declared.expression.TypedExpr.TheVariants.{rolls-Literal}
use Rattle.ctl_check_size.specs.Numbers.{outcome_size, size_outcome}
use Rattle.ctl_check_size.proofs.Literals.{literal_is}
use Rattle.ctl_check_size.proofs.numbers.outcome_size.Goals as goal

pub returns-in-Literal : goal.returns-in-Literal
returns-in-Literal c =
    let d = c.args.definitions.now in
    let x = c.in-Literal.scalar in
    c.scalar_size.ensures ∙ sym (literal_is d x) ∙ sym (ap (λ e. outcome_size (size_outcome d e)) (c.in-Literal.is ∙ sym (rolls-Literal x)))
