use Rattle.std.proofs.Common.{Err, subst}
use Rattle.std.proofs.lemmas.Result.{err_from_is_err_and}
use Rattle.ctl_check_rules.specs.Faults.{Gives}
use Rattle.ctl_check_function.specs.Parameters.{default_checked}
use Rattle.ctl_check_function.proofs.parameters.check_default.Goals as goal

pub returns-in_err-default-clause-form : goal.returns-in_err-default-clause-form
returns-in_err-default-clause-form c =
    let p = err_from_is_err_and c.from_residual.result c.from_residual.ensures.1 in
    rw (p.1, p.2)
    (subst (λ s. Gives (Err c.in_err-default.field-0.0) (default_checked c.args.definitions.now c.args.is_entry s c.args.written.now c.args.shape.now c.args.value.now))
    c.enter_default.ensures c.in_err-default.ensures.form)
