use Rattle.std.proofs.Common.{◌≡◌, ◌∙◌, true, false, Ok, Err, rules}
use Rattle.std.proofs.lemmas.Bool.{false≢true}
use Rattle.std.proofs.lemmas.Result.{err_from_is_err_and}
use Rattle.outside.specs.Calls.{Has}
use Rattle.command_status.specs.declared.status.Status.TheVariants.{Exists}
use Rattle.render_command.specs.Verdict.{free_of}
use Rattle.render_command.proofs.Stepping.{answered_step, failed_step, unasked_step, looked, free_is}
use Rattle.render_command.proofs.steps.test_free.Goals as goal

pub returns-in_err-name : goal.returns-in_err-name
returns-in_err-name g c =
    let p = err_from_is_err_and c.from_residual.result c.from_residual.ensures.1 in
    rw (p.1, p.2) (unasked_step g.F.FileBox.held g.F.FileBox.asked g.F.FileBox.faults g.F.FileBox.lost g.F.FileBox.serves c.args.files.now (λ x. x) Has c.args.command.now.destination.now (λ held. free_of held c.args.command.now.destination.now))

pub returns-in-Ok-true : goal.returns-in-Ok-true
returns-in-Ok-true g c =
    let is : c.in-Ok-true.field-0 ≡ true = search rules in
    answered_step g.F.FileBox.held g.F.FileBox.asked g.F.FileBox.faults g.F.FileBox.lost g.F.FileBox.serves c.args.files.now _ (λ x. x) Has _ c.args.command.now.destination.now (λ held. free_of held c.args.command.now.destination.now) (Err Exists)
    c.in-Ok-true.ensures.reads c.in-Ok-true.ensures.cause tt c.in-Ok-true.ensures.asks c.as_str.ensures
    (λ h told. free_is h _ c.in-Ok-true.field-0 true (looked _ h _ _ c.in-Ok-true.field-0 told c.as_str.ensures c.in-Ok-true.ensures.answer) is)

pub returns-in-Ok-false : goal.returns-in-Ok-false
returns-in-Ok-false g c =
    let is : c.in-Ok-false.field-0 ≡ false = search rules in
    answered_step g.F.FileBox.held g.F.FileBox.asked g.F.FileBox.faults g.F.FileBox.lost g.F.FileBox.serves c.args.files.now _ (λ x. x) Has _ c.args.command.now.destination.now (λ held. free_of held c.args.command.now.destination.now) (Ok tt)
    c.in-Ok-false.ensures.reads c.in-Ok-false.ensures.cause tt c.in-Ok-false.ensures.asks c.as_str.ensures
    (λ h told. free_is h _ c.in-Ok-false.field-0 false (looked _ h _ _ c.in-Ok-false.field-0 told c.as_str.ensures c.in-Ok-false.ensures.answer) is)

pub returns : goal.returns
returns g c =
    rw c.in_ok-name.ensures
    (failed_step g.F.FileBox.held g.F.FileBox.asked g.F.FileBox.faults g.F.FileBox.lost g.F.FileBox.serves c.args.files.now _ (λ x. x) Has _ c.args.command.now.destination.now (λ held. free_of held c.args.command.now.destination.now)
    c.in-Err.ensures.reads c.in-Err.ensures.cause (λ to n s. false≢true (c.in-Err.ensures.served to n s)) c.in-Err.ensures.asks c.as_str.ensures)
