use Rattle.std.proofs.lemmas.Result.{err_from_is_err_and}
use Rattle.command_words.specs.Command.{Command, named}
use Rattle.render_command.specs.Verdict.{look_for, loads}
use Rattle.render_command.proofs.Stepping.{then_step, stopped_step}
use Rattle.render_command.proofs.steps.units_of.Goals as goal

pub returns-in_err-test_free : goal.returns-in_err-test_free
returns-in_err-test_free g c =
    let p = err_from_is_err_and c.from_residual.result c.from_residual.ensures.1 in
    let command : Command = named c.args.command.now in
    rw (p.1, p.2) (stopped_step g.F.FileBox.held g.F.FileBox.asked g.F.FileBox.faults g.F.FileBox.lost g.F.FileBox.serves (λ x. x) (λ u. u) (λ held. look_for held command.destination) (λ held free. loads held c.args.path.now command.text) _ c.in_err-test_free.ensures)

pub returns : goal.returns
returns g c =
    let command : Command = named c.args.command.now in
    then_step g.F.FileBox.held g.F.FileBox.asked g.F.FileBox.faults g.F.FileBox.lost g.F.FileBox.serves (λ x. x) (λ u. u) (λ held. look_for held command.destination) (λ held free. loads held c.args.path.now command.text) _ _ c.in_ok-test_free.ensures c.load_units.ensures
