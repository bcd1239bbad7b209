use Rattle.std.proofs.Common.{◌≡◌}
use Rattle.std.proofs.lemmas.Result.{err_from_is_err_and}
use Rattle.command_words.specs.Command.{Command, named}
use Rattle.render_command.specs.Actions.{lifted}
use Rattle.render_command.specs.Verdict.{checked, units_of}
use Rattle.render_command.proofs.Stepping.{then_step, stopped_step, told_step}
use Rattle.render_command.proofs.steps.program_of.Goals as goal

pub returns-in_err-units : goal.returns-in_err-units
returns-in_err-units g c =
    let p = err_from_is_err_and c.from_residual.result c.from_residual.ensures.1 in
    let command : Command = named c.args.command.now in
    rw (p.1, p.2) (stopped_step g.F.FileBox.held g.F.FileBox.asked g.F.FileBox.faults g.F.FileBox.lost g.F.FileBox.serves (λ u. u) (λ p. p) (λ held. units_of held c.args.path.now command) (λ held. lifted checked) _ c.in_err-units.ensures)

pub returns : goal.returns
returns g c =
    let command : Command = named c.args.command.now in
    then_step g.F.FileBox.held g.F.FileBox.asked g.F.FileBox.faults g.F.FileBox.lost g.F.FileBox.serves (λ u. u) (λ p. p) (λ held. units_of held c.args.path.now command) (λ held. lifted checked) c.in_ok-units.units c.checked.result c.in_ok-units.ensures
    (told_step g.F.FileBox.held g.F.FileBox.asked g.F.FileBox.faults g.F.FileBox.lost g.F.FileBox.serves _ (λ p. p) (λ answer. checked c.in_ok-units.units ≡ answer) c.checked.result c.checked.ensures)
