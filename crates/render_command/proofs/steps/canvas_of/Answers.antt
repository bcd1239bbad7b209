use Rattle.std.proofs.lemmas.Result.{err_from_is_err_and}
use Rattle.command_words.specs.Command.{Command, named}
use Rattle.dpx_file.specs.Plain.{PlainImage}
use Rattle.render_command.specs.Verdict.{Plan, plan_for, planned_by, program_of}
use Rattle.render_command.proofs.Stepping.{then_step, stopped_step}
use Rattle.render_command.proofs.steps.canvas_of.Goals as goal

pub returns-in_err-program : goal.returns-in_err-program
returns-in_err-program g c =
    let p = err_from_is_err_and c.from_residual.result c.from_residual.ensures.1 in
    let command : Command = named c.args.command.now in
    let view : PlainImage → Plan = plan_for command.destination in
    rw (p.1, p.2) (stopped_step g.F.FileBox.held g.F.FileBox.asked g.F.FileBox.faults g.F.FileBox.lost g.F.FileBox.serves (λ p. p) view (λ held. program_of held c.args.path.now command) (λ held. planned_by held command) _ c.in_err-program.ensures)

pub returns : goal.returns
returns g c =
    let command : Command = named c.args.command.now in
    let view : PlainImage → Plan = plan_for command.destination in
    then_step g.F.FileBox.held g.F.FileBox.asked g.F.FileBox.faults g.F.FileBox.lost g.F.FileBox.serves (λ p. p) view (λ held. program_of held c.args.path.now command) (λ held. planned_by held command) c.in_ok-program.program c.canvas_by.result c.in_ok-program.ensures c.canvas_by.ensures
