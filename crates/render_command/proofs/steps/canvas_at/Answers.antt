use Rattle.std.proofs.lemmas.Result.{err_from_is_err_and}
use Rattle.command_words.specs.Command.{Command, named}
use Rattle.dpx_file.specs.Plain.{PlainImage}
use Rattle.render_tree.specs.Forms.{form_of}
use Rattle.render_tree.specs.PixelRun.{StageForm}
use Rattle.render_tree.specs.RenderedImage.{rendered}
use Rattle.render_command.specs.Verdict.{Plan, IsPlan, image_at, plan_for, rendering}
use Rattle.render_command.proofs.Stepping.{then_step, stopped_step, told_step}
use Rattle.render_command.proofs.steps.canvas_at.Goals as goal

pub returns-in_err-image : goal.returns-in_err-image
returns-in_err-image g c =
    let p = err_from_is_err_and c.from_residual.result c.from_residual.ensures.1 in
    let command : Command = named c.args.command.now in
    let view : PlainImage → Plan = plan_for command.destination in
    rw (p.1, p.2) (stopped_step g.F.FileBox.held g.F.FileBox.asked g.F.FileBox.faults g.F.FileBox.lost g.F.FileBox.serves (λ i. i) view (λ held. image_at held command.source) (λ held. rendering command.destination (form_of c.args.stage.now)) _ c.in_err-image.ensures)

pub returns : goal.returns
returns g c =
    let command : Command = named c.args.command.now in
    let view : PlainImage → Plan = plan_for command.destination in
    let stage : StageForm = form_of c.args.stage.now in
    let image : PlainImage = c.in_ok-image.image in
    then_step g.F.FileBox.held g.F.FileBox.asked g.F.FileBox.faults g.F.FileBox.lost g.F.FileBox.serves (λ i. i) view (λ held. image_at held command.source) (λ held. rendering command.destination stage) image c.render_stage.result c.in_ok-image.ensures
    (told_step g.F.FileBox.held g.F.FileBox.asked g.F.FileBox.faults g.F.FileBox.lost g.F.FileBox.serves _ view (IsPlan command.destination (rendered stage image)) c.render_stage.result c.render_stage.ensures)
