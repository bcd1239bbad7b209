use Rattle.std.proofs.Common.{◌≡◌, ◌∙◌, ap, sym, Option, Some, None, Result, Ok, Err}
use Rattle.command_words.specs.Command.{Command, named}
use Rattle.command_status.specs.declared.status.Status.{Status}
use Rattle.command_status.specs.declared.status.Status.TheVariants.{Later}
use Rattle.dpx_file.specs.Plain.{PlainImage}
use Rattle.render_tree.specs.Forms.{form_of}
use Rattle.render_tree.specs.PixelRun.{StageForm}
use Rattle.render_command.specs.Actions.{lifted}
use Rattle.render_command.specs.Verdict.{Plan, entered, entered_at, plan_for, planned_at}
use Rattle.render_command.proofs.Stepping.{then_step, stopped_step, told_step}
use Rattle.render_command.proofs.steps.canvas_by.Goals as goal

pub returns-in-Some : goal.returns-in-Some
returns-in-Some g c =
    let command : Command = named c.args.command.now in
    let view : PlainImage → Plan = plan_for command.destination in
    let stage : StageForm = form_of c.in-Some.stage in
    let is : entered c.args.program.now ≡ Ok stage = ap entered_at (sym c.in-Some.ensures.stage) in
    then_step g.F.FileBox.held g.F.FileBox.asked g.F.FileBox.faults g.F.FileBox.lost g.F.FileBox.serves (λ s. s) view (λ held. lifted entered c.args.program.now) (λ held. planned_at held command) stage c.canvas_at.result
    (told_step g.F.FileBox.held g.F.FileBox.asked g.F.FileBox.faults g.F.FileBox.lost g.F.FileBox.serves c.args.files.now (λ s. s) (λ answer. entered c.args.program.now ≡ answer) (Ok stage) is) c.canvas_at.ensures

pub returns-in-None : goal.returns-in-None
returns-in-None g c =
    let command : Command = named c.args.command.now in
    let view : PlainImage → Plan = plan_for command.destination in
    let is : entered c.args.program.now ≡ Err Later = ap entered_at (sym c.in-None.ensures.stage) in
    stopped_step g.F.FileBox.held g.F.FileBox.asked g.F.FileBox.faults g.F.FileBox.lost g.F.FileBox.serves (λ s. s) view (λ held. lifted entered c.args.program.now) (λ held. planned_at held command) Later
    (told_step g.F.FileBox.held g.F.FileBox.asked g.F.FileBox.faults g.F.FileBox.lost g.F.FileBox.serves c.args.files.now (λ s. s) (λ answer. entered c.args.program.now ≡ answer) (Err Later) is)
