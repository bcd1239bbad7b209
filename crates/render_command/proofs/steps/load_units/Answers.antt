use Rattle.std.proofs.Common.{ℕ, List, Result, Ok, Err, subst}
use Rattle.ctl_tree.specs.Units.{SourceUnit}
use Rattle.module_path.specs.LoadOrder.{LoadOrder}
use Rattle.render_command.proofs.Stepping.{loaded_step, unloaded_step}
use Rattle.render_command.proofs.steps.load_units.Goals as goal

pub returns-in-Ok : goal.returns-in-Ok
returns-in-Ok g c =
    loaded_step g.F.FileBox.held g.F.FileBox.asked g.F.FileBox.faults g.F.FileBox.lost g.F.FileBox.serves c.args.files.now _ c.args.path.now c.args.command.now.text.now c.in-Ok.units c.in-Ok.ensures.reads c.in-Ok.ensures.counted
    (λ h e. let P : List ℕ → Type 0 = λ root. LoadOrder h c.args.path.now root (g.F.FileBox.asked c.args.files.now) (g.F.FileBox.asked c.load.new.files) (Ok c.in-Ok.units) in subst P c.as_str.ensures (c.in-Ok.ensures.loads h e))

pub returns-in-Err : goal.returns-in-Err
returns-in-Err g c =
    unloaded_step g.F.FileBox.held g.F.FileBox.asked g.F.FileBox.faults g.F.FileBox.lost g.F.FileBox.serves c.args.files.now _ c.args.path.now c.args.command.now.text.now c.in-Err.fault _ c.in-Err.ensures.reads c.in-Err.ensures.counted c.in-Err.ensures.served
    (λ h e. let P : List ℕ → Type 0 = λ root. LoadOrder h c.args.path.now root (g.F.FileBox.asked c.args.files.now) (g.F.FileBox.asked c.load.new.files) (Err c.in-Err.fault) in subst P c.as_str.ensures (c.in-Err.ensures.loads h e)) c.loading_status.ensures
