use Rattle.std.proofs.Common.{◌≡◌, List, ◌++◌, Some, Ok, ap, sym, subst, ◌∙◌}
use Rattle.ctl_types.specs.declared.value.Value.{Value}
use Rattle.ctl_types.specs.declared.program.Parameter.{Parameter}
use Rattle.ctl_eval.specs.Entries.{EntryTakes}
use Rattle.render_tree.specs.Forms.{form_of}
use Rattle.render_tree.specs.PixelRun.{first_values, input_values, parameters_of, passed_on, pixel_of}
use Rattle.render_tree.proofs.Runs.{values_run, trap_run, written_fits}
use Rattle.render_tree.proofs.pixel.render_pixel.Goals as goal

pub run-requires : goal.run-requires
run-requires c =
    let e = ap (input_values (first_values c.args.depth c.args.pixel)) (sym c.parameters.ensures) ∙ c.in_ok-inputs.ensures in
    let P : List Value → Type 0 = λ vs. EntryTakes c.args.stage.now.program.now.definitions c.args.stage.now.entry vs in
    subst P (sym c.as_slice.ensures) (c.inputs_fit.ensures (form_of c.args.stage.now) c.requires.rules c.args.depth c.requires.depth.0 c.args.pixel c.requires.fits c.in_ok-inputs.inputs e)

pub returns-in-Values-clause-gives : goal.returns-in-Values-clause-gives
returns-in-Values-clause-gives c =
    let e = ap (input_values (first_values c.args.depth c.args.pixel)) (sym c.parameters.ensures) ∙ c.in_ok-inputs.ensures in
    values_run (form_of c.args.stage.now) c.args.depth c.args.pixel c.in_ok-inputs.inputs c.as_slice.result.now c.in_ok-outputs.field-0 c.in-Values.outputs c.in-Values.turns e c.as_slice.ensures c.in-Values.is c.in_ok-outputs.ensures
    ∙ ap Ok (sym (c.written.ensures
    ∙ ap (λ (ps : List Parameter). pixel_of c.args.depth (first_values c.args.depth c.args.pixel ++ passed_on ps c.as_slice-in-Values.result.now)) c.parameters-in-Values.ensures
    ∙ ap (λ (vs : List Value). pixel_of c.args.depth (first_values c.args.depth c.args.pixel ++ passed_on (parameters_of (form_of c.args.stage.now)) vs)) c.as_slice-in-Values.ensures))

pub returns-in-Values-clause-fit : goal.returns-in-Values-clause-fit
returns-in-Values-clause-fit c = written_fits c.codes_stay_in_range.ensures c.args.depth c.written.result (first_values c.args.depth c.args.pixel ++ passed_on c.parameters-in-Values.result.now c.as_slice-in-Values.result.now) c.written.ensures

pub returns-clause-gives : goal.returns-clause-gives
returns-clause-gives c =
    let e = ap (input_values (first_values c.args.depth c.args.pixel)) (sym c.parameters.ensures) ∙ c.in_ok-inputs.ensures in
    trap_run (form_of c.args.stage.now) c.args.depth c.args.pixel c.in_ok-inputs.inputs c.as_slice.result.now c.in_ok-outputs.field-0 c.in-Trap.kind c.in-Trap.node e c.as_slice.ensures c.in-Trap.is c.in_ok-outputs.ensures
