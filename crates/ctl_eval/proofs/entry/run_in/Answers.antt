use Rattle.std.proofs.Common.{◌≡◌, sym, subst, ap, ◌∙◌, Some}
use Rattle.ctl_types.specs.Run.{first_frame}
use Rattle.ctl_types.specs.Values.{open_sizes, sizes_fit}
use Rattle.eval_tree.specs.Scene.{SceneForm}
use Rattle.ctl_eval.specs.Means.{EntryGives, shapes_of, from_frame}
use Rattle.ctl_eval.proofs.Outcomes.{parameters_of, begins_alike, sized, with_frame}
use Rattle.ctl_eval.proofs.entry.run_in.Goals as goal

pub run_frame-requires-clause-sized : goal.run_frame-requires-clause-sized
run_frame-requires-clause-sized c =
    let d = c.args.definitions.now in
    let f = c.requires.takes.0 in
    let e = c.requires.takes.1 in
    let p : c.as_slice-parameters.result.now ≡ f.parameters = parameters_of d.functions c.functions.result.now c.args.entry f c.index-functions-entry.result c.as_slice-parameters.result.now c.functions.ensures e c.index-functions-entry.is c.as_slice-parameters.ensures in
    let n : first_frame d.structs f.parameters c.args.inputs.now ≡ Some c.in_ok-frame.frame.items =
    sym (begins_alike c.args.scene.now.structs d.structs c.as_slice-parameters.result.now f.parameters c.args.inputs.now (ap (λ (s : SceneForm). s.structs) c.requires.known) p) ∙ c.in_ok-frame.ensures in
    ap (λ ps. sizes_fit (open_sizes (shapes_of ps) c.in_ok-frame.frame.items)) p
    ∙ sized d c.args.entry f e c.args.inputs.now c.args.turns c.entries_are_sound.ensures.plain c.keep_rules.ensures c.requires.takes.2 c.in_ok-frame.frame.items n

pub returns : goal.returns
returns c =
    let d = c.args.definitions.now in
    let f = c.requires.takes.0 in
    let e = c.requires.takes.1 in
    let p : c.as_slice-parameters.result.now ≡ f.parameters = parameters_of d.functions c.functions.result.now c.args.entry f c.index-functions-entry.result c.as_slice-parameters.result.now c.functions.ensures e c.index-functions-entry.is c.as_slice-parameters.ensures in
    let n : first_frame d.structs f.parameters c.args.inputs.now ≡ Some c.in_ok-frame.frame.items =
    sym (begins_alike c.args.scene.now.structs d.structs c.as_slice-parameters.result.now f.parameters c.args.inputs.now (ap (λ (s : SceneForm). s.structs) c.requires.known) p) ∙ c.in_ok-frame.ensures in
    subst (EntryGives c.run_frame.result) (ap (λ ps. from_frame d c.args.entry ps c.in_ok-frame.frame.items c.args.turns) p ∙ sym (with_frame d c.args.entry f e c.args.inputs.now c.args.turns c.in_ok-frame.frame.items n)) c.run_frame.ensures
