use Rattle.std.proofs.Common.{rules, arith, sym, ap, ◌∙◌, ◌≡◌, Some, None, slice_get}
use Rattle.std.proofs.lemmas.Result.{on_ok_weaker}
use Rattle.eval_tree.specs.Calls.{with_defaults}
use Rattle.eval_tree.proofs.Frames.{no_defaults}
use Rattle.eval_tree.proofs.Functions.{defaults_there, defaults_none}
use Rattle.eval_tree.proofs.calls.fill_defaults.Goals as goal

pub returns-in-Some : goal.returns-in-Some
returns-in-Some c =
    let g : slice_get c.args.scene.now.functions c.args.number ≡ Some c.in-Some.function.now = search rules in
    let d = defaults_there c.args.scene.now c.args.number c.in-Some.function.now g in
    search rules

pub returns-in-None : goal.returns-in-None
returns-in-None c =
    let g : slice_get c.args.scene.now.functions c.args.number ≡ None = search rules in
    sym (ap (λ d. with_defaults d c.args.frame.now.items) (defaults_none c.args.scene.now c.args.number g) ∙ no_defaults c.args.frame.now.items)
