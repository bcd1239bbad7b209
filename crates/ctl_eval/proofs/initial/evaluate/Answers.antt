use Rattle.std.proofs.Common.{sym, ap, ◌∙◌}
use Rattle.ctl_types.specs.Values.{Env}
use Rattle.eval_values.specs.Uncounted.{pixel}
use Rattle.eval_tree.specs.Scene.{calls_of, run_initialiser}
use Rattle.ctl_eval.specs.Means.{scene_form}
use Rattle.ctl_eval.proofs.initial.evaluate.Goals as goal

pub returns-in-Ok : goal.returns-in-Ok
unfolding calls_of
returns-in-Ok c =
    (c.initial.new.env.items, ap (λ (env : Env). run_initialiser (scene_form c.args.definitions.now) c.args.initialiser.now (pixel env c.args.turns)) (sym c.new-env.ensures.items) ∙ c.in-Ok.ensures)

pub returns-in-Err-Trap : goal.returns-in-Err-Trap
unfolding calls_of
returns-in-Err-Trap c =
    let ends = rw c.in-Err-Trap.field-0-is at c.in-Err-Trap.ensures in
    ap (λ (env : Env). run_initialiser (scene_form c.args.definitions.now) c.args.initialiser.now (pixel env c.args.turns)) (sym c.new-env.ensures.items) ∙ ends

pub returns-in-Err-Wrong : goal.returns-in-Err-Wrong
unfolding calls_of
returns-in-Err-Wrong c =
    let ends = rw c.in-Err-Wrong.field-0-is at c.in-Err-Wrong.ensures in
    ap (λ (env : Env). run_initialiser (scene_form c.args.definitions.now) c.args.initialiser.now (pixel env c.args.turns)) (sym c.new-env.ensures.items) ∙ ends
