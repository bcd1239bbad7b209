use Rattle.render_command.proofs.Ended.{completes}
use Rattle.render_command.proofs.order.render.Goals as goal

pub returns-clause-complete : goal.returns-clause-complete
returns-clause-complete g c = λ held told between plan j a b.
    completes c.one_verdict.ensures held _ c.args.module_path.now c.args.words.now _ between _ plan _ _ _ _ _ (c.carry_out-status.ensures.ends held told) c.carry_out-status.ensures.counted j a b
