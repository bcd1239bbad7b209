use Rattle.std.proofs.Common.{arith, ◌∙◌}
use Rattle.eval_values.proofs.Puts.{stored_is, var_there}
use Rattle.eval_values.proofs.store.put.Goals as goal

pub returns-in_ok-env : goal.returns-in_ok-env
returns-in_ok-env c =
    let a = c.take-old.ensures.value in
    let b = c.index_mut.ensures.value in
    stored_is c.args.env.now.items c.args.x c.args.path.now c.args.value _ _ _ (var_there c.args.env.now.items c.args.x _ _ (omega arith) (a ∙ b)) c.in_ok-env.ensures
