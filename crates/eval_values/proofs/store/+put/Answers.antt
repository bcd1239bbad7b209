use Rattle.std.proofs.Common.{rules, ◌≡◌, []}
use Rattle.eval_values.proofs.Puts.{one_gone}
use Rattle.eval_values.proofs.store.+put.Goals as goal

pub put_within-returns-in-One : goal.put_within-returns-in-One
put_within-returns-in-One t c = let n : c.args.rest.now ≡ [] → ⊥ = search rules in one_gone c.args.whole c.in-One.field-0 c.args.number c.args.rest.now c.args.new c.in-One.is n
