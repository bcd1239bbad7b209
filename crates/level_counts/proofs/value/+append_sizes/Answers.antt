use Rattle.level_counts.proofs.Opens.{open_sizes}
use Rattle.level_counts.proofs.value.+append_sizes.Goals as goal

pub returns-in_ok-after-in-Unstated-clause-sizes : goal.returns-in_ok-after-in-Unstated-clause-sizes
returns-in_ok-after-in-Unstated-clause-sizes t c =
    open_sizes c.args.opens.now c.args.shape.now c.in-Array.elements c.get-in-Unstated.result.now c.in-Array.extent c.args.number c.next.result c.size_at.result _ _ _
    c.in-Array.is c.in-Unstated.is c.get-in-Unstated.ensures c.size_at.ensures c.next.ensures c.in_ok-push-in-Unstated.ensures.last c.in_ok-after-in-Unstated.ensures.sizes
