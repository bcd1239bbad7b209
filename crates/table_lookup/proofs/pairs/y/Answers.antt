-- Goals of `pairs::y`.
use Rattle.std.proofs.Common.{◌∙◌}
use Rattle.table_lookup.proofs.Intervals.{pair_y}
use Rattle.table_lookup.proofs.pairs.y.Goals as goal

pub returns : goal.returns
returns c = c.index-t-i.is ∙ pair_y c.args.t.now c.args.i c.index-t-i.result c.requires.inside
