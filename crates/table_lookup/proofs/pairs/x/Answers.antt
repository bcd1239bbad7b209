-- Goals of `pairs::x`.
use Rattle.std.proofs.Common.{◌∙◌}
use Rattle.table_lookup.proofs.Intervals.{pair_x}
use Rattle.table_lookup.proofs.pairs.x.Goals as goal

pub returns : goal.returns
returns c = c.index-t-i.is ∙ pair_x c.args.t.now c.args.i c.index-t-i.result c.requires.inside
