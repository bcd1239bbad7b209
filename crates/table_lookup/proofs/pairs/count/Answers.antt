-- Goals of `pairs::count`.
use Rattle.std.proofs.Common.{sym}
use Rattle.table_lookup.proofs.Intervals.{length-pairs}
use Rattle.table_lookup.proofs.pairs.count.Goals as goal

pub returns-clause-value : goal.returns-clause-value
returns-clause-value c = sym (length-pairs c.args.t.now)
