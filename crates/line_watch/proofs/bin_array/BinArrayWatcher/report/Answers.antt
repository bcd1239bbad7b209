use Rattle.std.proofs.Common.{arith}
use Rattle.std.proofs.lemmas.List.{drop_all}
use Rattle.line_watch.proofs.bin_array.BinArrayWatcher.report.Goals as goal

pub returns-clause-padded : goal.returns-clause-padded
returns-clause-padded c = drop_all 48 c.self.inside.counts (omega (arith, c.self.told))
