use Rattle.std.proofs.Common.{length}
use Rattle.ctl_tree.proofs.Faults.{covered_spelt}
use Rattle.ctl_tree.proofs.laws.tokens_are_spelt.Goals as goal

pub returns : goal.returns
returns c = λ text tokens h. covered_spelt text 0 (length text) tokens h
