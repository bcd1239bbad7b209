-- Goals of `roots::isqrt`.
use Rattle.std.proofs.Common.{sym}
use Rattle.fix_num.proofs.Squares.{root_unique}
use Rattle.fix_num.proofs.roots.isqrt.Goals as goal

pub returns-clause-value : goal.returns-clause-value
returns-clause-value c = sym (root_unique c.args.n c.isqrt.result c.isqrt.ensures.square_le c.isqrt.ensures.next_square_gt)
