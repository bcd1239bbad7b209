-- Goals of `roots::root_is_floor`.
use Rattle.fix_num.proofs.Squares.{floor_law}
use Rattle.fix_num.proofs.roots.root_is_floor.Goals as goal

pub returns : goal.returns
returns c = floor_law
