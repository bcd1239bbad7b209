use Rattle.fix_elem.proofs.Search.{exponent_law}
use Rattle.fix_elem.proofs.laws.exponent_is_greatest.Goals as goal

pub returns : goal.returns
returns c = exponent_law
