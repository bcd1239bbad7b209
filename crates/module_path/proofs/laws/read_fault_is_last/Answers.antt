use Rattle.module_path.proofs.Last.{read_fault_is_last}
use Rattle.module_path.proofs.laws.read_fault_is_last.Goals as goal

pub returns : goal.returns
returns c = read_fault_is_last
