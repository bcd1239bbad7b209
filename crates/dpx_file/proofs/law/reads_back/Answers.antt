use Rattle.dpx_file.proofs.Back.{reads_back_lem}
use Rattle.dpx_file.proofs.law.reads_back.Goals as goal

pub returns : goal.returns
returns c = reads_back_lem
