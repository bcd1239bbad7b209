use Rattle.dpx_laws.proofs.Images.{images_keep_rules}
use Rattle.dpx_laws.proofs.laws.read_images_keep_rules.Goals as goal

pub returns : goal.returns
returns c = images_keep_rules
