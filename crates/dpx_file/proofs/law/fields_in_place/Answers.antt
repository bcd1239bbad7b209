use Rattle.dpx_file.proofs.Stand.{in_place_lem}
use Rattle.dpx_file.proofs.law.fields_in_place.Goals as goal

pub returns : goal.returns
returns c = in_place_lem
