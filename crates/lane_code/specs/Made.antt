-- Code that is made of its parts.
use Rattle.std.specs.Prelude.{◌≡◌}
use Rattle.lane_code.specs.declared.code.Code.{Code}
use Rattle.lane_code.specs.declared.parts.Parts.{Parts}
use Rattle.lane_code.specs.declared.valid.Numbers.{Numbers}

abbrev pub numbers_of : Parts → Numbers
numbers_of p = record { varying = p.varying; uniform = p.uniform }

-- the code has just these parts
pub record IsMadeOf (code : Code) (p : Parts) : Type 0 where
  pub blocks : code.blocks ≡ p.blocks
  pub entry : code.entry ≡ p.entry
  pub varying : code.varying ≡ p.varying
  pub uniform : code.uniform ≡ p.uniform
  pub inputs : code.inputs ≡ p.inputs
  pub outputs : code.outputs ≡ p.outputs
