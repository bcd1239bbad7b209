-- What stays as it is while definitions are added.
use Rattle.std.specs.Prelude.{◌≡◌}
use Rattle.ctl_types.specs.declared.program.Constant.{Constant}
use Rattle.ctl_types.specs.declared.program.Struct.{Struct}
use Rattle.ctl_types.specs.Definitions.{Defined}
use Rattle.ctl_types.specs.Scoping.{IsDefined, scene_of, with_struct, with_constant}

-- one more struct or constant changes the signature of no function that is there
pub record SignaturesStay : Type 0 where
  pub struct : (d : Defined) → IsDefined d → (more : Struct) → (scene_of (with_struct d more)).functions ≡ (scene_of d).functions
  pub constant : (d : Defined) → IsDefined d → (more : Constant) → (scene_of (with_constant d more)).functions ≡ (scene_of d).functions
