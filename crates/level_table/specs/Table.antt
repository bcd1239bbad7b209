-- The list of instances that a walk makes.
use Rattle.std.specs.Prelude.{◌≡◌, ◌≤◌, ◌<◌, List, length, Result, Ok, Err}
use Rattle.ctl_base.specs.declared.limits.TheConstants.{INSTANCES}
use Rattle.level_rules.specs.declared.instance.Instance.{Instance}
use Rattle.level_table.specs.declared.reaching.TableFault.{TableFault}
use Rattle.level_table.specs.declared.reaching.TableFault.TheVariants.{TooManyInstances, Memory}

-- All are listed, and they are not too many; or they are too many.
abbrev pub Visits : List Instance → List Instance → {A : Type 0} → Result A TableFault → Type 0
Visits new all (Ok v) = (new ≡ all) × (length all ≤ INSTANCES)
Visits new all (Err TooManyInstances) = INSTANCES < length all
Visits new all (Err Memory) = Unit {0}

-- the same of a list that is answered
abbrev pub Reaches : List Instance → Result (List Instance) TableFault → Type 0
Reaches all (Ok table) = (table ≡ all) × (length all ≤ INSTANCES)
Reaches all (Err TooManyInstances) = INSTANCES < length all
Reaches all (Err Memory) = Unit {0}
