-- What is told of instances.
use Rattle.std.specs.Prelude.{ℕ, zero, suc, ◌+◌, List, [], ◌∷◌, map, flat_map, length, Option, Some, None, Bool, slice_get}
use Rattle.ctl_base.specs.declared.kind.Node.{Node}
use Rattle.ctl_types.specs.declared.program.Function.{Function}
use Rattle.level_rules.specs.declared.instance.Instance.{Instance}
use Rattle.level_rules.specs.declared.instance.Holder.TheVariants.{Result as ResultHolder, Variable}
use Rattle.level_rules.specs.Rules.{VaryingSet, Known}
use Rattle.level_rules.specs.Levels.{found_in, calls_in, faults_in}
use Rattle.level_rules.specs.Reached.{number_in}
use Rattle.level_table.specs.declared.told.InstanceLevels.{InstanceLevels}

-- of n variables, from number k on, whether each varies
abbrev pub variables_from : VaryingSet → ℕ → ℕ → List Bool
variables_from set k zero = []
variables_from set k (suc n) = set (Variable k) ∷ variables_from set (k + 1) n

-- how many variables a function has that is there
abbrev pub variable_count : Option Function → ℕ
variable_count None = 0
variable_count (Some f) = length f.parameters + f.variables

-- an instance among these: whether its result varies, which variables do, the control of each place, and the numbers of the
-- instances that are called, in source order
abbrev pub told : List Function → Known → List Instance → Instance → InstanceLevels
told functions known table i = record {
  instance = i;
  result = known i ResultHolder;
  variables = variables_from (known i) 0 (variable_count (slice_get functions i.function));
  places = (found_in functions known i).places;
  called = map (number_in table) (calls_in functions known i);
}

-- the first of these
abbrev pub first_of : List Node → Option Node
first_of [] = None
first_of (node ∷ nodes) = Some node

-- the first that varies of what is to be uniform in these instances
abbrev pub first_fault : List Function → Known → List Instance → Option Node
first_fault functions known table = first_of (flat_map (faults_in functions known) table)
