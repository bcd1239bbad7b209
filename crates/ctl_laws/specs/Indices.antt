-- An index that does not trap lies inside.
use Rattle.std.specs.Prelude.{◌≡◌, ◌⊎◌, ℕ, ◌<◌, ℤ, pos, ◌<ℤ◌, ◌≤ℤ◌, List, length, Option, Some, Ok, Err}
use Rattle.ctl_base.specs.declared.kind.Node.{Node}
use Rattle.ctl_base.specs.declared.kind.TrapKind.TheVariants as trap
use Rattle.ctl_types.specs.declared.value.Value.{Value}
use Rattle.ctl_types.specs.Values.{Env, list, part_of}
use Rattle.ctl_types.specs.Run.{Trapped, Pixel, Got, Run, checked, index_run}

-- what is found is an array, the number is below its length, and the part of that number is there
pub record LiesInside (found : Option Value) (i : ℕ) : Type 0 where
  pub elements : List Value
  pub is_array : found ≡ Some (list elements)
  pub below : i < length elements
  pub part : Value
  pub is_part : part_of found i ≡ Some part

pub record IndicesLieInside (C : Type 0) (pay : ℕ → C → C) : Type 0 where
  -- an index that passes the check is from 0 to below the size, and is the number that is handed on
  pub passes : (node : Node) (z : ℤ) (size : ℕ) (p : Pixel C pay) (got : Got C pay ℕ) → checked C pay node z size p ≡ Ok got → (z ≡ pos got.value) × (got.value < size)
  -- an index below 0 or from the size on traps
  pub traps : (node : Node) (z : ℤ) (size : ℕ) (p : Pixel C pay) → (z <ℤ pos 0) ⊎ (pos size ≤ℤ z) → checked C pay node z size p ≡ Err (Trapped trap.Index node)
  -- the number that an index step gives lies inside what the step is into, as it stands after the index is evaluated
  pub steps : (e : Run C pay Value) (node : Node) (find : Env → Option Value) (p : Pixel C pay) (got : Got C pay ℕ) → index_run C pay e node find p ≡ Ok got → LiesInside (find got.after.env) got.value
