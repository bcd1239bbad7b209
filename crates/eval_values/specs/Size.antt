-- Sizes, by which a run ends.
use Rattle.std.specs.Prelude.{ℕ, ◌+◌, List, [], ◌∷◌, map}
use Rattle.ctl_types.specs.declared.value.Value.{Value}
use Rattle.ctl_types.specs.declared.value.Value.TheOpen.{Value-F, One, List as ListForm, Fields}
use Rattle.ctl_types.specs.declared.value.Value.TheFolds.{fold-Value}

abbrev pub total : List ℕ → ℕ
total [] = 0
total (n ∷ ns) = n + total ns

abbrev pub value_step : Value-F ℕ → ℕ
value_step (One s) = 8
value_step (ListForm ns) = 8 + total ns
value_step (Fields ns) = 8 + total ns

abbrev pub value_size : Value → ℕ
value_size = fold-Value ℕ value_step

abbrev pub values_size : List Value → ℕ
values_size vs = total (map value_size vs)
