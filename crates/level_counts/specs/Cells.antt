-- The cells of a stage: the scalars of its constants and, for each instance, of its parameters, its variables and its
-- result. A cell of an instance varies where its variable or its result does, and where the instance has varying control.
use Rattle.std.specs.Prelude.{ℕ, ◌+◌, List, [], ◌∷◌, map, Option, Some, None, Bool, ◌||◌, if◌then◌else◌}
use Rattle.ctl_types.specs.declared.program.Struct.{Struct as StructForm}
use Rattle.ctl_types.specs.declared.program.Constant.{Constant}
use Rattle.ctl_types.specs.declared.program.Function.{Function}
use Rattle.ctl_types.specs.Shapes.{struct_counts}
use Rattle.level_counts.specs.declared.value.ValueShape.{ValueShape}
use Rattle.level_counts.specs.declared.cells.Cells.{Cells}
use Rattle.level_counts.specs.Told.{told, total}
use Rattle.level_counts.specs.Shapes.{Table, DefinitionsForm, scalars_in, stated_shape, stated_if, variables_of}

-- none
abbrev pub no_cells : Cells
no_cells = record { total = 0; varying = 0 }

-- these and those
abbrev pub more_cells : Cells → Cells → Cells
more_cells a b = record { total = a.total + b.total; varying = a.varying + b.varying }

-- as they are told
abbrev pub told_cells : Cells → Cells
told_cells c = record { total = told c.total; varying = told c.varying }

-- the scalars of a variable
abbrev pub slot_scalars : List ℕ → Option ValueShape → ℕ
slot_scalars counts None = 0
slot_scalars counts (Some v) = scalars_in counts v

-- so many, where this is true
abbrev pub where_true : Bool → ℕ → ℕ
where_true b n = if b then n else 0

-- the scalars of those variables that vary, the first of these having number k
abbrev pub varying_from : List ℕ → (ℕ → Bool) → ℕ → Table → ℕ
varying_from counts varies k [] = 0
varying_from counts varies k (slot ∷ table) = where_true (varies k) (slot_scalars counts slot) + varying_from counts varies (k + 1) table

-- the cells of these variables and a result
abbrev pub table_cells : List ℕ → Table → ValueShape → Bool → (ℕ → Bool) → Bool → Cells
table_cells counts table v control varies result = record {
  total = total (map (slot_scalars counts) table) + scalars_in counts v;
  varying = varying_from counts (λ x. control || varies x) 0 table + where_true (control || result) (scalars_in counts v);
}

-- those of an instance with these open sizes in which this control, these variables and this result vary
abbrev pub function_cells : List StructForm → Function → List ℕ → Bool → (ℕ → Bool) → Bool → Cells
function_cells structs f opens control varies result = table_cells (struct_counts structs) (variables_of f opens) (stated_if f.result) control varies result

-- those of the constants, none of which varies
abbrev pub constant_cells : DefinitionsForm → Cells
constant_cells d = record { total = total (map (λ (c : Constant). scalars_in (struct_counts d.structs) (stated_shape c.shape)) d.constants); varying = 0 }
