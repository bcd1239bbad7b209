use Rattle.std.proofs.Common.{◌≡◌, ◌≤◌, ◌+◌, ◌-◌, map, drop, length, Some}
use Rattle.ctl_types.specs.declared.program.Field.{Field}
use Rattle.ctl_types.specs.Shapes.{extents, base_of}
use Rattle.ctl_types.specs.Values.{fits, all_fit, each_fit}
use Rattle.eval_values.specs.Sizes.{sizes_of}
use Rattle.eval_values.specs.Size.{value_size, values_size}
use Rattle.eval_values.proofs.shapes.+fits.Given as goal

abbrev pub invariant-all_fit-loop-part : goal.invariant-all_fit-loop-part
invariant-all_fit-loop-part l = all_fit (map (fits l.structs) (drop l.part-index l.parts)) l.sizes l.base ≡ all_fit (map (fits l.structs) l.parts) l.sizes l.base

abbrev pub invariant-all_fit_shape-loop-part : goal.invariant-all_fit_shape-loop-part
invariant-all_fit_shape-loop-part l = all_fit (map (fits l.structs) (drop l.part-index l.parts)) (sizes_of l.opens (extents l.shape)) (Some (base_of l.shape)) ≡ all_fit (map (fits l.structs) l.parts) (sizes_of l.opens (extents l.shape)) (Some (base_of l.shape))

abbrev pub invariant-each_fits-each : goal.invariant-each_fits-each
invariant-each_fits-each l = record {
  same : each_fit (map (fits l.structs) (drop l.i l.parts)) (map (λ (f : Field). f.shape) (drop l.i l.fields)) ≡ each_fit (map (fits l.structs) l.parts) (map (λ (f : Field). f.shape) l.fields);
  within : l.i ≤ length l.parts;
  inside : l.i ≤ length l.fields;
}

abbrev pub decreases-each_fits-each : goal.decreases-each_fits-each
decreases-each_fits-each l = length l.parts - l.i

abbrev pub decreases-fits : goal.decreases-fits
decreases-fits l = value_size l.value.now

abbrev pub decreases-all_fit : goal.decreases-all_fit
decreases-all_fit l = values_size l.parts.now + 1

abbrev pub decreases-fields_fit : goal.decreases-fields_fit
decreases-fields_fit l = values_size l.parts.now + 3

abbrev pub decreases-each_fits : goal.decreases-each_fits
decreases-each_fits l = values_size l.parts.now + 2

abbrev pub decreases-fits_shape : goal.decreases-fits_shape
decreases-fits_shape l = value_size l.value.now + 1

abbrev pub decreases-all_fit_shape : goal.decreases-all_fit_shape
decreases-all_fit_shape l = values_size l.parts.now + 3
