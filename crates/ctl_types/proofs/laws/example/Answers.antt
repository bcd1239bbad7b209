use Rattle.std.proofs.Common.{refl}
use Rattle.ctl_types.specs.declared.value.Value.TheViews.{out-roll-Value}
use Rattle.ctl_types.specs.declared.statement.TypedStatement.TheViews.{out-roll-TypedStatement}
use Rattle.ctl_types.proofs.Shapes.{extents_scalar, extents_array, base_scalar, base_array}
use Rattle.ctl_types.proofs.Layers.{expr_runs, operand_runs, call_runs, place_runs, argument_runs, expr_types, operand_types, call_types, place_types, argument_types, fits_layer, alike_layer, flat_layer, initialiser_type_layer, scope_layer, initialiser_layer, statement_layer}
use Rattle.ctl_types.proofs.laws.example.Goals as goal

pub returns-clause-stands : goal.returns-clause-stands
returns-clause-stands c = λ token form. simp (extents_scalar, extents_array, base_scalar, base_array, expr_types, operand_types, call_types, place_types, argument_types, initialiser_type_layer, scope_layer, out-roll-TypedStatement) refl

pub returns-clause-runs : goal.returns-clause-runs
returns-clause-runs c = λ token form. simp (extents_scalar, base_scalar, fits_layer, alike_layer, flat_layer, initialiser_layer, statement_layer, expr_runs, operand_runs, call_runs, place_runs, argument_runs, out-roll-Value) refl
