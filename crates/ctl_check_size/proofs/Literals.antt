-- The size that a literal is, without a run.
use Rattle.std.proofs.Common.{◌≡◌, refl, ap}
use Rattle.ctl_types.specs.declared.scalar.Scalar.{Scalar}
use Rattle.ctl_types.specs.declared.value.Value.{Value}
use Rattle.ctl_types.specs.declared.value.Value.TheViews.{out-roll-Value}
use Rattle.ctl_types.specs.declared.statement.Initialiser.{Initialiser, roll-Initialiser}
use Rattle.ctl_types.specs.declared.statement.Initialiser.TheOpen as initial
use Rattle.ctl_types.specs.declared.statement.Initialiser.TheFolds.{fold-roll-Initialiser}
use Rattle.ctl_types.specs.declared.expression.Operand.{Operand, roll-Operand}
use Rattle.ctl_types.specs.declared.expression.TypedExpr.{TypedExpr, roll-TypedExpr}
use Rattle.ctl_types.specs.declared.expression.Conversion.TheVariants.{Same}
use Rattle.ctl_types.specs.declared.expression.Argument.TheOpen as form
use Rattle.ctl_types.specs.declared.expression.Argument.TheFolds.{fold-roll-Operand, fold-roll-TypedExpr}
use Rattle.ctl_types.specs.Definitions.{Defined}
use Rattle.ctl_types.specs.Values.{one}
use Rattle.ctl_types.specs.Run.{ArgumentRun, Run, StepRun, LinkRun, PlaceRun, Pixel, Setting, run_fold, run_expr, run_operand, run_initialiser, initialiser_step, evaluated, give, go_on, convert}
use Rattle.ctl_types.specs.Cost.{uncounted}
use Rattle.ctl_check_size.specs.Numbers.{scalar_size, outcome_size, size_outcome}

-- the runs of a literal, of what is taken as it is, and of an expression as an initialiser
module _ (s : Setting (Unit {0}) uncounted) where
  abbrev Given : Type 0
  Given = Run (Unit {0}) uncounted Value

  literal_run : (x : Scalar) (p : Pixel (Unit {0}) uncounted) → run_expr (Unit {0}) uncounted s (roll-TypedExpr (form.Literal x)) p ≡ evaluated (Unit {0}) uncounted (give (Unit {0}) uncounted (one x)) p
  literal_run x p = ap (λ (r : Given). r p) (fold-roll-TypedExpr (ArgumentRun (Unit {0}) uncounted) Given (StepRun (Unit {0}) uncounted) Given Given (LinkRun (Unit {0}) uncounted) (PlaceRun (Unit {0}) uncounted) (run_fold (Unit {0}) uncounted s).argument (run_fold (Unit {0}) uncounted s).expr (run_fold (Unit {0}) uncounted s).step (run_fold (Unit {0}) uncounted s).operand (run_fold (Unit {0}) uncounted s).call (run_fold (Unit {0}) uncounted s).link (run_fold (Unit {0}) uncounted s).place (form.Literal x))

  operand_run : (e : TypedExpr) (p : Pixel (Unit {0}) uncounted) → run_operand (Unit {0}) uncounted s (roll-Operand (record { value = e; conversion = Same })) p ≡ go_on (Unit {0}) uncounted (run_expr (Unit {0}) uncounted s e p) (give (Unit {0}) uncounted)
  operand_run e p = ap (λ (r : Given). r p) (fold-roll-Operand (ArgumentRun (Unit {0}) uncounted) Given (StepRun (Unit {0}) uncounted) Given Given (LinkRun (Unit {0}) uncounted) (PlaceRun (Unit {0}) uncounted) (run_fold (Unit {0}) uncounted s).argument (run_fold (Unit {0}) uncounted s).expr (run_fold (Unit {0}) uncounted s).step (run_fold (Unit {0}) uncounted s).operand (run_fold (Unit {0}) uncounted s).call (run_fold (Unit {0}) uncounted s).link (run_fold (Unit {0}) uncounted s).place (record { value = e; conversion = Same }))

  value_run : (o : Operand) (p : Pixel (Unit {0}) uncounted) → run_initialiser (Unit {0}) uncounted s (roll-Initialiser (initial.Value o)) p ≡ run_operand (Unit {0}) uncounted s o p
  value_run o p = ap (λ (r : Given). r p) (fold-roll-Initialiser Given (initialiser_step (Unit {0}) uncounted s) (initial.Value o))

-- the run gives it as it stands
pub literal_is : (d : Defined) (x : Scalar) → outcome_size (size_outcome d (roll-TypedExpr (form.Literal x))) ≡ scalar_size x
literal_is d x = simp (value_run, operand_run, literal_run, out-roll-Value) refl
