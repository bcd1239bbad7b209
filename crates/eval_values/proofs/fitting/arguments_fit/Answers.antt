use Rattle.std.proofs.Common.{refl, true, sym, ◌∙◌, arith, ap, map, drop, ◌+◌}
use Rattle.ctl_types.specs.declared.program.Parameter.{Parameter}
use Rattle.ctl_types.specs.Shapes.{locals, extents, base_of, open_count}
use Rattle.ctl_types.specs.Values.{arguments_fit}
use Rattle.eval_values.specs.Sizes.{given_fits}
use Rattle.eval_values.proofs.OneByOne.{fits_next, fits_not, fits_short, fits_end}
use Rattle.eval_values.proofs.fitting.arguments_fit.Goals as goal

pub returns-then-i-frame : goal.returns-then-i-frame
returns-then-i-frame c = sym (fits_short (λ (q : Parameter). q.shape) c.args.structs.now c.each.opens.now c.args.parameters.now c.args.frame.now c.each.i (omega arith) (omega arith)) ∙ c.each.invariant.so_far

pub each-preserved : goal.each-preserved
each-preserved c = record {
  so_far = ap (λ opens. arguments_fit c.args.structs.now opens (locals 0 (map (λ (q : Parameter). q.shape) (drop (c.each.i + 1) c.args.parameters.now))) (drop (c.each.i + 1) c.args.frame.now)) (c.behind-opens.ensures ∙ ap (λ (q : Parameter). drop (open_count (extents q.shape)) c.each.opens.now) (sym c.index-parameters-i.is)) ∙ fits_next (λ (q : Parameter). q.shape) c.args.structs.now c.each.opens.now c.args.parameters.now c.args.frame.now c.each.i c.index-parameters-i.result c.index-frame-i.result _ (omega arith) c.index-parameters-i.is (omega arith) c.index-frame-i.is c.each.invariant.so_far true (c.if-not-argument_fits.ensures ∙ ap (λ (q : Parameter). given_fits c.args.structs.now c.each.opens.now (extents q.shape) (base_of q.shape) c.index-frame-i.result) (sym c.index-parameters-i.is)) refl;
  within = omega arith;
  inside = omega arith;
}

pub returns : goal.returns
returns c = fits_end (λ (q : Parameter). q.shape) c.args.structs.now c.each.opens.now c.args.parameters.now c.args.frame.now c.each.i (omega arith) c.each.invariant.inside ∙ c.each.invariant.so_far
