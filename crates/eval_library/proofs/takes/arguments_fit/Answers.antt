use Rattle.std.proofs.Common.{arith, sym, ap, ◌∙◌, drop}
use Rattle.ctl_stdlib.specs.declared.row.Param.{Param}
use Rattle.ctl_types.specs.Library.{shape_of}
use Rattle.eval_library.proofs.OneByOne.{fits_short, fits_end}
use Rattle.eval_library.proofs.Arguments.{row_fits_next, row_fits_not}
use Rattle.eval_library.proofs.takes.arguments_fit.Goals as goal

pub returns-then-i-frame : goal.returns-then-i-frame
returns-then-i-frame c = sym (fits_short (λ (p : Param). shape_of p.shape) c.args.structs.now c.each.opens.now c.args.params.now c.args.frame.now c.each.i (omega arith) (omega arith)) ∙ c.each.invariant.so_far

pub returns-then-not-branch : goal.returns-then-not-branch
returns-then-not-branch c = sym (row_fits_not c.args.structs.now c.each.opens.now c.args.params.now c.args.frame.now c.each.i _ c.index-frame-i.result _ (omega arith) (omega arith) c.index-frame-i.is c.each.invariant.so_far (sym c.if-not-branch.true ∙ c.in_ok-argument_fits.ensures))

pub each-preserved : goal.each-preserved
each-preserved c = record {
  so_far = row_fits_next c.args.structs.now c.each.opens.now c.args.params.now c.args.frame.now c.each.i _ c.index-frame-i.result _ (omega arith) (omega arith) c.index-frame-i.is c.each.invariant.so_far c.behind-opens.result.now (c.behind-opens.ensures ∙ ap (λ n. drop n c.each.opens.now) c.open_sizes.ensures) (sym c.if-not-branch.false ∙ c.in_ok-argument_fits.ensures);
  within = omega arith;
  inside = omega arith;
}

pub returns : goal.returns
returns c = fits_end (λ (p : Param). shape_of p.shape) c.args.structs.now c.each.opens.now c.args.params.now c.args.frame.now c.each.i (omega arith) c.each.invariant.inside ∙ c.each.invariant.so_far
