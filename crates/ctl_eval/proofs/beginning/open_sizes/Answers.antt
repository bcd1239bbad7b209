use Rattle.std.proofs.Common.{◌≡◌, true, arith, sym, subst, ap, ◌∙◌}
use Rattle.std.specs.Option.{option_copied}
use Rattle.ctl_types.specs.declared.program.Parameter.{Parameter}
use Rattle.ctl_types.specs.Shapes.{extents}
use Rattle.ctl_types.specs.Values.{sizes_at, sizes_fit}
use Rattle.ctl_eval.proofs.Frames.{size_fits, sizes_done, sizes_short}
use Rattle.ctl_eval.proofs.beginning.open_sizes.Goals as goal
use Rattle.ctl_eval.proofs.beginning.open_sizes.Goals.{then-each-test+else-i-frame, else-each-test}

pub append_open_sizes-requires : goal.append_open_sizes-requires
append_open_sizes-requires c =
    let P : Parameter → Type 0 = λ q. sizes_fit (sizes_at (extents q.shape) (option_copied c.as_ref.result)) ≡ true in
    subst P c.index-parameters-i.is
    (ap (λ v. sizes_fit (sizes_at (extents c.index-parameters-i.result.shape) v)) c.as_ref.ensures.value
    ∙ size_fits c.args.parameters.now c.args.frame.now c.each.i c.index-parameters-i.result c.index-frame-i.result (omega arith) c.index-parameters-i.is (omega arith) c.index-frame-i.is c.each.sizes _ c.each.invariant.so_far c.requires)

pub returns : goal.returns
returns c = elim c.each-test.branch [
  | then-each-test+else-i-frame w ↦ sym (sizes_short c.args.parameters.now c.args.frame.now c.each.sizes c.each.i (omega (arith, w.if-i-frame))) ∙ c.each.invariant.so_far
  | else-each-test w ↦ sym (sizes_done c.args.parameters.now c.args.frame.now c.each.sizes c.each.i (omega (arith, w.each-test))) ∙ c.each.invariant.so_far
]
