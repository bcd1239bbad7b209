use Rattle.std.proofs.Common.{arith, [], refl, ap, sym, append_assoc, append-nil}
use Rattle.ctl_tree.specs.Declarations.{no_array_size}
use Rattle.grammar_machine.specs.Machine.{array_sizes_move}
use Rattle.ctl_parser_expr.proofs.Missing.{no_array_sizes}
use Rattle.ctl_parser_expr.proofs.Ways.{done, on, pass, read, expand, refused}
use Rattle.ctl_parser_expr.proofs.declarations.array_sizes.Goals as goal

pub each-init : goal.each-init
each-init c = record {
  spelled = λ more after are. rw c.new-sizes.ensures.items are;
  passed = λ below. done refl;
  from = omega arith;
  within = c.requires.within;
}

pub returns-in_err-size : goal.returns-in_err-size
returns-in_err-size c =
    refused c.from_residual.ensures.1 (λ below. on (c.each.invariant.passed below) (read (ap (array_sizes_move _) c.each-test.ensures.told.0) refl (c.in_err-size.ensures.follows _)))

pub each-preserved : goal.each-preserved
each-preserved c = record {
  spelled = λ more after are. rw (c.in_ok-put.ensures, append_assoc) (c.each.invariant.spelled _ after (c.in_ok-size.ensures.reads.0 _ after are));
  passed = λ below. on (c.each.invariant.passed below) (read (ap (array_sizes_move _) c.each-test.ensures.told.0) refl (pass c.in_ok-size.ensures.follows (done refl)));
  from = omega (arith, c.each.invariant.from, c.in_ok-size.ensures.reads.1.0);
  within = c.in_ok-size.ensures.reads.1.1;
}

pub returns : goal.returns
returns c = record {
  reads = (
    rw (c.from_vec.ensures, sym (append-nil c.each.sizes.items)) (c.each.invariant.spelled [] c.each.next (no_array_size c.each-test.ensures.told refl)),
    (c.each.invariant.from, c.each.invariant.within, c.sees.ensures.few),
  );
  follows = λ below. on (c.each.invariant.passed below) (expand (no_array_sizes _ _ c.each-test.ensures.told) (done refl));
}
