use Rattle.std.proofs.Common.{arith, [], refl, ap, sym, append_assoc, append-nil}
use Rattle.ctl_tree.specs.Declarations.{no_size, sizes}
use Rattle.grammar_machine.specs.Machine.{sizes_move}
use Rattle.ctl_parser_expr.proofs.Missing.{no_sizes}
use Rattle.ctl_parser_expr.proofs.Ways.{done, on, pass, read_deeper, expand, sign, sink_read, refused}
use Rattle.ctl_parser_expr.proofs.declarations.sizes.Goals as goal

pub each-init : goal.each-init
each-init c = record {
  spelled = λ more after are. rw c.new-sizes.ensures.items are;
  passed = λ below. done refl;
  from = omega arith;
  within = c.requires.within;
}

pub returns-in_err-allow_deeper : goal.returns-in_err-allow_deeper
returns-in_err-allow_deeper c =
    refused c.from_residual.ensures.1 (λ below. on (c.each.invariant.passed below) (sink_read c.in_err-allow_deeper.ensures.deep (ap (sizes_move _) c.each-test.ensures.told.0)))

pub returns-in_err-size : goal.returns-in_err-size
returns-in_err-size c =
    refused c.from_residual-in_err-size.ensures.1
    (λ below. on (c.each.invariant.passed below) (read_deeper (ap (sizes_move _) c.each-test.ensures.told.0) c.in_ok-allow_deeper.ensures.allowed refl (c.in_err-size.ensures.follows _)))

pub returns-in_err-expect : goal.returns-in_err-expect
returns-in_err-expect c =
    refused c.from_residual-in_err-expect.ensures.1
    (λ below. on (c.each.invariant.passed below)
    (read_deeper (ap (sizes_move _) c.each-test.ensures.told.0) c.in_ok-allow_deeper.ensures.allowed refl (pass c.in_ok-size.ensures.follows (c.in_err-expect.ensures.fails _))))

pub each-preserved : goal.each-preserved
each-preserved c = record {
  spelled = λ more after are. rw (c.in_ok-put.ensures, append_assoc)
      (c.each.invariant.spelled _ after (sizes _ c.each-test.ensures.told.0 c.in_ok-allow_deeper.ensures.allowed c.in_ok-size.ensures.reads.0 c.in_ok-expect.ensures.sees.0 are));
  passed = λ below. on (c.each.invariant.passed below)
      (read_deeper (ap (sizes_move _) c.each-test.ensures.told.0) c.in_ok-allow_deeper.ensures.allowed refl (pass c.in_ok-size.ensures.follows (sign refl c.in_ok-expect.ensures.sees.0 refl (done refl))));
  from = omega (arith, c.each.invariant.from, c.in_ok-size.ensures.reads.1.0);
  within = omega (arith, c.in_ok-expect.ensures.sees.1);
}

pub returns : goal.returns
returns c = record {
  reads = (
    rw (c.from_vec.ensures, sym (append-nil c.each.sizes.items)) (c.each.invariant.spelled [] c.each.next (no_size c.each-test.ensures.told refl)),
    (c.each.invariant.from, c.each.invariant.within, c.sees.ensures.few),
  );
  follows = λ below. on (c.each.invariant.passed below) (expand (no_sizes _ _ c.each-test.ensures.told) (done refl));
}
