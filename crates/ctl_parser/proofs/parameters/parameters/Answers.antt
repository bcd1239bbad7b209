use Rattle.std.proofs.Common.{arith, ◌+◌, [], refl, ap, sym, append_assoc, append-nil}
use Rattle.ctl_tree.specs.Modules.{no_parameter, parameters, parameters_end, more_parameters}
use Rattle.grammar_machine.specs.Machine.{parameters_move, more_parameters_move}
use Rattle.ctl_parser.proofs.MovesOfDefinitions.{some_parameter, no_more_parameters}
use Rattle.ctl_parser.proofs.Ways.{done, on, pass, read, expand, stop, refused}
use Rattle.ctl_parser.proofs.parameters.parameters.Goals as goal

pub returns-then-sees : goal.returns-then-sees
returns-then-sees c = record {
  reads = (rw c.new.ensures (no_parameter c.if-sees.ensures.told.0 refl), (omega arith, omega (arith, c.if-sees.ensures.told.1), c.sees.ensures.few));
  follows = λ below. read (ap (parameters_move _) c.if-sees.ensures.told.0) refl (done refl);
}

pub returns-in_err-first : goal.returns-in_err-first
returns-in_err-first c = refused c.from_residual.ensures.1 (λ below. expand (some_parameter _ _ c.if-sees.ensures.told) (c.in_err-first.ensures.follows _))

pub each-init : goal.each-init
each-init c = record {
  spelled = λ more after are. rw (c.in_ok-put.ensures, c.new-parameters.ensures.items) (parameters _ c.if-sees.ensures.told c.in_ok-first.ensures.reads.0 are);
  passed = λ below. expand (some_parameter _ _ c.if-sees.ensures.told) (pass c.in_ok-first.ensures.follows (done refl));
  between = c.in_ok-first.ensures.reads.1;
}

pub returns-in_err-more : goal.returns-in_err-more
returns-in_err-more c =
    refused c.from_residual-in_err-more.ensures.1 (λ below. on (c.each.invariant.passed below) (read (ap (more_parameters_move _) c.each-test.ensures.told.0) refl (c.in_err-more.ensures.follows _)))

pub each-preserved : goal.each-preserved
each-preserved c =
    let ends = c.in_ok-more.ensures.reads.1 in
    record {
      spelled = λ more after are. rw (c.in_ok-put-2.ensures, append_assoc) (c.each.invariant.spelled _ after (more_parameters _ c.each-test.ensures.told.0 c.in_ok-more.ensures.reads.0 are));
      passed = λ below. on (c.each.invariant.passed below) (read (ap (more_parameters_move _) c.each-test.ensures.told.0) refl (pass c.in_ok-more.ensures.follows (done refl)));
      between = (omega (arith, c.each.invariant.between.0, ends.0), ends.1, ends.2);
    }

pub returns-then-not-sees : goal.returns-then-not-sees
returns-then-not-sees c = record { reads = tt; follows = λ below. on (c.each.invariant.passed below) (stop (no_more_parameters _ _ c.each-test.ensures.told c.if-not-sees.ensures.told)) }

pub returns : goal.returns
returns c = record {
  reads = (
    rw (c.from_vec.ensures, sym (append-nil c.each.parameters.items)) (c.each.invariant.spelled [] (c.each.next + 1) (parameters_end c.if-not-sees.ensures.told.0 refl)),
    (omega (arith, c.each.invariant.between.0), omega (arith, c.if-not-sees.ensures.told.1), c.each.invariant.between.2),
  );
  follows = λ below. on (c.each.invariant.passed below) (read (ap (more_parameters_move _) c.if-not-sees.ensures.told.0) refl (done refl));
}
