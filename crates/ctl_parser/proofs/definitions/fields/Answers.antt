use Rattle.std.proofs.Common.{arith, ◌+◌, [], refl, ap, sym, append_assoc, append-nil}
use Rattle.ctl_tree.specs.Modules.{fields_end, more_fields as more_form}
use Rattle.grammar_machine.specs.Machine.{more_fields_move}
use Rattle.ctl_parser.specs.PrivateParts.{several}
use Rattle.ctl_parser.proofs.MovesOfDefinitions.{more_fields}
use Rattle.ctl_parser.proofs.Ways.{done, on, pass, read, expand, refused}
use Rattle.ctl_parser.proofs.definitions.fields.Goals as goal

pub returns-in_err-first : goal.returns-in_err-first
returns-in_err-first c = refused c.from_residual.ensures.1 (λ below. c.in_err-first.ensures.follows _)

pub each-init : goal.each-init
each-init c = record {
  spelled = λ more after are. rw (c.in_ok-put.ensures, c.new-fields.ensures.items) (several _ c.in_ok-first.ensures.reads.0 are);
  passed = λ below. pass c.in_ok-first.ensures.follows (done refl);
  between = c.in_ok-first.ensures.reads.1;
}

pub returns-in_err-more : goal.returns-in_err-more
returns-in_err-more c =
    refused c.from_residual-in_err-more.ensures.1 (λ below. on (c.each.invariant.passed below) (expand (more_fields _ _ c.each-test.ensures.told) (c.in_err-more.ensures.follows _)))

pub each-preserved : goal.each-preserved
each-preserved c =
    let ends = c.in_ok-more.ensures.reads.1 in
    record {
      spelled = λ more after are. rw (c.in_ok-put-2.ensures, append_assoc) (c.each.invariant.spelled _ after (more_form _ c.each-test.ensures.told c.in_ok-more.ensures.reads.0 are));
      passed = λ below. on (c.each.invariant.passed below) (expand (more_fields _ _ c.each-test.ensures.told) (pass c.in_ok-more.ensures.follows (done refl)));
      between = (omega (arith, c.each.invariant.between.0, ends.0), ends.1, ends.2);
    }

pub returns : goal.returns
returns c = record {
  reads = (
    rw (c.from_vec.ensures, sym (append-nil c.each.fields.items)) (c.each.invariant.spelled [] (c.each.next + 1) (fields_end c.each-test.ensures.told.0 refl)),
    (omega (arith, c.each.invariant.between.0), omega (arith, c.each-test.ensures.told.1), c.each.invariant.between.2),
  );
  follows = λ below. on (c.each.invariant.passed below) (read (ap (more_fields_move _) c.each-test.ensures.told.0) refl (done refl));
}
