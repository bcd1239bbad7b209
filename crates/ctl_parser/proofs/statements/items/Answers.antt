use Rattle.std.proofs.Common.{arith, ◌+◌, [], refl, ap, sym, append_assoc, append-nil}
use Rattle.ctl_tree.specs.Statements.{items_end, more_items}
use Rattle.grammar_machine.specs.Machine.{more_items_move}
use Rattle.ctl_parser.specs.PrivateParts.{several}
use Rattle.ctl_parser.proofs.MovesOfStatements.{no_more_items}
use Rattle.ctl_parser.proofs.Ways.{two, done, on, pass, read, sign, stop, refused}
use Rattle.ctl_parser.proofs.statements.items.Goals as goal

pub returns-in_err-first : goal.returns-in_err-first
returns-in_err-first c = refused c.from_residual.ensures.1 (λ below. c.in_err-first.ensures.follows _)

pub each-init : goal.each-init
each-init c = record {
  spelled = λ more after are. rw (c.in_ok-put.ensures, c.new-items.ensures.items) (several _ c.in_ok-first.ensures.reads.0 are);
  passed = λ below. pass c.in_ok-first.ensures.follows (done refl);
  between = c.in_ok-first.ensures.reads.1;
}

pub returns-in_err-more : goal.returns-in_err-more
returns-in_err-more c =
    refused c.from_residual-in_err-more.ensures.1 (λ below. on (c.each.invariant.passed below) (read (ap (more_items_move _) c.each-test.ensures.told.0) refl (c.in_err-more.ensures.follows _)))

pub each-preserved : goal.each-preserved
each-preserved c =
    let ends = c.in_ok-more.ensures.reads.1 in
    record {
      spelled = λ more after are. rw (c.in_ok-put-2.ensures, append_assoc) (c.each.invariant.spelled _ after (more_items _ c.each-test.ensures.told.0 c.in_ok-more.ensures.reads.0 are));
      passed = λ below. on (c.each.invariant.passed below) (read (ap (more_items_move _) c.each-test.ensures.told.0) refl (pass c.in_ok-more.ensures.follows (done refl)));
      between = (omega (arith, c.each.invariant.between.0, ends.0), ends.1, ends.2);
    }

pub returns-then-not-sees : goal.returns-then-not-sees
returns-then-not-sees c = record { reads = tt; follows = λ below. on (c.each.invariant.passed below) (stop (no_more_items _ _ c.each-test.ensures.told c.if-not-sees.ensures.told)) }

pub returns-in_err-expect : goal.returns-in_err-expect
returns-in_err-expect c =
    refused c.from_residual-in_err-expect.ensures.1 (λ below. on (c.each.invariant.passed below) (read (ap (more_items_move _) c.if-not-sees.ensures.told.0) refl (c.in_err-expect.ensures.fails _)))

pub returns : goal.returns
returns c = record {
  reads = (
    rw (c.from_vec.ensures, sym (append-nil c.each.items.items)) (c.each.invariant.spelled [] (c.each.next + 2) (items_end c.if-not-sees.ensures.told.0 c.in_ok-expect.ensures.sees.0 refl)),
    (omega (arith, c.each.invariant.between.0), omega (arith, c.in_ok-expect.ensures.sees.1), c.each.invariant.between.2),
  );
  follows = λ below. on (c.each.invariant.passed below) (read (ap (more_items_move _) c.if-not-sees.ensures.told.0) refl (sign refl c.in_ok-expect.ensures.sees.0 (two _) (done refl)));
}
