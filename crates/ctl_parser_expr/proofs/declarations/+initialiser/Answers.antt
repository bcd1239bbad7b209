use Rattle.std.proofs.Common.{arith, ◌+◌, [], refl, ap, sym, append_assoc, append-nil}
use Rattle.ctl_tree.specs.Declarations.{one, brace_list, elements_end, more_elements}
use Rattle.grammar_machine.specs.Machine.{initialiser_move, more_elements_move}
use Rattle.ctl_parser_expr.proofs.Missing.{no_brace, no_more_elements}
use Rattle.ctl_parser_expr.proofs.Ways.{done, on, pass, read, read_deeper, expand, stop, sink_read, refused}
use Rattle.ctl_parser_expr.proofs.declarations.+initialiser.Goals as goal

-- initialisers

pub initialiser-returns-in_err-value : goal.initialiser-returns-in_err-value
initialiser-returns-in_err-value t c = refused c.from_residual.ensures.1 (λ below. expand (no_brace _ _ _ c.if-not-sees.ensures.told) (c.in_err-value.ensures.follows _))

pub initialiser-returns-then-not-sees : goal.initialiser-returns-then-not-sees
initialiser-returns-then-not-sees t c = record {
  reads = (one c.if-not-sees.ensures.told c.in_ok-value.ensures.reads.0, c.in_ok-value.ensures.reads.1);
  follows = λ below. expand (no_brace _ _ _ c.if-not-sees.ensures.told) (c.in_ok-value.ensures.follows below);
}

pub initialiser-returns-in_err-allow_deeper : goal.initialiser-returns-in_err-allow_deeper
initialiser-returns-in_err-allow_deeper t c =
    refused c.from_residual-in_err-allow_deeper.ensures.1 (λ below. sink_read c.in_err-allow_deeper.ensures.deep (ap (initialiser_move _ c.args.inner) c.if-not-sees.ensures.told.0))

pub initialiser-returns-in_err-list : goal.initialiser-returns-in_err-list
initialiser-returns-in_err-list t c =
    refused c.from_residual-in_err-list.ensures.1
    (λ below. read_deeper (ap (initialiser_move _ c.args.inner) c.if-not-sees.ensures.told.0) c.in_ok-allow_deeper.ensures.allowed refl (c.in_err-list.ensures.follows _))

pub initialiser-returns : goal.initialiser-returns
initialiser-returns t c =
    let ends = c.in_ok-list.ensures.reads.1 in
    record {
      reads = (c.in_ok-list.ensures.reads.0 _, (omega (arith, ends.0), ends.1, ends.2));
      follows = λ below. read_deeper (ap (initialiser_move _ c.args.inner) c.if-not-sees.ensures.told.0) c.in_ok-allow_deeper.ensures.allowed refl (c.in_ok-list.ensures.follows below);
    }

-- brace lists

pub brace_list-returns-in_err-first : goal.brace_list-returns-in_err-first
brace_list-returns-in_err-first t c = refused c.from_residual.ensures.1 (λ below. c.in_err-first.ensures.follows _)

pub brace_list-each-init : goal.brace_list-each-init
brace_list-each-init t c = record {
  spelled = λ more after are inner. rw (c.in_ok-put.ensures, c.new-elements.ensures.items) (brace_list _ c.requires.sees c.requires.shallow c.in_ok-first.ensures.reads.0 are);
  passed = λ below. pass c.in_ok-first.ensures.follows (done refl);
  between = c.in_ok-first.ensures.reads.1;
}

pub brace_list-returns-in_err-more : goal.brace_list-returns-in_err-more
brace_list-returns-in_err-more t c =
    refused c.from_residual-in_err-more.ensures.1 (λ below. on (c.each.invariant.passed below) (read (ap (more_elements_move _) c.each-test.ensures.told.0) refl (c.in_err-more.ensures.follows _)))

pub brace_list-each-preserved : goal.brace_list-each-preserved
brace_list-each-preserved t c =
    let ends = c.in_ok-more.ensures.reads.1 in
    record {
      spelled = λ more after are inner. rw (c.in_ok-put-2.ensures, append_assoc) (c.each.invariant.spelled _ after (more_elements _ c.each-test.ensures.told.0 c.in_ok-more.ensures.reads.0 are) inner);
      passed = λ below. on (c.each.invariant.passed below) (read (ap (more_elements_move _) c.each-test.ensures.told.0) refl (pass c.in_ok-more.ensures.follows (done refl)));
      between = (omega (arith, c.each.invariant.between.0, ends.0), ends.1, ends.2);
    }

pub brace_list-returns-then-not-sees : goal.brace_list-returns-then-not-sees
brace_list-returns-then-not-sees t c = record {
  reads = tt;
  follows = λ below. on (c.each.invariant.passed below) (stop (no_more_elements _ _ c.each-test.ensures.told c.if-not-sees.ensures.told));
}

pub brace_list-returns : goal.brace_list-returns
brace_list-returns t c = record {
  reads = (
    (λ inner. rw (c.from_vec-elements.ensures, sym (append-nil c.each.elements.items)) (c.each.invariant.spelled [] (c.each.next + 1) (elements_end c.if-not-sees.ensures.told.0 refl) inner)),
    (omega (arith, c.each.invariant.between.0), omega (arith, c.if-not-sees.ensures.told.1), c.requires.few),
  );
  follows = λ below. on (c.each.invariant.passed below) (read (ap (more_elements_move _) c.if-not-sees.ensures.told.0) refl (done refl));
}
