use Rattle.std.proofs.Common.{arith, ◌∙◌, refl, ap, sym, append_assoc, append-nil}
use Rattle.ctl_tree.specs.Names.{last_name, space}
use Rattle.grammar_machine.specs.Machine.{more_names_move}
use Rattle.ctl_parser_expr.proofs.Missing.{no_more_names}
use Rattle.ctl_parser_expr.proofs.Ways.{two, done, on, read, expand, word, refused}
use Rattle.ctl_parser_expr.proofs.names.names.Goals as goal

pub each-init : goal.each-init
each-init c = record {
  spelled = λ spaces name after are. rw c.new-spaces.ensures.items are;
  last = (c.requires.sees, c.in_ok-last.ensures ∙ c.bytes.ensures);
  passed = λ below. done refl;
  from = omega arith;
  within = c.requires.within;
  few = c.requires.few;
}

pub returns-in_err-more : goal.returns-in_err-more
returns-in_err-more c =
    refused c.from_residual-in_err-more.ensures.1 (λ below. on (c.each.invariant.passed below) (read (ap more_names_move c.each-test.ensures.told.0) (two _) (c.in_err-more.ensures.fails _)))

pub each-preserved : goal.each-preserved
each-preserved c = record {
  spelled = λ spaces name after are. rw (c.in_ok-put.ensures, append_assoc) (c.each.invariant.spelled _ name after (space c.each.invariant.last c.each-test.ensures.told.0 are));
  last = c.in_ok-more.ensures.sees.0;
  passed = λ below. on (c.each.invariant.passed below) (read (ap more_names_move c.each-test.ensures.told.0) (two _) (word c.in_ok-more.ensures.sees.0 refl (done refl)));
  from = omega (arith, c.each.invariant.from);
  within = omega (arith, c.in_ok-more.ensures.sees.1);
  few = c.requires.few;
}

pub returns : goal.returns
returns c = record {
  reads = (
    (rw (c.from_vec.ensures, sym (append-nil c.each.spaces.items)) (c.each.invariant.spelled _ _ _ (last_name c.each.invariant.last c.each-test.ensures.told refl)), refl),
    (omega (arith, c.each.invariant.from), omega (arith, c.each.invariant.within), c.requires.few),
  );
  follows = λ below. on (c.each.invariant.passed below) (expand (no_more_names _ c.each-test.ensures.told) (done refl));
}
