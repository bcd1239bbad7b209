use Rattle.std.proofs.Common.{arith, [], refl, ap, ap₂, sym, ◌∙◌, append_assoc, append-nil}
use Rattle.ctl_tree.specs.Modules.{no_import as no_import_form}
use Rattle.grammar_machine.specs.Machine.{imports_move, import_text_move}
use Rattle.grammar_machine.specs.Front.{all_printable}
use Rattle.ctl_parser.proofs.MovesOfDefinitions.{no_import}
use Rattle.ctl_parser.proofs.Printable.{printable}
use Rattle.ctl_parser.proofs.Readings.{imported}
use Rattle.ctl_parser.proofs.Ways.{two, three, done, on, read, expand, sign, refused}
use Rattle.ctl_parser.proofs.modules.imports.Goals as goal

pub each-init : goal.each-init
each-init c = record {
  spelled = λ more after are. rw c.new-imports.ensures.items are;
  passed = λ below. done refl;
  from = omega arith;
  within = c.requires;
}

pub returns-in_err-name : goal.returns-in_err-name
returns-in_err-name c = refused c.from_residual.ensures.1 (λ below. on (c.each.invariant.passed below) (read (ap imports_move c.each-test.ensures.told.0) refl (c.in_err-name.ensures.fails _)))

pub returns-in_err-expect : goal.returns-in_err-expect
returns-in_err-expect c =
    let text = c.in_ok-name.ensures.sees in
    let shown = ap all_printable (sym text.1) ∙ printable _ text.2 in
    refused c.from_residual-in_err-expect.ensures.1
    (λ below. on (c.each.invariant.passed below) (read (ap imports_move c.each-test.ensures.told.0) refl (read (ap₂ import_text_move text.0 shown) (two _) (c.in_err-expect.ensures.fails _))))

pub each-preserved : goal.each-preserved
each-preserved c =
    let text = c.in_ok-name.ensures.sees in
    let shown = ap all_printable (sym text.1) ∙ printable _ text.2 in
    record {
      spelled = λ more after are. rw (c.in_ok-put.ensures, append_assoc) (c.each.invariant.spelled _ after (imported c.each-test.ensures.told.0 text.0 text.1 text.2 c.in_ok-expect.ensures.sees.0 are));
      passed = λ below. on (c.each.invariant.passed below)
          (read (ap imports_move c.each-test.ensures.told.0) refl (read (ap₂ import_text_move text.0 shown) (two _) (sign refl c.in_ok-expect.ensures.sees.0 (three _) (done refl))));
      from = omega (arith, c.each.invariant.from);
      within = omega (arith, c.in_ok-expect.ensures.sees.1);
    }

pub returns : goal.returns
returns c = record {
  reads = (
    rw (c.from_vec.ensures, sym (append-nil c.each.imports.items)) (c.each.invariant.spelled [] c.each.next (no_import_form c.each-test.ensures.told refl)),
    (c.each.invariant.from, c.each.invariant.within, c.sees_word.ensures.few),
  );
  follows = λ below. on (c.each.invariant.passed below) (expand (no_import _ c.each-test.ensures.told) (done refl));
}
