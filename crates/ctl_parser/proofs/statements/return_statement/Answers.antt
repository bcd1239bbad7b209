use Rattle.std.proofs.Common.{arith, refl, ap}
use Rattle.ctl_tree.specs.Statements.{return_nothing, return_value}
use Rattle.grammar_machine.specs.Machine.{return_move}
use Rattle.ctl_parser.proofs.MovesOfStatements.{some_value}
use Rattle.ctl_parser.proofs.Ways.{two, done, pass, read, expand, sign, refused}
use Rattle.ctl_parser.proofs.statements.return_statement.Goals as goal

pub returns-then-sees : goal.returns-then-sees
returns-then-sees c = record {
  reads = (rw c.in_ok-nothing.ensures (return_nothing c.requires.sees c.if-sees.ensures.told.0 refl), (omega arith, omega (arith, c.if-sees.ensures.told.1), c.requires.few));
  follows = λ below. read (ap (return_move _) c.if-sees.ensures.told.0) (two _) (done refl);
}

pub returns-in_err-value : goal.returns-in_err-value
returns-in_err-value c = refused c.from_residual-in_err-value.ensures.1 (λ below. expand (some_value _ _ c.if-sees.ensures.told) (c.in_err-value.ensures.follows _))

pub returns-in_err-expect : goal.returns-in_err-expect
returns-in_err-expect c = refused c.from_residual-in_err-expect.ensures.1 (λ below. expand (some_value _ _ c.if-sees.ensures.told) (pass c.in_ok-value.ensures.follows (c.in_err-expect.ensures.fails _)))

pub returns : goal.returns
returns c = record {
  reads = (
    rw c.in_ok-something.ensures (return_value _ c.requires.sees c.if-sees.ensures.told c.in_ok-value.ensures.reads.0 c.in_ok-expect.ensures.sees.0 refl),
    (omega (arith, c.in_ok-value.ensures.reads.1.0), omega (arith, c.in_ok-expect.ensures.sees.1), c.requires.few),
  );
  follows = λ below. expand (some_value _ _ c.if-sees.ensures.told) (pass c.in_ok-value.ensures.follows (sign refl c.in_ok-expect.ensures.sees.0 refl (done refl)));
}
