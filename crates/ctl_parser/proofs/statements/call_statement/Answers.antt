use Rattle.std.proofs.Common.{arith, refl}
use Rattle.ctl_tree.specs.Expressions.{call_of}
use Rattle.ctl_tree.specs.Statements.{call_statement}
use Rattle.ctl_parser.proofs.Ways.{done, pass, sign, refused}
use Rattle.ctl_parser.proofs.statements.call_statement.Goals as goal

pub returns-in_err-arguments : goal.returns-in_err-arguments
returns-in_err-arguments c = refused c.from_residual.ensures.1 (λ below. c.in_err-arguments.ensures.follows _)

pub returns-in_err-expect : goal.returns-in_err-expect
returns-in_err-expect c = refused c.from_residual-in_err-expect.ensures.1 (λ below. pass c.in_ok-arguments.ensures.follows (c.in_err-expect.ensures.fails _))

pub returns : goal.returns
returns c = record {
  reads = (
    rw c.in_ok-call.ensures (call_statement _ (call_of _ c.requires.named c.requires.sees c.in_ok-arguments.ensures.reads.0) c.in_ok-expect.ensures.sees.0 refl),
    (omega (arith, c.in_ok-arguments.ensures.reads.1.0), omega (arith, c.in_ok-expect.ensures.sees.1), c.requires.few),
  );
  follows = λ below. pass c.in_ok-arguments.ensures.follows (sign refl c.in_ok-expect.ensures.sees.0 refl (done refl));
}
