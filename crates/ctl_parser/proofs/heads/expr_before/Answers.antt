use Rattle.std.proofs.Common.{arith, refl}
use Rattle.ctl_parser.specs.Heads.{expr_before}
use Rattle.ctl_parser.proofs.Ways.{done, pass, sign, refused}
use Rattle.ctl_parser.proofs.heads.expr_before.Goals as goal

pub returns-in_err-value : goal.returns-in_err-value
returns-in_err-value c = refused c.from_residual.ensures.1 (λ below. c.in_err-value.ensures.follows _)

pub returns-in_err-expect : goal.returns-in_err-expect
returns-in_err-expect c = refused c.from_residual-in_err-expect.ensures.1 (λ below. pass c.in_ok-value.ensures.follows (c.in_err-expect.ensures.fails _))

pub returns : goal.returns
returns c = record {
  reads = (
    expr_before _ c.in_ok-value.ensures.reads.0 c.in_ok-expect.ensures.sees.0 refl,
    (omega (arith, c.in_ok-value.ensures.reads.1.0), omega (arith, c.in_ok-expect.ensures.sees.1), c.in_ok-value.ensures.reads.1.2),
  );
  follows = λ below. pass c.in_ok-value.ensures.follows (sign c.requires.known c.in_ok-expect.ensures.sees.0 refl (done refl));
}
