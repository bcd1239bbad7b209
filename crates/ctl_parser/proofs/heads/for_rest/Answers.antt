use Rattle.std.proofs.Common.{arith, refl}
use Rattle.ctl_parser.specs.Heads.{for_rest}
use Rattle.ctl_parser.proofs.Ways.{done, on, pass, sign, refused}
use Rattle.ctl_parser.proofs.heads.for_rest.Goals as goal

pub returns-in_err-test : goal.returns-in_err-test
returns-in_err-test c = refused c.from_residual.ensures.1 (λ below. c.in_err-test.ensures.follows _)

pub returns-in_err-next : goal.returns-in_err-next
returns-in_err-next c = refused c.from_residual-in_err-next.ensures.1 (λ below. on (c.in_ok-test.ensures.follows _) (c.in_err-next.ensures.follows _))

pub returns-in_err-expect : goal.returns-in_err-expect
returns-in_err-expect c =
    refused c.from_residual-in_err-expect.ensures.1 (λ below. on (c.in_ok-test.ensures.follows _) (pass c.in_ok-next.ensures.follows (c.in_err-expect.ensures.fails _)))

pub returns : goal.returns
returns c = record {
  reads = (
    for_rest _ _ c.in_ok-test.ensures.reads.0 c.in_ok-next.ensures.reads.0 c.in_ok-expect.ensures.sees.0 refl,
    (omega (arith, c.in_ok-test.ensures.reads.1.0, c.in_ok-next.ensures.reads.1.0), omega (arith, c.in_ok-expect.ensures.sees.1), c.in_ok-next.ensures.reads.1.2),
  );
  follows = λ below. on (c.in_ok-test.ensures.follows _) (pass c.in_ok-next.ensures.follows (sign refl c.in_ok-expect.ensures.sees.0 refl (done refl)));
}
