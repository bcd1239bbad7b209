use Rattle.std.proofs.Common.{arith, refl}
use Rattle.ctl_parser.specs.Heads.{for_head}
use Rattle.ctl_parser.proofs.Ways.{pass, sign, refused}
use Rattle.ctl_parser.proofs.heads.for_head.Goals as goal

pub returns-in_err-expect : goal.returns-in_err-expect
returns-in_err-expect c = refused c.from_residual.ensures.1 (λ below. c.in_err-expect.ensures.fails _)

pub returns-in_err-start : goal.returns-in_err-start
returns-in_err-start c = refused c.from_residual-in_err-start.ensures.1 (λ below. sign refl c.in_ok-expect.ensures.sees.0 refl (c.in_err-start.ensures.follows _))

pub returns-in_err-rest : goal.returns-in_err-rest
returns-in_err-rest c =
    refused c.from_residual-in_err-rest.ensures.1
    (λ below. sign refl c.in_ok-expect.ensures.sees.0 refl (pass c.in_ok-start.ensures.follows (c.in_err-rest.ensures.follows _)))

pub returns : goal.returns
returns c =
    let ends = c.in_ok-rest.ensures.reads.1 in
    record {
      reads = (
        for_head _ c.in_ok-expect.ensures.sees.0 c.in_ok-start.ensures.reads.0 c.in_ok-rest.ensures.reads.0,
        (omega (arith, c.in_ok-start.ensures.reads.1.0, ends.0), ends.1, ends.2),
      );
      follows = λ below. sign refl c.in_ok-expect.ensures.sees.0 refl (pass c.in_ok-start.ensures.follows (c.in_ok-rest.ensures.follows below));
    }
