use Rattle.std.proofs.Common.{arith, refl}
use Rattle.ctl_tree.specs.Statements.{assignment}
use Rattle.ctl_parser.proofs.Ways.{pass, sign, refused}
use Rattle.ctl_parser.proofs.assignments.assigned.Goals as goal

pub returns-in_err-steps : goal.returns-in_err-steps
returns-in_err-steps c = refused c.from_residual.ensures.1 (λ below. c.in_err-steps.ensures.follows _)

pub returns-in_err-expect : goal.returns-in_err-expect
returns-in_err-expect c = refused c.from_residual-in_err-expect.ensures.1 (λ below. pass c.in_ok-steps.ensures.follows (c.in_err-expect.ensures.fails _))

pub returns-in_err-value : goal.returns-in_err-value
returns-in_err-value c =
    refused c.from_residual-in_err-value.ensures.1 (λ below. pass c.in_ok-steps.ensures.follows (sign refl c.in_ok-expect.ensures.sees.0 refl (c.in_err-value.ensures.follows _)))

pub returns : goal.returns
returns c =
    let ends = c.in_ok-value.ensures.reads.1 in
    record {
      reads = ((λ start s. assignment _ _ s c.in_ok-steps.ensures.reads.0 c.in_ok-expect.ensures.sees.0 c.in_ok-value.ensures.reads.0), (omega (arith, c.in_ok-steps.ensures.reads.1.0, ends.0), ends.1, ends.2));
      follows = λ below. pass c.in_ok-steps.ensures.follows (sign refl c.in_ok-expect.ensures.sees.0 refl (c.in_ok-value.ensures.follows below));
    }
