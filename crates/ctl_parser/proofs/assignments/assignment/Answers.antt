use Rattle.std.proofs.Common.{arith, refl}
use Rattle.ctl_parser.proofs.Ways.{pass, expand, refused}
use Rattle.ctl_parser.proofs.assignments.assignment.Goals as goal

pub returns-in_err-root : goal.returns-in_err-root
returns-in_err-root c = refused c.from_residual.ensures.1 (λ below. expand refl (c.in_err-root.ensures.follows _))

pub returns-in_err-assignment : goal.returns-in_err-assignment
returns-in_err-assignment c = refused c.from_residual-in_err-assignment.ensures.1 (λ below. expand refl (pass c.in_ok-root.ensures.follows (c.in_err-assignment.ensures.follows _)))

pub returns : goal.returns
returns c =
    let ends = c.in_ok-assignment.ensures.reads.1 in
    record {
      reads = (c.in_ok-assignment.ensures.reads.0 _ c.in_ok-root.ensures.reads.0, (omega (arith, c.in_ok-root.ensures.reads.1.0, ends.0), ends.1, ends.2));
      follows = λ below. expand refl (pass c.in_ok-root.ensures.follows (c.in_ok-assignment.ensures.follows below));
    }
