use Rattle.std.proofs.Common.{arith}
use Rattle.ctl_parser.proofs.Readings.{printed}
use Rattle.ctl_parser.proofs.Ways.{two, sign, refused}
use Rattle.std.proofs.Common.{refl}
use Rattle.ctl_parser.proofs.statements.print_statement.Goals as goal

pub returns-in_err-expect : goal.returns-in_err-expect
returns-in_err-expect c = refused c.from_residual.ensures.1 (λ below. c.in_err-expect.ensures.fails _)

pub returns-in_err-items : goal.returns-in_err-items
returns-in_err-items c = refused c.from_residual-in_err-items.ensures.1 (λ below. sign refl c.in_ok-expect.ensures.sees.0 (two _) (c.in_err-items.ensures.follows _))

pub returns : goal.returns
returns c =
    let ends = c.in_ok-items.ensures.reads.1 in
    record {
      reads = (printed c.requires.sees c.in_ok-expect.ensures.sees.0 c.in_ok-items.ensures.reads.0, (omega (arith, ends.0), ends.1, ends.2));
      follows = λ below. sign refl c.in_ok-expect.ensures.sees.0 (two _) (c.in_ok-items.ensures.follows below);
    }
