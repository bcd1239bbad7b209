use Rattle.std.proofs.Common.{arith}
use Rattle.ctl_tree.specs.Statements.{variable_statement}
use Rattle.ctl_parser.proofs.Ways.{pass, refused}
use Rattle.ctl_parser.proofs.statements.shape_statement.Goals as goal

pub returns-in_err-shape : goal.returns-in_err-shape
returns-in_err-shape c = refused c.from_residual.ensures.1 (λ below. c.in_err-shape.ensures.follows _)

pub returns-in_err-variable : goal.returns-in_err-variable
returns-in_err-variable c = refused c.from_residual-in_err-variable.ensures.1 (λ below. pass c.in_ok-shape.ensures.follows (c.in_err-variable.ensures.follows below))

pub returns : goal.returns
returns c =
    let ends = c.in_ok-variable.ensures.reads.1 in
    record {
      reads = (rw c.in_ok-variable-2.ensures (variable_statement (c.in_ok-variable.ensures.reads.0 _ c.in_ok-shape.ensures.reads.0)), (omega (arith, c.in_ok-shape.ensures.reads.1.0, ends.0), ends.1, ends.2));
      follows = λ below. pass c.in_ok-shape.ensures.follows (c.in_ok-variable.ensures.follows below);
    }
