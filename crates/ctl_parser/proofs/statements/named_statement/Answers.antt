use Rattle.std.proofs.Common.{arith, refl, ap}
use Rattle.grammar_machine.specs.Machine.{AfterName, after_name_move}
use Rattle.ctl_parser.proofs.MovesOfStatements.{in_statement}
use Rattle.ctl_parser.proofs.Readings.{declared, assigned}
use Rattle.ctl_parser.proofs.Ways.{pass, read, refused, read_behind}
use Rattle.ctl_parser.proofs.statements.named_statement.Goals as goal

pub returns-in_err-name : goal.returns-in_err-name
returns-in_err-name c = refused c.from_residual.ensures.1 (λ below. c.in_err-name.ensures.follows _)

pub returns-then-sees : goal.returns-then-sees
returns-then-sees c =
    read_behind
    (λ below. pass c.in_ok-name.ensures.follows (read (ap (after_name_move c.args.nesting) c.if-sees.ensures.told.0) refl (c.call_statement.ensures.follows below))) c.call_statement.ensures (omega (arith, c.in_ok-name.ensures.reads.1.0))

pub returns-in_err-form : goal.returns-in_err-form
returns-in_err-form c =
    refused c.from_residual-in_err-form.ensures.1
    (λ below. pass c.in_ok-name.ensures.follows ((c.in_err-form.ensures (AfterName c.args.nesting) (in_statement c.args.nesting _ c.if-sees.ensures.told)).follows _))

pub returns-in_ok-boxed-in-Variable : goal.returns-in_ok-boxed-in-Variable
returns-in_ok-boxed-in-Variable c =
    let form = c.in_ok-form.ensures (AfterName c.args.nesting) (in_statement c.args.nesting _ c.if-sees.ensures.told) in
    let ends = form.reads.1 in
    record {
      reads = (rw c.in_ok-boxed-in-Variable.ensures (declared c.in-Variable.is (form.reads.0 _ c.in_ok-name.ensures.reads.0)), (omega (arith, c.in_ok-name.ensures.reads.1.0, ends.0), ends.1, ends.2));
      follows = λ below. pass c.in_ok-name.ensures.follows (form.follows below);
    }

pub returns-in_ok-boxed-in-Assignment : goal.returns-in_ok-boxed-in-Assignment
returns-in_ok-boxed-in-Assignment c =
    let form = c.in_ok-form.ensures (AfterName c.args.nesting) (in_statement c.args.nesting _ c.if-sees.ensures.told) in
    let ends = form.reads.1 in
    record {
      reads = (rw c.in_ok-boxed-in-Assignment.ensures (assigned c.in-Assignment.is (form.reads.0 _ c.in_ok-name.ensures.reads.0)), (omega (arith, c.in_ok-name.ensures.reads.1.0, ends.0), ends.1, ends.2));
      follows = λ below. pass c.in_ok-name.ensures.follows (form.follows below);
    }
