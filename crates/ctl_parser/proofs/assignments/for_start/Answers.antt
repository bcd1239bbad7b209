use Rattle.std.proofs.Common.{arith, ap, sym, ◌∙◌}
use Rattle.ctl_tree.specs.Statements.{variable_start}
use Rattle.grammar_machine.specs.Front.{begins_word_shape}
use Rattle.grammar_machine.specs.Machine.{AfterForName}
use Rattle.ctl_parser.proofs.MovesOfStatements.{in_for, named_start, shape_start, no_start}
use Rattle.ctl_parser.proofs.Readings.{started}
use Rattle.ctl_parser.proofs.Ways.{pass, expand, stop, refused}
use Rattle.ctl_parser.proofs.assignments.for_start.Goals as goal

pub returns-in_err-name : goal.returns-in_err-name
returns-in_err-name c = refused c.from_residual.ensures.1 (λ below. expand (named_start _ _ c.if-begins_name.ensures.told.0) (c.in_err-name.ensures.follows _))

pub returns-in_err-start : goal.returns-in_err-start
returns-in_err-start c =
    refused c.from_residual-in_err-start.ensures.1
    (λ below. expand (named_start _ _ c.if-begins_name.ensures.told.0) (pass c.in_ok-name.ensures.follows ((c.in_err-start.ensures (AfterForName c.args.nesting) (in_for _ _)).follows _)))

pub returns-then-begins_name : goal.returns-then-begins_name
returns-then-begins_name c =
    let start = c.in_ok-start.ensures (AfterForName c.args.nesting) (in_for _ _) in
    let ends = start.reads.1 in
    record {
      reads = (started _ (start.reads.0 _ c.in_ok-name.ensures.reads.0), (omega (arith, c.in_ok-name.ensures.reads.1.0, ends.0), ends.1, ends.2));
      follows = λ below. expand (named_start _ _ c.if-begins_name.ensures.told.0) (pass c.in_ok-name.ensures.follows (start.follows below));
    }

pub returns-then-not-begins_word_shape : goal.returns-then-not-begins_word_shape
returns-then-not-begins_word_shape c =
    let none = ap begins_word_shape (sym c.kind.ensures.exact) ∙ sym c.begins_word_shape.ensures ∙ c.if-not-begins_word_shape.true in
    record { reads = tt; follows = λ below. stop (no_start _ _ c.if-begins_name.ensures.told.0 c.if-begins_name.ensures.told.1 none) }

pub returns-in_err-shape : goal.returns-in_err-shape
returns-in_err-shape c =
    let some = ap begins_word_shape (sym c.kind.ensures.exact) ∙ sym c.begins_word_shape.ensures ∙ c.if-not-begins_word_shape.false in
    refused c.from_residual-in_err-shape.ensures.1 (λ below. expand (shape_start _ _ some) (c.in_err-shape.ensures.follows _))

pub returns-in_err-variable : goal.returns-in_err-variable
returns-in_err-variable c =
    let some = ap begins_word_shape (sym c.kind.ensures.exact) ∙ sym c.begins_word_shape.ensures ∙ c.if-not-begins_word_shape.false in
    refused c.from_residual-in_err-variable.ensures.1 (λ below. expand (shape_start _ _ some) (pass c.in_ok-shape.ensures.follows (c.in_err-variable.ensures.follows below)))

pub returns : goal.returns
returns c =
    let some = ap begins_word_shape (sym c.kind.ensures.exact) ∙ sym c.begins_word_shape.ensures ∙ c.if-not-begins_word_shape.false in
    let ends = c.in_ok-variable.ensures.reads.1 in
    record {
      reads = (variable_start (c.in_ok-variable.ensures.reads.0 _ c.in_ok-shape.ensures.reads.0), (omega (arith, c.in_ok-shape.ensures.reads.1.0, ends.0), ends.1, ends.2));
      follows = λ below. expand (shape_start _ _ some) (pass c.in_ok-shape.ensures.follows (c.in_ok-variable.ensures.follows below));
    }
