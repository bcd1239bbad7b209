use Rattle.std.proofs.Common.{arith, refl, ap}
use Rattle.ctl_tree.specs.Modules.{no_result, result}
use Rattle.grammar_machine.specs.Machine.{result_move}
use Rattle.ctl_parser.proofs.MovesOfDefinitions.{some_result}
use Rattle.ctl_parser.proofs.Ways.{done, pass, read, expand, refused}
use Rattle.ctl_parser.proofs.definitions.result_shape.Goals as goal

pub returns-then-sees_word : goal.returns-then-sees_word
returns-then-sees_word c = record {
  reads = (no_result c.if-sees_word.ensures.told.0 refl, (omega arith, omega (arith, c.if-sees_word.ensures.told.1), c.sees_word.ensures.few));
  follows = λ below. read (ap (result_move _) c.if-sees_word.ensures.told.0) refl (done refl);
}

pub returns-in_err-shape : goal.returns-in_err-shape
returns-in_err-shape c = refused c.from_residual.ensures.1 (λ below. expand (some_result _ _ c.if-sees_word.ensures.told) (c.in_err-shape.ensures.follows _))

pub returns-in_err-sizes : goal.returns-in_err-sizes
returns-in_err-sizes c = refused c.from_residual-in_err-sizes.ensures.1 (λ below. expand (some_result _ _ c.if-sees_word.ensures.told) (pass c.in_ok-shape.ensures.follows (c.in_err-sizes.ensures.follows _)))

pub returns : goal.returns
returns c =
    let ends = c.in_ok-sizes.ensures.reads.1 in
    record {
      reads = (result _ c.in_ok-shape.ensures.reads.0 c.in_ok-sizes.ensures.reads.0, (omega (arith, c.in_ok-shape.ensures.reads.1.0, ends.0), ends.1, ends.2));
      follows = λ below. expand (some_result _ _ c.if-sees_word.ensures.told) (pass c.in_ok-shape.ensures.follows (c.in_ok-sizes.ensures.follows below));
    }
