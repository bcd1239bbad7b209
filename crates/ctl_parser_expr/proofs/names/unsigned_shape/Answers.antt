use Rattle.std.proofs.Common.{arith, refl, ap}
use Rattle.ctl_tree.specs.Names.{unsigned_shape, unsigned_int_shape}
use Rattle.grammar_machine.specs.Machine.{shape_word_move, may_int_move}
use Rattle.ctl_parser_expr.proofs.Missing.{no_int}
use Rattle.ctl_parser_expr.proofs.Ways.{two, done, read, expand}
use Rattle.ctl_parser_expr.proofs.names.unsigned_shape.Goals as goal

pub returns-then-sees_word : goal.returns-then-sees_word
returns-then-sees_word c = record {
  reads = (unsigned_int_shape c.requires.sees c.if-sees_word.ensures.told.0 refl, (omega arith, omega (arith, c.if-sees_word.ensures.told.1), c.requires.few));
  follows = λ below. read (ap shape_word_move c.requires.sees) refl (read (ap may_int_move c.if-sees_word.ensures.told.0) (two _) (done refl));
}

pub returns : goal.returns
returns c = record {
  reads = (unsigned_shape c.requires.sees c.if-sees_word.ensures.told refl, (omega arith, omega (arith, c.requires.within), c.requires.few));
  follows = λ below. read (ap shape_word_move c.requires.sees) refl (expand (no_int _ c.if-sees_word.ensures.told) (done refl));
}
