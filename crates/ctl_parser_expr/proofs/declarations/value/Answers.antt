use Rattle.std.proofs.Common.{arith, refl, ap}
use Rattle.ctl_tree.specs.Declarations.{no_value as no_value_form, value}
use Rattle.grammar_machine.specs.Machine.{value_move}
use Rattle.ctl_parser_expr.proofs.Missing.{no_value}
use Rattle.ctl_parser_expr.proofs.Ways.{done, read, expand, refused}
use Rattle.ctl_parser_expr.proofs.declarations.value.Goals as goal

pub returns-then-not-sees : goal.returns-then-not-sees
returns-then-not-sees c = record {
  reads = (no_value_form c.if-not-sees.ensures.told refl, (omega arith, c.requires.within, c.sees.ensures.few));
  follows = λ below. expand (no_value _ _ _ c.if-not-sees.ensures.told) (done refl);
}

pub returns-in_err-value : goal.returns-in_err-value
returns-in_err-value c = refused c.from_residual.ensures.1 (λ below. read (ap (value_move _ _) c.if-not-sees.ensures.told.0) refl (c.in_err-value.ensures.follows _))

pub returns : goal.returns
returns c =
    let ends = c.in_ok-value.ensures.reads.1 in
    record {
      reads = (value c.if-not-sees.ensures.told.0 c.in_ok-value.ensures.reads.0, (omega (arith, ends.0), ends.1, ends.2));
      follows = λ below. read (ap (value_move _ _) c.if-not-sees.ensures.told.0) refl (c.in_ok-value.ensures.follows below);
    }
