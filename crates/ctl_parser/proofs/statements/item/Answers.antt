use Rattle.std.proofs.Common.{arith, refl, ap, sym, ◌∙◌}
use Rattle.ctl_tree.specs.Texts.{unquoted}
use Rattle.ctl_tree.specs.Statements.{text_item, expr_item as expr_form}
use Rattle.grammar_machine.specs.Front.{begins_expr}
use Rattle.grammar_machine.specs.Machine.{item_move}
use Rattle.ctl_parser.proofs.MovesOfStatements.{no_item, expr_item}
use Rattle.ctl_parser.proofs.Ways.{done, read, expand_deeper, stop, sink_expand, refused}
use Rattle.ctl_parser.proofs.statements.item.Goals as goal

pub returns-then-sees_text : goal.returns-then-sees_text
returns-then-sees_text c = record {
  reads = (rw (c.in_ok-text.ensures, ap unquoted c.bytes.ensures) (text_item c.if-sees_text.ensures.told.0 refl), (omega arith, omega (arith, c.if-sees_text.ensures.told.1), c.sees_text.ensures.few));
  follows = λ below. read (ap (item_move _) c.if-sees_text.ensures.told.0) refl (done refl);
}

pub returns-then-not-begins_expr : goal.returns-then-not-begins_expr
returns-then-not-begins_expr c =
    let none = ap begins_expr (sym c.kind.ensures.exact) ∙ sym c.begins_expr.ensures ∙ c.if-not-begins_expr.true in
    record { reads = tt; follows = λ below. stop (no_item _ _ c.if-sees_text.ensures.told none) }

pub returns-in_err-allow_deeper : goal.returns-in_err-allow_deeper
returns-in_err-allow_deeper c =
    let begins = ap begins_expr (sym c.kind.ensures.exact) ∙ sym c.begins_expr.ensures ∙ c.if-not-begins_expr.false in
    refused c.from_residual-in_err-allow_deeper.ensures.1 (λ below. sink_expand c.in_err-allow_deeper.ensures.deep (expr_item _ _ begins))

pub returns-in_err-value : goal.returns-in_err-value
returns-in_err-value c =
    let begins = ap begins_expr (sym c.kind.ensures.exact) ∙ sym c.begins_expr.ensures ∙ c.if-not-begins_expr.false in
    refused c.from_residual-in_err-value.ensures.1 (λ below. expand_deeper (expr_item _ _ begins) c.in_ok-allow_deeper.ensures.allowed (c.in_err-value.ensures.follows _))

pub returns : goal.returns
returns c =
    let begins = ap begins_expr (sym c.kind.ensures.exact) ∙ sym c.begins_expr.ensures ∙ c.if-not-begins_expr.false in
    record {
      reads = (expr_form c.if-sees_text.ensures.told c.in_ok-allow_deeper.ensures.allowed c.in_ok-value.ensures.reads.0, c.in_ok-value.ensures.reads.1);
      follows = λ below. expand_deeper (expr_item _ _ begins) c.in_ok-allow_deeper.ensures.allowed (c.in_ok-value.ensures.follows below);
    }
