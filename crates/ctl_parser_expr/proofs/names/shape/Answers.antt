use Rattle.std.proofs.Common.{arith, refl, ap, sym, ◌∙◌}
use Rattle.ctl_tree.specs.Names.{named_shape}
use Rattle.ctl_parser_expr.specs.Lookup.{shape_of_token}
use Rattle.ctl_parser_expr.proofs.Missing.{no_shape}
use Rattle.ctl_parser_expr.proofs.NamesRead.{word_shape_at, word_move, word_there, name_expands}
use Rattle.ctl_parser_expr.proofs.Ways.{done, read, expand, stop, refused, some_kind, one_more}
use Rattle.ctl_parser_expr.proofs.names.shape.Goals as goal

pub returns-in-Some : goal.returns-in-Some
returns-in-Some c =
    let is' = sym c.word_shape.ensures ∙ c.in-Some.is in
    let is = ap shape_of_token (sym c.kind.ensures.exact) ∙ is' in
    record {
      reads = (word_shape_at _ _ _ _ refl is, (omega arith, one_more _ _ (some_kind _ c.kind.ensures.within (word_there _ _ is')), c.kind.ensures.few));
      follows = λ below. read (word_move _ _ is) refl (done refl);
    }

pub returns-then-not-begins_name : goal.returns-then-not-begins_name
returns-then-not-begins_name c =
    let none = ap shape_of_token (sym c.kind.ensures.exact) ∙ sym c.word_shape.ensures ∙ c.in_default.is in
    record { reads = tt; follows = λ below. stop (no_shape _ none c.if-sees_word.ensures.told c.if-not-begins_name.ensures.told.0 c.if-not-begins_name.ensures.told.1) }

pub returns-in_err-name : goal.returns-in_err-name
returns-in_err-name c = refused c.from_residual.ensures.1 (λ below. expand (name_expands _ c.if-not-begins_name.ensures.told.0) (c.in_err-name.ensures.follows below))

pub returns : goal.returns
returns c = record {
  reads = (rw c.in_ok-shape.ensures (named_shape c.in_ok-name.ensures.reads.0), c.in_ok-name.ensures.reads.1);
  follows = λ below. expand (name_expands _ c.if-not-begins_name.ensures.told.0) (c.in_ok-name.ensures.follows below);
}
