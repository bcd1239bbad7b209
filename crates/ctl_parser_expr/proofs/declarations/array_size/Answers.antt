use Rattle.std.proofs.Common.{arith, refl, ap, sym, ◌∙◌}
use Rattle.ctl_tree.specs.Declarations.{open_size, stated_size as stated_form}
use Rattle.grammar_machine.specs.Front.{begins_expr}
use Rattle.grammar_machine.specs.Machine.{array_size_move}
use Rattle.ctl_parser_expr.proofs.Missing.{no_array_size, stated_size}
use Rattle.ctl_parser_expr.proofs.Ways.{two, done, pass, read, expand_deeper, sign, stop, sink_expand, refused}
use Rattle.ctl_parser_expr.proofs.declarations.array_size.Goals as goal

pub returns-then-sees : goal.returns-then-sees
returns-then-sees c = record {
  reads = ((λ more after are. open_size c.requires.sees c.if-sees.ensures.told.0 are), (omega arith, omega (arith, c.if-sees.ensures.told.1), c.requires.few));
  follows = λ below. read (ap (array_size_move _) c.if-sees.ensures.told.0) (two _) (done refl);
}

pub returns-then-not-begins_expr : goal.returns-then-not-begins_expr
returns-then-not-begins_expr c =
    let none = ap begins_expr (sym c.kind.ensures.exact) ∙ sym c.begins_expr.ensures ∙ c.if-not-begins_expr.true in
    record { reads = tt; follows = λ below. stop (no_array_size _ _ c.if-sees.ensures.told none) }

pub returns-in_err-allow_deeper : goal.returns-in_err-allow_deeper
returns-in_err-allow_deeper c =
    let begins = ap begins_expr (sym c.kind.ensures.exact) ∙ sym c.begins_expr.ensures ∙ c.if-not-begins_expr.false in
    refused c.from_residual.ensures.1 (λ below. sink_expand c.in_err-allow_deeper.ensures.deep (stated_size _ _ begins))

pub returns-in_err-size : goal.returns-in_err-size
returns-in_err-size c =
    let begins = ap begins_expr (sym c.kind.ensures.exact) ∙ sym c.begins_expr.ensures ∙ c.if-not-begins_expr.false in
    refused c.from_residual-in_err-size.ensures.1 (λ below. expand_deeper (stated_size _ _ begins) c.in_ok-allow_deeper.ensures.allowed (c.in_err-size.ensures.follows _))

pub returns-in_err-expect : goal.returns-in_err-expect
returns-in_err-expect c =
    let begins = ap begins_expr (sym c.kind.ensures.exact) ∙ sym c.begins_expr.ensures ∙ c.if-not-begins_expr.false in
    refused c.from_residual-in_err-expect.ensures.1
    (λ below. expand_deeper (stated_size _ _ begins) c.in_ok-allow_deeper.ensures.allowed (pass c.in_ok-size.ensures.follows (c.in_err-expect.ensures.fails _)))

pub returns : goal.returns
returns c =
    let begins = ap begins_expr (sym c.kind.ensures.exact) ∙ sym c.begins_expr.ensures ∙ c.if-not-begins_expr.false in
    record {
      reads = (
        (λ more after are. stated_form _ c.requires.sees c.in_ok-allow_deeper.ensures.allowed c.in_ok-size.ensures.reads.0 c.in_ok-expect.ensures.sees.0 are),
        (omega (arith, c.in_ok-size.ensures.reads.1.0), omega (arith, c.in_ok-expect.ensures.sees.1), c.requires.few),
      );
      follows = λ below. expand_deeper (stated_size _ _ begins) c.in_ok-allow_deeper.ensures.allowed (pass c.in_ok-size.ensures.follows (sign refl c.in_ok-expect.ensures.sees.0 refl (done refl)));
    }
