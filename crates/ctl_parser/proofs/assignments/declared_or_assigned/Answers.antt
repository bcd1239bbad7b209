use Rattle.std.proofs.Common.{arith, refl, ap, sym, ◌∙◌}
use Rattle.ctl_tree.specs.Lexemes.{kind_at}
use Rattle.ctl_tree.specs.Names.{named_shape}
use Rattle.ctl_parser.specs.PrivateParts.{goes_on_as_place, after_name}
use Rattle.ctl_parser.proofs.MovesOfStatements.{place_goes_on, nothing_goes_on}
use Rattle.ctl_parser.proofs.Ways.{done, on, expand, sign, stop, refused, no_memory}
use Rattle.ctl_parser.proofs.assignments.declared_or_assigned.Goals as goal

pub returns-in_err-shape : goal.returns-in_err-shape
returns-in_err-shape c = λ x e. no_memory _ c.from_residual.ensures.1

pub returns-in_err-variable : goal.returns-in_err-variable
returns-in_err-variable c = λ x e.
    refused c.from_residual-in_err-variable.ensures.1 (λ below. expand (e ∙ ap (after_name _ c.args.inner) c.if-sees_name.ensures.told.0) (c.in_err-variable.ensures.follows below))

pub returns-then-sees_name : goal.returns-then-sees_name
returns-then-sees_name c = λ x e.
    record {
      reads = ((λ start s. c.in_ok-variable.ensures.reads.0 start (rw c.in_ok-shape.ensures (named_shape s))), c.in_ok-variable.ensures.reads.1);
      follows = λ below. expand (e ∙ ap (after_name _ c.args.inner) c.if-sees_name.ensures.told.0) (c.in_ok-variable.ensures.follows below);
    }

pub returns-then-not-goes_on_as_place : goal.returns-then-not-goes_on_as_place
returns-then-not-goes_on_as_place c = λ x e.
    let none = ap goes_on_as_place (sym c.kind.ensures.exact) ∙ sym c.goes_on_as_place.ensures ∙ c.if-not-goes_on_as_place.true in
    record { reads = tt; follows = λ below. stop (e ∙ nothing_goes_on _ _ _ c.if-sees_name.ensures.told none) }

pub returns-in_err-assignment : goal.returns-in_err-assignment
returns-in_err-assignment c = λ x e.
    let some = ap goes_on_as_place (sym c.kind.ensures.exact) ∙ sym c.goes_on_as_place.ensures ∙ c.if-not-goes_on_as_place.false in
    refused c.from_residual-in_err-assignment.ensures.1 (λ below. expand (e ∙ place_goes_on c.args.nesting c.args.inner (kind_at c.args.lexemes.now c.args.at) some) (c.in_err-assignment.ensures.follows _))

pub returns-in_err-expect : goal.returns-in_err-expect
returns-in_err-expect c = λ x e.
    let some = ap goes_on_as_place (sym c.kind.ensures.exact) ∙ sym c.goes_on_as_place.ensures ∙ c.if-not-goes_on_as_place.false in
    refused c.from_residual-in_err-expect.ensures.1 (λ below. expand (e ∙ place_goes_on c.args.nesting c.args.inner (kind_at c.args.lexemes.now c.args.at) some) (on (c.in_ok-assignment.ensures.follows _) (c.in_err-expect.ensures.fails _)))

pub returns : goal.returns
returns c = λ x e.
    let some = ap goes_on_as_place (sym c.kind.ensures.exact) ∙ sym c.goes_on_as_place.ensures ∙ c.if-not-goes_on_as_place.false in
    record {
      reads = (
        (λ start s. (_, c.in_ok-assignment.ensures.reads.0 start s, c.in_ok-expect.ensures.sees.0, refl)),
        (omega (arith, c.in_ok-assignment.ensures.reads.1.0), omega (arith, c.in_ok-expect.ensures.sees.1), c.in_ok-expect.ensures.sees.2),
      );
      follows = λ below. expand (e ∙ place_goes_on c.args.nesting c.args.inner (kind_at c.args.lexemes.now c.args.at) some) (on (c.in_ok-assignment.ensures.follows _) (sign refl c.in_ok-expect.ensures.sees.0 refl (done refl)));
    }
