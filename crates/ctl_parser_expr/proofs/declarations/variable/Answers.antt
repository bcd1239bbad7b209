use Rattle.std.proofs.Common.{arith, refl}
use Rattle.ctl_tree.specs.Declarations.{variable}
use Rattle.ctl_parser_expr.proofs.Ways.{done, pass, sign, word, refused}
use Rattle.ctl_parser_expr.proofs.declarations.variable.Goals as goal

pub returns-in_err-name : goal.returns-in_err-name
returns-in_err-name c = refused c.from_residual.ensures.1 (λ below. c.in_err-name.ensures.fails _)

pub returns-in_err-sizes : goal.returns-in_err-sizes
returns-in_err-sizes c = refused c.from_residual-in_err-sizes.ensures.1 (λ below. word c.in_ok-name.ensures.sees.0 refl (c.in_err-sizes.ensures.follows _))

pub returns-in_err-value : goal.returns-in_err-value
returns-in_err-value c = refused c.from_residual-in_err-value.ensures.1 (λ below. word c.in_ok-name.ensures.sees.0 refl (pass c.in_ok-sizes.ensures.follows (c.in_err-value.ensures.follows _)))

pub returns-in_err-expect : goal.returns-in_err-expect
returns-in_err-expect c =
    refused c.from_residual-in_err-expect.ensures.1
    (λ below. word c.in_ok-name.ensures.sees.0 refl (pass c.in_ok-sizes.ensures.follows (pass c.in_ok-value.ensures.follows (c.in_err-expect.ensures.fails _))))

pub returns : goal.returns
returns c = record {
  reads = (
    (λ start s. variable _ _ _ s c.in_ok-name.ensures.sees.0 c.in_ok-sizes.ensures.reads.0 c.in_ok-value.ensures.reads.0 c.in_ok-expect.ensures.sees.0 refl),
    (omega (arith, c.in_ok-sizes.ensures.reads.1.0, c.in_ok-value.ensures.reads.1.0), omega (arith, c.in_ok-expect.ensures.sees.1), c.in_ok-expect.ensures.sees.2),
  );
  follows = λ below. word c.in_ok-name.ensures.sees.0 refl (pass c.in_ok-sizes.ensures.follows (pass c.in_ok-value.ensures.follows (sign refl c.in_ok-expect.ensures.sees.0 refl (done refl))));
}
