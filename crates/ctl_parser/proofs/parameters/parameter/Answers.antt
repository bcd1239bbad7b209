use Rattle.std.proofs.Common.{arith, refl}
use Rattle.ctl_tree.specs.Modules.{parameter}
use Rattle.ctl_parser.proofs.Ways.{pass, expand, word, refused}
use Rattle.ctl_parser.proofs.parameters.parameter.Goals as goal

pub returns-in_err-shape : goal.returns-in_err-shape
returns-in_err-shape c = refused c.from_residual.ensures.1 (λ below. expand refl (pass c.qualifiers-direction.ensures.passes (c.in_err-shape.ensures.follows _)))

pub returns-in_err-name : goal.returns-in_err-name
returns-in_err-name c = refused c.from_residual-in_err-name.ensures.1 (λ below. expand refl (pass c.qualifiers-direction.ensures.passes (pass c.in_ok-shape.ensures.follows (c.in_err-name.ensures.fails _))))

pub returns-in_err-sizes : goal.returns-in_err-sizes
returns-in_err-sizes c =
    refused c.from_residual-in_err-sizes.ensures.1
    (λ below. expand refl (pass c.qualifiers-direction.ensures.passes (pass c.in_ok-shape.ensures.follows (word c.in_ok-name.ensures.sees.0 refl (c.in_err-sizes.ensures.follows _)))))

pub returns-in_err-value : goal.returns-in_err-value
returns-in_err-value c =
    refused c.from_residual-in_err-value.ensures.1
    (λ below. expand refl (pass c.qualifiers-direction.ensures.passes (pass c.in_ok-shape.ensures.follows (word c.in_ok-name.ensures.sees.0 refl (pass c.in_ok-sizes.ensures.follows (c.in_err-value.ensures.follows _))))))

pub returns : goal.returns
returns c =
    let ends = c.in_ok-value.ensures.reads.1 in
    record {
      reads = (
        parameter _ _ _ c.qualifiers-direction.ensures.spells c.in_ok-shape.ensures.reads.0 c.in_ok-name.ensures.sees.0 c.in_ok-sizes.ensures.reads.0 c.in_ok-value.ensures.reads.0,
        (omega (arith, c.qualifiers-direction.ensures.ends, c.in_ok-shape.ensures.reads.1.0, c.in_ok-sizes.ensures.reads.1.0, ends.0), ends.1, ends.2),
      );
      follows = λ below. expand refl (pass c.qualifiers-direction.ensures.passes (pass c.in_ok-shape.ensures.follows (word c.in_ok-name.ensures.sees.0 refl (pass c.in_ok-sizes.ensures.follows (c.in_ok-value.ensures.follows below)))));
    }
