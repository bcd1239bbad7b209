use Rattle.std.proofs.Common.{arith, refl}
use Rattle.ctl_tree.specs.Modules.{function}
use Rattle.ctl_parser.proofs.StepsOfDefinitions.{function_step, deep_function}
use Rattle.ctl_parser.proofs.Ways.{two, pass, sign, word, refused}
use Rattle.ctl_parser.proofs.definitions.function.Goals as goal

pub returns-in_err-allow_deeper : goal.returns-in_err-allow_deeper
returns-in_err-allow_deeper c = refused c.from_residual.ensures.1 (λ below. deep_function c.in_err-allow_deeper.ensures.deep c.requires.begins)

pub returns-in_err-result : goal.returns-in_err-result
returns-in_err-result c = refused c.from_residual-in_err-result.ensures.1 (λ below. function_step c.requires.begins c.in_ok-allow_deeper.ensures.allowed (c.in_err-result.ensures.follows _))

pub returns-in_err-name : goal.returns-in_err-name
returns-in_err-name c =
    refused c.from_residual-in_err-name.ensures.1
    (λ below. function_step c.requires.begins c.in_ok-allow_deeper.ensures.allowed (pass c.in_ok-result.ensures.follows (c.in_err-name.ensures.fails _)))

pub returns-in_err-expect : goal.returns-in_err-expect
returns-in_err-expect c =
    refused c.from_residual-in_err-expect.ensures.1
    (λ below. function_step c.requires.begins c.in_ok-allow_deeper.ensures.allowed (pass c.in_ok-result.ensures.follows (word c.in_ok-name.ensures.sees.0 refl (c.in_err-expect.ensures.fails _))))

pub returns-in_err-parameters : goal.returns-in_err-parameters
returns-in_err-parameters c =
    refused c.from_residual-in_err-parameters.ensures.1
    (λ below. function_step c.requires.begins c.in_ok-allow_deeper.ensures.allowed (pass c.in_ok-result.ensures.follows (word c.in_ok-name.ensures.sees.0 refl
    (sign refl c.in_ok-expect.ensures.sees.0 (two _) (c.in_err-parameters.ensures.follows _)))))

pub returns-in_err-body : goal.returns-in_err-body
returns-in_err-body c =
    refused c.from_residual-in_err-body.ensures.1
    (λ below. function_step c.requires.begins c.in_ok-allow_deeper.ensures.allowed (pass c.in_ok-result.ensures.follows (word c.in_ok-name.ensures.sees.0 refl
    (sign refl c.in_ok-expect.ensures.sees.0 (two _) (pass c.in_ok-parameters.ensures.follows (c.in_err-body.ensures.follows _))))))

pub returns : goal.returns
returns c =
    let ends = c.in_ok-body.ensures.reads.1 in
    record {
      reads = (
        function _ _ c.in_ok-result.ensures.reads.0 c.in_ok-name.ensures.sees.0 c.in_ok-expect.ensures.sees.0 c.in_ok-parameters.ensures.reads.0 c.in_ok-allow_deeper.ensures.allowed c.in_ok-body.ensures.reads.0,
        (omega (arith, c.in_ok-result.ensures.reads.1.0, c.in_ok-parameters.ensures.reads.1.0, ends.0), ends.1, ends.2),
      );
      follows = λ below. function_step c.requires.begins c.in_ok-allow_deeper.ensures.allowed (pass c.in_ok-result.ensures.follows (word c.in_ok-name.ensures.sees.0 refl
          (sign refl c.in_ok-expect.ensures.sees.0 (two _) (pass c.in_ok-parameters.ensures.follows (c.in_ok-body.ensures.follows below)))));
    }
