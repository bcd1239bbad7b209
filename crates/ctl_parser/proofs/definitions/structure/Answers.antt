use Rattle.std.proofs.Common.{arith, refl}
use Rattle.ctl_parser.proofs.Readings.{structured}
use Rattle.ctl_parser.proofs.StepsOfDefinitions.{struct_step}
use Rattle.ctl_parser.proofs.Ways.{two, three, on, sign, word, refused}
use Rattle.ctl_parser.proofs.definitions.structure.Goals as goal

pub returns-in_err-name : goal.returns-in_err-name
returns-in_err-name c = refused c.from_residual.ensures.1 (λ below. struct_step c.requires.sees (c.in_err-name.ensures.fails _))

pub returns-in_err-expect : goal.returns-in_err-expect
returns-in_err-expect c = refused c.from_residual-in_err-expect.ensures.1 (λ below. struct_step c.requires.sees (word c.in_ok-name.ensures.sees.0 (two _) (c.in_err-expect.ensures.fails _)))

pub returns-in_err-fields : goal.returns-in_err-fields
returns-in_err-fields c =
    refused c.from_residual-in_err-fields.ensures.1
    (λ below. struct_step c.requires.sees (word c.in_ok-name.ensures.sees.0 (two _) (sign refl c.in_ok-expect.ensures.sees.0 (three _) (c.in_err-fields.ensures.follows _))))

pub returns : goal.returns
returns c =
    let ends = c.may_end-end.ensures.ends in
    record {
      reads = (structured c.requires.sees c.in_ok-name.ensures.sees.0 c.in_ok-expect.ensures.sees.0 c.in_ok-fields.ensures.reads.0 c.may_end-end.ensures.spells, (omega (arith, c.in_ok-fields.ensures.reads.1.0, ends.0), ends.1, ends.2));
      follows = λ below. struct_step c.requires.sees (word c.in_ok-name.ensures.sees.0 (two _) (sign refl c.in_ok-expect.ensures.sees.0 (three _)
          (on (c.in_ok-fields.ensures.follows _) (c.may_end-end.ensures.passes below))));
    }
