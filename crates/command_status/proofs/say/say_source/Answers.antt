use Rattle.std.proofs.Common.{◌++◌, ◌∷◌, [], codes, sym}
use Rattle.std.specs.Fmt.{decimal}
use Rattle.command_status.proofs.Saying.{one_said, then_said, cut_said, handed_on, regroup}
use Rattle.command_status.proofs.say.say_source.Goals as goal

pub returns-in_err-say_three : goal.returns-in_err-say_three
returns-in_err-say_three g c =
    rw (sym (regroup (c.args.file.now ++ codes " line ") (decimal c.args.line) (codes ": ") c.args.kind.now))
    (handed_on c.say_three.result c.from_residual.result c.in_err-say_three.was c.from_residual.ensures.0
    (cut_said c.say_three.result (10 ∷ []) c.in_err-say_three.was
    (cut_said c.say_three.result (decimal c.args.line ++ codes ": " ++ c.args.kind.now) c.in_err-say_three.was c.say_three.ensures)))

pub returns-in_err-say_three-2 : goal.returns-in_err-say_three-2
returns-in_err-say_three-2 g c =
    rw (sym c.format.ensures.text, sym c.as_bytes.ensures.value, sym (regroup (c.args.file.now ++ codes " line ") c.as_bytes.result.now (codes ": ") c.args.kind.now))
    (handed_on c.say_three-2.result c.from_residual-in_err-say_three-2.result c.in_err-say_three-2.was c.from_residual-in_err-say_three-2.ensures.0
    (cut_said c.say_three-2.result (10 ∷ []) c.in_err-say_three-2.was
    (then_said c.in_ok-say_three.was c.say_three.ensures c.say_three-2.ensures)))

pub returns : goal.returns
returns g c =
    rw (sym c.format.ensures.text, sym c.as_bytes.ensures.value, sym (regroup (c.args.file.now ++ codes " line ") c.as_bytes.result.now (codes ": ") c.args.kind.now))
    (then_said c.in_ok-say_three-2.was (then_said c.in_ok-say_three.was c.say_three.ensures c.say_three-2.ensures) (one_said c.say.ensures.cause c.say.ensures.says c.say.ensures.heard))
