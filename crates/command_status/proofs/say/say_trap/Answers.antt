use Rattle.std.proofs.Common.{◌++◌, ◌∷◌, [], codes, sym}
use Rattle.std.specs.Fmt.{decimal}
use Rattle.command_status.proofs.Saying.{then_said, cut_said, handed_on, regroup_trap}
use Rattle.command_status.proofs.say.say_trap.Goals as goal

pub returns-in_err-say_number : goal.returns-in_err-say_number
returns-in_err-say_number g c =
    rw (regroup_trap (codes "ctlrender: ") (codes "line ") (decimal c.args.line) (codes " column ") (decimal c.args.column) (codes " stage ") (decimal c.args.stage) (codes ": ") c.args.kind.now (10 ∷ []))
    (handed_on c.say_number.result c.from_residual.result c.in_err-say_number.was c.from_residual.ensures.0
    (cut_said c.say_number.result (codes ": " ++ c.args.kind.now ++ 10 ∷ []) c.in_err-say_number.was
    (cut_said c.say_number.result (codes " stage " ++ decimal c.args.stage) c.in_err-say_number.was
    (cut_said c.say_number.result (codes " column " ++ decimal c.args.column) c.in_err-say_number.was c.say_number.ensures))))

pub returns-in_err-say_number-2 : goal.returns-in_err-say_number-2
returns-in_err-say_number-2 g c =
    rw (regroup_trap (codes "ctlrender: ") (codes "line ") (decimal c.args.line) (codes " column ") (decimal c.args.column) (codes " stage ") (decimal c.args.stage) (codes ": ") c.args.kind.now (10 ∷ []))
    (handed_on c.say_number-2.result c.from_residual-in_err-say_number-2.result c.in_err-say_number-2.was c.from_residual-in_err-say_number-2.ensures.0
    (cut_said c.say_number-2.result (codes ": " ++ c.args.kind.now ++ 10 ∷ []) c.in_err-say_number-2.was
    (cut_said c.say_number-2.result (codes " stage " ++ decimal c.args.stage) c.in_err-say_number-2.was
    (then_said c.in_ok-say_number.was c.say_number.ensures c.say_number-2.ensures))))

pub returns-in_err-say_number-3 : goal.returns-in_err-say_number-3
returns-in_err-say_number-3 g c =
    rw (regroup_trap (codes "ctlrender: ") (codes "line ") (decimal c.args.line) (codes " column ") (decimal c.args.column) (codes " stage ") (decimal c.args.stage) (codes ": ") c.args.kind.now (10 ∷ []))
    (handed_on c.say_number-3.result c.from_residual-in_err-say_number-3.result c.in_err-say_number-3.was c.from_residual-in_err-say_number-3.ensures.0
    (cut_said c.say_number-3.result (codes ": " ++ c.args.kind.now ++ 10 ∷ []) c.in_err-say_number-3.was
    (then_said c.in_ok-say_number-2.was (then_said c.in_ok-say_number.was c.say_number.ensures c.say_number-2.ensures) c.say_number-3.ensures)))

pub returns : goal.returns
returns g c =
    rw (regroup_trap (codes "ctlrender: ") (codes "line ") (decimal c.args.line) (codes " column ") (decimal c.args.column) (codes " stage ") (decimal c.args.stage) (codes ": ") c.args.kind.now (10 ∷ []))
    (then_said c.in_ok-say_number-3.was (then_said c.in_ok-say_number-2.was (then_said c.in_ok-say_number.was c.say_number.ensures c.say_number-2.ensures) c.say_number-3.ensures) c.say_three.ensures)
