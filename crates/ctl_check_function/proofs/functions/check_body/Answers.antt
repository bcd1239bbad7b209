use Rattle.std.specs.Option.{option_copied}
use Rattle.ctl_check_function.proofs.Bodies.{behind_body}
use Rattle.ctl_check_function.proofs.functions.check_body.Goals as goal

pub returns : goal.returns
returns c =
    behind_body c.args.is_entry c.args.written.now c.args.gives c.args.parameters c.args.definitions.now c.args.scope.now (option_copied c.as_ref.result)
    (record { made = c.in_ok-body.body; scope = c.check_block.new.scope }) c.leave_function.new.self c.in_ok-made.made
    c.name_made.result c.name_made.new.scope
    c.as_ref.ensures.value c.in_ok-body.ensures c.leave_function.ensures c.in_ok-made.ensures c.name_made.ensures
