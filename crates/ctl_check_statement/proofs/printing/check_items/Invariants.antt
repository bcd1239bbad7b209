use Rattle.std.proofs.Common.{◌≡◌, drop}
use Rattle.ctl_check_statement.specs.Printing.{printed, none_printed}
use Rattle.ctl_check_statement.proofs.printing.check_items.Given as goal

abbrev pub invariant-loop-item : goal.invariant-loop-item
invariant-loop-item l = printed l.scope l.definitions (drop l.item-index l.items) l.before ≡ printed l.scope l.definitions l.items none_printed
