use Rattle.std.proofs.Common.{◌≡◌, drop}
use Rattle.ctl_types.specs.Typing.{are_stated}
use Rattle.ctl_check_init.proofs.lists.are_stated.Given as goal

abbrev pub invariant-loop-size : goal.invariant-loop-size
invariant-loop-size l = are_stated (drop l.size-index l.sizes) ≡ are_stated l.sizes
