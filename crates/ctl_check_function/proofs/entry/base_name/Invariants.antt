use Rattle.std.proofs.Common.{◌≡◌, ◌≤◌, ◌++◌, length, drop, take}
use Rattle.std.specs.Prelude.{reverse, take_while}
use Rattle.ctl_types.specs.Definitions.{is_no_slash}
use Rattle.ctl_check_function.proofs.entry.base_name.Given as goal

abbrev pub invariant-loop-start : goal.invariant-loop-start
invariant-loop-start l = (l.start ≤ length l.file) × (take_while is_no_slash (reverse l.file) ≡ reverse (drop l.start l.file) ++ take_while is_no_slash (reverse (take l.start l.file)))

abbrev pub decreases-loop-start : goal.decreases-loop-start
decreases-loop-start l = l.start
