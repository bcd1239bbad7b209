-- The loop of `assembling::globals_of`.
use Rattle.std.proofs.Common.{◌≡◌, ◌++◌, drop}
use Rattle.std.specs.List.{filter_map}
use Rattle.command_line.specs.Items.{global_in}
use Rattle.command_line.proofs.assembling.globals_of.Given as goal

abbrev pub invariant-each : goal.invariant-each
invariant-each l = l.params.items ++ filter_map global_in (drop l.item-index l.items) ≡ filter_map global_in l.items
