-- The loop of `assembling::depth_of`.
use Rattle.std.proofs.Common.{◌≡◌, None, drop}
use Rattle.std.specs.List.{filter_map, last_or}
use Rattle.command_line.specs.Items.{depth_in}
use Rattle.command_line.proofs.assembling.depth_of.Given as goal

abbrev pub invariant-each : goal.invariant-each
invariant-each l = last_or l.last (filter_map depth_in (drop l.item-index l.items)) ≡ last_or None (filter_map depth_in l.items)
