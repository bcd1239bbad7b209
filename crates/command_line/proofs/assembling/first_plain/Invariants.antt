-- The loop of `assembling::first_plain`.
use Rattle.std.proofs.Common.{◌≡◌, length}
use Rattle.command_line.specs.Items.{plains}
use Rattle.command_line.proofs.assembling.first_plain.Given as goal

abbrev pub invariant-each : goal.invariant-each
invariant-each l = plains l.items ≡ plains l.left

abbrev pub decreases-each : goal.decreases-each
decreases-each l = length l.left
