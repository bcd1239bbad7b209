-- The loop of `assembling::stages_of`.
use Rattle.std.proofs.Common.{◌≡◌, ◌++◌, length}
use Rattle.command_line.specs.Items.{stages}
use Rattle.command_line.proofs.assembling.stages_of.Given as goal

abbrev pub invariant-each : goal.invariant-each
invariant-each l = l.all.items ++ stages l.rest ≡ stages l.items

abbrev pub decreases-each : goal.decreases-each
decreases-each l = length l.rest
