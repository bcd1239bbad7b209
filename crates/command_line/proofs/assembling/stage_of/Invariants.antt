-- The loop of `assembling::stage_of`.
use Rattle.std.proofs.Common.{◌≡◌, ◌++◌, drop}
use Rattle.command_line.specs.Items.{own_params}
use Rattle.command_line.proofs.assembling.stage_of.Given as goal

abbrev pub invariant-each : goal.invariant-each
invariant-each l = l.params.items ++ own_params (drop l.item-index l.behind) ≡ own_params l.behind
