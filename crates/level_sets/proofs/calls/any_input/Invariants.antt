use Rattle.std.proofs.Common.{◌≡◌, drop}
use Rattle.level_sets.specs.Calls.{arguments_of, inputs_seen}
use Rattle.level_sets.proofs.calls.any_input.Given as goal

abbrev pub invariant-loop-k : goal.invariant-loop-k
invariant-loop-k l = inputs_seen l.k (arguments_of l.scene (drop l.k l.arguments)) l.looks ≡ inputs_seen 0 (arguments_of l.scene l.arguments) l.looks
