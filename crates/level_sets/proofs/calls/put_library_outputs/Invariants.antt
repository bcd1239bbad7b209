use Rattle.std.proofs.Common.{◌≡◌, drop}
use Rattle.level_rules.specs.Rules.{both_found}
use Rattle.level_sets.specs.Calls.{arguments_of, outputs_seen}
use Rattle.level_sets.proofs.calls.put_library_outputs.Given as goal

abbrev pub invariant-loop-k : goal.invariant-loop-k
invariant-loop-k l = both_found l.found (outputs_seen (λ k. l.inputs) l.k (arguments_of l.scene (drop l.k l.arguments)) l.looks l.control) ≡ both_found l.fn.found (outputs_seen (λ k. l.inputs) 0 (arguments_of l.scene l.arguments) l.looks l.control)
