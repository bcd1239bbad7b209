use Rattle.std.proofs.Common.{◌≡◌, ◌++◌, ◌≤◌, ◌-◌, drop, length}
use Rattle.ctl_types.specs.Library.{words_of}
use Rattle.eval_library.specs.Means.{chosen_by}
use Rattle.eval_library.proofs.words.words_of.Given as goal

abbrev pub invariant-each : goal.invariant-each
invariant-each l = record {
  so_far : l.words ++ words_of (chosen_by l.group) (drop l.i l.params) (drop l.i l.frame) ≡ words_of (chosen_by l.group) l.params l.frame;
  within : l.i ≤ length l.params;
  inside : l.i ≤ length l.frame;
}

abbrev pub decreases-each : goal.decreases-each
decreases-each l = length l.params - l.i
