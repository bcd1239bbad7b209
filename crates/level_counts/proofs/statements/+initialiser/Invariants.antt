use Rattle.std.proofs.Common.{map, drop}
use Rattle.level_counts.specs.Told.{total}
use Rattle.level_counts.specs.Parts.{initialiser_parts}
use Rattle.level_counts.proofs.Sums.{Adds}
use Rattle.level_counts.proofs.statements.+initialiser.Given as goal

abbrev pub invariant-inner_parts-loop-initialiser : goal.invariant-inner_parts-loop-initialiser
invariant-inner_parts-loop-initialiser l = Adds l.parts (total (map (initialiser_parts l.definitions l.variables) (drop l.initialiser-index l.initialisers))) (total (map (initialiser_parts l.definitions l.variables) l.initialisers))
