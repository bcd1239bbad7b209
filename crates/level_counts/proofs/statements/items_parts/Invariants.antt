use Rattle.std.proofs.Common.{map, drop}
use Rattle.level_counts.specs.Told.{total}
use Rattle.level_counts.specs.Parts.{item_parts}
use Rattle.level_counts.proofs.Sums.{Adds}
use Rattle.level_counts.proofs.statements.items_parts.Given as goal

abbrev pub invariant-loop-item : goal.invariant-loop-item
invariant-loop-item l = Adds l.parts (total (map (item_parts l.definitions l.variables) (drop l.item-index l.items))) (total (map (item_parts l.definitions l.variables) l.items))
