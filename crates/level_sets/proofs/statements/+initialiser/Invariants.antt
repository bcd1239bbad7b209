use Rattle.std.proofs.Common.{map, drop}
use Rattle.level_rules.specs.Rules.{seen_all, look_initialiser}
use Rattle.level_sets.specs.Scene.{known_of, around_of}
use Rattle.level_sets.proofs.Lists.{Rest}
use Rattle.level_sets.proofs.statements.+initialiser.Given as goal

abbrev pub invariant-look_parts-loop-part : goal.invariant-look_parts-loop-part
invariant-look_parts-loop-part l = Rest l.any l.found (seen_all (map (look_initialiser (known_of l.scene)) (drop l.part-index l.parts)) (around_of l.scene) l.control) l.fn.found (seen_all (map (look_initialiser (known_of l.scene)) l.parts) (around_of l.scene) l.control)
