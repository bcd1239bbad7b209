use Rattle.std.proofs.Common.{drop}
use Rattle.level_rules.specs.Rules.{look_items}
use Rattle.level_sets.specs.Scene.{known_of, around_of}
use Rattle.level_sets.proofs.Lists.{Rest}
use Rattle.level_sets.proofs.statements.look_items.Given as goal

abbrev pub invariant-loop-item : goal.invariant-loop-item
invariant-loop-item l = Rest l.any l.found (look_items (known_of l.scene) (drop l.item-index l.items) (around_of l.scene) l.control) l.fn.found (look_items (known_of l.scene) l.items (around_of l.scene) l.control)
