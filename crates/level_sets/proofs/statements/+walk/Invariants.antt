use Rattle.std.proofs.Common.{◌+◌, map, drop}
use Rattle.level_sets.proofs.Sizes.{total, statement_size, arm_size, otherwise_size}
use Rattle.level_rules.specs.Rules.{walk_all, walk_arms, walk_otherwise, walk_statement}
use Rattle.level_sets.specs.Scene.{known_of, around_of, arm_walk, otherwise_walk}
use Rattle.level_sets.proofs.Walks.{Left}
use Rattle.level_sets.proofs.statements.+walk.Given as goal

abbrev pub invariant-walk_all-loop-statement : goal.invariant-walk_all-loop-statement
invariant-walk_all-loop-statement l = Left l.any l.found (walk_all (map (walk_statement (known_of l.scene)) (drop l.statement-index l.statements)) (around_of l.scene) l.now) l.fn.found (walk_all (map (walk_statement (known_of l.scene)) l.statements) (around_of l.scene) l.control)

abbrev pub invariant-walk_if-loop-arm : goal.invariant-walk_if-loop-arm
invariant-walk_if-loop-arm l = Left l.any l.found (walk_arms (map (arm_walk l.scene) (drop l.arm-index l.arms)) (walk_otherwise (otherwise_walk l.scene l.otherwise)) (around_of l.scene) l.now) l.fn.found (walk_arms (map (arm_walk l.scene) l.arms) (walk_otherwise (otherwise_walk l.scene l.otherwise)) (around_of l.scene) l.control)

abbrev pub decreases-walk : goal.decreases-walk
decreases-walk l = statement_size l.statement.now

abbrev pub decreases-walk_all : goal.decreases-walk_all
decreases-walk_all l = total (map statement_size l.statements.now) + 1

abbrev pub decreases-walk_if : goal.decreases-walk_if
decreases-walk_if l = total (map arm_size l.arms.now) + (otherwise_size l.otherwise.now + 2)

abbrev pub decreases-walk_last : goal.decreases-walk_last
decreases-walk_last l = otherwise_size l.otherwise.now + 1

abbrev pub decreases-walk_while : goal.decreases-walk_while
decreases-walk_while l = statement_size l.body.now + 1

abbrev pub decreases-walk_turns : goal.decreases-walk_turns
decreases-walk_turns l = statement_size l.body.now + 1
