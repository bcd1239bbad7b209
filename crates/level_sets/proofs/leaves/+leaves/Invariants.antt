use Rattle.std.proofs.Common.{◌≡◌, ◌+◌, ◌||◌, map, drop}
use Rattle.level_sets.proofs.Sizes.{total, statement_size, arm_size, otherwise_size}
use Rattle.level_rules.specs.Rules.{walk_all, walk_arms, walk_otherwise, walk_statement}
use Rattle.level_sets.specs.Scene.{known_of, around_of, arm_walk, otherwise_walk}
use Rattle.level_sets.proofs.leaves.+leaves.Given as goal

abbrev pub invariant-leaves_all-loop-statement : goal.invariant-leaves_all-loop-statement
invariant-leaves_all-loop-statement l = (l.any || (walk_all (map (walk_statement (known_of l.scene)) (drop l.statement-index l.statements)) (around_of l.scene) l.now).leaves) ≡ (walk_all (map (walk_statement (known_of l.scene)) l.statements) (around_of l.scene) l.control).leaves

abbrev pub invariant-leaves_if-loop-arm : goal.invariant-leaves_if-loop-arm
invariant-leaves_if-loop-arm l = (l.any || (walk_arms (map (arm_walk l.scene) (drop l.arm-index l.arms)) (walk_otherwise (otherwise_walk l.scene l.otherwise)) (around_of l.scene) l.now).leaves) ≡ (walk_arms (map (arm_walk l.scene) l.arms) (walk_otherwise (otherwise_walk l.scene l.otherwise)) (around_of l.scene) l.control).leaves

abbrev pub decreases-leaves : goal.decreases-leaves
decreases-leaves l = statement_size l.statement.now

abbrev pub decreases-leaves_all : goal.decreases-leaves_all
decreases-leaves_all l = total (map statement_size l.statements.now) + 1

abbrev pub decreases-leaves_if : goal.decreases-leaves_if
decreases-leaves_if l = total (map arm_size l.arms.now) + (otherwise_size l.otherwise.now + 2)

abbrev pub decreases-leaves_otherwise : goal.decreases-leaves_otherwise
decreases-leaves_otherwise l = otherwise_size l.otherwise.now + 1

abbrev pub decreases-leaves_loop : goal.decreases-leaves_loop
decreases-leaves_loop l = statement_size l.body.now + 1
