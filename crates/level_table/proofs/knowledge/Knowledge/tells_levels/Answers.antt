use Rattle.std.proofs.Common.{subst}
use Rattle.level_rules.specs.Levels.{AreLevels}
use Rattle.level_rules.specs.Rows.{tells}
use Rattle.level_table.specs.Known.{KnownForm}
use Rattle.level_table.proofs.knowledge.Knowledge.tells_levels.Goals as goal

pub returns : goal.returns
returns c = subst (λ (k : KnownForm). AreLevels k.functions (tells k.rows)) c.self.view_is (c.rows_tell.ensures c.self.inside.functions.now c.self.inside.rows c.self.invariant.1)
