use Rattle.std.proofs.Common.{refl, ap}
use Rattle.ctl_tree.specs.Modules.{unended, ended}
use Rattle.grammar_machine.specs.Machine.{may_end_move}
use Rattle.ctl_parser.proofs.MovesOfDefinitions.{not_ended}
use Rattle.ctl_parser.proofs.Ways.{done, read, expand}
use Rattle.ctl_parser.proofs.definitions.may_end.Goals as goal

pub returns-then-sees-clause-spells : goal.returns-then-sees-clause-spells
returns-then-sees-clause-spells c = ended c.if-sees.ensures.told.0 refl

pub returns-then-sees-clause-passes : goal.returns-then-sees-clause-passes
returns-then-sees-clause-passes c = λ below. read (ap may_end_move c.if-sees.ensures.told.0) refl (done refl)

pub returns-clause-spells : goal.returns-clause-spells
returns-clause-spells c = unended c.if-sees.ensures.told refl

pub returns-clause-passes : goal.returns-clause-passes
returns-clause-passes c = λ below. expand (not_ended _ c.if-sees.ensures.told) (done refl)
