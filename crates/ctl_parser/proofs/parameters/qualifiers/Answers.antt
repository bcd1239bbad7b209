use Rattle.std.proofs.Common.{refl, ap, ap₂, sym}
use Rattle.ctl_tree.specs.Lexemes.{kind_at}
use Rattle.ctl_tree.specs.Modules.{no_qualifier, direction_alone, level_alone, direction_first, level_first, level_of}
use Rattle.grammar_machine.specs.Machine.{after_direction, may_level_move, may_direction_move}
use Rattle.ctl_parser.proofs.Readings.{level_only}
use Rattle.ctl_parser.proofs.Ways.{two, done, read, expand}
use Rattle.ctl_parser.proofs.parameters.qualifiers.Goals as goal

-- `.exact` says which direction or level a token is; an arm's `.is` says which was found

pub returns-in-Some-level-clause-spells : goal.returns-in-Some-level-clause-spells
returns-in-Some-level-clause-spells c = direction_first (sym c.in-Some.ensures.exact) (sym c.in-Some-level.ensures.exact) refl

pub returns-in-Some-level-clause-passes : goal.returns-in-Some-level-clause-passes
returns-in-Some-level-clause-passes c = λ below.
    read (ap (λ d. after_direction d (level_of (kind_at c.args.lexemes.now c.args.at))) (sym c.in-Some.ensures.exact)) refl (read (ap may_level_move (sym c.in-Some-level.ensures.exact)) (two _) (done refl))

pub returns-in-Some-clause-spells : goal.returns-in-Some-clause-spells
returns-in-Some-clause-spells c = direction_alone (sym c.in-Some.ensures.exact) (sym c.in_default-level.ensures.exact) refl

pub returns-in-Some-clause-passes : goal.returns-in-Some-clause-passes
returns-in-Some-clause-passes c = λ below.
    read (ap (λ d. after_direction d (level_of (kind_at c.args.lexemes.now c.args.at))) (sym c.in-Some.ensures.exact)) refl
    (expand (ap may_level_move (sym c.in_default-level.ensures.exact)) (done refl))

pub returns-in-Some-direction-clause-spells : goal.returns-in-Some-direction-clause-spells
returns-in-Some-direction-clause-spells c = level_first (sym c.in-Some-level-2.ensures.exact) (sym c.in-Some-direction.ensures.exact) refl

pub returns-in-Some-direction-clause-passes : goal.returns-in-Some-direction-clause-passes
returns-in-Some-direction-clause-passes c = λ below.
    read (ap₂ after_direction (level_only _ _ (sym c.in-Some-level-2.ensures.exact)) (sym c.in-Some-level-2.ensures.exact)) refl (read (ap may_direction_move (sym c.in-Some-direction.ensures.exact)) (two _) (done refl))

pub returns-in-Some-level-2-clause-spells : goal.returns-in-Some-level-2-clause-spells
returns-in-Some-level-2-clause-spells c = level_alone (sym c.in-Some-level-2.ensures.exact) (sym c.in_default-direction.ensures.exact) refl

pub returns-in-Some-level-2-clause-passes : goal.returns-in-Some-level-2-clause-passes
returns-in-Some-level-2-clause-passes c = λ below.
    read (ap₂ after_direction (level_only _ _ (sym c.in-Some-level-2.ensures.exact)) (sym c.in-Some-level-2.ensures.exact)) refl
    (expand (ap may_direction_move (sym c.in_default-direction.ensures.exact)) (done refl))

pub returns-clause-spells : goal.returns-clause-spells
returns-clause-spells c = no_qualifier (sym c.in_default.ensures.exact) (sym c.in_default-level-2.ensures.exact) refl

pub returns-clause-passes : goal.returns-clause-passes
returns-clause-passes c = λ below. expand (ap₂ after_direction (sym c.in_default.ensures.exact) (sym c.in_default-level-2.ensures.exact)) (done refl)
