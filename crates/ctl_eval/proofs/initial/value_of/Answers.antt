use Rattle.std.proofs.Common.{[], subst}
use Rattle.ctl_types.specs.Cost.{uncounted}
use Rattle.ctl_laws.specs.Sound.{GivesWell}
use Rattle.ctl_types.specs.Shapes.{whole}
use Rattle.ctl_types.specs.Typing.{initialiser_type}
use Rattle.ctl_types.specs.Scoping.{scene_of}
use Rattle.ctl_eval.proofs.initial.value_of.Goals as goal

pub unreachable-requires : goal.unreachable-requires
unreachable-requires c =
    let d = c.args.definitions.now in
    let i = c.args.initialiser.now in
    let wrong = rw c.in-None.is at c.in_ok-end.ensures in
    subst (GivesWell (Unit {0}) uncounted d.structs [] [] (whole [] (initialiser_type (scene_of d) [] i).sizes (initialiser_type (scene_of d) [] i).base)) wrong (c.initialisers_are_sound.ensures.plain d c.keep_rules.ensures i c.args.turns tt c.requires)
