use Rattle.render_tree.proofs.Meaning.{renders_well}
use Rattle.render_tree.proofs.laws.stages_render_well.Goals as goal

pub returns : goal.returns
returns c = renders_well c.inputs_fit.ensures c.entries_are_sound.ensures.plain
