use Rattle.render_tree.proofs.Fitting.{fitting}
use Rattle.render_tree.proofs.pixel.inputs_fit.Goals as goal

pub returns : goal.returns
returns c = fitting record {
  codes = c.codes_stay_in_range.ensures;
  halves = c.halves_stay_in_range.ensures;
  wholes = c.wholes_stay_in_range.ensures;
  keeps = c.half_keeps.ensures;
}
