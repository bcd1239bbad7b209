use Rattle.render_command.proofs.Judging.{some_verdict}
use Rattle.render_command.proofs.order.some_verdict.Goals as goal

pub returns : goal.returns
returns c = some_verdict (record {
  load_orders = c.at_least_one.ensures;
  programs = c.loaded_programs_keep_rules.ensures;
  images = c.read_images_keep_rules.ensures;
  stages = c.stages_keep_rules.ensures;
  renders = c.stages_render_well.ensures;
})
