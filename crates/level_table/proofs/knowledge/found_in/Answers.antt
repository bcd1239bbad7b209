use Rattle.std.proofs.Common.{◌≡◌, ◌∙◌, IfOk, subst, take, ap}
use Rattle.level_sets.specs.Scene.{SceneForm}
use Rattle.level_rules.specs.declared.found.Found.{Found}
use Rattle.level_table.proofs.Found.{found_is, scene_is}
use Rattle.level_table.proofs.knowledge.found_in.Goals as goal

pub returns : goal.returns
returns c = subst (λ (x : Found). IfOk c.found_at.result (λ (found : Found). found ≡ x)) (found_is c.args.functions.now c.args.rows.now c.args.instance.now c.args.row.now c.args.uniforms.now _ _ (scene_is _ _ _ _ _ _ _ c.new-scene.ensures c.before-rows.ensures c.as_slice.ensures) c.function_at-function.ensures c.requires.row c.requires.uniforms) c.found_at.ensures
