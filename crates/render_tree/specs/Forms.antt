-- What a stage of the code is.
use Rattle.render_tree.specs.PixelRun.{StageForm}
use Rattle.render_tree.specs.declared.stage.Stage.{Stage}

-- the definitions of its program, and the number of its entry
abbrev pub form_of : Stage → StageForm
form_of s = record { definitions = s.program.now.definitions; entry = s.entry }
