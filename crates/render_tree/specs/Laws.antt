-- What holds of every stage and image.
use Rattle.std.specs.Prelude.{◌≡◌, Some, Result, Ok, Err}
use Rattle.ctl_types.specs.Run.{Fault, Trapped, Wrong}
use Rattle.ctl_types.specs.Scoping.{ProgramForm, IsProgram}
use Rattle.dpx_file.specs.Plain.{PlainImage, IsImage}
use Rattle.render_tree.specs.PixelRun.{StageForm}
use Rattle.render_tree.specs.Stages.{IsStage, stage_of}
use Rattle.render_tree.specs.RenderedImage.{PixelFault, rendered}

-- the stage of a program that keeps the rules is one
abbrev pub StagesKeepRules : Type 0
StagesKeepRules = (p : ProgramForm) → IsProgram p → (s : StageForm) → stage_of p ≡ Some s → IsStage s

-- a run faults by a trap, and not for want of a meaning
abbrev pub Traps : Fault → Type 0
Traps (Trapped kind node) = Unit {0}
Traps Wrong = ⊥

-- there is an image, or a pixel whose run traps
abbrev pub IsRendered : Result PlainImage PixelFault → Type 0
IsRendered (Ok image) = Unit {0}
IsRendered (Err f) = Traps f.fault

-- a stage of a program that keeps the rules has a meaning on each pixel of an image
abbrev pub RendersWell : Type 0
RendersWell = (s : StageForm) → IsStage s → (image : PlainImage) → IsImage image → IsRendered (rendered s image)
