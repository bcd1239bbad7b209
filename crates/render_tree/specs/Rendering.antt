-- What the answer of the rendering says.
use Rattle.std.specs.Prelude.{◌≡◌, Result, Ok, Err}
use Rattle.ctl_types.specs.Run.{Trapped}
use Rattle.dpx_file.specs.Plain.{PlainImage}
use Rattle.render_tree.specs.RenderedImage.{PixelFault}
use Rattle.render_tree.specs.declared.fault.RenderFault.{RenderFault}
use Rattle.render_tree.specs.declared.fault.RenderFault.TheVariants.{Trap, Memory}

-- the image is the rendered one, or the trap is that of the first pixel whose run faults, unless memory runs out
abbrev pub Renders : Result PlainImage RenderFault → Result PlainImage PixelFault → Type 0
Renders (Ok canvas) outcome = outcome ≡ Ok canvas
Renders (Err (Trap row column kind node)) outcome = outcome ≡ Err (record { row = row; column = column; fault = Trapped kind node })
Renders (Err Memory) outcome = Unit {0}
