-- Means of the code and its proofs, which no public contract cites.
use Rattle.std.specs.Prelude.{◌≡◌, ℕ, ◌+◌, ◌*◌, ◌^◌, ◌<◌, ◌≤◌, List, ◌++◌, length, Option, Some, None, Result, Ok, Err}
use Rattle.ctl_types.specs.declared.value.Value.{Value}
use Rattle.ctl_types.specs.Run.{Fault, Trapped}
use Rattle.ctl_eval.specs.Entries.{EntryTakes}
use Rattle.dpx_file.specs.Plain.{PlainImage, with_line}
use Rattle.render_tree.specs.declared.pixel.Pixel.{Pixel}
use Rattle.render_tree.specs.PixelRun.{StageForm, first_values, input_values, parameters_of}
use Rattle.render_tree.specs.Stages.{IsStage}
use Rattle.render_tree.specs.RenderedImage.{ColumnFault, PixelFault}
use Rattle.render_tree.specs.declared.fault.RenderFault.{RenderFault}
use Rattle.render_tree.specs.declared.fault.RenderFault.TheVariants as image_fault
use Rattle.render_tree.specs.declared.fault.LineFault.{LineFault}
use Rattle.render_tree.specs.declared.fault.LineFault.TheVariants as line_fault
use Rattle.render_tree.specs.declared.fault.PixelStop.{PixelStop}
use Rattle.render_tree.specs.declared.fault.PixelStop.TheVariants as pixel_fault

-- the codes of a pixel are of so many bits
pub record PixelFits (depth : ℕ) (p : Pixel) : Type 0 where
  pub red_fits : p.red < 2 ^ depth
  pub green_fits : p.green < 2 ^ depth
  pub blue_fits : p.blue < 2 ^ depth

-- the values that a stage takes from a pixel fit its entry
abbrev pub InputsFit : Type 0
InputsFit = (s : StageForm) → IsStage s → (depth : ℕ) → 8 ≤ depth → (p : Pixel) → PixelFits depth p → (inputs : List Value)
    → input_values (first_values depth p) (parameters_of s) ≡ Some inputs → EntryTakes s.definitions s.entry inputs

-- the answer for a pixel is its run, unless memory runs out
abbrev pub PixelGives : Result Pixel PixelStop → Result Pixel Fault → Type 0
PixelGives (Ok p) outcome = outcome ≡ Ok p
PixelGives (Err (pixel_fault.Trap kind node)) outcome = outcome ≡ Err (Trapped kind node)
PixelGives (Err pixel_fault.Memory) outcome = Unit {0}

-- the same of a line, which is then what was made
abbrev pub LineGives : Result (Unit {0}) LineFault → List ℕ → Result (List ℕ) ColumnFault → Type 0
LineGives (Ok done) made outcome = outcome ≡ Ok made
LineGives (Err (line_fault.Trap column kind node)) made outcome = outcome ≡ Err (record { column = column; fault = Trapped kind node })
LineGives (Err line_fault.Memory) made outcome = Unit {0}

-- codes are put last, unless memory runs out
abbrev pub PutOrMemory : Result (Unit {0}) LineFault → List ℕ → List ℕ → List ℕ → Type 0
PutOrMemory (Ok done) old new codes = new ≡ old ++ codes
PutOrMemory (Err (line_fault.Trap column kind node)) old new codes = ⊥
PutOrMemory (Err line_fault.Memory) old new codes = Unit {0}

-- a line of a canvas is what was made, or its first pixel that faults is told
abbrev pub PutsLine : Result (Unit {0}) RenderFault → PlainImage → PlainImage → ℕ → Result (List ℕ) ColumnFault → Type 0
PutsLine (Ok done) old new y outcome = (codes : List ℕ) × (length codes ≡ 3 * old.width) × (outcome ≡ Ok codes) × (new ≡ with_line old y codes)
PutsLine (Err (image_fault.Trap row column kind node)) old new y outcome = (row ≡ y) × (outcome ≡ Err (record { column = column; fault = Trapped kind node }))
PutsLine (Err image_fault.Memory) old new y outcome = Unit {0}

-- what is made of the pixels from a column on, behind those that are done
abbrev pub behind_pixels : List ℕ → ℕ → Result (List ℕ) ColumnFault → Result (List ℕ) ColumnFault
behind_pixels done x (Ok codes) = Ok (done ++ codes)
behind_pixels done x (Err f) = Err (record { column = x + f.column; fault = f.fault })

-- what is made of the lines from one on, behind those that are done
abbrev pub behind_lines : List ℕ → ℕ → Result (List ℕ) PixelFault → Result (List ℕ) PixelFault
behind_lines done y (Ok codes) = Ok (done ++ codes)
behind_lines done y (Err f) = Err (record { row = y + f.row; column = f.column; fault = f.fault })

-- the values of the inputs that are left, behind those that are there
abbrev pub behind_inputs : List Value → Option (List Value) → Option (List Value)
behind_inputs done None = None
behind_inputs done (Some others) = Some (done ++ others)
