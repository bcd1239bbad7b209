-- The image whose every pixel is the run of a stage on that pixel alone, or the first pixel whose run faults.
use Rattle.std.specs.Prelude.{◌≡◌, ℕ, zero, suc, ◌+◌, ◌*◌, ◌<◌, List, [], ◌∷◌, ◌++◌, take, drop, Result, Ok, Err}
use Rattle.ctl_types.specs.Run.{Fault}
use Rattle.dpx_file.specs.Plain.{PlainImage, codes_of_line}
use Rattle.render_tree.specs.declared.pixel.Pixel.{Pixel}
use Rattle.render_tree.specs.PixelRun.{StageForm, pixel_run}

-- the column of the first pixel of a line whose run faults, and its fault
pub record ColumnFault : Type 0 where
  pub column : ℕ
  pub fault : Fault

-- the line and the column of the first pixel whose run faults, and its fault
pub record PixelFault : Type 0 where
  pub row : ℕ
  pub column : ℕ
  pub fault : Fault

-- ---- a line

-- three codes
abbrev pub codes_of : Pixel → List ℕ
codes_of p = p.red ∷ p.green ∷ p.blue ∷ []

-- a pixel before others
abbrev pub before_pixels : Pixel → Result (List ℕ) ColumnFault → Result (List ℕ) ColumnFault
before_pixels p (Ok codes) = Ok (codes_of p ++ codes)
before_pixels p (Err f) = Err (record { column = suc f.column; fault = f.fault })

-- the first pixel, and then the others
abbrev pub pixel_then : Result Pixel Fault → Result (List ℕ) ColumnFault → Result (List ℕ) ColumnFault
pixel_then (Ok p) others = before_pixels p others
pixel_then (Err fault) others = Err (record { column = 0; fault = fault })

-- the codes that runs make of the codes of a line, three codes a pixel, from the left
abbrev pub line_run : (Pixel → Result Pixel Fault) → List ℕ → Result (List ℕ) ColumnFault
line_run run (red ∷ green ∷ blue ∷ codes) = pixel_then (run (record { red = red; green = green; blue = blue })) (line_run run codes)
line_run run codes = Ok []

-- ---- all lines

-- a line before others
abbrev pub before_lines : List ℕ → Result (List ℕ) PixelFault → Result (List ℕ) PixelFault
before_lines done (Ok codes) = Ok (done ++ codes)
before_lines done (Err f) = Err (record { row = suc f.row; column = f.column; fault = f.fault })

-- the first line, and then the others
abbrev pub line_then : Result (List ℕ) ColumnFault → Result (List ℕ) PixelFault → Result (List ℕ) PixelFault
line_then (Ok codes) others = before_lines codes others
line_then (Err f) others = Err (record { row = 0; column = f.column; fault = f.fault })

-- the codes that runs make of so many lines of so many codes, from the top
abbrev pub lines_run : (Pixel → Result Pixel Fault) → ℕ → ℕ → List ℕ → Result (List ℕ) PixelFault
lines_run run zero width codes = Ok []
lines_run run (suc height) width codes = line_then (line_run run (take width codes)) (lines_run run height width (drop width codes))

-- the image of the same size and depth with these codes
abbrev pub image_with : PlainImage → Result (List ℕ) PixelFault → Result PlainImage PixelFault
image_with image (Ok codes) = Ok (record image { codes = codes })
image_with image (Err f) = Err f

-- The image of the same size and depth whose each pixel is the run of the stage on that pixel; or the first pixel, from the top
-- and then from the left, whose run faults.
abbrev pub rendered : StageForm → PlainImage → Result PlainImage PixelFault
rendered s image = image_with image (lines_run (pixel_run image.depth image.depth s) image.height (3 * image.width) image.codes)
