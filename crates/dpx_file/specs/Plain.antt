-- What an image is: its size, its depth and its codes, without where they lie in memory.
use Rattle.std.specs.Prelude.{◌≡◌, ℕ, ◌+◌, ◌*◌, ◌^◌, ◌<◌, ◌≤◌, ◌==◌, ◌||◌, List, ◌++◌, length, take, drop, replicate, All, IsTrue}
use Rattle.ctl_base.specs.declared.limits.TheConstants.{SIDE, PIXELS}

-- An image as plain data.
pub record PlainImage : Type 0 where
  -- pixels per line
  pub width : ℕ
  -- lines
  pub height : ℕ
  -- bits of a code
  pub depth : ℕ
  -- three codes a pixel, red, green and blue, line after line
  pub codes : List ℕ

-- The sizes that are read and written.
pub record IsImageSize (width height : ℕ) : Type 0 where
  pub some_width : 1 ≤ width
  pub width_within : width ≤ SIDE
  pub some_height : 1 ≤ height
  pub height_within : height ≤ SIDE
  pub pixels_within : width * height ≤ PIXELS

-- The depths that are read and written.
abbrev pub IsBitDepth : ℕ → Type 0
IsBitDepth depth = IsTrue (depth == 10 || depth == 16)

-- Each code is a number of so many bits.
abbrev pub CodesFit : ℕ → List ℕ → Type 0
CodesFit depth codes = All (λ c. c < 2 ^ depth) codes

-- An image of a size and a depth that are read and written, with all its codes.
pub record IsImage (image : PlainImage) : Type 0 where
  pub size : IsImageSize image.width image.height
  pub depth : IsBitDepth image.depth
  pub count : length image.codes ≡ 3 * image.width * image.height
  pub fit : CodesFit image.depth image.codes

-- The image of a size and a depth in which every code is 0.
abbrev pub blank : ℕ → ℕ → ℕ → PlainImage
blank width height depth =
    record { width = width; height = height; depth = depth; codes = replicate (3 * width * height) 0 }

-- The codes of line y, counted from 0.
abbrev pub codes_of_line : PlainImage → ℕ → List ℕ
codes_of_line image y = take (3 * image.width) (drop (3 * image.width * y) image.codes)

-- A list with ys in the place of as many items from place i on.
unfoldable pub replaced : List ℕ → ℕ → List ℕ → List ℕ
replaced xs i ys = take i xs ++ ys ++ drop (i + length ys) xs

-- The same image, but for line y, which has these codes.
abbrev pub with_line : PlainImage → ℕ → List ℕ → PlainImage
with_line image y codes = record image { codes = replaced image.codes (3 * image.width * y) codes }
