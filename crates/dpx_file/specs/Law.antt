-- Laws over the definitions of reading and writing.
use Rattle.std.specs.Prelude.{◌≡◌, ℕ, ◌+◌, ◌*◌, ◌<◌, ◌==◌, Bool, ◌&&◌, IsTrue, List, [], ◌∷◌, slice_index, drop, Ok}
use Rattle.dpx_file.specs.Plain.{PlainImage, IsImage}
use Rattle.dpx_file.specs.Fields.{header_size}
use Rattle.dpx_file.specs.Reading.{Order, Layout, pixel_size, line_start, code_in_pixel, codes_in_file, dpx_reading}
use Rattle.dpx_file.specs.Writing.{Row, header_rows, dpx_writing}

-- What is written for an image reads as that image.
abbrev pub ReadsBack : Type 0
ReadsBack = (image : PlainImage) → IsImage image → dpx_reading (dpx_writing image) ≡ Ok image

-- The code of channel c in column x of line y is the number in its bits of the pixel that begins there.
abbrev pub CodesStand : Type 0
CodesStand =
    (order : Order) (l : Layout) (file : List ℕ) (y x c : ℕ) → y < l.height → x < l.width → c < 3
    → slice_index (codes_in_file order l file) (3 * l.width * y + (3 * x + c))
    ≡ code_in_pixel order l.depth l.packing (drop (line_start l y + x * pixel_size l.depth) file) c

-- From byte i on each row stands at the byte of its field, and the last ends with the header.
abbrev pub are_in_place : ℕ → List Row → Bool
are_in_place i [] = i == header_size
are_in_place i (r ∷ rows) = r.0.at == i && are_in_place (i + r.0.size) rows

-- Each field of the written header stands at its byte.
abbrev pub FieldsInPlace : Type 0
FieldsInPlace = (file_size width height depth : ℕ) → IsTrue (are_in_place 0 (header_rows file_size width height depth))
