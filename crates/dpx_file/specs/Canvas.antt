-- The image that the bytes of a written file show.
use Rattle.std.specs.Prelude.{◌≡◌, ℕ, ◌+◌, ◌*◌, ◌==◌, if◌then◌else◌, List, length}
use Rattle.byteorder.specs.Endian.{big_number}
use Rattle.dpx_file.specs.Plain.{PlainImage, IsImage}
use Rattle.dpx_file.specs.Fields.{header_size}
use Rattle.dpx_file.specs.Reading.{Layout, pixel_size, codes_in_file}
use Rattle.dpx_file.specs.Writing.{dpx_writing}

-- The packing of the written form.
abbrev pub written_packing : ℕ → ℕ
written_packing depth = if depth == 10 then 1 else 0

-- Where the pixels of the written form stand.
abbrev pub written_layout : ℕ → ℕ → ℕ → Layout
written_layout width height depth =
    record { width = width; height = height; depth = depth; packing = written_packing depth; offset = header_size; padding = 0 }

-- The codes that these bytes show.
unfoldable pub shown_codes : ℕ → ℕ → ℕ → List ℕ → List ℕ
shown_codes width height depth bytes = codes_in_file big_number (written_layout width height depth) bytes

-- The image that these bytes show.
abbrev pub shown : ℕ → ℕ → ℕ → List ℕ → PlainImage
shown width height depth bytes =
    record { width = width; height = height; depth = depth; codes = shown_codes width height depth bytes }

-- The bytes are the written form of an image of this size and depth.
pub record IsWritten (width height depth : ℕ) (bytes : List ℕ) : Type 0 where
  pub image : IsImage (shown width height depth bytes)
  pub form : bytes ≡ dpx_writing (shown width height depth bytes)
  pub count : length bytes ≡ 2048 + height * (width * pixel_size depth)
