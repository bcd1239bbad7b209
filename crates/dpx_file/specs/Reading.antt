-- What a file of SMPTE 268M reads as: an image, or the first of the faults in the order in which they are looked for.
use Rattle.std.specs.Prelude.{ℕ, ◌+◌, ◌-◌, ◌*◌, ◌/◌, ◌%◌, ◌^◌, ◌==◌, nat_eq, nat_le, Bool, ◌&&◌, ◌||◌, if◌then◌else◌, List, [], ◌∷◌, length, drop, map, codes, Result, Ok, Err}
use Rattle.std.specs.List.{flat_map, range_with_len, starts_with}
use Rattle.byteorder.specs.Endian.{big_number, little_number}
use Rattle.ctl_base.specs.Answers.{◌>>=◌, ◌>>◌}
use Rattle.ctl_base.specs.declared.limits.TheConstants.{SIDE, PIXELS}
use Rattle.dpx_file.specs.declared.fault.DpxFault.{DpxFault}
use Rattle.dpx_file.specs.declared.fault.DpxFault.TheVariants.{NotDpx, Truncated, Encrypted, Orientation, Elements, Size, Sign, Descriptor, Depth, Packing, Compressed}
use Rattle.dpx_file.specs.Plain.{PlainImage}
use Rattle.dpx_file.specs.Fields.{HeaderField, header_size, encryption_key, offset_to_image_data, image_orientation, number_of_image_elements, pixels_per_line, lines_per_image_element, data_sign, descriptor, bit_size, packing, encoding, offset_to_data, end_of_line_padding}

-- The fault, unless the test holds.
abbrev pub unless : Bool → DpxFault → Result (Unit {0}) DpxFault
unless holds fault = if holds then Ok tt else Err fault

-- ---- numbers

-- A byte order: from a number of bytes and a list to the number that the first so many bytes stand for.
abbrev pub Order : Type 0
Order = ℕ → List ℕ → ℕ

-- The number in the bytes of a field.
abbrev pub number_at : Order → HeaderField → List ℕ → ℕ
number_at order f file = order f.size (drop f.at file)

-- A number of so many bytes is 0 or all ones. The standard writes all ones where a field has no value, and here 0 is
-- read like it.
unfoldable pub is_unset : ℕ → ℕ → Bool
is_unset size n = n == 0 || n == 256 ^ size - 1

-- ---- the fields that are read

pub record Header : Type 0 where
  pub encryption_key : ℕ
  pub image_orientation : ℕ
  pub number_of_image_elements : ℕ
  pub pixels_per_line : ℕ
  pub lines_per_image_element : ℕ
  pub data_sign : ℕ
  pub descriptor : ℕ
  pub bit_size : ℕ
  pub packing : ℕ
  pub encoding : ℕ
  pub offset_to_data : ℕ
  pub offset_to_image_data : ℕ
  pub end_of_line_padding : ℕ

-- The fields of a file, those of an image element for element 0. No other field is looked at.
unfoldable pub header_of : Order → List ℕ → Header
header_of order file = record {
  encryption_key = number_at order encryption_key file;
  image_orientation = number_at order image_orientation file;
  number_of_image_elements = number_at order number_of_image_elements file;
  pixels_per_line = number_at order pixels_per_line file;
  lines_per_image_element = number_at order lines_per_image_element file;
  data_sign = number_at order (data_sign 0) file;
  descriptor = number_at order (descriptor 0) file;
  bit_size = number_at order (bit_size 0) file;
  packing = number_at order (packing 0) file;
  encoding = number_at order (encoding 0) file;
  offset_to_data = number_at order (offset_to_data 0) file;
  offset_to_image_data = number_at order offset_to_image_data file;
  end_of_line_padding = number_at order (end_of_line_padding 0) file;
}

-- ---- where the pixels stand

-- What the header says of the pixels.
pub record Layout : Type 0 where
  -- pixels per line
  pub width : ℕ
  -- lines
  pub height : ℕ
  -- bits of a code
  pub depth : ℕ
  -- how codes of ten bits are packed into a word: 1 is method A, 2 is method B
  pub packing : ℕ
  -- the byte at which the first line begins
  pub offset : ℕ
  -- bytes between the end of a line and the next one
  pub padding : ℕ

-- The bytes of a pixel: one word at ten bits, and three words of 16 bits at sixteen.
abbrev pub pixel_size : ℕ → ℕ
pixel_size depth = if depth == 10 then 4 else 6

-- The bytes of a line without its padding.
abbrev pub line_size : Layout → ℕ
line_size l = l.width * pixel_size l.depth

-- The byte at which line y begins.
abbrev pub line_start : Layout → ℕ → ℕ
line_start l y = l.offset + y * (line_size l + l.padding)

-- How many bytes the file must have. The padding after the last line may be missing.
abbrev pub bytes_needed : Layout → ℕ
bytes_needed l = l.offset + l.height * line_size l + (l.height - 1) * l.padding

-- The lowest bit of a code of ten bits in its word, for channel c: 0 is red, 1 green, 2 blue.
-- Method A has red in bits 31 to 22, green in 21 to 12 and blue in 11 to 2.
-- Method B has red in bits 29 to 20, green in 19 to 10 and blue in 9 to 0.
abbrev pub lowest_bit : ℕ → ℕ → ℕ
lowest_bit packing c = (if packing == 1 then 22 else 20) - 10 * c

-- The code of channel c in a pixel whose bytes begin the list.
abbrev pub code_in_pixel : Order → ℕ → ℕ → List ℕ → ℕ → ℕ
code_in_pixel order depth packing bytes c =
    if depth == 10
    then order 4 bytes / 2 ^ lowest_bit packing c % 2 ^ 10
    else order 2 (drop (2 * c) bytes)

-- The three codes of a pixel whose bytes begin the list.
unfoldable pub pixel_codes : Order → ℕ → ℕ → List ℕ → List ℕ
pixel_codes order depth packing bytes = map (code_in_pixel order depth packing bytes) (0 ∷ 1 ∷ 2 ∷ [])

-- The codes of a line whose bytes begin the list. Pixels follow each other with nothing between.
unfoldable pub line_codes : Order → ℕ → ℕ → ℕ → List ℕ → List ℕ
line_codes order depth packing width bytes =
    flat_map (λ x. pixel_codes order depth packing (drop (x * pixel_size depth) bytes)) (range_with_len 0 width)

-- The codes of all pixels of a file, line after line.
unfoldable pub codes_in_file : Order → Layout → List ℕ → List ℕ
codes_in_file order l file =
    flat_map (λ y. line_codes order l.depth l.packing l.width (drop (line_start l y) file)) (range_with_len 0 l.height)

-- ---- the rules, in the order in which they are looked at

-- The byte order of a file, which its first four bytes tell.
abbrev pub byte_order : List ℕ → Result Order DpxFault
byte_order file =
    if starts_with nat_eq file (codes "SDPX") then Ok big_number
    else (if starts_with nat_eq file (codes "XPDS") then Ok little_number else Err NotDpx)

-- The sizes that are read.
unfoldable pub is_size : ℕ → ℕ → Bool
is_size width height =
    nat_le 1 width && nat_le width SIDE && nat_le 1 height && nat_le height SIDE && nat_le (width * height) PIXELS

-- The ways of packing that are read. At sixteen bits they are all one.
unfoldable pub is_packing : ℕ → ℕ → Bool
is_packing depth n = n == 1 || n == 2 || (n == 0 && depth == 16)

-- Where the pixels begin: the element's own offset, or where it is unset the file's.
unfoldable pub start_of_pixels : ℕ → ℕ → ℕ
start_of_pixels own general = if is_unset 4 own then general else own

-- The padding after each line, where all ones is none.
unfoldable pub padding_of : ℕ → ℕ
padding_of n = if n == 2 ^ 32 - 1 then 0 else n

-- The layout that a header tells, or the fault of the first rule that it breaks.
unfoldable pub layout_of : Header → Result Layout DpxFault
layout_of h = do
  unless (is_unset 4 h.encryption_key) Encrypted
  unless (is_unset 2 h.image_orientation) (Orientation h.image_orientation)
  unless (h.number_of_image_elements == 1) (Elements h.number_of_image_elements)
  unless (is_size h.pixels_per_line h.lines_per_image_element) (Size h.pixels_per_line h.lines_per_image_element)
  unless (is_unset 4 h.data_sign) (Sign h.data_sign)
  unless (h.descriptor == 50) (Descriptor h.descriptor)
  unless (h.bit_size == 10 || h.bit_size == 16) (Depth h.bit_size)
  unless (is_packing h.bit_size h.packing) (Packing h.packing)
  unless (is_unset 2 h.encoding) (Compressed h.encoding)
  Ok (record {
    width = h.pixels_per_line;
    height = h.lines_per_image_element;
    depth = h.bit_size;
    packing = h.packing;
    offset = start_of_pixels h.offset_to_data h.offset_to_image_data;
    padding = padding_of h.end_of_line_padding;
  })

-- The image whose pixels stand so in a file.
abbrev pub image_in_file : Order → Layout → List ℕ → PlainImage
image_in_file order l file = record { width = l.width; height = l.height; depth = l.depth; codes = codes_in_file order l file }

-- What a file reads as in a known byte order.
unfoldable pub reading_in : Order → List ℕ → Result PlainImage DpxFault
reading_in order file = do
  unless (nat_le header_size (length file)) (Truncated header_size (length file))
  l ← layout_of (header_of order file)
  unless (nat_le (bytes_needed l) (length file)) (Truncated (bytes_needed l) (length file))
  Ok (image_in_file order l file)

-- What a file reads as.
unfoldable pub dpx_reading : List ℕ → Result PlainImage DpxFault
dpx_reading file = do
  order ← byte_order file
  reading_in order file
