-- What is written for an image reads as that image.
use Rattle.std.proofs.Common.{◌≡◌, ℕ, ◌+◌, ◌*◌, ◌^◌, ◌<◌, true, List, ◌∷◌, ◌++◌, length, get_or, take, drop, Result, Ok, refl, sym, ap, ◌∙◌, append_assoc, mul-zero, add-zero, lit<, arith}
use Rattle.std.specs.Prelude.{nat_eq, codes}
use Rattle.std.specs.List.{flat_map, starts_with}
use Rattle.std.proofs.lemmas.Bool.{le-leb}
use Rattle.std.proofs.lemmas.List.{drop_at, take-append-drop, drop_more}
use Rattle.std.proofs.lemmas.List.Concat.{flat_map-append}
use Rattle.byteorder.specs.Endian.{big_bytes, big_number}
use Rattle.byteorder.specs.Numbers.{big_number-reads_back}
use Rattle.dpx_file.specs.declared.fault.DpxFault.{DpxFault}
use Rattle.dpx_file.specs.Plain.{PlainImage, IsImage, IsImageSize, IsBitDepth}
use Rattle.dpx_file.specs.Fields.{HeaderField, field, header_size, encryption_key, offset_to_image_data, image_orientation, number_of_image_elements, pixels_per_line, lines_per_image_element, data_sign, descriptor, bit_size, packing, encoding, offset_to_data, end_of_line_padding}
use Rattle.dpx_file.specs.Reading.{Header, number_at, is_unset, is_packing, start_of_pixels, padding_of, header_of, layout_of, bytes_needed, pixel_size, reading_in, dpx_reading}
use Rattle.dpx_file.specs.Writing.{Row, row_bytes, header_rows, header, pixels, dpx_writing}
use Rattle.dpx_file.specs.Canvas.{written_packing, written_layout}
use Rattle.dpx_file.proofs.CodeLemmas.{depth_cases}
use Rattle.dpx_file.proofs.Sizes.{test-from_IsImageSize}
use Rattle.dpx_file.proofs.Written.{sizes, length-rows, length-header, length-written, codes_back}

-- the number of a row, read where the rows before it end
row_back : (rows : List Row) (n : ℕ) (f : HeaderField) (v : ℕ) (rest : List ℕ) → n < length rows → get_or rows n (field 0 0, 0) ≡ (f, v) → sizes (take n rows) ≡ f.at → v < 256 ^ f.size
    → number_at big_number f (flat_map row_bytes rows ++ rest) ≡ v
row_back rows n f v rest within here at fits =
    let before = take n rows in
    let after = drop (n + 1) rows in
    let split : rows ≡ before ++ (f, v) ∷ after = sym (take-append-drop n rows) ∙ ap (λ (l : List Row). before ++ l) (drop_more rows n (field 0 0, 0) within ∙ ap (λ (r : Row). r ∷ after) here) in
    let bytes : flat_map row_bytes rows ++ rest ≡ flat_map row_bytes before ++ (big_bytes f.size v ++ (flat_map row_bytes after ++ rest)) =
    ap (λ (l : List ℕ). l ++ rest) (ap (flat_map row_bytes) split ∙ flat_map-append row_bytes before ((f, v) ∷ after))
    ∙ append_assoc (flat_map row_bytes before) (big_bytes f.size v ++ flat_map row_bytes after) rest
    ∙ ap (λ (l : List ℕ). flat_map row_bytes before ++ l) (append_assoc (big_bytes f.size v) (flat_map row_bytes after) rest) in
    ap (λ (l : List ℕ). big_number f.size (drop f.at l)) bytes
    ∙ ap (big_number f.size) (drop_at (flat_map row_bytes before) (big_bytes f.size v ++ (flat_map row_bytes after ++ rest)) f.at (length-rows before ∙ at))
    ∙ big_number-reads_back f.size v (flat_map row_bytes after ++ rest) fits

-- the fields of a written header
abbrev written_header : ℕ → ℕ → ℕ → Header
written_header width height depth = record {
  encryption_key = 4294967295;
  image_orientation = 0;
  number_of_image_elements = 1;
  pixels_per_line = width;
  lines_per_image_element = height;
  data_sign = 0;
  descriptor = 50;
  bit_size = depth;
  packing = written_packing depth;
  encoding = 0;
  offset_to_data = 2048;
  offset_to_image_data = 2048;
  end_of_line_padding = 0;
}

module _ (size width height depth : ℕ) (rest : List ℕ) (some : IsImageSize width height) (is : IsBitDepth depth) where
  header_back : header_of big_number (flat_map row_bytes (header_rows size width height depth) ++ rest) ≡ written_header width height depth
  unfolding header_of header_rows sizes
  header_back =
      let rows = header_rows size width height depth in
      let packed : written_packing depth < 65536 = depth_cases (λ d. written_packing d < 65536) depth is (lit< tt) (lit< tt) in
      let deep : depth < 256 = depth_cases (λ d. d < 256) depth is (lit< tt) (lit< tt) in
      rw (
        row_back rows 13 encryption_key 4294967295 rest (lit< tt) refl refl (lit< tt),
        row_back rows 15 image_orientation 0 rest (lit< tt) refl refl (lit< tt),
        row_back rows 16 number_of_image_elements 1 rest (lit< tt) refl refl (lit< tt),
        row_back rows 17 pixels_per_line width rest (lit< tt) refl refl (omega arith),
        row_back rows 18 lines_per_image_element height rest (lit< tt) refl refl (omega arith),
        row_back rows 19 (data_sign 0) 0 rest (lit< tt) refl refl (lit< tt),
        row_back rows 24 (descriptor 0) 50 rest (lit< tt) refl refl (lit< tt),
        row_back rows 27 (bit_size 0) depth rest (lit< tt) refl refl deep,
        row_back rows 28 (packing 0) (written_packing depth) rest (lit< tt) refl refl packed,
        row_back rows 29 (encoding 0) 0 rest (lit< tt) refl refl (lit< tt),
        row_back rows 30 (offset_to_data 0) 2048 rest (lit< tt) refl refl (lit< tt),
        row_back rows 1 offset_to_image_data 2048 rest (lit< tt) refl refl (lit< tt),
        row_back rows 31 (end_of_line_padding 0) 0 rest (lit< tt) refl refl (lit< tt),
      ) refl

packed_well : (depth : ℕ) → IsBitDepth depth → is_packing depth (written_packing depth) ≡ true
unfolding is_packing
packed_well depth is = depth_cases (λ d. is_packing d (written_packing d) ≡ true) depth is refl refl

-- its layout
layout_back : (width height depth : ℕ) → IsImageSize width height → IsBitDepth depth → layout_of (written_header width height depth) ≡ Ok (written_layout width height depth)
unfolding layout_of is_unset start_of_pixels padding_of
layout_back width height depth some is = rw (test-from_IsImageSize width height some, is, packed_well depth is) refl

-- the magic number
magic_back : (size width height depth : ℕ) (rest : List ℕ) → starts_with nat_eq (flat_map row_bytes (header_rows size width height depth) ++ rest) (codes "SDPX") ≡ true
unfolding header_rows
magic_back size width height depth rest = refl

abbrev read_so : PlainImage → Result PlainImage DpxFault
read_so image = Ok image

pub reads_back_lem : (image : PlainImage) → IsImage image → dpx_reading (dpx_writing image) ≡ Ok image
unfolding dpx_reading reading_in dpx_writing header
reads_back_lem image is =
    let w = image.width in
    let h = image.height in
    let d = image.depth in
    let body = pixels d image.codes in
    let size = header_size + length body in
    let head = flat_map row_bytes (header_rows size w h d) in
    let all = length-written image is in
    let need : bytes_needed (written_layout w h d) ≡ 2048 + h * (w * pixel_size d) = rw mul-zero (add-zero (2048 + h * (w * pixel_size d))) in
    rw (
      magic_back size w h d body,
      header_back size w h d body is.size is.depth,
      layout_back w h d is.size is.depth,
      le-leb 2048 (length (head ++ body)) (omega arith),
      le-leb (bytes_needed (written_layout w h d)) (length (head ++ body)) (omega arith),
    )
    (ap (λ (cs : List ℕ). read_so (record { width = w; height = h; depth = d; codes = cs })) (codes_back image (header size image) is (length-header size image)))
