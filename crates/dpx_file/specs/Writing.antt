-- The one written form of an image: each field of the header with its value, and then the pixels.
use Rattle.std.specs.Prelude.{ℕ, ◌+◌, ◌-◌, ◌*◌, ◌^◌, ◌==◌, if◌then◌else◌, List, [], ◌∷◌, ◌++◌, length}
use Rattle.std.specs.List.{flat_map, range_with_len}
use Rattle.byteorder.specs.Endian.{big_bytes}
use Rattle.dpx_file.specs.Plain.{PlainImage}
use Rattle.dpx_file.specs.Fields.{HeaderField, header_size, magic_number, offset_to_image_data, version_number_of_header_format, total_image_file_size, ditto_key, generic_section_header_length, industry_specific_header_length, user_defined_header_length, image_file_name, creation_date_and_time, creator, project_name, right_to_use_or_copyright_statement, encryption_key, reserved_of_file_information, image_orientation, number_of_image_elements, pixels_per_line, lines_per_image_element, data_sign, reference_low_data_code_value, reference_low_quantity_represented, reference_high_data_code_value, reference_high_quantity_represented, descriptor, transfer_characteristic, colorimetric_specification, bit_size, packing, encoding, offset_to_data, end_of_line_padding, end_of_image_padding, description_of_image_element, reserved_of_image_information, x_offset, y_offset, x_center, y_center, x_original_size, y_original_size, source_image_file_name, source_image_date_and_time, input_device_name, input_device_serial_number, border_validity, pixel_aspect_ratio, reserved_of_image_orientation, film_manufacturer_id_code, film_type, offset_in_perfs, prefix, count, format, frame_position_in_sequence, sequence_length, held_count, frame_rate_of_original, shutter_angle_of_camera, frame_identification, slate_information, reserved_of_film, smpte_time_code, smpte_user_bits, interlace, field_number, video_signal_standard, zero_of_television, horizontal_sampling_rate, vertical_sampling_rate, temporal_sampling_rate, time_offset_from_sync_to_first_pixel, gamma_value, black_level_code_value, black_gain, breakpoint, reference_white_level_code_value, integration_times, reserved_of_television}

-- A field with the number that is written there.
abbrev pub Row : Type 0
Row = HeaderField × ℕ

-- All ones, as the standard writes a number that has no value.
abbrev pub undefined : HeaderField → Row
undefined f = (f, 256 ^ f.size - 1)

-- All zeros, as an empty text is written.
abbrev pub empty : HeaderField → Row
empty f = (f, 0)

-- The bytes of a row, most significant byte first.
abbrev pub row_bytes : Row → List ℕ
row_bytes r = big_bytes r.0.size r.1

abbrev pub file_information : ℕ → List Row
file_information file_size =
    -- `SDPX`
    (magic_number, 0x53445058)
    ∷ (offset_to_image_data, header_size)
    -- `V1.0` and four zeros
    ∷ (version_number_of_header_format, 0x56312E3000000000)
    ∷ (total_image_file_size, file_size)
    ∷ (ditto_key, 1)
    ∷ (generic_section_header_length, 1664)
    ∷ (industry_specific_header_length, 384)
    ∷ (user_defined_header_length, 0)
    ∷ empty image_file_name
    ∷ empty creation_date_and_time
    ∷ empty creator
    ∷ empty project_name
    ∷ empty right_to_use_or_copyright_statement
    ∷ undefined encryption_key
    ∷ empty reserved_of_file_information
    ∷ []

abbrev pub image_information : ℕ → ℕ → List Row
image_information width height =
    (image_orientation, 0)
    ∷ (number_of_image_elements, 1)
    ∷ (pixels_per_line, width)
    ∷ (lines_per_image_element, height)
    ∷ []

-- Image element 0: unsigned codes of red, green and blue, method A at ten bits and packing 0 at sixteen.
abbrev pub first_element : ℕ → List Row
first_element depth =
    (data_sign 0, 0)
    ∷ (reference_low_data_code_value 0, 0)
    ∷ undefined (reference_low_quantity_represented 0)
    ∷ (reference_high_data_code_value 0, 2 ^ depth - 1)
    ∷ undefined (reference_high_quantity_represented 0)
    ∷ (descriptor 0, 50)
    ∷ (transfer_characteristic 0, 0)
    ∷ (colorimetric_specification 0, 0)
    ∷ (bit_size 0, depth)
    ∷ (packing 0, if depth == 10 then 1 else 0)
    ∷ (encoding 0, 0)
    ∷ (offset_to_data 0, header_size)
    ∷ (end_of_line_padding 0, 0)
    ∷ (end_of_image_padding 0, 0)
    ∷ empty (description_of_image_element 0)
    ∷ []

-- Image element k, for k from 1 to 7, which is not used.
abbrev pub unused_element : ℕ → List Row
unused_element k =
    undefined (data_sign k)
    ∷ undefined (reference_low_data_code_value k)
    ∷ undefined (reference_low_quantity_represented k)
    ∷ undefined (reference_high_data_code_value k)
    ∷ undefined (reference_high_quantity_represented k)
    ∷ undefined (descriptor k)
    ∷ undefined (transfer_characteristic k)
    ∷ undefined (colorimetric_specification k)
    ∷ undefined (bit_size k)
    ∷ undefined (packing k)
    ∷ undefined (encoding k)
    ∷ undefined (offset_to_data k)
    ∷ undefined (end_of_line_padding k)
    ∷ undefined (end_of_image_padding k)
    ∷ empty (description_of_image_element k)
    ∷ []

abbrev pub orientation_header : List Row
orientation_header =
    empty reserved_of_image_information
    ∷ undefined x_offset
    ∷ undefined y_offset
    ∷ undefined x_center
    ∷ undefined y_center
    ∷ undefined x_original_size
    ∷ undefined y_original_size
    ∷ empty source_image_file_name
    ∷ empty source_image_date_and_time
    ∷ empty input_device_name
    ∷ empty input_device_serial_number
    ∷ undefined (border_validity 0)
    ∷ undefined (border_validity 1)
    ∷ undefined (border_validity 2)
    ∷ undefined (border_validity 3)
    ∷ undefined (pixel_aspect_ratio 0)
    ∷ undefined (pixel_aspect_ratio 1)
    ∷ empty reserved_of_image_orientation
    ∷ []

abbrev pub film_header : List Row
film_header =
    empty film_manufacturer_id_code
    ∷ empty film_type
    ∷ empty offset_in_perfs
    ∷ empty prefix
    ∷ empty count
    ∷ empty format
    ∷ undefined frame_position_in_sequence
    ∷ undefined sequence_length
    ∷ undefined held_count
    ∷ undefined frame_rate_of_original
    ∷ undefined shutter_angle_of_camera
    ∷ empty frame_identification
    ∷ empty slate_information
    ∷ empty reserved_of_film
    ∷ []

abbrev pub television_header : List Row
television_header =
    undefined smpte_time_code
    ∷ undefined smpte_user_bits
    ∷ undefined interlace
    ∷ undefined field_number
    ∷ undefined video_signal_standard
    ∷ undefined zero_of_television
    ∷ undefined horizontal_sampling_rate
    ∷ undefined vertical_sampling_rate
    ∷ undefined temporal_sampling_rate
    ∷ undefined time_offset_from_sync_to_first_pixel
    ∷ undefined gamma_value
    ∷ undefined black_level_code_value
    ∷ undefined black_gain
    ∷ undefined breakpoint
    ∷ undefined reference_white_level_code_value
    ∷ undefined integration_times
    ∷ empty reserved_of_television
    ∷ []

-- ---- the pixels

-- At ten bits a pixel is one word, with red in bits 31 to 22, green in 21 to 12 and blue in 11 to 2.
abbrev pub ten_bit_words : List ℕ → List ℕ
ten_bit_words (r ∷ g ∷ b ∷ rest) = big_bytes 4 (r * 2 ^ 22 + g * 2 ^ 12 + b * 2 ^ 2) ++ ten_bit_words rest
ten_bit_words _ = []

-- The pixels, line after line with nothing between. At sixteen bits each code is a number of two bytes.
unfoldable pub pixels : ℕ → List ℕ → List ℕ
pixels depth codes = if depth == 10 then ten_bit_words codes else flat_map (big_bytes 2) codes

-- ---- the whole

-- All fields of the header, in their order.
unfoldable pub header_rows : ℕ → ℕ → ℕ → ℕ → List Row
header_rows file_size width height depth =
    file_information file_size
    ++ image_information width height
    ++ first_element depth
    ++ flat_map unused_element (range_with_len 1 7)
    ++ orientation_header
    ++ film_header
    ++ television_header

-- The bytes of the header, where all bytes of the file are so many.
unfoldable pub header : ℕ → PlainImage → List ℕ
header file_size image = flat_map row_bytes (header_rows file_size image.width image.height image.depth)

-- The file that is written for an image.
unfoldable pub dpx_writing : PlainImage → List ℕ
dpx_writing image =
    let body = pixels image.depth image.codes in
    header (header_size + length body) image ++ body
