-- The header of SMPTE 268M: where each field begins, in bytes from the start of the file, and how many bytes it has.
use Rattle.std.specs.Prelude.{ℕ, ◌+◌, ◌*◌}

pub record HeaderField : Type 0 where
  pub at : ℕ
  pub size : ℕ

abbrev pub field : ℕ → ℕ → HeaderField
field at size = record { at = at; size = size }

-- The bytes of the whole header.
abbrev pub header_size : ℕ
header_size = 2048

-- ---- file information

abbrev pub magic_number : HeaderField
magic_number = field 0 4

abbrev pub offset_to_image_data : HeaderField
offset_to_image_data = field 4 4

abbrev pub version_number_of_header_format : HeaderField
version_number_of_header_format = field 8 8

abbrev pub total_image_file_size : HeaderField
total_image_file_size = field 16 4

abbrev pub ditto_key : HeaderField
ditto_key = field 20 4

abbrev pub generic_section_header_length : HeaderField
generic_section_header_length = field 24 4

abbrev pub industry_specific_header_length : HeaderField
industry_specific_header_length = field 28 4

abbrev pub user_defined_header_length : HeaderField
user_defined_header_length = field 32 4

abbrev pub image_file_name : HeaderField
image_file_name = field 36 100

abbrev pub creation_date_and_time : HeaderField
creation_date_and_time = field 136 24

abbrev pub creator : HeaderField
creator = field 160 100

abbrev pub project_name : HeaderField
project_name = field 260 200

abbrev pub right_to_use_or_copyright_statement : HeaderField
right_to_use_or_copyright_statement = field 460 200

abbrev pub encryption_key : HeaderField
encryption_key = field 660 4

abbrev pub reserved_of_file_information : HeaderField
reserved_of_file_information = field 664 104

-- ---- image information

abbrev pub image_orientation : HeaderField
image_orientation = field 768 2

abbrev pub number_of_image_elements : HeaderField
number_of_image_elements = field 770 2

abbrev pub pixels_per_line : HeaderField
pixels_per_line = field 772 4

abbrev pub lines_per_image_element : HeaderField
lines_per_image_element = field 776 4

-- ---- image element k, for k from 0 to 7

-- a field at so many bytes from the start of image element k
abbrev pub of_element : ℕ → ℕ → ℕ → HeaderField
of_element at size k = field (780 + 72 * k + at) size

abbrev pub data_sign : ℕ → HeaderField
data_sign = of_element 0 4

abbrev pub reference_low_data_code_value : ℕ → HeaderField
reference_low_data_code_value = of_element 4 4

abbrev pub reference_low_quantity_represented : ℕ → HeaderField
reference_low_quantity_represented = of_element 8 4

abbrev pub reference_high_data_code_value : ℕ → HeaderField
reference_high_data_code_value = of_element 12 4

abbrev pub reference_high_quantity_represented : ℕ → HeaderField
reference_high_quantity_represented = of_element 16 4

abbrev pub descriptor : ℕ → HeaderField
descriptor = of_element 20 1

abbrev pub transfer_characteristic : ℕ → HeaderField
transfer_characteristic = of_element 21 1

abbrev pub colorimetric_specification : ℕ → HeaderField
colorimetric_specification = of_element 22 1

abbrev pub bit_size : ℕ → HeaderField
bit_size = of_element 23 1

abbrev pub packing : ℕ → HeaderField
packing = of_element 24 2

abbrev pub encoding : ℕ → HeaderField
encoding = of_element 26 2

abbrev pub offset_to_data : ℕ → HeaderField
offset_to_data = of_element 28 4

abbrev pub end_of_line_padding : ℕ → HeaderField
end_of_line_padding = of_element 32 4

abbrev pub end_of_image_padding : ℕ → HeaderField
end_of_image_padding = of_element 36 4

abbrev pub description_of_image_element : ℕ → HeaderField
description_of_image_element = of_element 40 32

-- ---- after the image elements

abbrev pub reserved_of_image_information : HeaderField
reserved_of_image_information = field 1356 52

-- ---- image orientation

abbrev pub x_offset : HeaderField
x_offset = field 1408 4

abbrev pub y_offset : HeaderField
y_offset = field 1412 4

abbrev pub x_center : HeaderField
x_center = field 1416 4

abbrev pub y_center : HeaderField
y_center = field 1420 4

abbrev pub x_original_size : HeaderField
x_original_size = field 1424 4

abbrev pub y_original_size : HeaderField
y_original_size = field 1428 4

abbrev pub source_image_file_name : HeaderField
source_image_file_name = field 1432 100

abbrev pub source_image_date_and_time : HeaderField
source_image_date_and_time = field 1532 24

abbrev pub input_device_name : HeaderField
input_device_name = field 1556 32

abbrev pub input_device_serial_number : HeaderField
input_device_serial_number = field 1588 32

-- four numbers of two bytes
abbrev pub border_validity : ℕ → HeaderField
border_validity k = field (1620 + 2 * k) 2

-- two numbers of four bytes
abbrev pub pixel_aspect_ratio : ℕ → HeaderField
pixel_aspect_ratio k = field (1628 + 4 * k) 4

abbrev pub reserved_of_image_orientation : HeaderField
reserved_of_image_orientation = field 1636 28

-- ---- motion-picture film

abbrev pub film_manufacturer_id_code : HeaderField
film_manufacturer_id_code = field 1664 2

abbrev pub film_type : HeaderField
film_type = field 1666 2

abbrev pub offset_in_perfs : HeaderField
offset_in_perfs = field 1668 2

abbrev pub prefix : HeaderField
prefix = field 1670 6

abbrev pub count : HeaderField
count = field 1676 4

abbrev pub format : HeaderField
format = field 1680 32

abbrev pub frame_position_in_sequence : HeaderField
frame_position_in_sequence = field 1712 4

abbrev pub sequence_length : HeaderField
sequence_length = field 1716 4

abbrev pub held_count : HeaderField
held_count = field 1720 4

abbrev pub frame_rate_of_original : HeaderField
frame_rate_of_original = field 1724 4

abbrev pub shutter_angle_of_camera : HeaderField
shutter_angle_of_camera = field 1728 4

abbrev pub frame_identification : HeaderField
frame_identification = field 1732 32

abbrev pub slate_information : HeaderField
slate_information = field 1764 100

abbrev pub reserved_of_film : HeaderField
reserved_of_film = field 1864 56

-- ---- television

abbrev pub smpte_time_code : HeaderField
smpte_time_code = field 1920 4

abbrev pub smpte_user_bits : HeaderField
smpte_user_bits = field 1924 4

abbrev pub interlace : HeaderField
interlace = field 1928 1

abbrev pub field_number : HeaderField
field_number = field 1929 1

abbrev pub video_signal_standard : HeaderField
video_signal_standard = field 1930 1

-- a byte that only fills up
abbrev pub zero_of_television : HeaderField
zero_of_television = field 1931 1

abbrev pub horizontal_sampling_rate : HeaderField
horizontal_sampling_rate = field 1932 4

abbrev pub vertical_sampling_rate : HeaderField
vertical_sampling_rate = field 1936 4

abbrev pub temporal_sampling_rate : HeaderField
temporal_sampling_rate = field 1940 4

abbrev pub time_offset_from_sync_to_first_pixel : HeaderField
time_offset_from_sync_to_first_pixel = field 1944 4

abbrev pub gamma_value : HeaderField
gamma_value = field 1948 4

abbrev pub black_level_code_value : HeaderField
black_level_code_value = field 1952 4

abbrev pub black_gain : HeaderField
black_gain = field 1956 4

abbrev pub breakpoint : HeaderField
breakpoint = field 1960 4

abbrev pub reference_white_level_code_value : HeaderField
reference_white_level_code_value = field 1964 4

abbrev pub integration_times : HeaderField
integration_times = field 1968 4

abbrev pub reserved_of_television : HeaderField
reserved_of_television = field 1972 76
