-- What the code keeps of a header, as plain data.
use Rattle.dpx_file.specs.declared.layout.Layout.{Layout}
use Rattle.dpx_file.specs.declared.layout.Header.{Header}
use Rattle.dpx_file.specs.Reading.{Header as PlainHeader, Layout as PlainLayout}

-- The layout that the code keeps.
abbrev pub plain_layout : Layout → PlainLayout
plain_layout l =
    record { width = l.width; height = l.height; depth = l.depth; packing = l.packing; offset = l.offset; padding = l.padding }

-- The fields that the code keeps.
abbrev pub plain_header : Header → PlainHeader
plain_header h = record {
  encryption_key = h.encryption_key;
  image_orientation = h.image_orientation;
  number_of_image_elements = h.number_of_image_elements;
  pixels_per_line = h.pixels_per_line;
  lines_per_image_element = h.lines_per_image_element;
  data_sign = h.data_sign;
  descriptor = h.descriptor;
  bit_size = h.bit_size;
  packing = h.packing;
  encoding = h.encoding;
  offset_to_data = h.offset_to_data;
  offset_to_image_data = h.offset_to_image_data;
  end_of_line_padding = h.end_of_line_padding;
}
