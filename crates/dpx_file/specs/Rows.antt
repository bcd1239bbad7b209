-- A row of the header as the code has it: its size in bytes, and its number.
use Rattle.std.specs.Prelude.{ℕ, List}
use Rattle.byteorder.specs.Endian.{big_bytes}
use Rattle.dpx_file.specs.declared.header.FieldValue.{FieldValue}
use Rattle.dpx_file.specs.Writing.{Row}

abbrev pub plain : FieldValue → ℕ × ℕ
plain r = (r.size, r.number)

abbrev pub sized : Row → ℕ × ℕ
sized r = (r.0.size, r.1)

abbrev pub bytes_of : FieldValue → List ℕ
bytes_of r = big_bytes r.size r.number
