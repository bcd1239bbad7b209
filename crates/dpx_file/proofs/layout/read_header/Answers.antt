use Rattle.std.proofs.Common.{refl}
use Rattle.std.proofs.lemmas.List.{take_rest}
use Rattle.dpx_file.specs.Reading.{header_of}
use Rattle.dpx_file.proofs.layout.read_header.Goals as goal

pub returns : goal.returns
unfolding header_of
returns g c =
    rw (
      rw take_rest at c.read_u32.ensures,
      rw take_rest at c.read_u16.ensures,
      rw take_rest at c.read_u16-2.ensures,
      rw take_rest at c.read_u32-2.ensures,
      rw take_rest at c.read_u32-3.ensures,
      rw take_rest at c.read_u32-4.ensures,
      rw take_rest at c.read_u8.ensures,
      rw take_rest at c.read_u8-2.ensures,
      rw take_rest at c.read_u16-3.ensures,
      rw take_rest at c.read_u16-4.ensures,
      rw take_rest at c.read_u32-5.ensures,
      rw take_rest at c.read_u32-6.ensures,
      rw take_rest at c.read_u32-7.ensures,
    ) refl
