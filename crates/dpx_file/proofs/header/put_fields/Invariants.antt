use Rattle.std.proofs.Common.{◌≡◌, ◌++◌, take}
use Rattle.std.specs.List.{flat_map}
use Rattle.dpx_file.specs.Rows.{bytes_of}
use Rattle.dpx_file.proofs.header.put_fields.Given as goal

abbrev pub invariant-rows : goal.invariant-rows
invariant-rows l = l.out.items ≡ l.initial.out.items ++ flat_map bytes_of (take l.field-index l.fields)
