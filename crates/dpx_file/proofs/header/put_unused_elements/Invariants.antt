use Rattle.std.proofs.Common.{◌≡◌, ◌++◌, ◌-◌}
use Rattle.std.specs.List.{flat_map, range_with_len}
use Rattle.dpx_file.specs.Writing.{row_bytes, unused_element}
use Rattle.dpx_file.proofs.header.put_unused_elements.Given as goal

abbrev pub invariant-elements : goal.invariant-elements
invariant-elements l = l.out.items ≡ l.initial.out.items ++ flat_map row_bytes (flat_map unused_element (range_with_len 1 (l._k - 1)))
