use Rattle.std.proofs.Common.{rules, ◌≡◌}
use Rattle.ctl_types.specs.Definitions.{library_structs}
use Rattle.ctl_program.proofs.LibraryStands.{stands_as}
use Rattle.ctl_program.proofs.definitions.Definitions.new.Goals as goal

pub invariant_of-result : goal.invariant_of-result
invariant_of-result c =
    let structs : c.push.new.self ≡ library_structs = search rules in
    stands_as c.half_keeps.ensures c.arithmetic_stays_in_range.ensures _ _ _ _ structs c.in_ok-constants.ensures c.new.ensures
