use Rattle.std.proofs.Common.{rules}
use Rattle.ctl_check.proofs.program.program_of.Goals as goal

pub new-requires-clause-stands : goal.new-requires-clause-stands
new-requires-clause-stands c =
    let stands = c.entry_stands_checked.ensures c.args.units.now (record { made = c.args.definitions; scope = c.requires.0 }) c.requires.1 in
    search rules
