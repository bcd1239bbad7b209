use Rattle.std.proofs.Common.{rules}
use Rattle.ctl_check.proofs.Tokens.{unit_tokens}
use Rattle.ctl_check.proofs.units.define_unit.Goals as goal

pub define_all-requires-clause-tokens : goal.define_all-requires-clause-tokens
define_all-requires-clause-tokens c =
    let own = unit_tokens c.args.scope.now c.args.definitions.now c.args.place c.args.unit.now c.requires.unit c.module-module.ensures.own in
    search rules
