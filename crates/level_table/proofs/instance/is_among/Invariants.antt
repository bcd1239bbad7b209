use Rattle.std.proofs.Common.{◌≡◌, drop}
use Rattle.level_rules.specs.Reached.{is_among}
use Rattle.level_table.proofs.instance.is_among.Given as goal

abbrev pub invariant-loop-own : goal.invariant-loop-own
invariant-loop-own l = is_among (drop l.own-index l.table) l.instance ≡ is_among l.table l.instance
