use Rattle.std.proofs.Common.{◌≡◌, ◌+◌, drop}
use Rattle.level_rules.specs.Reached.{number_in}
use Rattle.level_table.proofs.instance.number_in.Given as goal

abbrev pub invariant-loop-own : goal.invariant-loop-own
invariant-loop-own l = record {
  at : l.number ≡ l.own-index;
  rest : number_in (drop l.own-index l.table) l.instance + l.number ≡ number_in l.table l.instance;
}
