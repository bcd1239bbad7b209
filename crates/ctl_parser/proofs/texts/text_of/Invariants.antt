use Rattle.std.proofs.Common.{◌≡◌, ◌-◌, ◌≤◌, ◌++◌, drop, length}
use Rattle.ctl_tree.specs.Texts.{unescaped}
use Rattle.ctl_parser.proofs.texts.text_of.Given as goal

-- what has been written stands before what the rest stands for
abbrev pub invariant-each : goal.invariant-each
invariant-each l = record {
  written : l.text.items ++ unescaped (drop l.next l.inside) ≡ unescaped l.inside;
  within : l.next ≤ length l.inside;
}

abbrev pub decreases-each : goal.decreases-each
decreases-each l = length l.inside - l.next
