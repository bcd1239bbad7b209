use Rattle.std.proofs.Common.{ℕ, ◌+◌, ◌-◌, ◌<◌, ◌≤◌, List, ◌∷◌, ◌++◌, Some, length}
use Rattle.ctl_base.specs.declared.limits.TheConstants.{NESTING, TEXT_BYTES}
use Rattle.ctl_tree.specs.Lexemes.{SeesName}
use Rattle.ctl_tree.specs.Names.{AreNames}
use Rattle.grammar_machine.specs.Machine.{Symbol, MoreNames}
use Rattle.ctl_parser_expr.specs.Parses.{Comes, At}
use Rattle.ctl_parser_expr.proofs.names.names.Given as goal

-- whatever names follow from the last one on, the namespaces stand before them
abbrev pub invariant-each : goal.invariant-each
invariant-each l = record {
  spelled : (spaces : List (List ℕ)) (name : List ℕ) (after : ℕ) → AreNames l.lexemes l.place spaces name after → AreNames l.lexemes l.at (l.spaces.items ++ spaces) name after;
  last : SeesName l.lexemes l.place l.last;
  passed : (below : List Symbol) → Comes l.lexemes (Some NESTING) (MoreNames ∷ below) (l.at + 1) (At (MoreNames ∷ below) (l.place + 1));
  from : l.at ≤ l.place;
  within : l.place < length l.lexemes;
  few : length l.lexemes ≤ TEXT_BYTES;
}

abbrev pub decreases-each : goal.decreases-each
decreases-each l = length l.lexemes - l.place
