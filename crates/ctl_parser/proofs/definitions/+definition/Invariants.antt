use Rattle.std.proofs.Common.{ℕ, ◌+◌, ◌-◌, ◌*◌, ◌≤◌, List, ◌∷◌, ◌++◌, Some, length}
use Rattle.ctl_base.specs.declared.limits.TheConstants.{NESTING}
use Rattle.ctl_tree.specs.declared.definition.Definition.{Definition}
use Rattle.ctl_tree.specs.Modules.{AreDefinitions}
use Rattle.grammar_machine.specs.Machine.{Symbol, Definitions}
use Rattle.ctl_parser_expr.specs.Parses.{Comes, At}
use Rattle.ctl_parser.proofs.definitions.+definition.Given as goal

abbrev pub decreases-namespace : goal.decreases-namespace
decreases-namespace l = 3 * (NESTING + 1 - l.nesting)

abbrev pub decreases-definition : goal.decreases-definition
decreases-definition l = 3 * (NESTING + 1 - l.nesting) + 1

abbrev pub decreases-definitions : goal.decreases-definitions
decreases-definitions l = 3 * (NESTING + 1 - l.nesting) + 2

-- whatever follows, what has been read stands before it
abbrev pub invariant-definitions-each : goal.invariant-definitions-each
invariant-definitions-each l = record {
  spelled : (more : List Definition) (after : ℕ) → AreDefinitions l.lexemes (Some NESTING) l.nesting l.next more after
      → AreDefinitions l.lexemes (Some NESTING) l.nesting l.at (l.definitions.items ++ more) after;
  passed : (below : List Symbol) → Comes l.lexemes (Some NESTING) (Definitions l.nesting ∷ below) l.at (At (Definitions l.nesting ∷ below) l.next);
  from : l.at ≤ l.next;
  within : l.next ≤ length l.lexemes;
}

abbrev pub decreases-definitions-each : goal.decreases-definitions-each
decreases-definitions-each l = length l.lexemes - l.next
