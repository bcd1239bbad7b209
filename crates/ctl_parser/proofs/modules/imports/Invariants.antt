use Rattle.std.proofs.Common.{ℕ, ◌-◌, ◌≤◌, List, ◌∷◌, ◌++◌, Some, length}
use Rattle.ctl_base.specs.declared.limits.TheConstants.{NESTING}
use Rattle.ctl_tree.specs.declared.definition.Import.{Import}
use Rattle.ctl_tree.specs.Modules.{AreImports}
use Rattle.grammar_machine.specs.Machine.{Symbol, Imports}
use Rattle.ctl_parser_expr.specs.Parses.{Comes, At}
use Rattle.ctl_parser.proofs.modules.imports.Given as goal

-- whatever follows, what has been read stands before it
abbrev pub invariant-each : goal.invariant-each
invariant-each l = record {
  spelled : (more : List Import) (after : ℕ) → AreImports l.lexemes l.next more after → AreImports l.lexemes l.at (l.imports.items ++ more) after;
  passed : (below : List Symbol) → Comes l.lexemes (Some NESTING) (Imports ∷ below) l.at (At (Imports ∷ below) l.next);
  from : l.at ≤ l.next;
  within : l.next ≤ length l.lexemes;
}

abbrev pub decreases-each : goal.decreases-each
decreases-each l = length l.lexemes - l.next
