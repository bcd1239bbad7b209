use Rattle.std.proofs.Common.{ℕ, ◌-◌, List, ◌∷◌, ◌++◌, Some, length}
use Rattle.ctl_base.specs.declared.limits.TheConstants.{NESTING}
use Rattle.ctl_tree.specs.declared.statement.PrintItem.{PrintItem}
use Rattle.ctl_tree.specs.Statements.{IsItem, AreMoreItems}
use Rattle.grammar_machine.specs.Machine.{Symbol, Item, MoreItems}
use Rattle.ctl_parser_expr.specs.Parses.{Comes, At, IsBetween}
use Rattle.ctl_parser.specs.PrivateParts.{Several}
use Rattle.ctl_parser.proofs.statements.items.Given as goal

-- whatever follows, what has been read stands before it
abbrev pub invariant-each : goal.invariant-each
invariant-each l = record {
  spelled : (more : List PrintItem) (after : ℕ) → AreMoreItems l.lexemes (Some NESTING) l.nesting l.next more after
      → Several (IsItem l.lexemes (Some NESTING) l.nesting) (AreMoreItems l.lexemes (Some NESTING) l.nesting) l.at (l.items.items ++ more) after;
  passed : (below : List Symbol) → Comes l.lexemes (Some NESTING) (Item l.nesting ∷ MoreItems l.nesting ∷ below) l.at (At (MoreItems l.nesting ∷ below) l.next);
  between : IsBetween l.at l.next l.lexemes;
}

abbrev pub decreases-each : goal.decreases-each
decreases-each l = length l.lexemes - l.next
