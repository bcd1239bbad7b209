use Rattle.std.proofs.Common.{ℕ, ◌-◌, List, ◌∷◌, ◌++◌, Some, length}
use Rattle.ctl_base.specs.declared.limits.TheConstants.{NESTING}
use Rattle.ctl_tree.specs.declared.definition.Field.{Field}
use Rattle.ctl_tree.specs.Modules.{IsField, AreMoreFields}
use Rattle.grammar_machine.specs.Machine.{Symbol, Field as FieldSymbol, MoreFields}
use Rattle.ctl_parser_expr.specs.Parses.{Comes, At, IsBetween}
use Rattle.ctl_parser.specs.PrivateParts.{Several}
use Rattle.ctl_parser.proofs.definitions.fields.Given as goal

-- whatever follows, what has been read stands before it
abbrev pub invariant-each : goal.invariant-each
invariant-each l = record {
  spelled : (more : List Field) (after : ℕ) → AreMoreFields l.lexemes (Some NESTING) l.nesting l.next more after
      → Several (IsField l.lexemes (Some NESTING) l.nesting) (AreMoreFields l.lexemes (Some NESTING) l.nesting) l.at (l.fields.items ++ more) after;
  passed : (below : List Symbol) → Comes l.lexemes (Some NESTING) (FieldSymbol l.nesting ∷ MoreFields l.nesting ∷ below) l.at (At (MoreFields l.nesting ∷ below) l.next);
  between : IsBetween l.at l.next l.lexemes;
}

abbrev pub decreases-each : goal.decreases-each
decreases-each l = length l.lexemes - l.next
