use Rattle.std.proofs.Common.{ℕ, ◌-◌, ◌≤◌, List, ◌∷◌, ◌++◌, Some, length}
use Rattle.ctl_base.specs.declared.limits.TheConstants.{NESTING}
use Rattle.ctl_tree.specs.declared.declaration.ArraySize.{ArraySize}
use Rattle.ctl_tree.specs.Declarations.{AreSizes}
use Rattle.grammar_machine.specs.Machine.{Symbol, Sizes}
use Rattle.ctl_parser_expr.specs.Parses.{Comes, At}
use Rattle.ctl_parser_expr.proofs.declarations.sizes.Given as goal

-- whatever follows, what has been read stands before it
abbrev pub invariant-each : goal.invariant-each
invariant-each l = record {
  spelled : (more : List ArraySize) (after : ℕ) → AreSizes l.lexemes (Some NESTING) l.nesting l.next more after
      → AreSizes l.lexemes (Some NESTING) l.nesting l.at (l.sizes.items ++ more) after;
  passed : (below : List Symbol) → Comes l.lexemes (Some NESTING) (Sizes l.nesting ∷ below) l.at (At (Sizes l.nesting ∷ below) l.next);
  from : l.at ≤ l.next;
  within : l.next ≤ length l.lexemes;
}

abbrev pub decreases-each : goal.decreases-each
decreases-each l = length l.lexemes - l.next
