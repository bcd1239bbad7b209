use Rattle.std.proofs.Common.{ℕ, ◌-◌, List, ◌∷◌, ◌++◌, Some, length}
use Rattle.ctl_base.specs.declared.limits.TheConstants.{NESTING}
use Rattle.ctl_tree.specs.declared.definition.Parameter.{Parameter}
use Rattle.ctl_tree.specs.Modules.{AreParameters, AreMoreParameters}
use Rattle.grammar_machine.specs.Machine.{Symbol, Parameters, MoreParameters}
use Rattle.ctl_parser_expr.specs.Parses.{Comes, At, IsBetween}
use Rattle.ctl_parser.proofs.parameters.parameters.Given as goal

-- whatever follows, what has been read stands before it
abbrev pub invariant-each : goal.invariant-each
invariant-each l = record {
  spelled : (more : List Parameter) (after : ℕ) → AreMoreParameters l.lexemes (Some NESTING) l.nesting l.next more after
      → AreParameters l.lexemes (Some NESTING) l.nesting l.at (l.parameters.items ++ more) after;
  passed : (below : List Symbol) → Comes l.lexemes (Some NESTING) (Parameters l.nesting ∷ below) l.at (At (MoreParameters l.nesting ∷ below) l.next);
  between : IsBetween l.at l.next l.lexemes;
}

abbrev pub decreases-each : goal.decreases-each
decreases-each l = length l.lexemes - l.next
