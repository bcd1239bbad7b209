use Rattle.std.proofs.Common.{ℕ, ◌+◌, ◌-◌, ◌*◌, ◌≤◌, List, ◌∷◌, ◌++◌, Option, Some, length}
use Rattle.ctl_base.specs.declared.limits.TheConstants.{NESTING}
use Rattle.ctl_tree.specs.declared.statement.Arm.{Arm}
use Rattle.ctl_tree.specs.declared.statement.If.{roll-If}
use Rattle.ctl_tree.specs.declared.statement.Statement.{Statement}
use Rattle.ctl_tree.specs.Statements.{AreStatements, AreElses}
use Rattle.grammar_machine.specs.Machine.{Symbol, Statements, Arm as ArmSymbol, Elses}
use Rattle.ctl_parser_expr.specs.Parses.{Comes, At, IsBetween}
use Rattle.ctl_parser.specs.PrivateParts.{AreArms}
use Rattle.ctl_parser.proofs.statements.+statement.Given as goal

-- the nesting that may still come, and the order of the calls at one nesting

abbrev pub decreases-statements : goal.decreases-statements
decreases-statements l = 10 * (NESTING - l.nesting)

abbrev pub decreases-arm : goal.decreases-arm
decreases-arm l = 10 * (NESTING - l.nesting)

abbrev pub decreases-arms : goal.decreases-arms
decreases-arms l = 10 * (NESTING - l.nesting) + 1

abbrev pub decreases-block : goal.decreases-block
decreases-block l = 10 * (NESTING - l.nesting) + 1

abbrev pub decreases-if_statement : goal.decreases-if_statement
decreases-if_statement l = 10 * (NESTING - l.nesting) + 2

abbrev pub decreases-while_statement : goal.decreases-while_statement
decreases-while_statement l = 10 * (NESTING - l.nesting)

abbrev pub decreases-for_statement : goal.decreases-for_statement
decreases-for_statement l = 10 * (NESTING - l.nesting)

abbrev pub decreases-keyword_statement : goal.decreases-keyword_statement
decreases-keyword_statement l = 10 * (NESTING - l.nesting) + 3

abbrev pub decreases-statement : goal.decreases-statement
decreases-statement l = 10 * (NESTING - l.nesting) + 4

-- whatever follows, what has been read stands before it

abbrev pub invariant-statements-each : goal.invariant-statements-each
invariant-statements-each l = record {
  spelled : (more : List Statement) (after : ℕ) → AreStatements l.lexemes (Some NESTING) l.nesting l.next more after
      → AreStatements l.lexemes (Some NESTING) l.nesting l.at (l.statements.items ++ more) after;
  passed : (below : List Symbol) → Comes l.lexemes (Some NESTING) (Statements l.nesting ∷ below) l.at (At (Statements l.nesting ∷ below) l.next);
  from : l.at ≤ l.next;
  within : l.next ≤ length l.lexemes;
}

abbrev pub decreases-statements-each : goal.decreases-statements-each
decreases-statements-each l = length l.lexemes - l.next

abbrev pub invariant-arms-each : goal.invariant-arms-each
invariant-arms-each l = record {
  spelled : (more : List Arm) (otherwise : Option Statement) (after : ℕ) → AreElses l.lexemes (Some NESTING) l.nesting l.next more otherwise after
      → AreArms l.lexemes l.nesting l.at (roll-If (record { arms = l.arms.items ++ more; otherwise = otherwise; token = l.at })) after;
  passed : (below : List Symbol) → Comes l.lexemes (Some NESTING) (ArmSymbol l.nesting ∷ Elses l.nesting ∷ below) (l.at + 1) (At (Elses l.nesting ∷ below) l.next);
  between : IsBetween (l.at + 1) l.next l.lexemes;
}

abbrev pub decreases-arms-each : goal.decreases-arms-each
decreases-arms-each l = length l.lexemes - l.next
