use Rattle.std.proofs.Common.{◌≡◌, ◌≢◌, ◌⊎◌, [], ◌≤◌, ◌<◌, ◌*◌, ◌+◌, ◌-◌, List, length, ◌++◌, ◌∷◌, ℕ, Some}
use Rattle.ctl_base.specs.declared.limits.TheConstants.{NESTING}
use Rattle.ctl_tree.specs.declared.expression.Expr.{Expr}
use Rattle.ctl_tree.specs.declared.expression.Link.{Link}
use Rattle.ctl_tree.specs.declared.expression.Step.{Step}
use Rattle.ctl_tree.specs.Names.{operator_levels}
use Rattle.ctl_tree.specs.Expressions.{IsOperand, AreLinks, AreSteps, AreArguments, AreMoreArguments, last_operator}
use Rattle.grammar_machine.specs.Machine.{Symbol, Operand, Links, Steps, Arguments, MoreArguments}
use Rattle.ctl_parser_expr.specs.Parses.{Comes, At, IsBetween}
use Rattle.ctl_parser_expr.proofs.Climb.{ladder}
use Rattle.ctl_parser_expr.proofs.expressions.+expression.Given as goal

-- the nesting that may still come, and the order of the calls at one nesting

abbrev pub decreases-steps : goal.decreases-steps
decreases-steps l = 30 * (NESTING - l.nesting)

abbrev pub decreases-arguments : goal.decreases-arguments
decreases-arguments l = 30 * (NESTING - l.nesting)

abbrev pub decreases-named : goal.decreases-named
decreases-named l = 30 * (NESTING - l.nesting) + 1

abbrev pub decreases-primary : goal.decreases-primary
decreases-primary l = 30 * (NESTING - l.nesting) + 2

abbrev pub decreases-postfix : goal.decreases-postfix
decreases-postfix l = 30 * (NESTING - l.nesting) + 3

abbrev pub decreases-unary : goal.decreases-unary
decreases-unary l = 30 * (NESTING - l.nesting) + 4

abbrev pub decreases-chain : goal.decreases-chain
decreases-chain l = 30 * (NESTING - l.nesting) + 2 * (operator_levels - l.level) + 5

abbrev pub decreases-operand : goal.decreases-operand
decreases-operand l = 30 * (NESTING - l.nesting) + 2 * (operator_levels - l.level) + 6

abbrev pub decreases-expr : goal.decreases-expr
decreases-expr l = 30 * (NESTING - l.nesting) + 27

-- what has been read is an operand of the level reached, and the machine has the operators of the levels below it to come
abbrev pub invariant-operand-climb : goal.invariant-operand-climb
invariant-operand-climb l = record {
  spelled : IsOperand l.lexemes (Some NESTING) l.tight l.nesting l.at l.form l.next;
  passed : (below : List Symbol) → Comes l.lexemes (Some NESTING) (Operand l.level l.nesting ∷ below) l.at (At (ladder l.nesting l.level l.tight ++ below) l.next);
  above : l.level ≤ l.tight;
  top : l.tight ≤ operator_levels;
  between : IsBetween l.at l.next l.lexemes;
}

abbrev pub decreases-operand-climb : goal.decreases-operand-climb
decreases-operand-climb l = l.tight

-- whatever follows, what has been read stands before it
abbrev pub invariant-chain-each : goal.invariant-chain-each
invariant-chain-each l = record {
  spelled : (more : List Link) (after : ℕ) → AreLinks l.lexemes (Some NESTING) l.level l.nesting l.next more after
      → AreLinks l.lexemes (Some NESTING) l.level l.nesting l.at (l.links.items ++ more) after;
  either : ((l.links.items ≡ []) × (l.next ≡ l.at)) ⊎ ((l.links.items ≢ []) × (l.at < l.next));
  last : l.token ≡ last_operator l.links.items;
  passed : (below : List Symbol) → Comes l.lexemes (Some NESTING) (Links l.level l.nesting ∷ below) l.at (At (Links l.level l.nesting ∷ below) l.next);
  from : l.at ≤ l.next;
  within : l.next ≤ length l.lexemes;
}

abbrev pub decreases-chain-each : goal.decreases-chain-each
decreases-chain-each l = length l.lexemes - l.next

abbrev pub invariant-steps-each : goal.invariant-steps-each
invariant-steps-each l = record {
  spelled : (more : List Step) (after : ℕ) → AreSteps l.lexemes (Some NESTING) l.nesting l.next more after
      → AreSteps l.lexemes (Some NESTING) l.nesting l.at (l.steps.items ++ more) after;
  passed : (below : List Symbol) → Comes l.lexemes (Some NESTING) (Steps l.nesting ∷ below) l.at (At (Steps l.nesting ∷ below) l.next);
  from : l.at ≤ l.next;
  within : l.next ≤ length l.lexemes;
}

abbrev pub decreases-steps-each : goal.decreases-steps-each
decreases-steps-each l = length l.lexemes - l.next

abbrev pub invariant-arguments-each : goal.invariant-arguments-each
invariant-arguments-each l = record {
  spelled : (more : List Expr) (after : ℕ) → AreMoreArguments l.lexemes (Some NESTING) l.nesting l.next more after
      → AreArguments l.lexemes (Some NESTING) l.nesting l.at (l.arguments.items ++ more) after;
  passed : (below : List Symbol) → Comes l.lexemes (Some NESTING) (Arguments l.nesting ∷ below) l.at (At (MoreArguments l.nesting ∷ below) l.next);
  shallow : l.nesting + 1 ≤ NESTING;
  between : IsBetween l.at l.next l.lexemes;
}

abbrev pub decreases-arguments-each : goal.decreases-arguments-each
decreases-arguments-each l = length l.lexemes - l.next
