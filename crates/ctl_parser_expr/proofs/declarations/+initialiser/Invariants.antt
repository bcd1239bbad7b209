use Rattle.std.proofs.Common.{◌*◌, ◌+◌, ◌-◌, ◌∷◌, ◌++◌, List, length, ℕ, Some}
use Rattle.ctl_base.specs.declared.limits.TheConstants.{NESTING}
use Rattle.ctl_tree.specs.declared.declaration.Initialiser.{Initialiser}
use Rattle.ctl_tree.specs.declared.declaration.Initialiser.TheVariants.{List as ListForm}
use Rattle.ctl_tree.specs.declared.declaration.BraceList.{roll-BraceList}
use Rattle.ctl_tree.specs.Declarations.{IsInitialiser, AreMoreElements}
use Rattle.grammar_machine.specs.Machine.{Symbol, Initialiser as InitialiserSymbol, MoreElements}
use Rattle.ctl_parser_expr.specs.Parses.{Comes, At, IsBetween}
use Rattle.ctl_parser_expr.proofs.declarations.+initialiser.Given as goal

abbrev pub decreases-brace_list : goal.decreases-brace_list
decreases-brace_list l = 2 * (NESTING - l.nesting)

abbrev pub decreases-initialiser : goal.decreases-initialiser
decreases-initialiser l = 2 * (NESTING - l.nesting) + 1

-- whatever follows, what has been read stands before it
abbrev pub invariant-brace_list-each : goal.invariant-brace_list-each
invariant-brace_list-each l = record {
  spelled : (more : List Initialiser) (after : ℕ) → AreMoreElements l.lexemes (Some NESTING) l.nesting l.next more after
      → (inner : ℕ) → IsInitialiser l.lexemes (Some NESTING) l.nesting inner l.at (ListForm (roll-BraceList (record { elements = l.elements.items ++ more; token = l.at }))) after;
  passed : (below : List Symbol) → Comes l.lexemes (Some NESTING) (InitialiserSymbol (l.nesting + 1) (l.nesting + 1) ∷ MoreElements l.nesting ∷ below) (l.at + 1) (At (MoreElements l.nesting ∷ below) l.next);
  between : IsBetween (l.at + 1) l.next l.lexemes;
}

abbrev pub decreases-brace_list-each : goal.decreases-brace_list-each
decreases-brace_list-each l = length l.lexemes - l.next
