-- What the checker says of printed items.
use Rattle.std.specs.Prelude.{ℕ, max, List, [], ◌∷◌, ◌++◌, Option, Some, None, Result, Ok, Err, Bool, true, false, ◌&&◌, is_some, if◌then◌else◌, length, nat_lt}
use Rattle.ctl_tree.specs.declared.statement.PrintItem.{PrintItem as Written}
use Rattle.ctl_tree.specs.declared.statement.PrintItem.TheVariants.{Text, Expr as ExprItem}
use Rattle.ctl_tree.specs.declared.statement.Print.{Print}
use Rattle.ctl_types.specs.declared.statement.PrintItem.TheVariants as item
use Rattle.ctl_types.specs.declared.statement.TypedStatement.{roll-TypedStatement}
use Rattle.ctl_types.specs.declared.statement.TypedStatement.TheOpen as form
use Rattle.ctl_types.specs.Definitions.{Defined}
use Rattle.ctl_scope.specs.declared.kind.CheckKind.{CheckKind}
use Rattle.ctl_scope.specs.declared.kind.CheckKind.TheVariants.{Mismatch}
use Rattle.ctl_scope.specs.Scope.{ScopeForm}
use Rattle.ctl_check_rules.specs.declared.checked.Checked.{Checked}
use Rattle.ctl_check_rules.specs.Faults.{Verdict, ◌>>=◌, rule_at}
use Rattle.ctl_check_expr.specs.Checking.{checked}
use Rattle.ctl_check_statement.specs.declared.stated.Printed.{Printed}
use Rattle.ctl_check_statement.specs.declared.stated.Stated.{Stated}

-- a text
abbrev pub text_printed : Printed → List ℕ → Printed
text_printed before text = record { forms = before.forms ++ item.Text text ∷ []; fit = before.fit; depth = before.depth }

-- an expression, which has a value
abbrev pub value_printed : Printed → Checked → Printed
value_printed before c = record { forms = before.forms ++ item.Value c.form ∷ []; fit = before.fit && is_some c.base; depth = max before.depth c.depth }

-- before the first item
abbrev pub none_printed : Printed
none_printed = record { forms = []; fit = true; depth = 0 }

-- an item behind those before it
abbrev pub item_printed : ScopeForm → Defined → Written → Printed → Verdict Printed
item_printed s d (Text text) before = Ok (text_printed before text.text)
item_printed s d (ExprItem e) before = do
  c ← checked s d e
  Ok (value_printed before c)

-- items from the left
abbrev pub printed : ScopeForm → Defined → List Written → Printed → Verdict Printed
printed s d [] before = Ok before
printed s d (i ∷ items) before = do
  after ← item_printed s d i before
  printed s d items after

-- There are items, and each is a text or has a value, which a call may not have. No text has a `print` without items.
abbrev pub are_printed : Printed → Bool
are_printed p = p.fit && nat_lt 0 (length p.forms)

abbrev pub print_rule : Printed → Result Stated CheckKind
print_rule p = if are_printed p then Ok (record { form = roll-TypedStatement (form.Print p.forms); depth = p.depth }) else Err Mismatch

-- what is printed, from the left, and then the rule
abbrev pub print_stated : ScopeForm → Defined → Print → Verdict Stated
print_stated s d print = do
  items ← printed s d print.items none_printed
  rule_at s.unit print.token (print_rule items)
