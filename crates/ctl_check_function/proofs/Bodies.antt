-- A function behind its body.
use Rattle.std.proofs.Common.{◌≡◌, List, Option, Result, Ok, Bool, sym, subst}
use Rattle.ctl_tree.specs.declared.definition.Function.{Function as Written}
use Rattle.ctl_types.specs.declared.shape.Shape.{Shape}
use Rattle.ctl_types.specs.declared.program.Parameter.{Parameter}
use Rattle.ctl_types.specs.Definitions.{Defined}
use Rattle.ctl_scope.specs.Scope.{ScopeForm}
use Rattle.ctl_scope.specs.Changes.{after_function}
use Rattle.ctl_check_rules.specs.declared.fault.ExprFault.{ExprFault}
use Rattle.ctl_check_rules.specs.Faults.{Verdict, ◌>>=◌}
use Rattle.ctl_check_statement.specs.declared.stated.Stated.{Stated}
use Rattle.ctl_check_statement.specs.Leading.{Led, Leads}
use Rattle.ctl_check_statement.specs.Statements.{block_stated}
use Rattle.ctl_check_function.specs.declared.functions.Made.{Made}
use Rattle.ctl_check_function.specs.Functions.{function_made, function_named, function_stated}

module _ (is_entry : Bool) (f : Written) (gives : Option Shape) (parameters : List Parameter) where
  -- what is said of it behind a verdict on its body
  abbrev behind : Verdict (Led Stated) → Verdict (Led Made)
  behind verdict = do
    body ← verdict
    function_named is_entry f (after_function body.scope) (function_made f body.scope gives parameters body.made)

  -- it is what is said behind the body that the verdict gives
  pub behind_body :
      (d : Defined) (s : ScopeForm) (wanted : Option Shape) (body : Led Stated) (left : ScopeForm) (made : Made) (answer : Result Made ExprFault) (after : ScopeForm)
      → wanted ≡ gives → block_stated d wanted f.body s ≡ Ok body → left ≡ after_function body.scope → made ≡ function_made f body.scope gives parameters body.made
      → Leads answer after (function_named is_entry f left made)
      → Leads answer after (function_stated d is_entry f gives parameters s)
  behind_body d s wanted body left made answer after is_wanted e is_left is_made leads =
      subst (λ w. Leads answer after (behind (block_stated d w f.body s))) is_wanted
      (subst (λ v. Leads answer after (behind v)) (sym e)
      (subst (λ t. Leads answer after (function_named is_entry f t (function_made f body.scope gives parameters body.made))) is_left
      (subst (λ m. Leads answer after (function_named is_entry f left m)) is_made leads)))
