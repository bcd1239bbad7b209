-- Places as they are written in assignments.
use Rattle.std.specs.Prelude.{List, map}
use Rattle.ctl_tree.specs.declared.expression.QualifiedName.{QualifiedName}
use Rattle.ctl_tree.specs.declared.expression.Step.{Step}
use Rattle.ctl_types.specs.Definitions.{Defined}
use Rattle.ctl_scope.specs.Scope.{ScopeForm}
use Rattle.ctl_check_rules.specs.declared.checked.Checked.{Checked}
use Rattle.ctl_check_rules.specs.Faults.{Verdict, ◌>>=◌}
use Rattle.ctl_check_expr.specs.Places.{name_checked, stepped_path}
use Rattle.ctl_check_expr.specs.Checking.{checked_step}

-- a name, and the steps into what it stands for
abbrev pub place_checked : ScopeForm → Defined → QualifiedName → List Step → Verdict Checked
place_checked s d name steps = do
  root ← name_checked s d name
  stepped_path s.unit d (map (checked_step s d) steps) root
