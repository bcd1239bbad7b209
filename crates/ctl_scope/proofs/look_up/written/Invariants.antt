use Rattle.std.proofs.Common.{◌≡◌, ◌++◌, drop}
use Rattle.ctl_scope.specs.Scope.{behind}
use Rattle.ctl_scope.proofs.look_up.written.Given as goal

abbrev pub invariant-loop-space : goal.invariant-loop-space
invariant-loop-space l = l.text.items ++ behind (drop l.space-index l.space-items) l.name.name ≡ behind l.name.spaces l.name.name
