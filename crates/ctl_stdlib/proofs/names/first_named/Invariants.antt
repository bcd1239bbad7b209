-- The loop of `names::first_named`.
use Rattle.std.proofs.Common.{◌≡◌, ℕ, ◌<◌, get_or}
use Rattle.ctl_stdlib.specs.declared.row.LibraryId.TheVariants.{Exp}
use Rattle.ctl_stdlib.specs.Rows.{row}
use Rattle.ctl_stdlib.proofs.names.first_named.Given as goal

-- no function before has the name
abbrev pub invariant-each : goal.invariant-each
invariant-each l = (k : ℕ) → k < l.i → (row (get_or l.functions k Exp)).name ≡ l.name → ⊥
