use Rattle.std.proofs.Common.{◌≡◌, drop}
use Rattle.std.specs.Prelude.{count_by, ◌==◌}
use Rattle.ctl_check.proofs.entry.is_unqualified.Given as goal

abbrev pub invariant-loop-byte : goal.invariant-loop-byte
invariant-loop-byte l = count_by (λ byte. byte == 58) (drop l.byte-index l.name) ≡ count_by (λ byte. byte == 58) l.name
