use Rattle.std.proofs.Common.{ℕ, ◌<◌, get_or}
use Rattle.ctl_tree.specs.Modules.{IsPrintable}
use Rattle.ctl_parser.proofs.modules.are_printable.Given as goal

-- the bytes so far are printable
abbrev pub invariant-each : goal.invariant-each
invariant-each l = (k : ℕ) → k < l.byte-index → IsPrintable (get_or l.bytes k 0)
