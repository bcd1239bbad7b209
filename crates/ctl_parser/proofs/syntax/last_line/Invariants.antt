use Rattle.std.proofs.Common.{◌≡◌, ◌≤◌, ◌+◌, ◌==◌, drop, count_by}
use Rattle.ctl_parser.proofs.syntax.last_line.Given as goal

-- the line feeds that are left make up all
abbrev pub invariant-each : goal.invariant-each
invariant-each l = record {
  counted : l.line + count_by (λ b. b == 10) (drop l.byte-index l.source) ≡ count_by (λ b. b == 10) l.source + 1;
  few : l.line ≤ l.byte-index + 1;
}
