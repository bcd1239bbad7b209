use Rattle.std.proofs.Common.{◌≡◌, ◌≤◌, ◌-◌, length}
use Rattle.std.specs.Io.KnownBytes.{Consumes}
use Rattle.outside.proofs.stream.read_pieces.Given as goal

-- What was read so far is within the limit, the source has lost just that, and it has not failed.
abbrev pub invariant-reads : goal.invariant-reads
invariant-reads g l =
    (length l.bytes.items ≤ l.limit) × Consumes (g.S.Source.left l.fn.source) (g.S.Source.left l.source) l.bytes.items × (g.S.Source.failures l.source ≡ g.S.Source.failures l.fn.source)

abbrev pub decreases-reads : goal.decreases-reads
decreases-reads g l = l.limit - length l.bytes.items
