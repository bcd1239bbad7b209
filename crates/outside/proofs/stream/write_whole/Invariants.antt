use Rattle.std.proofs.Common.{◌≡◌, ◌≤◌, ◌-◌, length, take}
use Rattle.std.specs.Io.KnownBytes.{Appends}
use Rattle.outside.proofs.stream.write_whole.Given as goal

-- The bytes that are done were written, and nothing else, and the sink has not failed.
abbrev pub invariant-writes : goal.invariant-writes
invariant-writes g l =
    (l.done ≤ length l.bytes) × Appends (g.S.Sink.written l.fn.sink) (g.S.Sink.written l.sink) (take l.done l.bytes) × (g.S.Sink.failures l.sink ≡ g.S.Sink.failures l.fn.sink)

abbrev pub decreases-writes : goal.decreases-writes
decreases-writes g l = length l.bytes - l.done
