-- The loop of `reading::read_items`.
use Rattle.std.proofs.Common.{◌≤◌, [], length}
use Rattle.command_line.specs.CommandWords.{Spell}
use Rattle.command_line.proofs.reading.read_items.Given as goal

abbrev pub invariant-each : goal.invariant-each
invariant-each l = Spell l.kinds [] l.items.items l.words l.rest × (length l.rest ≤ length l.words)

abbrev pub decreases-each : goal.decreases-each
decreases-each l = length l.rest
