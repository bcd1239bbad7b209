use Rattle.std.proofs.Common.{◌≡◌, ◌<◌, ◌^◌, length, All}
use Rattle.line_watch.specs.Tally.{after_line}
use Rattle.line_watch.proofs.pixels.see_line.Given as goal

abbrev pub invariant-pixels : goal.invariant-pixels
invariant-pixels g l = record {
  fit : All (λ c. c < 2 ^ l.depth) l.rest;
  kind : g.S.SeesPixels.kind_seen l.watch ≡ g.S.SeesPixels.kind_seen l.fn.watch;
  so_far : after_line (g.S.SeesPixels.kind_seen l.watch) l.depth (g.S.SeesPixels.numbers_seen l.watch) l.rest
      ≡ after_line (g.S.SeesPixels.kind_seen l.fn.watch) l.depth (g.S.SeesPixels.numbers_seen l.fn.watch) l.fn.line;
}

abbrev pub decreases-pixels : goal.decreases-pixels
decreases-pixels g l = length l.rest
