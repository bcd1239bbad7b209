use Rattle.std.proofs.Common.{◌≡◌, drop, map}
use Rattle.line_watch.specs.Tally.{after_lines}
use Rattle.line_watch.proofs.lines.show_lines.Given as goal

abbrev pub invariant-lines : goal.invariant-lines
invariant-lines g l = record {
  kind : g.W.Watcher.kind_of l.watcher ≡ g.W.Watcher.kind_of l.fn.watcher;
  so_far : after_lines (g.W.Watcher.kind_of l.watcher) l.depth (g.W.Watcher.tally l.watcher) (map (λ v. v.items) (drop l.line-index l.lines))
      ≡ after_lines (g.W.Watcher.kind_of l.fn.watcher) l.depth (g.W.Watcher.tally l.fn.watcher) (map (λ v. v.items) l.lines);
}
