use Rattle.std.proofs.Common.{ℕ, List, [], ◌∷◌, ap, ◌∙◌}
use Rattle.line_watch.specs.Tally.{after_line}
use Rattle.line_watch.proofs.Seen.{sum-seen}
use Rattle.line_watch.proofs.sum_watch.SumWatchSeesPixels.see.Goals as goal

pub returns-clause-numbers : goal.returns-clause-numbers
returns-clause-numbers c =
    sum-seen _ _ _ _ _ _ _ _ _ _ c.summed-self-inside.ensures c.summed-self-inside-2.ensures c.summed-self-inside-3.ensures
    ∙ ap (λ (ns : List ℕ). after_line 3 c.args._depth ns (c.args.red ∷ c.args.green ∷ c.args.blue ∷ [])) c.self.view_is
